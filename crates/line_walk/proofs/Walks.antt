-- Laws of the walk: what holds after i lines where no wrong digit was found. Assumes nothing.
use mathlib.Core.Path.{◌≡◌, refl, sym, ap, ap₂, ◌∙◌, subst}
use mathlib.Core.Bool.{Bool, true, false, not}
use mathlib.Core.List.{List}
use mathlib.Core.Logic.{◌≢◌, inr}
use Prim.Native.Nat.{ℕ, ◌+◌, ◌-◌, ◌*◌, ◌/◌, ◌%◌, ◌^◌, ◌≤◌, ◌<◌}
use native.Mathlib.Nat.{le_antisymm}
use native.Mathlib.Omega.{arith}
use native.Mathlib.Decide.{ℕ_discrete, dec_lt}
use borrow.Author.Rules.{rules}
use lib.Dec.{T}
use lib.Bits.{bit_and, bit_or}
use lib.ListN.{length, get_or, set, replicate, length-set, get_or-replicate, get_or-append}
use Rattle.std.proofs.Common.{◌++◌, drop, length-append}
use Rattle.std.proofs.lemmas.List.{length-replicate, drop-replicate, get_or-append_right}
use lib.Seq.{get_or-set_same, get_or-set_other}
use Rattle.definitions.specs.Bounded.{◌or◌, ◌and◌, any_below, all_below}
use Rattle.definitions.specs.Sets.{has}
use Rattle.definitions.specs.Words.{word_at, block_of}
use Rattle.definitions.specs.Model.{Line, line_at, box_at, line_count, binds, binds_in}
use Rattle.definitions.specs.Image.{model_of}
use Rattle.definitions.specs.ReadModel.{bound_before, reach_fits, line_fits}
use Rattle.definitions.proofs.Faults.{not_iff}
use Rattle.definitions.proofs.Bounded.{of_true, false_of, not-false, all_iff}
use Rattle.definitions.proofs.Image.{line_of}
use Rattle.definitions.proofs.Sets.{has-none, has-or, or_assoc}
use Rattle.records.specs.NameSets.{SetOf}
use Rattle.records.specs.Places.{LinesThere, line_record_at}
use Rattle.box_runs.specs.Runs.{line_fit, tree_fit}
use Rattle.records.proofs.PlaceLaws.{lowest-word, second_word, line-at, line-count}
use Rattle.box_runs.proofs.Runs.{any_more}
use Rattle.line_table.specs.Table.{mark, op_table, row}
use Rattle.line_table.specs.LineWords.{line_word, bound}
use Rattle.line_table.specs.Told.{Empty}
use Rattle.line_walk.specs.Told.{Own, Children, Stepped, LinesGiven, LinesTold, Fresh, Next, child1_of, child2_of, handed, after}
use Rattle.line_table.proofs.Digits.{in_or, in_set, empty_or_left, empty_or_right, lacks}
use Rattle.line_table.proofs.Lines.{Shape, line_right, right_shape, uses-listed, uses_in, bound-is}
use Rattle.line_walk.proofs.Marks.{Marked, Above, marked_start, above_start, above_at, marked_turn, above_turn, tree_right}
use Rattle.line_walk.proofs.Reach.{reach_right}
use Rattle.line_table.proofs.Rows.{below16}

-- what is shown of each number below b, and of b
pub one_more : (P : ℕ → Type 0) (b : ℕ) → ((c : ℕ) → c < b → P c) → P b → (c : ℕ) → c < b + 1 → P c
one_more P b f p c l = pick (ℕ_discrete b c)
  where
    pick : Dec (b ≡ c) → P c
    pick (yes z) = subst P z p
    pick (no z) = f c (omega arith)

-- after i lines of box b
pub record SoFar (image : List ℕ) (b n i seen : ℕ) (up : List ℕ) : Type 0 where
  pub lines : (j : ℕ) → j < i → T (line_fit (model_of image) b j)
  pub trees : (j : ℕ) → j < i → T (tree_fit (model_of image) b j)
  pub reach : ((j : ℕ) → j < line_count (box_at (model_of image) b) → T (tree_fit (model_of image) b j)) → (j : ℕ) → j < i → T (reach_fits (model_of image) b j)
  pub marked : Marked (box_at (model_of image) b) i up
  pub above : ((j : ℕ) → j < line_count (box_at (model_of image) b) → T (tree_fit (model_of image) b j)) → Above (box_at (model_of image) b) i up
  pub before : SetOf seen (bound_before (model_of image) b i)

-- after i lines of any box, where no wrong digit was found
pub record Walking (image : List ℕ) (k n a r c e f start i bad seen : ℕ) (up : List ℕ) : Type 0 where
  pub long : length up ≡ 128
  pub told : Empty bad → (b : ℕ) → LinesGiven image b k n a r c e f start → SoFar image b n i seen up

-- the digits of a mark
mark_top : has mark 63 ≡ true
unfolding has
mark_top = refl

low_digits : T (all_below 63 (λ j. not (has mark j)))
unfolding all_below has ◌and◌
low_digits = tt

mark_low : (n : ℕ) → n < 63 → has mark n ≡ false
mark_low n h = false_of (has mark n) ((not_iff (has mark n)).0 ((all_iff 63 (λ j. not (has mark j))).0 low_digits n h))

-- a digit of v, where nothing that v lacks is in mark
visited : (v : ℕ) → v < 2 ^ 64 → Empty (bit_and (2 ^ 64 - 1 - v) mark) → T (has v 63)
visited v h e = in_set v 63 (omega arith) h (λ u. not-false (lacks (2 ^ 64 - 1 - v) mark e 63 (of_true mark_top)) u)

-- the tables of the children
module _ (a r c e f : ℕ) where
  child_row1 : (o : ℕ) → o < 16 → o ≤ 8 → o ≢ 0 → get_or (op_table a r c e f) (16 * 7 + o) 0 ≡ mark
  child_row1 = below16 (λ o. o ≤ 8 → o ≢ 0 → get_or (op_table a r c e f) (16 * 7 + o) 0 ≡ mark)
      (λ h z. absurd (z refl)) (λ h z. refl) (λ h z. refl) (λ h z. refl) (λ h z. refl) (λ h z. refl) (λ h z. refl) (λ h z. refl) (λ h z. refl)
      (λ h z. absurd (omega arith)) (λ h z. absurd (omega arith)) (λ h z. absurd (omega arith)) (λ h z. absurd (omega arith)) (λ h z. absurd (omega arith)) (λ h z. absurd (omega arith)) (λ h z. absurd (omega arith))

  child_row2 : (o : ℕ) → o ≡ 1 → get_or (op_table a r c e f) (16 * 8 + o) 0 ≡ mark
  child_row2 o q = subst (λ (o : ℕ). get_or (op_table a r c e f) (16 * 8 + o) 0 ≡ mark) (sym q) refl

-- no mark stood at a place
no_mark : (v z : ℕ) → Empty (bit_and v z) → z ≡ mark → has v 63 ≡ false
no_mark v z e q = lacks v mark (subst (λ (z : ℕ). Empty (bit_and v z)) q e) 63 (of_true mark_top)

module _ (image : List ℕ) (k n a r c e f start : ℕ) (fa : a < 2 ^ 64) (fr : r < 2 ^ 64) (fc : c < 2 ^ 64) (fe : e < 2 ^ 64) (ff : f < 2 ^ 64)
    (i bad seen : ℕ) (up : List ℕ) (p : Walking image k n a r c e f start i bad seen up) (l : i < n) (there : LinesThere image k n)
    (w ty : ℕ) (fw : w < 2 ^ 64) (fty : ty < 2 ^ 64) (ew : w ≡ word_at image (512 * (k + 1) + (8 + 16 * (i + i / 31))))
    (et : ty ≡ word_at image (512 * (k + 1) + (8 + 16 * (i + i / 31)) + 8)) where
  line-is : line_word w ty ≡ line_record_at image k i
  line-is = line_of (block_of image (k + 1 + i / 31)) (i % 31) w ty (lowest-word image k i w ew) (second_word image k i ty et)

  abbrev table : List ℕ
  table = op_table a r c e f

  module _ (wrong : ℕ) (new : List ℕ) (s : Stepped table a (2 ^ 64 - 1 - f) w ty i up seen wrong new) (clean : Empty wrong) (b : ℕ)
      (g : LinesGiven image b k n a r c e f start) (so : SoFar image b n i seen up) where
    own : Own table a (2 ^ 64 - 1 - f) w ty (get_or up i 0) seen
    own = s.own clean

    at-line : line_word w ty ≡ line_at (box_at (model_of image) b) i
    at-line = line-is ∙ line-at image b k n g.at i l

    inside : i < line_count (box_at (model_of image) b)
    inside = omega (arith, line-count image b k n g.at)

    few : line_count (box_at (model_of image) b) ≤ 124
    few = omega (arith, line-count image b k n g.at, there.few)

    sh : Shape w (w % 16)
    sh = right_shape a r c e f w fw (model_of image).kinds g.kinds fa fr fc fe ty fty own.line own.none own.typed

    this_line : T (line_fit (model_of image) b i)
    this_line = subst (λ (y : Line). T (line_fits (model_of image).kinds y)) at-line (line_right a r c e f w fw (model_of image).kinds g.kinds fa fr fc fe ty fty own.line own.none own.typed)

    top : T (has (get_or up i 0) 63)
    top = visited (get_or up i 0) s.word own.visit

    here_top : T (has (handed table up w i) 63)
    here_top = in_or (bound table w) (get_or up i 0) 63 (inr top)

    children : Children table w (handed table up w i) up
    children = s.children clean

    free1 : w % 256 ≢ 0 → has (get_or up (child1_of w) 0) 63 ≡ false
    unfolding row
    free1 z = no_mark (get_or up (child1_of w) 0) (get_or table (16 * 7 + w % 16) 0) children.first (child_row1 a r c e f (w % 16) (omega arith) sh.known (λ q. z (sh.op ∙ q)))

    free2 : w % 256 ≡ 1 → has (get_or (set up (child1_of w) (handed table up w i)) (child2_of w) 0) 63 ≡ false
    unfolding row
    free2 z = no_mark (get_or (set up (child1_of w) (handed table up w i)) (child2_of w) 0) (get_or table (16 * 8 + w % 16) 0) children.second (child_row2 a r c e f (w % 16) (sym sh.op ∙ z))

    this_tree : T (tree_fit (model_of image) b i)
    this_tree =
        tree_right (box_at (model_of image) b) i (handed table up w i) (child1_of w) (child2_of w) up (line_word w ty) so.marked inside few at-line (omega arith) (omega arith) sh.child1 sh.child2
        (λ z. sym sh.child1 ∙ sh.nil (sym sh.op ∙ z)) (λ z. sym sh.child2 ∙ sh.one (λ q. z (sh.op ∙ q))) here_top top free1 free2

    marked_now : Marked (box_at (model_of image) b) (i + 1) (after table up w i)
    marked_now =
        marked_turn (box_at (model_of image) b) i (handed table up w i) (child1_of w) (child2_of w) up (line_word w ty) so.marked inside few at-line (omega arith) (omega arith) sh.child1 sh.child2
        (λ z. sym sh.child1 ∙ sh.nil (sym sh.op ∙ z)) (λ z. sym sh.child2 ∙ sh.one (λ q. z (sh.op ∙ q))) here_top top free1 free2

    binder : SetOf (bound table w) (binds (line_word w ty))
    binder = bound-is a r c e f w ty fw sh

    above_now : ((j : ℕ) → j < line_count (box_at (model_of image) b) → T (tree_fit (model_of image) b j)) → Above (box_at (model_of image) b) (i + 1) (after table up w i)
    above_now fits =
        above_turn (box_at (model_of image) b) i (handed table up w i) (child1_of w) (child2_of w) up (line_word w ty) so.marked inside few at-line (omega arith) (omega arith) sh.child1 sh.child2
        (λ z. sym sh.child1 ∙ sh.nil (sym sh.op ∙ z)) (λ z. sym sh.child2 ∙ sh.one (λ q. z (sh.op ∙ q))) here_top top free1 free2
        fits (bound table w) binder (λ m. has-or (bound table w) (get_or up i 0) m) (so.above fits)

    this_reach : ((j : ℕ) → j < line_count (box_at (model_of image) b) → T (tree_fit (model_of image) b j)) → T (reach_fits (model_of image) b i)
    this_reach fits =
        reach_right (model_of image) b i (line_word w ty) at-line g.kinds.few a f
        _ (get_or up i 0) seen (bound table w) g.kinds.all g.free s.word
        (uses-listed a r c e f w fw (model_of image).kinds g.kinds fa fr fc fe ty fty own.line own.none own.typed)
        (uses_in a r c e f w ty fw sh ff)
        (above_at (box_at (model_of image) b) fits i up (so.above fits) inside) so.before binder own.reach own.once

    before_now : SetOf (bit_or seen (bound table w)) (bound_before (model_of image) b (i + 1))
    unfolding bound_before
    before_now = record {
      at = λ m h.
          let earlier = any_below b (λ c. binds_in (box_at (model_of image) c) m) in
          let one : ℕ → Bool = λ j. binds (line_at (box_at (model_of image) b) j) m in
          has-or seen (bound table w) m ∙ ap₂ ◌or◌ (so.before.at m h) (binder.at m h ∙ ap (λ (y : Line). binds y m) at-line)
          ∙ or_assoc earlier (any_below i one) (one i) ∙ ap (λ (y : Bool). earlier or y) (sym (any_more i one));
    }

    so_now : SoFar image b n (i + 1) (bit_or seen (bound table w)) (after table up w i)
    so_now = record {
      lines = one_more (λ j. T (line_fit (model_of image) b j)) i so.lines this_line;
      trees = one_more (λ j. T (tree_fit (model_of image) b j)) i so.trees this_tree;
      reach = λ fits. one_more (λ j. T (reach_fits (model_of image) b j)) i (so.reach fits) (this_reach fits);
      marked = marked_now;
      above = above_now;
      before = before_now;
    }

  pub walk_turn : (t : List ℕ) (wrong bs : ℕ) (new : List ℕ) → t ≡ op_table a r c e f → Stepped t a (2 ^ 64 - 1 - f) w ty i up seen wrong new → bs ≡ bound t w
      → Walking image k n a r c e f start (i + 1) (bit_or bad wrong) (bit_or seen bs) new
  walk_turn t wrong bs new q s y =
      let s' : Stepped table a (2 ^ 64 - 1 - f) w ty i up seen wrong new =
      subst (λ (t : List ℕ). Stepped t a (2 ^ 64 - 1 - f) w ty i up seen wrong new) q s in
      let y' : bs ≡ bound table w = y ∙ ap (λ (t : List ℕ). bound t w) q in
      record {
        long = ap length s'.put ∙ length-set (set up (child1_of w) (handed table up w i)) (child2_of w) (handed table up w i) ∙ length-set up (child1_of w) (handed table up w i) ∙ p.long;
        told = λ d b g.
            subst (λ (bs : ℕ). SoFar image b n (i + 1) (bit_or seen bs) new) (sym y')
            (subst (λ (new : List ℕ). SoFar image b n (i + 1) (bit_or seen (bound table w)) new) (sym s'.put)
            (so_now wrong new s' (empty_or_right bad wrong d) b g (p.told (empty_or_left bad wrong d) b g)));
      }

module _ (image : List ℕ) (k n a r c e f start : ℕ) where
  fresh_place : (up : List ℕ) → Fresh n up → (c : ℕ) → c < 128 → has (get_or up c 0) 63 ≡ false → (0 < c) × (c < n)
  fresh_place up h c l z = pick (ℕ_discrete c 0) (dec_lt c n)
    where
      pick : Dec (c ≡ 0) → Dec (c < n) → (0 < c) × (c < n)
      pick (yes q) d = absurd (not-false z (subst (λ (v : ℕ). T (has v 63)) (sym (ap (λ (c : ℕ). get_or up c 0) q ∙ h.root)) (of_true mark_top)))
      pick (no q) (yes d) = (omega arith, d)
      pick (no q) (no d) = absurd (not-false z (subst (λ (v : ℕ). T (has v 63)) (sym (h.rest c (omega arith) l)) (of_true mark_top)))

  pub walk_start : (up : List ℕ) → Fresh n up → LinesThere image k n → Walking image k n a r c e f start 0 0 start up
  walk_start up h there = record {
    long = h.long;
    told = λ d b g.
        let count = line-count image b k n g.at in
        record {
          lines = λ j l. absurd (omega arith);
          trees = λ j l. absurd (omega arith);
          reach = λ fits j l. absurd (omega arith);
          marked = marked_start (box_at (model_of image) b) up h.long
              (λ c l z. let q = fresh_place up h c l z in (q.0, omega (arith, q.1, count)))
              (λ c l z. ap (λ (v : ℕ). has v 63) (h.lines c (omega arith) (omega (arith, count))) ∙ has-none 63);
          above = λ fits. above_start (box_at (model_of image) b) up (λ m l. ap (λ (v : ℕ). has v m) h.root ∙ mark_low m l);
          before = g.before;
        };
  }

  pub walk_end : (i bad seen : ℕ) (up : List ℕ) → Walking image k n a r c e f start i bad seen up → i ≤ n → n ≤ i → LinesTold image k n a r c e f start bad seen
  walk_end i bad seen up p g l = record {
    tells = λ z b given.
        let so = p.told z b given in
        let count = line-count image b k n given.at in
        let fits : (j : ℕ) → j < line_count (box_at (model_of image) b) → T (tree_fit (model_of image) b j) = λ j h. so.trees j (omega (arith, count)) in
        record {
          lines = λ j h. so.lines j (omega arith);
          trees = λ j h. so.trees j (omega arith);
          reach = λ j h. so.reach fits j (omega arith);
          before = subst (λ (m : ℕ). SetOf seen (bound_before (model_of image) b m)) (le_antisymm g l) so.before;
        };
  }

-- ---- places without marks

-- n places are clear, and the rest of 128 have their marks
abbrev cleared : ℕ → List ℕ
cleared n = replicate n 0 ++ replicate (128 - n) mark

module _ (n : ℕ) (few : n ≤ 124) where
  cleared_low : (c : ℕ) → c < n → get_or (cleared n) c 0 ≡ 0
  cleared_low c l = get_or-append (replicate n 0) (replicate (128 - n) mark) 0 c (omega (arith, length-replicate {A = ℕ} n 0)) ∙ get_or-replicate n c 0 0 l

  cleared_high : (c : ℕ) → n ≤ c → c < 128 → get_or (cleared n) c 0 ≡ mark
  cleared_high c g l =
      get_or-append_right (replicate n 0) (replicate (128 - n) mark) n c 0 (length-replicate {A = ℕ} n 0) g ∙ get_or-replicate (128 - n) (c - n) mark 0 (omega arith)

  cleared_long : length (cleared n) ≡ 128
  cleared_long = simp (length-append, length-replicate) (omega arith)

  cleared_fresh : Fresh n (set (cleared n) 0 mark)
  cleared_fresh = record {
    long = length-set (cleared n) 0 mark ∙ cleared_long;
    root = get_or-set_same (cleared n) 0 mark 0 (omega (arith, cleared_long));
    lines = λ c g h. get_or-set_other (cleared n) 0 c mark 0 (λ z. absurd (omega arith)) ∙ cleared_low c h;
    rest = λ c g h. pick c g h (ℕ_discrete 0 c);
  }
    where
      pick : (c : ℕ) → n ≤ c → c < 128 → Dec (0 ≡ c) → get_or (set (cleared n) 0 mark) c 0 ≡ mark
      pick c g h (yes z) = subst (λ (c : ℕ). get_or (set (cleared n) 0 mark) c 0 ≡ mark) z (get_or-set_same (cleared n) 0 mark 0 (omega (arith, cleared_long)))
      pick c g h (no z) = get_or-set_other (cleared n) 0 c mark 0 (λ q. z (sym q)) ∙ cleared_high c g h

  pub unmarked : (up part : List ℕ) → up ≡ replicate 128 mark → part ≡ replicate n 0 → Fresh n (set (part ++ drop n up) 0 mark)
  unmarked up part e q =
      let same : part ++ drop n up ≡ cleared n = ap₂ ◌++◌ q (ap (drop n) e ∙ drop-replicate n 128 mark) in
      subst (λ (xs : List ℕ). Fresh n (set xs 0 mark)) (sym same) cleared_fresh

-- ---- places

-- where line i stands
pub record At (k i at left : ℕ) : Type 0 where
  pub at-is : at ≡ 512 * (k + 1) + (8 + 16 * (i + i / 31))
  pub left_is : left ≡ 31 - i % 31

pub at-start : (k : ℕ) → At k 0 (512 * (k + 1) + 8) 31
at-start k = record { at-is = omega arith; left_is = refl }

pub at_next : (k i at left at' left' : ℕ) → At k i at left → Next at left at' left' → At k (i + 1) at' left'
at_next k i at left at' left' p q = pick (ℕ_discrete left 1)
  where
    pick : Dec (left ≡ 1) → At k (i + 1) at' left'
    pick (yes e) = let z = q.other e in record { at-is = omega (arith, z.0, p.at-is, p.left_is, e); left_is = omega (arith, z.1, p.left_is, e) }
    pick (no e) = let z = q.same e in record { at-is = omega (arith, z.0, p.at-is, p.left_is, e); left_is = omega (arith, z.1, p.left_is, e) }

pub at_room : (image : List ℕ) (k n i at left : ℕ) → At k i at left → LinesThere image k n → i < n → at + 8 ≤ length image
at_room image k n i at left p h l = omega (arith, p.at-is, h.there i l)

pub at-room_2 : (image : List ℕ) (k n i at left : ℕ) → At k i at left → LinesThere image k n → i < n → at + 8 + 8 ≤ length image
at-room_2 image k n i at left p h l = omega (arith, p.at-is, h.there i l)

pub word_first : (image : List ℕ) (k i at left w : ℕ) → At k i at left → w ≡ word_at image at → w ≡ word_at image (512 * (k + 1) + (8 + 16 * (i + i / 31)))
word_first image k i at left w p e = e ∙ ap (word_at image) p.at-is

pub word-second : (image : List ℕ) (k i at left w : ℕ) → At k i at left → w ≡ word_at image (at + 8) → w ≡ word_at image (512 * (k + 1) + (8 + 16 * (i + i / 31)) + 8)
word-second image k i at left w p e = e ∙ ap (λ (a : ℕ). word_at image (a + 8)) p.at-is

pub walk_next : (image : List ℕ) (k n a r c e f start : ℕ) → a < 2 ^ 64 → r < 2 ^ 64 → c < 2 ^ 64 → e < 2 ^ 64 → f < 2 ^ 64 → (i bad seen : ℕ) (up : List ℕ)
    → Walking image k n a r c e f start i bad seen up → i < n → LinesThere image k n → (at left : ℕ) → At k i at left
    → (w ty : ℕ) → w ≡ word_at image at → ty ≡ word_at image (at + 8)
    → (t : List ℕ) (wrong bs : ℕ) (new : List ℕ) → t ≡ op_table a r c e f → Stepped t a (2 ^ 64 - 1 - f) w ty i up seen wrong new → bs ≡ bound t w
    → Walking image k n a r c e f start (i + 1) (bit_or bad wrong) (bit_or seen bs) new
walk_next image k n a r c e f start fa fr fc fe ff i bad seen up p l there at left q w ty ew et t wrong bs new z s y =
    walk_turn image k n a r c e f start fa fr fc fe ff i bad seen up p l there w ty s.first s.second (word_first image k i at left w q ew) (word-second image k i at left ty q et) t wrong bs new z s y

pub ruleset walks = (rules, at-start, at_next, at_room, at-room_2, walk_start, walk_next, walk_end)
