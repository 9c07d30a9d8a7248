-- Laws of a layout's frame: the names by kind, a box's row, and the rows of all boxes. Assumes nothing.
use mathlib.Core.Path.{◌≡◌, refl, sym, ap, ◌∙◌, subst}
use mathlib.Core.Bool.{Bool}
use mathlib.Core.List.{List, ◌++◌}
use mathlib.Core.Logic.{◌⊎◌, inl, inr, ⊎_elim, ◌≢◌}
use mathlib.Core.Option.{none}
use Prim.Native.Nat.{ℕ, ◌+◌, ◌-◌, ◌*◌, ◌≤◌, ◌<◌, zero-le}
use native.Mathlib.Nat.{le_refl}
use native.Mathlib.Omega.{arith}
use native.Mathlib.Decide.{ℕ_discrete}
use borrow.Author.Rules.{rules}
use lib.Dec.{T, eqb}
use lib.ListN.{length, get_or, get_or-append, set, length-set}
use lib.Seq.{get_or-set_same, get_or-set_other}
use Rattle.definitions.specs.Bounded.{◌and◌, ◌or◌, ◌is◌, ◌below◌}
use Rattle.definitions.specs.Sets.{has}
use Rattle.definitions.specs.Words.{block_of, count_of, data_word}
use Rattle.definitions.specs.Model.{kind_of_name}
use Rattle.definitions.specs.Image.{name_count, boxes_of, kinds_of, line_blocks, sites_block, lines_of}
use Rattle.definitions.specs.ReadModel.{blocks_fault}
use Rattle.definitions.proofs.Bounded.{and_iff, or_iff, is_iff, below_iff, false_of, same_test}
use Rattle.definitions.proofs.Sets.{has-none}
use Rattle.definitions.proofs.Image.{model_kind}
use Rattle.definitions.proofs.ReadModel.{Blocks, blocks_iff, some_block, most_blocks, sites-first, sites-next, lines_most}
use Rattle.records.specs.declared.Kinds.{Kinds}
use Rattle.layouts.specs.declared.BoxPlace.{BoxPlace}
use Rattle.records.specs.NameSets.{SetOf, insert_if}
use Rattle.layouts.specs.Layouts.{is_below, kind_in, line_total, KindInserted, KindSetsOf, BoxPlaceOf}
use Rattle.layouts.specs.LayoutOf.{nowhere, FrameOf, OfKind}

-- ---- the names by kind

more_kind : (block : List ℕ) (k n w m : ℕ) → w ≡ data_word block (2 + n)
    → ((m below n and data_word block (2 + m) is k) or (w is k and n is m)) ≡ (m below (n + 1) and data_word block (2 + m) is k)
more_kind block k n w m e = same_test (before or now) (m below (n + 1) and data_word block (2 + m) is k)
    (λ t. ⊎_elim
    (λ u. let q = (and_iff (m below n) (data_word block (2 + m) is k)).0 u in
    let l = (below_iff m n).0 q.0 in
    (and_iff (m below (n + 1)) (data_word block (2 + m) is k)).1 ((below_iff m (n + 1)).1 (omega arith), q.1))
    (λ u. let q = (and_iff (w is k) (n is m)).0 u in
    let z = (is_iff n m).0 q.1 in
    (and_iff (m below (n + 1)) (data_word block (2 + m) is k)).1
    ((below_iff m (n + 1)).1 (omega arith), (is_iff (data_word block (2 + m)) k).1 (ap (λ (i : ℕ). data_word block (2 + i)) (sym z) ∙ sym e ∙ (is_iff w k).0 q.0)))
    ((or_iff before now).0 t))
    (λ t. let q = (and_iff (m below (n + 1)) (data_word block (2 + m) is k)).0 t in
    (or_iff before now).1 (pick ((below_iff m (n + 1)).0 q.0) q.1 (ℕ_discrete n m)))
  where
    before : Bool
    before = m below n and data_word block (2 + m) is k

    now : Bool
    now = w is k and n is m

    pick : m < n + 1 → T (data_word block (2 + m) is k) → Dec (n ≡ m) → T before ⊎ T now
    pick l t (yes z) =
        inr ((and_iff (w is k) (n is m)).1
        ((is_iff w k).1 (e ∙ ap (λ (i : ℕ). data_word block (2 + i)) z ∙ (is_iff (data_word block (2 + m)) k).0 t), (is_iff n m).1 z))
    pick l t (no z) = inl ((and_iff (m below n) (data_word block (2 + m) is k)).1 ((below_iff m n).1 (omega arith), t))

one_kind : (block : List ℕ) (k n s r w : ℕ) → SetOf s (kind_in block k n) → w ≡ data_word block (2 + n) → SetOf r (insert_if s (eqb w k) n) → SetOf r (kind_in block k (n + 1))
unfolding kind_in insert_if ◌is◌
one_kind block k n s r w p e f = record {
  at = λ m l. f.at m l ∙ ap (λ (t : Bool). t or (eqb w k and eqb n m)) (p.at m l) ∙ more_kind block k n w m e;
}

one-listed : (n s r : ℕ) → SetOf s (is_below n) → ((m : ℕ) → m < 64 → has r m ≡ (has s m or n is m)) → SetOf r (is_below (n + 1))
unfolding is_below
one-listed n s r p f = record { at = λ m l. f m l ∙ ap (λ (t : Bool). t or n is m) (p.at m l) ∙ more m }
  where
    more : (m : ℕ) → (m below n or n is m) ≡ (m below (n + 1))
    more m = same_test (m below n or n is m) (m below (n + 1))
        (λ t. (below_iff m (n + 1)).1
        (⊎_elim (λ u. let l = (below_iff m n).0 u in omega arith) (λ u. let z = (is_iff n m).0 u in omega arith) ((or_iff (m below n) (n is m)).0 t)))
        (λ t. let l = (below_iff m (n + 1)).0 t in
        (or_iff (m below n) (n is m)).1 (pick l (ℕ_discrete n m)))
      where
        pick : m < n + 1 → Dec (n ≡ m) → T (m below n) ⊎ T (n is m)
        pick l (yes z) = inr ((is_iff n m).1 z)
        pick l (no z) = inl ((below_iff m n).1 (omega arith))

no_kind : (block : List ℕ) (k : ℕ) → SetOf 0 (kind_in block k 0)
unfolding kind_in
no_kind block k = record {
  at = λ m l. has-none m
      ∙ sym (false_of (m below 0 and data_word block (2 + m) is k) (λ t. let h = (below_iff m 0).0 ((and_iff (m below 0) (data_word block (2 + m) is k)).0 t).0 in omega arith));
}

no_listed : SetOf 0 (is_below 0)
unfolding is_below
no_listed = record { at = λ m l. has-none m ∙ sym (false_of (m below 0) (λ t. let h = (below_iff m 0).0 t in omega arith)) }

module _ (block : List ℕ) where
  pub kinds_none : KindSetsOf block 0 (record { listed = 0; free = 0; restricted = 0; received = 0; exposed = 0 })
  kinds_none = record {
    listed = no_listed;
    free = no_kind block 0;
    restricted = no_kind block 1;
    received = no_kind block 2;
    exposed = no_kind block 3;
  }

  pub kinds_insert : (n w : ℕ) (s r : Kinds) → KindSetsOf block n s → w ≡ data_word block (2 + n) → KindInserted s n w r → KindSetsOf block (n + 1) r
  kinds_insert n w s r p e f = record {
    listed = one-listed n s.listed r.listed p.listed f.listed;
    free = one_kind block 0 n s.free r.free w p.free e f.free;
    restricted = one_kind block 1 n s.restricted r.restricted w p.restricted e f.restricted;
    received = one_kind block 2 n s.received r.received w p.received e f.received;
    exposed = one_kind block 3 n s.exposed r.exposed w p.exposed e f.exposed;
  }

-- ---- a box's row

module _ (image : List ℕ) (k n : ℕ) (e : n ≡ line_blocks 4 image (k + 1)) where
  pub some_lines : 1 ≤ n
  some_lines = let h = some_block 3 image (k + 1) in omega arith

  pub few_blocks : n ≤ 4
  few_blocks = let h = most_blocks 4 image (k + 1) in omega arith

  pub total_is : (c : ℕ) → c ≡ count_of (block_of image (k + n)) → 31 * (n - 1) + c ≡ line_total image k
  unfolding line_total
  total_is c q =
      ap (λ (i : ℕ). 31 * (n - 1) + i) q ∙ ap (λ (m : ℕ). 31 * (m - 1) + count_of (block_of image (k + m))) e

-- ---- the head

module _ (image : List ℕ) (f : blocks_fault image ≡ none) where
  pub right : Blocks image
  right = (blocks_iff image).0 f

  pub head_inside : 512 * (0 + 1) ≤ length image
  head_inside = right.head.headed.there

  pub head_long : 512 ≤ length image
  head_long = right.head.headed.there

  pub names_few : (w : ℕ) → w ≡ data_word (block_of image 0) 0 → w ≤ 60
  unfolding name_count
  names_few w e = let h = right.head.names in omega arith

  pub boxes_few : (w : ℕ) → w ≡ data_word (block_of image 0) 1 → w ≤ 8
  unfolding boxes_of
  boxes_few w e = let h = right.head.boxes in omega arith

-- ---- the boxes

-- an entry written: what holds of its value, and of each other entry, holds of each
module _ {A : Type 0} (d : A) (P : ℕ → A → Type 0) where
  pub set_one : (xs : List A) (b : ℕ) (v : A) → b < length xs → P b v → (c : ℕ) → (b ≢ c → P c (get_or xs c d)) → P c (get_or (set xs b v) c d)
  set_one xs b v l p c f = pick (ℕ_discrete b c)
    where
      pick : Dec (b ≡ c) → P c (get_or (set xs b v) c d)
      pick (yes z) = subst (λ (i : ℕ). P i (get_or (set xs b v) i d)) z (subst (P b) (sym (get_or-set_same xs b v d l)) p)
      pick (no z) = subst (P c) (sym (get_or-set_other xs b c v d (λ q. z (sym q)))) (f z)

  -- so of those up to it
  pub set_entry : (xs : List A) (b : ℕ) (v : A) → b < length xs → ((c : ℕ) → c < b → P c (get_or xs c d)) → P b v → (c : ℕ) → c < b + 1 → P c (get_or (set xs b v) c d)
  set_entry xs b v l f p c h = set_one xs b v l p c (λ z. f c (omega arith))

-- the places of the boxes before b
pub record FrameSoFar (image : List ℕ) (boxes b k : ℕ) (each : List BoxPlace) : Type 0 where
  pub all : boxes ≡ boxes_of image
  pub few : boxes ≤ 8
  pub upto : b ≤ boxes
  pub here : k ≡ sites_block image b
  pub small : k ≤ 1 + 5 * b
  pub long : length each ≡ boxes
  pub placed : (c : ℕ) → c < b → BoxPlaceOf image (sites_block image c) (get_or each c nowhere)

pub frame_start : (image : List ℕ) (w : ℕ) (each : List BoxPlace) → blocks_fault image ≡ none → w ≡ data_word (block_of image 0) 1
    → length each ≡ w → FrameSoFar image w 0 1 each
unfolding boxes_of
frame_start image w each f e h = record {
  all = e;
  few = (let h = (right image f).head.boxes in omega arith);
  upto = zero-le;
  here = sites-first image;
  small = le_refl 1;
  long = h;
  placed = λ c l. absurd (omega arith);
}

total_lines : (image : List ℕ) (b : ℕ) → line_total image (sites_block image b) ≡ lines_of image b
unfolding line_total lines_of
total_lines image b = refl

module _ (image : List ℕ) (boxes b k : ℕ) (each : List BoxPlace) (p : FrameSoFar image boxes b k each) where
  pub box_small : b < boxes → k ≤ 99
  box_small l = let h = p.small in let q = p.few in omega arith

  pub total_few : blocks_fault image ≡ none → b < boxes → line_total image k ≤ 124
  total_few f l =
      let e : line_total image k ≡ lines_of image b = ap (line_total image) p.here ∙ total_lines image b in
      omega (arith, e, p.all, lines_most image (right image f) b (omega (arith, p.all)))

  pub sites_few : blocks_fault image ≡ none → b < boxes → count_of (block_of image k) ≤ 16
  sites_few f l = subst (λ (i : ℕ). count_of (block_of image i) ≤ 16) (sym p.here) (((right image f).box b (omega (arith, p.all))).sites.most)

  pub frame_more : (r : BoxPlace) (n : ℕ) → b < boxes → BoxPlaceOf image k r → n ≡ line_blocks 4 image (k + 1)
      → FrameSoFar image boxes (b + 1) (k + (1 + n)) (set each b r)
  frame_more r n l t e = record {
    all = p.all;
    few = p.few;
    upto = omega arith;
    here = (let z : k + (1 + n) ≡ k + 1 + n = omega arith in z) ∙ sites-next image b k n p.here e;
    small = omega (arith, most_blocks 4 image (k + 1), p.small, e);
    long = length-set each b r ∙ p.long;
    placed = set_entry nowhere (λ c v. BoxPlaceOf image (sites_block image c) v) each b r (omega (arith, p.long, p.few)) p.placed
        (subst (λ (i : ℕ). BoxPlaceOf image i r) p.here t);
  }

-- ---- the whole

of_kind : (image : List ℕ) (names k s : ℕ) → names ≡ data_word (block_of image 0) 0 → SetOf s (kind_in (block_of image 0) k names) → OfKind image k s
unfolding kind_in name_count
of_kind image names k s e p n l =
    p.at n l ∙ ap (λ (m : ℕ). n below m and data_word (block_of image 0) (2 + n) is k) e
    ∙ same_test (n below name_count image and data_word (block_of image 0) (2 + n) is k) (n below name_count image and kind_of_name (kinds_of image) n is k)
    (λ t. let q = (and_iff (n below name_count image) (data_word (block_of image 0) (2 + n) is k)).0 t in
    (and_iff (n below name_count image) (kind_of_name (kinds_of image) n is k)).1
    (q.0, subst (λ (v : ℕ). T (v is k)) (sym (model_kind image n ((below_iff n (name_count image)).0 q.0))) q.1))
    (λ t. let q = (and_iff (n below name_count image) (kind_of_name (kinds_of image) n is k)).0 t in
    (and_iff (n below name_count image) (data_word (block_of image 0) (2 + n) is k)).1
    (q.0, subst (λ (v : ℕ). T (v is k)) (model_kind image n ((below_iff n (name_count image)).0 q.0)) q.1))

-- what is read of the head's block is read of the image's block 0
pub word_of_head : (image head : List ℕ) (i w : ℕ) → head ≡ block_of image 0 → w ≡ data_word head i → w ≡ data_word (block_of image 0) i
word_of_head image head i w e h = h ∙ ap (λ (x : List ℕ). data_word x i) e

pub kinds_of_head : (image head : List ℕ) (n : ℕ) (s : Kinds) → head ≡ block_of image 0 → KindSetsOf head n s → KindSetsOf (block_of image 0) n s
kinds_of_head image head n s e h = subst (λ (x : List ℕ). KindSetsOf x n s) e h

pub frame_end : (image : List ℕ) (names boxes b k : ℕ) (each rest : List BoxPlace) (s : Kinds) → FrameSoFar image boxes b k each → boxes ≤ b
    → names ≡ data_word (block_of image 0) 0 → KindSetsOf (block_of image 0) names s
    → FrameOf image (record { names = names; boxes = boxes; each = each ++ rest; kinds = s })
unfolding is_below name_count
frame_end image names boxes b k each rest s p l e t =
    let placed : (c : ℕ) → c < boxes_of image → BoxPlaceOf image (sites_block image c) (get_or (each ++ rest) c nowhere) =
    λ c h. subst (BoxPlaceOf image (sites_block image c)) (sym (get_or-append each rest nowhere c (omega (arith, p.long, p.all)))) (p.placed c (omega (arith, p.all))) in
    record {
      names = e;
      boxes = p.all;
      at = λ c h. (placed c h).at;
      sites = λ c h. (placed c h).sites;
      lines = λ c h. (placed c h).lines ∙ total_lines image c;
      listed = λ n h. t.listed.at n h ∙ ap (λ (m : ℕ). n below m) e;
      free = of_kind image names 0 s.free e t.free;
      restricted = of_kind image names 1 s.restricted e t.restricted;
      received = of_kind image names 2 s.received e t.received;
      exposed = of_kind image names 3 s.exposed e t.exposed;
    }

pub ruleset layouts = (
  rules,
  kinds_none,
  kinds_insert,
  some_lines,
  few_blocks,
  total_is,
  head_inside,
  head_long,
  names_few,
  boxes_few,
  frame_start,
  box_small,
  total_few,
  sites_few,
  frame_more,
  frame_end,
)
