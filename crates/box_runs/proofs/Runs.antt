-- Laws of the runs over the records of one box: sets gathered, and the first record that does not fit. Assumes nothing.
use mathlib.Core.Path.{◌≡◌, refl, sym, ap, ap₂, ◌∙◌}
use mathlib.Core.Bool.{Bool, false, not}
use mathlib.Core.List.{List}
use mathlib.Core.Option.{Option, none, some}
use Prim.Native.Nat.{ℕ, ◌+◌, ◌*◌, ◌≤◌, ◌<◌}
use native.Mathlib.Nat.{le_refl}
use native.Mathlib.Numerals.{add-one}
use native.Mathlib.Omega.{arith}
use borrow.Author.Rules.{rules}
use lib.ListN.{length}
use Rattle.definitions.specs.Bounded.{◌or◌, ◌is◌, any_below, some_if}
use Rattle.definitions.specs.Sets.{has}
use Rattle.definitions.specs.Words.{block_of}
use Rattle.definitions.specs.Answer.{Refusal, refusal}
use Rattle.definitions.specs.Model.{Site, Line, Box, site_at, line_at, box_at, site_count, line_count, is_free, has_child, binds}
use Rattle.definitions.specs.Image.{site_record, model_of}
use Rattle.definitions.specs.ReadModel.{used_before, site_fits, line_fits, child_fits, tree_fits}
use Rattle.definitions.proofs.Bounded.{any_cong}
use Rattle.definitions.proofs.Loops.{Passed, passed_start, passed-turn, passed_stop, passed_end}
use Rattle.definitions.proofs.Sets.{has-none, or_assoc}
use Rattle.record_rules.specs.declared.line_sets.LineSet.{LineSet}
use Rattle.records.specs.NameSets.{SetOf}
use Rattle.record_rules.specs.Rules.{KindsIn, tree_ok, DecidesSite, DecidesLine, DecidesTree}
use Rattle.records.specs.Places.{LinesAt, SitesAt, line_record_at}
use Rattle.box_runs.specs.Runs.{box_misfit, line_fit, tree_fit, subject_in, bound_in, child_in}
use Rattle.record_rules.specs.LineSets.{insert_children, LineSetOf}
use Rattle.records.proofs.PlaceLaws.{line-there, lines_of_box, line-at, line-count, site-at}

-- ---- one more

pub any_more : (n : ℕ) (p : ℕ → Bool) → any_below (n + 1) p ≡ (any_below n p or p n)
unfolding any_below
any_more n p = ap (λ (m : ℕ). any_below m p) (add-one n)

pub any_zero : (p : ℕ → Bool) → any_below 0 p ≡ false
unfolding any_below
any_zero p = refl

-- ---- sets gathered

module _ (block : List ℕ) where
  pub subject-start : SetOf 0 (subject_in block 0)
  unfolding subject_in
  subject-start = record { at = λ m l. has-none m ∙ sym (any_zero (λ j. (site_record block j).subject is m)) }

  pub subject-turn : (i s r : ℕ) (x : Site) → SetOf s (subject_in block i) → x ≡ site_record block i
      → ((m : ℕ) → m < 64 → has r m ≡ (has s m or x.subject is m)) → SetOf r (subject_in block (i + 1))
  unfolding subject_in
  subject-turn i s r x p e f = record {
    at = λ m l. f m l ∙ ap₂ (λ (t : Bool) (y : Site). t or y.subject is m) (p.at m l) e ∙ sym (any_more i (λ j. (site_record block j).subject is m));
  }

module _ (image : List ℕ) (k : ℕ) where
  pub bound-start : SetOf 0 (bound_in image k 0)
  unfolding bound_in
  bound-start = record { at = λ m l. has-none m ∙ sym (any_zero (λ i. binds (line_record_at image k i) m)) }

  pub bound-turn : (i s r bs : ℕ) (x : Line) → SetOf s (bound_in image k i) → x ≡ line_record_at image k i → SetOf bs (binds x)
      → ((m : ℕ) → has r m ≡ (has s m or has bs m)) → SetOf r (bound_in image k (i + 1))
  unfolding bound_in
  bound-turn i s r bs x p e g f = record {
    at = λ m l. f m ∙ ap₂ ◌or◌ (p.at m l) (g.at m l ∙ ap (λ (y : Line). binds y m) e) ∙ sym (any_more i (λ i. binds (line_record_at image k i) m));
  }

  pub child_start : LineSetOf (record { 0 = 0 }) (child_in image k 0)
  unfolding child_in
  child_start = record { at = λ c l. has-none c ∙ sym (any_zero (λ i. has_child (line_record_at image k i) c)) }

  pub child_turn : (i : ℕ) (s r : LineSet) (x : Line) → LineSetOf s (child_in image k i) → x ≡ line_record_at image k i → LineSetOf r (insert_children s.0 x)
      → LineSetOf r (child_in image k (i + 1))
  unfolding child_in insert_children
  child_turn i s r x p e f = record {
    at = λ c l. f.at c l ∙ ap₂ (λ (t : Bool) (y : Line). t or has_child y c) (p.at c l) e ∙ sym (any_more i (λ i. has_child (line_record_at image k i) c));
  }

-- ---- the first record that does not fit

-- the fault of record i of box b, where it does not fit
abbrev misfit : ℕ → (ℕ → ℕ → Bool) → ℕ → ℕ → Option Refusal
misfit number fits b i = some_if (not (fits b i)) (refusal number b i)

pub record RecordsFit (number n : ℕ) (fits : ℕ → ℕ → Bool) (b i : ℕ) : Type 0 where
  pub passed : Passed n (misfit number fits b) i

module _ (number n : ℕ) (fits : ℕ → ℕ → Bool) (b : ℕ) where
  pub records_start : RecordsFit number n fits b 0
  records_start = record { passed = passed_start n (misfit number fits b) }

  module _ (i : ℕ) (t : Bool) (p : RecordsFit number n fits b i) (l : i < n) (e : t ≡ fits b i) where
    found : some_if (not t) (refusal number b i) ≡ misfit number fits b i
    found = ap (λ (x : Bool). some_if (not x) (refusal number b i)) e

    pub records_turn : none ≡ some_if (not t) (refusal number b i) → RecordsFit number n fits b (i + 1)
    records_turn q = record { passed = passed-turn n (misfit number fits b) i p.passed l (q ∙ found) }

    pub records_stop : (r : Refusal) → some r ≡ some_if (not t) (refusal number b i) → some r ≡ box_misfit number n fits b
    unfolding box_misfit
    records_stop r q = passed_stop n (misfit number fits b) i r p.passed l (q ∙ found)

  pub records_end : (i : ℕ) → RecordsFit number n fits b i → n ≤ i → none ≡ box_misfit number n fits b
  unfolding box_misfit
  records_end i p l = passed_end n (misfit number fits b) i p.passed l

-- ---- 6: the sites of a box, and the subjects used before

pub record SiteRun (image : List ℕ) (b n i used : ℕ) : Type 0 where
  pub records_fit : RecordsFit 6 n (site_fits (model_of image)) b i
  pub used_up : SetOf used (used_before (model_of image) b i)

pub site-start : (image : List ℕ) (b n used : ℕ) → SetOf used (used_before (model_of image) b 0) → SiteRun image b n 0 used
site-start image b n used s = record { records_fit = records_start 6 n (site_fits (model_of image)) b; used_up = s }

module _ (image block : List ℕ) (b k n i : ℕ) (s : Site) (free used : ℕ) (t : Bool) (p : SiteRun image b n i used) (h : SitesAt image b k n) (l : i < n)
    (g : block ≡ block_of image k) (f : s ≡ site_record block i) (few : length (model_of image).kinds ≤ 60) (frees : SetOf free (is_free (model_of image).kinds)) (decided : DecidesSite s free used t) where
  read : s ≡ site_at (box_at (model_of image) b) i
  read = f ∙ ap (λ (x : List ℕ). site_record x i) g ∙ site-at image b k n h i l

  judged : t ≡ site_fits (model_of image) b i
  judged = decided.decides (model_of image) b i few frees p.used_up read

  pub site-turn : (r : ℕ) → none ≡ some_if (not t) (refusal 6 b i) → ((m : ℕ) → m < 64 → has r m ≡ (has used m or s.subject is m)) → SiteRun image b n (i + 1) r
  unfolding used_before
  site-turn r q w = record {
    records_fit = records_turn 6 n (site_fits (model_of image)) b i t p.records_fit l judged q;
    used_up = record {
      at = λ m v.
          let before = any_below b (λ c. any_below (site_count (box_at (model_of image) c)) (λ j. (site_at (box_at (model_of image) c) j).subject is m)) in
          let here : ℕ → Bool = λ j. (site_at (box_at (model_of image) b) j).subject is m in
          w m v ∙ ap₂ (λ (x : Bool) (y : Site). x or y.subject is m) (p.used_up.at m v) read
          ∙ or_assoc before (any_below i here) (here i) ∙ ap (λ (x : Bool). before or x) (sym (any_more i here));
    };
  }

  pub site_stop : (r : Refusal) → some r ≡ some_if (not t) (refusal 6 b i) → some r ≡ box_misfit 6 n (site_fits (model_of image)) b
  site_stop r q = records_stop 6 n (site_fits (model_of image)) b i t p.records_fit l judged r q

pub site_end : (image : List ℕ) (b n i used : ℕ) → SiteRun image b n i used → n ≤ i → none ≡ box_misfit 6 n (site_fits (model_of image)) b
site_end image b n i used p l = records_end 6 n (site_fits (model_of image)) b i p.records_fit l

-- ---- 7: the lines of a box

module _ (image : List ℕ) (b k n i : ℕ) (x : Line) (a r c e : ℕ) (t : Bool) (p : RecordsFit 7 n (line_fit (model_of image)) b i) (h : LinesAt image b k n) (l : i < n)
    (q : x ≡ line_record_at image k i) (kinds : KindsIn (model_of image).kinds a r c e) (decided : DecidesLine x a r c e t) where
  line_judged : t ≡ line_fit (model_of image) b i
  line_judged = decided.decides (model_of image) kinds ∙ ap (line_fits (model_of image).kinds) (q ∙ line-at image b k n h i l)

  pub line-turn : none ≡ some_if (not t) (refusal 7 b i) → RecordsFit 7 n (line_fit (model_of image)) b (i + 1)
  line-turn z = records_turn 7 n (line_fit (model_of image)) b i t p l line_judged z

  pub line_stop : (r : Refusal) → some r ≡ some_if (not t) (refusal 7 b i) → some r ≡ box_misfit 7 n (line_fit (model_of image)) b
  line_stop r z = records_stop 7 n (line_fit (model_of image)) b i t p l line_judged r z

-- ---- 8: the tree of a box, and the children of the lines before

pub record TreeRun (image : List ℕ) (b k n i : ℕ) (seen : LineSet) : Type 0 where
  pub records_fit : RecordsFit 8 n (tree_fit (model_of image)) b i
  pub children : LineSetOf seen (child_in image k i)

pub tree-start : (image : List ℕ) (b k n : ℕ) → TreeRun image b k n 0 (record { 0 = 0 })
tree-start image b k n = record { records_fit = records_start 8 n (tree_fit (model_of image)) b; children = child_start image k }

tree_fits_lem : (x : Box) (l : Line) (i n : ℕ) → n ≡ line_count x → l ≡ line_at x i
    → tree_ok l i n (λ c. any_below i (λ j. has_child (line_at x j) c)) (λ c. any_below n (λ j. has_child (line_at x j) c)) ≡ tree_fits x i
unfolding tree_ok tree_fits child_fits
tree_fits_lem x l i n count e =
    ap₂ (λ (l : Line) (n : ℕ). tree_ok l i n (λ c. any_below i (λ j. has_child (line_at x j) c)) (λ c. any_below n (λ j. has_child (line_at x j) c))) e count

children_at : (image : List ℕ) (b k n i : ℕ) (s : LineSet) → LinesAt image b k n → i ≤ n → LineSetOf s (child_in image k i)
    → LineSetOf s (λ c. any_below i (λ j. has_child (line_at (box_at (model_of image) b) j) c))
unfolding child_in
children_at image b k n i s h l p = record {
  at = λ c q. p.at c q
      ∙ any_cong i (λ j. has_child (line_record_at image k j) c) (λ j. has_child (line_at (box_at (model_of image) b) j) c)
      (λ j z. ap (λ (y : Line). has_child y c) (line-at image b k n h j (omega arith)));
}

module _ (image : List ℕ) (b k n i : ℕ) (x : Line) (seen all : LineSet) (t : Bool) (p : TreeRun image b k n i seen) (h : LinesAt image b k n) (l : i < n)
    (q : x ≡ line_record_at image k i) (children : LineSetOf all (child_in image k n)) (decided : DecidesTree x i n seen all t) where
  tree_judged : t ≡ tree_fit (model_of image) b i
  tree_judged =
      decided.decides _ _ h.there.few l (children_at image b k n i seen h (omega arith) p.children) (children_at image b k n n all h (le_refl n) children)
      ∙ tree_fits_lem (box_at (model_of image) b) x i n (line-count image b k n h) (q ∙ line-at image b k n h i l)

  pub tree-turn : (r : LineSet) → none ≡ some_if (not t) (refusal 8 b i) → LineSetOf r (insert_children seen.0 x) → TreeRun image b k n (i + 1) r
  tree-turn r z f = record {
    records_fit = records_turn 8 n (tree_fit (model_of image)) b i t p.records_fit l tree_judged z;
    children = child_turn image k i seen r x p.children q f;
  }

  pub tree_stop : (r : Refusal) → some r ≡ some_if (not t) (refusal 8 b i) → some r ≡ box_misfit 8 n (tree_fit (model_of image)) b
  tree_stop r z = records_stop 8 n (tree_fit (model_of image)) b i t p.records_fit l tree_judged r z

pub tree_end : (image : List ℕ) (b k n i : ℕ) (s : LineSet) → TreeRun image b k n i s → n ≤ i → none ≡ box_misfit 8 n (tree_fit (model_of image)) b
tree_end image b k n i s p l = records_end 8 n (tree_fit (model_of image)) b i p.records_fit l

pub sites-room : (image : List ℕ) (b k n : ℕ) → SitesAt image b k n → 512 * (k + 1) ≤ length image
sites-room image b k n h = h.there

pub ruleset runs = (rules, line-there, lines_of_box, sites-room, subject-start, subject-turn, bound-start, bound-turn, child_start, child_turn, records_start, records_end, site-start, site-turn, site_stop, site_end, line-turn, line_stop, tree-start, tree-turn, tree_stop, tree_end)
