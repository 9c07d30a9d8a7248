-- Laws of refusals 1 to 5 of one block: each fault is what its tests find, in their order. Assumes nothing.
use mathlib.Core.Path.{◌≡◌, refl, sym, ap, ap₂, ◌∙◌}
use mathlib.Core.Bool.{Bool, true, false, not, ◌||◌}
use mathlib.Core.List.{List}
use mathlib.Core.Option.{Option, none, some}
use Prim.Native.Nat.{ℕ, ◌+◌, ◌*◌, ◌%◌, ◌≤◌, ◌<◌, zero-le}
use native.Mathlib.Omega.{arith}
use lib.Dec.{eqb, ltb}
use lib.ListN.{length}
use mir.Val.{bool_byte}
use Rattle.std.specs.Prelude.{MatchBool}
use Rattle.definitions.specs.Bounded.{◌and◌, ◌implies◌, ◌is◌, ◌isnt◌, ◌below◌, ◌upto◌, some_if, or_else}
use Rattle.definitions.specs.Words.{block_of, count_of, data_word}
use Rattle.definitions.specs.Check.{check_of, stored_check}
use Rattle.definitions.specs.Answer.{Refusal, refusal}
use Rattle.definitions.specs.ReadModel.{heading_fits, block_fault, clear_from, head_counts, head_fault, sites_fault, lines_fault, left_over_fault}
use Rattle.definitions.proofs.Bounded.{tests, below_iff, upto_iff, true_of, false_of, of_true, not-false, same_test, else_assoc}
use Rattle.sets.proofs.Ranges.{Each, One, each_in, one_in}
use Rattle.refusals.proofs.Answers.{answers}
use Rattle.block_faults.specs.BlockFaults.{headed_fault, heading_fault, counts_fault, kinds_fit}

-- below a limit, or up to it
below-turned : (m n : ℕ) → (m below n) ≡ not (n upto m)
below-turned m n =
    pick (n upto m) refl
  where
    pick : (t : Bool) → (n upto m) ≡ t → (m below n) ≡ not t
    pick true e = false_of (m below n) (λ u. let h = (below_iff m n).0 u in let l = (upto_iff n m).0 (of_true e) in absurd (omega arith))
    pick false e =
        true_of (m below n) ((below_iff m n).1 (let f : n ≤ m → ⊥ = λ l. not-false e ((upto_iff n m).1 l) in omega arith))

-- ---- a block that is there

-- the test that the image has block k, where it is met
pub there : (image : List ℕ) (k : ℕ) (t : Bool) → t ≡ (512 * (k + 1) upto length image) → t ≡ true → 512 * (k + 1) ≤ length image
there image k t e q = (upto_iff (512 * (k + 1)) (length image)).0 (of_true (sym e ∙ q))

-- ---- 1, 2, 3

pub headed_order : (block : List ℕ) (k asked box : ℕ) → headed_fault block k asked box
    ≡ or_else (some_if (not (check_of block is stored_check block)) (refusal 2 k 0)) (some_if (not (heading_fits k asked box block)) (refusal 3 k 0))
unfolding headed_fault ◌is◌ ◌isnt◌
headed_order block k asked box = refl

pub heading_order : (image : List ℕ) (k asked box : ℕ) → heading_fault image k asked box
    ≡ or_else (some_if (not (512 * (k + 1) upto length image)) (refusal 1 k 0)) (headed_fault (block_of image k) k asked box)
unfolding heading_fault
heading_order image k asked box = rw (below-turned (length image) (512 * (k + 1))) refl

-- ---- 4, 5

either_not : (s t : Bool) → (not s || not t) ≡ not (s and t)
unfolding ◌and◌
either_not true t = refl
either_not false t = refl

pub counts_order : (block : List ℕ) (k least most : ℕ) → counts_fault block k (least upto count_of block and count_of block upto most)
    ≡ or_else (some_if (ltb (count_of block) least || ltb most (count_of block)) (refusal 4 k 0)) (some_if (not (clear_from (2 * count_of block) block)) (refusal 5 k 0))
unfolding counts_fault ◌below◌
counts_order block k least most =
    ap (λ (t : Bool). or_else (some_if t (refusal 4 k 0)) (some_if (not (clear_from (2 * count_of block) block)) (refusal 5 k 0))) turned
  where
    turned : not (least upto count_of block and count_of block upto most) ≡ (ltb (count_of block) least || ltb most (count_of block))
    turned =
        sym
        (ap₂ (λ (s t : Bool). s || t) (below-turned (count_of block) least) (below-turned most (count_of block))
        ∙ either_not (least upto count_of block) (count_of block upto most))

block_parts : (image : List ℕ) (k asked b : ℕ) (counts clear : List ℕ → Bool) → block_fault image k asked b counts clear
    ≡ or_else (heading_fault image k asked b) (or_else (some_if (not (counts (block_of image k))) (refusal 4 k 0)) (some_if (not (clear (block_of image k))) (refusal 5 k 0)))
unfolding block_fault heading_fault headed_fault
block_parts image k asked b counts clear =
    sym
    (else_assoc (some_if (length image below 512 * (k + 1)) (refusal 1 k 0)) _ _
    ∙ ap (or_else (some_if (length image below 512 * (k + 1)) (refusal 1 k 0)))
    (else_assoc (some_if (check_of (block_of image k) isnt stored_check (block_of image k)) (refusal 2 k 0)) _ _))

-- a block of sites
pub sites_order : (image : List ℕ) (k b : ℕ) → sites_fault image k b
    ≡ or_else (heading_fault image k 2 b) (counts_fault (block_of image k) k (1 upto count_of (block_of image k) and count_of (block_of image k) upto 16))
unfolding sites_fault counts_fault
sites_order image k b = block_parts image k 2 b _ _

-- a block of lines: at least one in the box's first
least_of : (first : Bool) (n : ℕ) → (first implies 1 upto n) ≡ (bool_byte first upto n)
unfolding ◌implies◌
least_of true n = refl
least_of false n = sym (true_of (0 upto n) ((upto_iff 0 n).1 zero-le))

pub lines_order : (image : List ℕ) (k b j : ℕ) → lines_fault image k b j
    ≡ or_else (heading_fault image k 3 b)
    (counts_fault (block_of image k) k (bool_byte (eqb j 0) upto count_of (block_of image k) and count_of (block_of image k) upto 31))
unfolding lines_fault counts_fault ◌is◌
lines_order image k b j =
    block_parts image k 3 b _ _
    ∙ ap (λ (t : Bool). or_else (heading_fault image k 3 b) (counts_fault (block_of image k) k (t and count_of (block_of image k) upto 31)))
    (least_of (eqb j 0) (count_of (block_of image k)))

-- ---- the head

pub head_order : (image : List ℕ) → head_fault image
    ≡ or_else (heading_fault image 0 1 0) (or_else (some_if (not (head_counts (block_of image 0))) (refusal 4 0 0))
    (some_if (not (clear_from (2 + data_word (block_of image 0) 0) (block_of image 0))) (refusal 5 0 0)))
unfolding head_fault
head_order image = block_parts image 0 1 0 _ _

module _ (block : List ℕ) where
  -- the kinds: each is at most 3, or some is not
  kinds_yes : (names : ℕ) → ((n : ℕ) → n < names → data_word block (2 + n) ≤ 3) → true ≡ kinds_fit block names
  unfolding kinds_fit
  kinds_yes names f = sym (true_of _ (simp tests (λ n l h. f n h)))

  kinds_no : (names n : ℕ) → names ≤ 60 → n < names → 3 < data_word block (2 + n) → false ≡ kinds_fit block names
  unfolding kinds_fit
  kinds_no names n few l h = sym (false_of _ (λ t. let p = simp tests at t in absurd (omega (arith, p n (omega arith) l))))

  pub kinds_all : (names : ℕ) → names ≤ 60 → (r : Bool)
      → MatchBool r (Each (λ n. data_word block (2 + n) ≤ 3) 0 names) (One (λ n. 3 < data_word block (2 + n)) 0 names) → r ≡ kinds_fit block names
  kinds_all names few true h = kinds_yes names (λ n l. each_in (λ n. data_word block (2 + n) ≤ 3) 0 names h n zero-le (omega (arith, l)))
  kinds_all names few false h =
      let o = one_in (λ n. 3 < data_word block (2 + n)) 0 names h in
      kinds_no names o.0 few (omega (arith, o.2)) o.3

  -- a count that is not zero, too many names, too many boxes; else the kinds decide
  pub head_counted : (count_of block ≡ 0 → ⊥) → false ≡ head_counts block
  unfolding head_counts
  head_counted f = sym (false_of _ (λ t. let p = simp tests at t in f p.0.0.0))

  pub head_names : 60 < data_word block 0 → false ≡ head_counts block
  unfolding head_counts
  head_names h = sym (false_of _ (λ t. let p = simp tests at t in absurd (omega (arith, p.0.0.1))))

  pub head_boxes : 8 < data_word block 1 → false ≡ head_counts block
  unfolding head_counts
  head_boxes h = sym (false_of _ (λ t. let p = simp tests at t in absurd (omega (arith, p.0.1))))

  pub head_kinds : count_of block ≡ 0 → data_word block 0 ≤ 60 → data_word block 1 ≤ 8 → kinds_fit block (data_word block 0) ≡ head_counts block
  unfolding head_counts kinds_fit
  head_kinds c n b =
      same_test _ _ (λ t. simp tests (((c, n), b), simp tests at t)) (λ t. let p = simp tests at t in simp tests p.1)

  -- a head whose counts fit has at most 60 names
  pub head_few : head_counts block ≡ true → data_word block 0 ≤ 60
  unfolding head_counts
  head_few e = let p = simp tests at (of_true e) in omega (arith, p.0.0.1)

-- ---- what is left over

module _ (image : List ℕ) (k : ℕ) where
  -- what is found where it is there
  found : Option Refusal
  found = or_else (some_if (check_of (block_of image k) isnt stored_check (block_of image k)) (refusal 2 k 0)) (some (refusal 3 k 0))

  pub left_some : (block : List ℕ) → 512 * (k + 1) ≤ length image → block ≡ block_of image k
      → left_over_fault image k ≡ or_else (some_if (not (check_of block is stored_check block)) (refusal 2 k 0)) (some (refusal 3 k 0))
  unfolding left_over_fault ◌is◌ ◌isnt◌ ◌below◌ found
  left_some block h e =
      ap (λ (t : Bool). elim t as (λ _. Option Refusal) [ true ↦ found | false ↦ none ])
      (true_of (512 * k below length image) ((below_iff (512 * k) (length image)).1 (omega arith)))
      ∙ ap (λ (b : List ℕ). or_else (some_if (not (check_of b is stored_check b)) (refusal 2 k 0)) (some (refusal 3 k 0))) (sym e)

  pub left_none : length image % 512 ≡ 0 → length image < 512 * (k + 1) → none ≡ left_over_fault image k
  unfolding left_over_fault ◌isnt◌ found
  left_none z h =
      sym (ap (λ (t : Bool). elim t as (λ _. Option Refusal) [ true ↦ found | false ↦ none ])
      (false_of (512 * k below length image) (λ t. let l = (below_iff (512 * k) (length image)).0 t in absurd (omega arith))))

pub ruleset block_faults = (answers, there, headed_order, heading_order, counts_order, sites_order, lines_order, head_order, head_counted, head_names, head_boxes, head_kinds, head_few, left_some, left_none)
