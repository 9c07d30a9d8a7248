-- What each refusal of an image says: 1 to 5 of a block, and 6 to 9 of a record that does not fit, its box first and then the record;
-- each is given only where the ones before it pass. Assumes nothing.
use mathlib.Core.Path.{◌≡◌, refl, sym}
use mathlib.Core.Bool.{Bool, true, false, not}
use mathlib.Core.List.{List}
use mathlib.Core.Logic.{⊎_elim}
use mathlib.Core.Option.{Option, none, some}
use Prim.Native.Nat.{ℕ, ◌+◌, ◌*◌, ◌<◌}
use lib.Dec.{T}
use lib.ListN.{length}
use Rattle.definitions.specs.Bounded.{◌is◌, ◌isnt◌, ◌below◌, some_if, or_else, first_below}
use Rattle.definitions.specs.Words.{block_of}
use Rattle.definitions.specs.Check.{check_of, stored_check}
use Rattle.definitions.specs.Answer.{Refusal, refusal}
use Rattle.definitions.specs.Model.{Box, Model, site_count, line_count, line_at, box_at, box_count}
use Rattle.definitions.specs.ReadModel.{heading_fits, block_fault, site_fits, line_fits, tree_fits, reach_fits, first_misfit, model_fault}
use Rattle.definitions.proofs.Bounded.{first_found, fault_none, fault_some, decide, is_iff, isnt_iff}

-- the refusal that a search over boxes and records gives stands at a record that does not fit: its box first, then the record
pub misfit_stands : (number : ℕ) (m : Model) (count : Box → ℕ) (fits : ℕ → ℕ → Bool) (r : Refusal) → first_misfit number m count fits ≡ some r
    → (b : ℕ) × (b < box_count m) × ((i : ℕ) × (i < count (box_at m b)) × T (not (fits b i)) × (r ≡ refusal number b i))
unfolding first_misfit
misfit_stands number m count fits r e =
    let inner : ℕ → ℕ → Option Refusal = λ b i. some_if (not (fits b i)) (refusal number b i) in
    let x = first_found (λ b. first_below (count (box_at m b)) (inner b)) (box_count m) r e in
    let y = first_found (inner x.0) (count (box_at m x.0)) r x.2 in
    let z = fault_some (not (fits x.0 y.0)) (refusal number x.0 y.0) r y.2 in
    (x.0, x.1, (y.0, y.1, z.0, sym z.1))

-- the tests of 6 to 9 at record i of box b
abbrev pub line_test : Model → ℕ → ℕ → Bool
line_test m b i = line_fits m.kinds (line_at (box_at m b) i)

abbrev pub tree_test : Model → ℕ → ℕ → Bool
tree_test m b i = tree_fits (box_at m b) i

-- a refusal of a model: 6 at a site; 7 at a line, where every site fits; 8 where every line fits too; 9 where the trees fit too
pub data Refused (m : Model) : Refusal → Type 0 where
  site : (b i : ℕ) → b < box_count m → i < site_count (box_at m b) → T (not (site_fits m b i)) → Refused m (refusal 6 b i)
  line : (b i : ℕ) → first_misfit 6 m site_count (site_fits m) ≡ none
      → b < box_count m → i < line_count (box_at m b) → T (not (line_test m b i)) → Refused m (refusal 7 b i)
  tree : (b i : ℕ) → first_misfit 6 m site_count (site_fits m) ≡ none → first_misfit 7 m line_count (line_test m) ≡ none
      → b < box_count m → i < line_count (box_at m b) → T (not (tree_test m b i)) → Refused m (refusal 8 b i)
  reach : (b i : ℕ) → first_misfit 6 m site_count (site_fits m) ≡ none → first_misfit 7 m line_count (line_test m) ≡ none
      → first_misfit 8 m line_count (tree_test m) ≡ none
      → b < box_count m → i < line_count (box_at m b) → T (not (reach_fits m b i)) → Refused m (refusal 9 b i)

-- a refusal of block k: 1 missing, 2 check, 3 heading, 4 count, 5 stray, each only where the ones before it pass
module _ (image : List ℕ) (k asked box : ℕ) (counts clear : List ℕ → Bool) where
  pub data BlockRefused : Refusal → Type 0 where
    missing : T (length image below 512 * (k + 1)) → BlockRefused (refusal 1 k 0)
    check : T (check_of (block_of image k) isnt stored_check (block_of image k)) → BlockRefused (refusal 2 k 0)
    heading : check_of (block_of image k) ≡ stored_check (block_of image k) → T (not (heading_fits k asked box (block_of image k))) → BlockRefused (refusal 3 k 0)
    count : T (heading_fits k asked box (block_of image k)) → T (not (counts (block_of image k))) → BlockRefused (refusal 4 k 0)
    stray : T (heading_fits k asked box (block_of image k)) → T (counts (block_of image k)) → T (not (clear (block_of image k))) → BlockRefused (refusal 5 k 0)

-- the first of two faults, by which of them it is
else_case : {A : Type 0} (P : Type 0) (a b : Option A) (r : A) → or_else a b ≡ some r → (a ≡ some r → P) → (a ≡ none → b ≡ some r → P) → P
else_case P none b r e f g = g refl e
else_case P (some x) b r e f g = f e

pub model_refused : (m : Model) (r : Refusal) → model_fault m ≡ some r → Refused m r
unfolding model_fault
model_refused m r e =
    else_case (Refused m r) six _ r e
    (λ q. let x = misfit_stands 6 m site_count (site_fits m) r q in rw x.2.3 (site x.0 x.2.0 x.1 x.2.1 x.2.2)) (λ n6 e7.
    else_case (Refused m r) seven _ r e7
    (λ q. let x = misfit_stands 7 m line_count (line_test m) r q in rw x.2.3 (line x.0 x.2.0 n6 x.1 x.2.1 x.2.2)) (λ n7 e8.
    else_case (Refused m r) eight nine r e8
    (λ q. let x = misfit_stands 8 m line_count (tree_test m) r q in rw x.2.3 (tree x.0 x.2.0 n6 n7 x.1 x.2.1 x.2.2)) (λ n8 q.
    let x = misfit_stands 9 m line_count (reach_fits m) r q in rw x.2.3 (reach x.0 x.2.0 n6 n7 n8 x.1 x.2.1 x.2.2))))
  where
    six : Option Refusal
    six = first_misfit 6 m site_count (site_fits m)

    seven : Option Refusal
    seven = first_misfit 7 m line_count (line_test m)

    eight : Option Refusal
    eight = first_misfit 8 m line_count (tree_test m)

    nine : Option Refusal
    nine = first_misfit 9 m line_count (reach_fits m)

-- a test that is no fault
passed : {A : Type 0} (b : Bool) (a : A) → some_if (not b) a ≡ none → T b
passed true a e = tt
passed false a e = absurd (fault_none (not false) a e tt)

pub block_refused : (image : List ℕ) (k asked box : ℕ) (counts clear : List ℕ → Bool) (r : Refusal) → block_fault image k asked box counts clear ≡ some r
    → BlockRefused image k asked box counts clear r
unfolding block_fault
block_refused image k asked box counts clear r e =
    let block = block_of image k in
    let test1 = length image below 512 * (k + 1) in
    let test2 = check_of block isnt stored_check block in
    let P = BlockRefused image k asked box counts clear r in
    else_case P (some_if test1 (refusal 1 k 0)) _ r e (λ q. let z = fault_some test1 (refusal 1 k 0) r q in rw (← z.1) (missing z.0)) (λ n1 e2.
    else_case P (some_if test2 (refusal 2 k 0)) _ r e2 (λ q. let z = fault_some test2 (refusal 2 k 0) r q in rw (← z.1) (check z.0)) (λ n2 e3.
    else_case P (some_if (not (heading_fits k asked box block)) (refusal 3 k 0)) _ r e3
    (λ q. let z = fault_some (not (heading_fits k asked box block)) (refusal 3 k 0) r q in
    rw (← z.1) (heading (agree (check_of block) (stored_check block) (fault_none test2 (refusal 2 k 0) n2)) z.0)) (λ n3 e4.
    else_case P (some_if (not (counts block)) (refusal 4 k 0)) (some_if (not (clear block)) (refusal 5 k 0)) r e4
    (λ q. let z = fault_some (not (counts block)) (refusal 4 k 0) r q in
    rw (← z.1) (count (passed (heading_fits k asked box block) (refusal 3 k 0) n3) z.0)) (λ n4 q.
    let z = fault_some (not (clear block)) (refusal 5 k 0) r q in
    rw (← z.1) (stray (passed (heading_fits k asked box block) (refusal 3 k 0) n3) (passed (counts block) (refusal 4 k 0) n4) z.0)))))
  where
    agree : (a b : ℕ) → (T (a isnt b) → ⊥) → a ≡ b
    agree a b f = ⊎_elim (λ t. (is_iff a b).0 t) (λ g. absurd (f ((isnt_iff a b).1 (λ q. g ((is_iff a b).1 q))))) (decide (a is b))
