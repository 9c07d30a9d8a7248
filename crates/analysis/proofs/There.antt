-- A refusal 2 to 5 names a block that is there whole, so its part has 512 bytes. Assumes nothing.
use mathlib.Core.Path.{◌≡◌, refl, sym, subst}
use mathlib.Core.Bool.{Bool, true, false, not}
use mathlib.Core.List.{List}
use mathlib.Core.Option.{Option, none, some}
use Prim.Native.Nat.{ℕ, ◌+◌, ◌*◌, ◌%◌, ◌≤◌}
use native.Mathlib.Omega.{arith}
use lib.Dec.{T}
use lib.ListN.{length}
use Rattle.definitions.specs.Bounded.{◌or◌, ◌isnt◌, ◌below◌, some_if, or_else, first_below}
use Rattle.definitions.specs.Words.{block_of}
use Rattle.definitions.specs.Check.{check_of, stored_check}
use Rattle.definitions.specs.Answer.{Refusal, refusal}
use Rattle.definitions.specs.Model.{Model}
use Rattle.definitions.specs.Image.{boxes_of, sites_block, model_of}
use Rattle.definitions.specs.ReadModel.{heading_fits, block_fault, head_fault, sites_fault, lines_fault, box_fault, left_over_fault, length_fault, blocks_fault, model_fault, read_model}
use Rattle.definitions.specs.Estimate.{eps_block}
use Rattle.definitions.specs.ReadEstimate.{table_fault, read_estimate}
use Rattle.definitions.proofs.Bounded.{first_found, fault_some, below_iff}
use Rattle.definitions.proofs.Faults.{reached_iff}
use Rattle.definitions.proofs.ReadModel.{length_iff}
use Rattle.definitions.proofs.Refusals.{Refused, site, line, tree, reach, model_refused}

module _ (image : List ℕ) where
  abbrev pub There : Option Refusal → Type 0
  There o = (r : Refusal) → o ≡ some r → 2 ≤ r.number → r.number ≤ 5 → 512 * (r.place + 1) ≤ length image

  one : (n k : ℕ) (b : Bool) → (2 ≤ n → 512 * (k + 1) ≤ length image) → There (some_if b (refusal n k 0))
  one n k b f r e l h =
      let z = (fault_some b (refusal n k 0) r e).1 in
      subst (λ (y : Refusal). 512 * (y.place + 1) ≤ length image) z (f (subst (λ (y : Refusal). 2 ≤ y.number) (sym z) l))

  both : (a b : Option Refusal) → There a → (a ≡ none → There b) → There (or_else a b)
  both none b p q r e = q refl r e
  both (some x) b p q r e = p r e

  each : (n : ℕ) (f : ℕ → Option Refusal) → ((i : ℕ) → There (f i)) → There (first_below n f)
  each n f p r e = let x = first_found f n r e in p x.0 r x.2

  in_turn : (k : ℕ) (b c d e : Bool) → 512 * (k + 1) ≤ length image
      → There (or_else (some_if b (refusal 2 k 0)) (or_else (some_if c (refusal 3 k 0)) (or_else (some_if d (refusal 4 k 0)) (some_if e (refusal 5 k 0)))))
  in_turn k true c d e t = one 2 k true (λ _. t)
  in_turn k false true d e t = one 3 k true (λ _. t)
  in_turn k false false true e t = one 4 k true (λ _. t)
  in_turn k false false false e t = one 5 k e (λ _. t)

  of_block_lem : (k asked box : ℕ) (counts clear : List ℕ → Bool) → There (block_fault image k asked box counts clear)
  unfolding block_fault
  of_block_lem k asked box counts clear =
      both (some_if (length image below 512 * (k + 1)) (refusal 1 k 0)) _ (one 1 k (length image below 512 * (k + 1)) (λ l. absurd (omega (arith, l))))
      (λ e. in_turn k (check_of (block_of image k) isnt stored_check (block_of image k)) (not (heading_fits k asked box (block_of image k)))
      (not (counts (block_of image k))) (not (clear (block_of image k))) ((reached_iff (length image) (512 * (k + 1)) (refusal 1 k 0)).0 e))

  left_over : (k : ℕ) → length image % 512 ≡ 0 → There (left_over_fault image k)
  unfolding left_over_fault
  left_over k w = go (512 * k below length image) (check_of (block_of image k) isnt stored_check (block_of image k)) (λ t. let h = (below_iff (512 * k) (length image)).0 t in omega arith)
    where
      go : (b c : Bool) → (T b → 512 * (k + 1) ≤ length image)
          → There (elim b as (λ _. Option Refusal) [ true ↦ or_else (some_if c (refusal 2 k 0)) (some (refusal 3 k 0)) | false ↦ none ])
      go true c f = in_turn k c true true true (f tt)
      go false c f = one 1 k false (λ l. absurd (omega (arith, l)))

  of_record : (m : Model) → There (model_fault m)
  of_record m r e = go r (model_refused m r e)
    where
      go : (r : Refusal) → Refused m r → 2 ≤ r.number → r.number ≤ 5 → 512 * (r.place + 1) ≤ length image
      go r (site b i p q t) l h = absurd (omega arith)
      go r (line b i n6 p q t) l h = absurd (omega arith)
      go r (tree b i n6 n7 p q t) l h = absurd (omega arith)
      go r (reach b i n6 n7 n8 p q t) l h = absurd (omega arith)

  of_box_lem : (b : ℕ) → There (box_fault image b)
  unfolding box_fault sites_fault lines_fault
  of_box_lem b = both (sites_fault image (sites_block image b) b) _ (of_block_lem _ _ _ _ _) (λ _. each _ _ (λ j. of_block_lem _ _ _ _ _))

  of_blocks : length image % 512 ≡ 0 → There (blocks_fault image)
  unfolding blocks_fault head_fault
  of_blocks w =
      both (head_fault image) _ (of_block_lem _ _ _ _ _)
      (λ _. both (first_below (boxes_of image) (box_fault image)) _ (each _ _ of_box_lem) (λ _. left_over (sites_block image (boxes_of image)) w))

  pub model_there : There (read_model image)
  unfolding read_model length_fault
  model_there =
      both (length_fault image) _ (one 1 0 (length image % 512 isnt 0 or length image below 512 or 20992 below length image) (λ l. absurd (omega (arith, l))))
      (λ e. both (blocks_fault image) _ (of_blocks ((length_iff image).0 e).blocks) (λ _. of_record (model_of image)))

  of_table : (names k asked box : ℕ) → There (table_fault image names k asked box)
  unfolding table_fault
  of_table names k asked box = of_block_lem _ _ _ _ _

  pub estimate-there : (names boxes : ℕ) → There (read_estimate names boxes image)
  unfolding read_estimate
  estimate-there names boxes =
      both (some_if (length image isnt 512 * (1 + 2 * boxes)) (refusal 1 0 0)) _ (one 1 0 (length image isnt 512 * (1 + 2 * boxes)) (λ l. absurd (omega (arith, l)))) (λ _.
      both (table_fault image names 0 4 0) _ (of_table names 0 4 0)
      (λ _. each _ _ (λ b. both (table_fault image names (eps_block b) 5 b) _ (of_table names _ 5 b) (λ _. of_table names _ 6 b))))
