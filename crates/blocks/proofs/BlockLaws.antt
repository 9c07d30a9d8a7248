-- Laws of a block: its check; whether an image has it; data words that are zero. Assumes nothing.
use Rattle.std.proofs.Common.{◌≡◌, ℕ, ◌+◌, ◌-◌, ◌*◌, ◌/◌, ◌<◌, ◌≤◌, Bool, true, false, eqb, ltb, List, length, take, drop, sym, ap, ◌∙◌, ap₂, zero-le, le_refl, arith, rules}
use mathlib.Core.Option.{none, some}
use native.Mathlib.Nat.{div-one}
use lib.ListN.{length-drop}
use Rattle.std.specs.Array.{IsFirstChunk}
use Rattle.std.proofs.lemmas.List.{take_all}
use Rattle.definitions.specs.Bounded.{◌is◌, ◌below◌, ◌upto◌}
use Rattle.definitions.specs.Words.{word_at, block_of, data_word}
use Rattle.definitions.specs.Check.{check_of, stored_check}
use Rattle.definitions.specs.ReadModel.{clear_from}
use Rattle.definitions.proofs.Bounded.{is_iff, upto_iff, below_iff, true_of, false_of, of_true, not-false, same_test}
use Rattle.definitions.proofs.ReadModel.{clear_iff}
use Rattle.blocks.specs.Answers.{of_block, UnionOver}
use Rattle.blocks.proofs.Unions.{union_past}

-- ---- a block of an image

-- the first 512 bytes from its place on
pub block_chunk : (image b : List ℕ) (k : ℕ) → IsFirstChunk (take (length image - 512 * k) (drop (512 * k) image)) b 512 → b ≡ block_of image k
unfolding block_of
block_chunk image b k h =
    h.same ∙ ap (take 512) (take_all (length image - 512 * k) (drop (512 * k) image) (simp length-drop (omega arith)))

-- ---- what is read of a block

pub check-is : (block : List ℕ) (c w : ℕ) → c ≡ check_of block → w ≡ word_at block 504 → eqb c w ≡ (check_of block is stored_check block)
unfolding ◌is◌ stored_check
check-is block c w e f = ap₂ eqb e f

-- ---- whether the image has it

pub has_block_is : (n k : ℕ) → ltb k (n / 512) ≡ (512 * (k + 1) upto n)
unfolding ◌below◌
has_block_is n k =
    same_test (ltb k (n / 512)) (512 * (k + 1) upto n) (λ t. (upto_iff (512 * (k + 1)) n).1 (let h = (below_iff k (n / 512)).0 t in omega arith))
    (λ t. (below_iff k (n / 512)).1 (let h = (upto_iff (512 * (k + 1)) n).0 t in omega arith))

pub there : (n k : ℕ) (b : Bool) → b ≡ (512 * (k + 1) upto n) → b ≡ true → 512 * (k + 1) ≤ n
there n k b e t = (upto_iff (512 * (k + 1)) n).0 (of_true (sym e ∙ t))

pub missing : (n k : ℕ) (b : Bool) → b ≡ (512 * (k + 1) upto n) → b ≡ false → n < 512 * (k + 1)
missing n k b e t = let f : 512 * (k + 1) ≤ n → ⊥ = λ l. not-false (sym e ∙ t) ((upto_iff (512 * (k + 1)) n).1 l) in omega arith

module _ {A : Type 0} (image : List ℕ) (k : ℕ) (f : List ℕ → A) where
  pub of_there : (a : A) → 512 * (k + 1) ≤ length image → a ≡ f (block_of image k) → some a ≡ of_block image k f
  unfolding of_block
  of_there a h q =
      ap some q ∙ sym (ap (λ (x : Bool). elim x [ true ↦ some (f (block_of image k)) | false ↦ none ]) (true_of _ ((upto_iff (512 * (k + 1)) (length image)).1 h)))

  pub of_missing : length image < 512 * (k + 1) → none ≡ of_block image k f
  unfolding of_block
  of_missing h =
      sym (ap (λ (x : Bool). elim x [ true ↦ some (f (block_of image k)) | false ↦ none ])
      (false_of _ (λ t. let l = (upto_iff (512 * (k + 1)) (length image)).0 t in absurd (omega arith))))

-- ---- data words that are zero, from a number on

pub clear-is : (block : List ℕ) (from w : ℕ) → UnionOver (data_word block) from 62 w → eqb w 0 ≡ clear_from from block
unfolding ◌is◌
clear-is block from w u =
    let past = union_past (data_word block) from 62 0 w u in
    same_test (w is 0) (clear_from from block)
    (λ t. (clear_iff from block).1 (λ j l q. sym (div-one (data_word block j)) ∙ past.0 (div-one w ∙ (is_iff w 0).0 t) j l q))
    (λ t. (is_iff w 0).1 (sym (div-one w) ∙ past.1 (λ j l q. div-one (data_word block j) ∙ (clear_iff from block).0 t j l q)))

pub ruleset blocks = (rules, le_refl, zero-le, missing, of_there, of_missing, check-is, there, clear-is)
