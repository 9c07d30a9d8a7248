-- Laws of an estimate's refusals: the length, and one block that is there. Assumes nothing.
use Rattle.std.proofs.Common.{◌≡◌, ℕ, ◌+◌, ◌*◌, ◌/◌, ◌%◌, ◌≤◌, not, ◌&&◌, eqb, List, length, refl, sym, ap, ◌∙◌, arith}
use Rattle.definitions.specs.Bounded.{◌and◌, ◌is◌, ◌isnt◌, some_if, or_else}
use Rattle.definitions.specs.Words.{block_of, count_of}
use Rattle.definitions.specs.Check.{check_of, stored_check}
use Rattle.definitions.specs.Answer.{refusal}
use Rattle.definitions.specs.ReadEstimate.{sets_fit, is_set, table_fault}
use Rattle.definitions.proofs.Bounded.{tests, and_is, same_test, else_assoc}
use Rattle.definitions.proofs.BlockFault.{in_order, block_is}
use Rattle.refusals.proofs.Answers.{answers}
use Rattle.block_faults.specs.BlockFaults.{headed_fault}

-- the length: 512 bytes, and 1024 for each box
pub length_test : (n boxes : ℕ) → not (eqb (n % 1024) 512 && eqb (n / 1024) boxes) ≡ (n isnt 512 * (1 + 2 * boxes))
unfolding ◌is◌ ◌isnt◌
length_test n boxes =
    ap not (and_is (eqb (n % 1024) 512) (eqb (n / 1024) boxes)
    ∙ same_test (n % 1024 is 512 and n / 1024 is boxes) (n is 512 * (1 + 2 * boxes))
    (λ t. let p = simp tests at t in simp tests (omega (arith, p)))
    (λ t. let p = simp tests at t in simp tests (omega arith, omega arith)))

-- a block that is there: its check, its heading, its count and its sets
pub table_order : (image : List ℕ) (names k asked place : ℕ) → 512 * (k + 1) ≤ length image
    → table_fault image names k asked place
    ≡ or_else (headed_fault (block_of image k) k asked place)
    (or_else (some_if (not (eqb (count_of (block_of image k)) 0)) (refusal 4 k 0))
    (some_if (not (sets_fit names (is_set names asked) (block_of image k))) (refusal 5 k 0)))
unfolding table_fault in_order headed_fault ◌is◌ ◌isnt◌
table_order image names k asked place there =
    block_is image k asked place (λ block. count_of block is 0) (sets_fit names (is_set names asked)) _ _ _ _ there refl refl refl refl
    ∙ sym (else_assoc (some_if (check_of (block_of image k) isnt stored_check (block_of image k)) (refusal 2 k 0)) _ _)

pub ruleset tables = (answers, length_test, table_order)
