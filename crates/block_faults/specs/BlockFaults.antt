-- Parts of refusals 1 to 5 of one block, as the functions of this crate answer them. Assumes nothing.
use Rattle.std.specs.Prelude.{Bool, not, List, ℕ, ◌+◌, ◌*◌, length}
use Rattle.std.proofs.Math.Option.{Option}
use Rattle.definitions.specs.Bounded.{◌implies◌, ◌isnt◌, ◌below◌, ◌upto◌, all_below, some_if, or_else}
use Rattle.definitions.specs.Words.{block_of, count_of, data_word}
use Rattle.definitions.specs.Check.{check_of, stored_check}
use Rattle.definitions.specs.Answer.{Refusal, refusal}
use Rattle.definitions.specs.ReadModel.{heading_fits, clear_from}

-- the faults of a block's check and of its heading, of a block of number k
unfoldable pub headed_fault : List ℕ → ℕ → ℕ → ℕ → Option Refusal
headed_fault block k asked box =
    or_else (some_if (check_of block isnt stored_check block) (refusal 2 k 0)) (some_if (not (heading_fits k asked box block)) (refusal 3 k 0))

-- the first three faults of a block: missing, check, heading
unfoldable pub heading_fault : List ℕ → ℕ → ℕ → ℕ → Option Refusal
heading_fault image k asked box =
    or_else (some_if (length image below 512 * (k + 1)) (refusal 1 k 0)) (headed_fault (block_of image k) k asked box)

-- the last two faults of a block of number k, whose records take two words each: count, stray
unfoldable pub counts_fault : List ℕ → ℕ → Bool → Option Refusal
counts_fault block k counts =
    or_else (some_if (not counts) (refusal 4 k 0)) (some_if (not (clear_from (2 * count_of block) block)) (refusal 5 k 0))

-- the kinds of so many names are at most 3
unfoldable pub kinds_fit : List ℕ → ℕ → Bool
kinds_fit block names = all_below 60 (λ n. n below names implies data_word block (2 + n) upto 3)
