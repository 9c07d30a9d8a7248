-- The first refusal of an estimate image for a model with so many names and boxes: 1 for the whole length; then block by block
-- 2, 3, 4, 5. Assumes nothing.
use Rattle.std.specs.Prelude.{Bool, true, false, List, ℕ, ◌+◌, ◌*◌, length}
use Rattle.std.proofs.Math.Option.{Option}
use Rattle.definitions.specs.Bounded.{◌and◌, ◌or◌, ◌is◌, ◌isnt◌, ◌below◌, ◌upto◌, all_below, some_if, or_else, first_below}
use Rattle.definitions.specs.Limits.{name_limit, block_words, shown_word}
use Rattle.definitions.specs.Sets.{no_bit_past}
use Rattle.definitions.specs.Words.{count_of, data_word}
use Rattle.definitions.specs.Answer.{Refusal, refusal}
use Rattle.definitions.specs.ReadModel.{block_fault}
use Rattle.definitions.specs.Estimate.{eps_block, kap_block}

-- word i is a set of names where the block has a set there, and zero elsewhere
unfoldable pub sets_fit : ℕ → (ℕ → Bool) → List ℕ → Bool
sets_fit names set block =
    all_below block_words (λ i. elim (set i) [ true ↦ no_bit_past names (data_word block i) | false ↦ data_word block i is 0 ])

-- word i is a set: a block of kind 4, 5 or 6 has one for each name, in words 0 to 59; kind 5 has two more, in words 60 and 61
abbrev pub is_set : ℕ → ℕ → ℕ → Bool
is_set names asked i = (i below names and i below name_limit) or (asked is 5 and shown_word upto i)

-- block k of an estimate: record count 0, and sets where the kind has them
unfoldable pub table_fault : List ℕ → ℕ → ℕ → ℕ → ℕ → Option Refusal
table_fault image names k asked box =
    block_fault image k asked box (λ block. count_of block is 0) (sets_fit names (is_set names asked))

unfoldable pub read_estimate : ℕ → ℕ → List ℕ → Option Refusal
read_estimate names boxes image =
    or_else (some_if (length image isnt 512 * (1 + 2 * boxes)) (refusal 1 0 0))
    (or_else (table_fault image names 0 4 0)
    (first_below boxes (λ b. or_else (table_fault image names (eps_block b) 5 b) (table_fault image names (kap_block b) 6 b))))
