-- The parts of an estimate's blocks: the last sets, words in a range, and a box's two blocks. Assumes nothing.
use Rattle.std.specs.Prelude.{Bool, true, false, List, ℕ}
use Rattle.std.proofs.Math.Option.{Option}
use Rattle.definitions.specs.Bounded.{◌implies◌, ◌is◌, ◌upto◌, all_below, or_else}
use Rattle.definitions.specs.Sets.{no_bit_past}
use Rattle.definitions.specs.Answer as paper
use Rattle.definitions.specs.Estimate.{eps_block, kap_block}
use Rattle.definitions.specs.ReadEstimate.{table_fault}

-- where the two last sets of kind 5 begin; other kinds have no sets past the names
unfoldable pub last_sets : ℕ → ℕ
last_sets asked = elim (asked is 5) [ true ↦ 60 | false ↦ 62 ]

-- f i has no bit past n, for i from one number up to another
unfoldable pub words_fit : ℕ → ℕ → ℕ → (ℕ → ℕ) → Bool
words_fit n from to f = all_below to (λ i. from upto i implies no_bit_past n (f i))

-- the first fault of box b's two blocks
unfoldable pub box_tables_fault : List ℕ → ℕ → ℕ → Option paper.Refusal
box_tables_fault image names b = or_else (table_fault image names (eps_block b) 5 b) (table_fault image names (kap_block b) 6 b)
