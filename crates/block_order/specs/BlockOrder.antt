-- The first fault of the blocks of a box, and of all boxes. Assumes nothing.
use Rattle.std.specs.Prelude.{List, ℕ, ◌+◌}
use Rattle.std.proofs.Math.Option.{Option}
use Rattle.definitions.specs.Bounded.{or_else, first_below}
use Rattle.definitions.specs.Answer.{Refusal}
use Rattle.definitions.specs.Image.{line_blocks, sites_block}
use Rattle.definitions.specs.ReadModel.{lines_fault, box_fault, left_over_fault}

-- the first fault of a box's lines, from block k on; of so many boxes, and of what is left over
unfoldable pub lines_faults : List ℕ → ℕ → ℕ → Option Refusal
lines_faults image b k = first_below (line_blocks 4 image k) (λ j. lines_fault image (k + j) b j)

unfoldable pub boxes_fault : List ℕ → ℕ → Option Refusal
boxes_fault image boxes = or_else (first_below boxes (box_fault image)) (left_over_fault image (sites_block image boxes))
