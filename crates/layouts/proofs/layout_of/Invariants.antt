-- `layouts::layout_of` meets its contract. Assumes nothing.
use Rattle.layouts.proofs.BoundLaws.{BoundSoFar}
use Rattle.layouts.proofs.layout_of.Given as goal

abbrev pub invariant-loop-place : goal.invariant-loop-place
invariant-loop-place l = BoundSoFar l.image l.frame.boxes l.place-index l.place-items
