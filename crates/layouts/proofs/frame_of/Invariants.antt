-- `layouts::frame_of` meets its contract. Assumes nothing.
use Rattle.layouts.proofs.LayoutLaws.{FrameSoFar}
use Rattle.layouts.proofs.frame_of.Given as goal

abbrev pub invariant-loop-place : goal.invariant-loop-place
invariant-loop-place l = FrameSoFar l.blocks.image.now l.boxes l.place-index l.k l.place-items
