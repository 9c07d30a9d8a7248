-- `model_walk::walk_boxes` meets its contract. Assumes nothing.
use Rattle.model_walk.proofs.BoxWalks.{BoxWalk}
use Rattle.model_walk.proofs.walk_boxes.Given as goal

abbrev pub invariant-loop-place : goal.invariant-loop-place
invariant-loop-place l = BoxWalk l.image l.frame.boxes l.place-index l.used l.seen l.bad l.place-items
