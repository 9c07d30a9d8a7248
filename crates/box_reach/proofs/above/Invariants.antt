-- `box_reach::above` meets its contract. Assumes nothing.
use Rattle.box_reach.specs.Reach.{HandedDownEach}
use Rattle.box_reach.proofs.above.Given as goal

abbrev pub invariant-loop-i : goal.invariant-loop-i
invariant-loop-i l = HandedDownEach l.lines.image.now l.lines.k l.i l.up
