-- `box_reach::box_reach` meets its contract. Assumes nothing.
use Rattle.box_reach.proofs.ReachLaws.{ReachRun}
use Rattle.box_reach.proofs.box_reach.Given as goal

abbrev pub invariant-loop-i : goal.invariant-loop-i
invariant-loop-i l = ReachRun l.lines.image.now l.b l.lines.k l.lines.n l.i l.seen l.up
