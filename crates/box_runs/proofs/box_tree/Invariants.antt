-- `box_runs::box_tree` meets its contract. Assumes nothing.
use Rattle.box_runs.proofs.Runs.{TreeRun}
use Rattle.box_runs.proofs.box_tree.Given as goal

abbrev pub invariant-loop-i : goal.invariant-loop-i
invariant-loop-i l = TreeRun l.lines.image.now l.b l.lines.k l.lines.n l.i l.seen
