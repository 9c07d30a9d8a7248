-- `box_runs::box_sites` meets its contract. Assumes nothing.
use Rattle.box_runs.proofs.Runs.{SiteRun}
use Rattle.box_runs.proofs.box_sites.Given as goal

abbrev pub invariant-loop-i : goal.invariant-loop-i
invariant-loop-i l = SiteRun l.image l.b l.n l.i l.seen
