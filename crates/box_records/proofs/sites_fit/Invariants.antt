-- `box_records::sites_fit` meets its contract. Assumes nothing.
use Rattle.box_records.proofs.SiteLaws.{SitesRun}
use Rattle.box_records.proofs.sites_fit.Given as goal

abbrev pub invariant-loop-i : goal.invariant-loop-i
invariant-loop-i l = SitesRun l.rules.limits.now l.rules.subjects l.r l.n l.i l.ok
