-- `model_rules::sites_pass` meets its contract. Assumes nothing.
use Rattle.model_rules.proofs.PassLaws.{SitesPass}
use Rattle.model_rules.proofs.sites_pass.Given as goal

abbrev pub invariant-loop-b : goal.invariant-loop-b
invariant-loop-b l = SitesPass l.m.image.now l.m.layout.boxes l.b l.used
