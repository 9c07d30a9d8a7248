-- `model_rules::reach_pass` meets its contract. Assumes nothing.
use Rattle.model_rules.proofs.PassLaws.{ReachPass}
use Rattle.model_rules.proofs.reach_pass.Given as goal

abbrev pub invariant-loop-b : goal.invariant-loop-b
invariant-loop-b l = ReachPass l.m.image.now l.m.layout.boxes l.b l.bound
