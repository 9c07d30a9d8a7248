-- `held_limits::set_limits` meets its contract. Assumes nothing.
use Rattle.held_limits.proofs.LimitLaws.{LimitsRun}
use Rattle.held_limits.proofs.set_limits.Given as goal

abbrev pub invariant-loop-n : goal.invariant-loop-n
invariant-loop-n l = LimitsRun l.layout l.state l.n l.limit-items
