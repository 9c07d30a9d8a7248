-- `held_limits::stamps_fit` meets its contract. Assumes nothing.
use Rattle.definitions.proofs.Loops.{Joining}
use Rattle.held_limits.specs.Limits.{last_fits}
use Rattle.held_limits.proofs.stamps_fit.Given as goal

abbrev pub invariant-loop-b : goal.invariant-loop-b
invariant-loop-b l = Joining l.boxes (last_fits l.state) l.b l.ok
