-- `held_limits::stamps_fit` meets its contract. Assumes nothing.
use Rattle.std.proofs.Common.{arith}
use Rattle.definitions.proofs.Loops.{joining_start, joining_turn}
use Rattle.held_limits.proofs.LimitLaws.{last_test}
use Rattle.held_limits.proofs.stamps_fit.Goals as goal

pub loop-b-init : goal.loop-b-init
loop-b-init c = joining_start _ _

pub loop-b-preserved : goal.loop-b-preserved
loop-b-preserved c = joining_turn _ _ _ _ _ c.loop-b.invariant (omega arith) (last_test _ _ _ _ c.stamp_fits-ok.ensures c.last_stamp.ensures)
