-- `start::write_names` meets its contract. Assumes nothing.
use Rattle.std.proofs.Common.{arith}
use Rattle.start.proofs.StartLaws.{names_start, names_turn}
use Rattle.start.proofs.write_names.Goals as goal

pub loop-i-init : goal.loop-i-init
loop-i-init c =
    rw c.into_iter-i-iterator.ensures.into_iter_gives
    rw c.enumerate-i-items.ensures.source
    rw c.enumerate-i-items.ensures.count (names_start _ _ (omega arith) c.requires.clear c.requires.names)

pub loop-i-preserved : goal.loop-i-preserved
loop-i-preserved c =
    rw c.in-Some.ensures.steps.2
    rw c.in-Some.ensures.steps.1
    (names_turn _ _ _ _ c.loop-i.invariant _ _ c.in-Some.ensures.steps.0 _ c.stamped.ensures)
