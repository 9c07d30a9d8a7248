-- `sharing::sent_most` meets its contract. Assumes nothing.
use Rattle.sharing.proofs.Gather.{meeting-start, meeting-turn}
use Rattle.sharing.proofs.sent_most.Goals as goal

pub loop-a-init : goal.loop-a-init
loop-a-init c = rw c.into_iter-a-iterator.ensures.into_iter_gives (meeting-start _ _ _ c.ranges.s.fits)

pub loop-a-preserved : goal.loop-a-preserved
loop-a-preserved c = meeting-turn _ _ _ _ _ c.loop-a.invariant _ _ _ _ c.in-Some.ensures.steps c.intersection-w.ensures c.kap.ensures
