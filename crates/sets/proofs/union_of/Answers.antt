-- `sets::union_of` meets its contract: what the members passed give is gathered. Assumes nothing.
use Rattle.sets.proofs.Each.{takes_next, union_start, union_turn}
use Rattle.sets.proofs.union_of.Goals as goal

pub loop-n-init : goal.loop-n-init
loop-n-init g c = rw c.into_iter-n-iterator.ensures.into_iter_gives (union_start _ _ c.ranges.s.fits)

pub f-requires : goal.f-requires
f-requires g c = takes_next _ _ _ _ _ c.requires c.loop-n.invariant.there c.in-Some.ensures.steps

pub loop-n-preserved : goal.loop-n-preserved
loop-n-preserved g c = union_turn _ _ _ _ c.loop-n.invariant _ _ _ _ c.in-Some.ensures.steps c.union-v.ensures c.f.ensures
