-- `box_reach::box_reach` meets its contract. Assumes nothing.
use Rattle.std.proofs.Common.{arith}
use Rattle.box_reach.proofs.ReachLaws.{reach, reach-turn}
use Rattle.box_reach.proofs.box_reach.Goals as goal

pub loop-i-init : goal.loop-i-init
loop-i-init c = search reach

pub loop-i-preserved : goal.loop-i-preserved
loop-i-preserved c =
    reach-turn _ _ _ _ _ _ _ _ _ _ c.loop-i.invariant c.requires.lines (omega arith) c.line-l.ensures c.requires.trees c.requires.unbound
    c.reach_fits-fits.ensures _ _ _ _ c.in_ok-fault_if.ensures c.binder-bs.ensures c.union-here.ensures c.set_at_children.ensures c.union-seen.ensures

pub returns : goal.returns
returns c = search reach
