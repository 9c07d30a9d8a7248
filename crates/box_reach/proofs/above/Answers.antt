-- `box_reach::above` meets its contract. Assumes nothing.
use Rattle.box_reach.proofs.ReachLaws.{reach}
use Rattle.box_reach.proofs.above.Goals as goal

pub loop-i-init : goal.loop-i-init
loop-i-init c = search reach

pub loop-i-preserved : goal.loop-i-preserved
loop-i-preserved c = search reach
