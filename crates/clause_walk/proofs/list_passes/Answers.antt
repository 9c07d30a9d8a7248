-- `clause_walk::list_passes` meets its contract. Assumes nothing.
use Rattle.sharing.proofs.Gather.{nothing_of}
use Rattle.clause_walk.proofs.Shows.{list_start}
use Rattle.clause_walk.proofs.list_passes.Goals as goal

pub loop-i-init : goal.loop-i-init
loop-i-init c = record { passed = list_start _ _ _ _ _ _; gathered = nothing_of _ _ _ _ c.nothing-g.ensures }
