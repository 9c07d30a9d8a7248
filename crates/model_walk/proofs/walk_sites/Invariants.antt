-- `model_walk::walk_sites` meets its contract. Assumes nothing.
use Rattle.model_walk.proofs.SiteWalks.{SiteWalk}
use Rattle.model_walk.proofs.walk_sites.Given as goal

abbrev pub invariant-loop-i : goal.invariant-loop-i
invariant-loop-i l = SiteWalk l.image l.k l.n l.free l.start l.i l.bad l.used
