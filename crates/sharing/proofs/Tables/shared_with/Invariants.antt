-- `sharing::Tables::shared_with` meets its contract: what the boxes passed ask is gathered. Assumes nothing.
use Rattle.definitions.specs.Estimate.{estimate_of}
use Rattle.sharing.specs.Shared.{shared_by_other}
use Rattle.sharing.proofs.Gather.{Through}
use Rattle.sharing.proofs.Tables.shared_with.Given as goal

abbrev pub invariant-loop-k : goal.invariant-loop-k
invariant-loop-k l = Through (shared_by_other (estimate_of l.self.estimate.image.now) l.b l.x) l.k l.w
