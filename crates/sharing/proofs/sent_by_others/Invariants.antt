-- `sharing::sent_by_others` meets its contract: what the boxes passed may send is gathered. Assumes nothing.
use Rattle.definitions.specs.Estimate.{estimate_of}
use Rattle.sharing.specs.Shared.{sent_by_other}
use Rattle.sharing.proofs.Gather.{Through}
use Rattle.sharing.proofs.sent_by_others.Given as goal

abbrev pub invariant-loop-k : goal.invariant-loop-k
invariant-loop-k l = Through (sent_by_other (estimate_of l.e.image.now) l.b) l.k l.w
