-- `sharing::sent_most` meets its contract. Assumes nothing.
use Rattle.definitions.specs.Estimate.{estimate_of}
use Rattle.sharing.proofs.Gather.{Meeting}
use Rattle.sharing.proofs.sent_most.Given as goal

abbrev pub invariant-loop-a : goal.invariant-loop-a
invariant-loop-a l = Meeting (estimate_of l.estimate) l.b l.s l.a-iterator.0 l.w
