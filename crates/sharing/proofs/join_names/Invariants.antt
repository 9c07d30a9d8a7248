-- `sharing::join_names` meets its contract: what the names passed ask is gathered. Assumes nothing.
use Rattle.definitions.specs.Estimate.{estimate_of}
use Rattle.sharing.specs.Shared.{shared_in}
use Rattle.sharing.proofs.Gather.{Gathering}
use Rattle.sharing.proofs.join_names.Given as goal

abbrev pub invariant-loop-c : goal.invariant-loop-c
invariant-loop-c l = Gathering l.s (shared_in (estimate_of l.estimate) l.x l.k) l.w l.c-iterator.0 l.v
