-- `clause_walk::outputs_pass` meets its contract. Assumes nothing.
use Rattle.std.proofs.Common.{get_or}
use Rattle.definitions.specs.Estimate.{estimate_of}
use Rattle.sets.proofs.Walk.{EachLeft}
use Rattle.sharing.specs.Shared.{may_send, GatheredOf}
use Rattle.clause_walk.proofs.outputs_pass.Given as goal

abbrev pub invariant-loop-p : goal.invariant-loop-p
invariant-loop-p l = record {
  passed : EachLeft (λ p. may_send (estimate_of l.e.image.now) l.b ((estimate_of l.e.image.now).rho p) (get_or l.sent p 0)) l.on l.p-iterator.0;
  gathered : GatheredOf (estimate_of l.e.image.now) l.e.boxes l.b l.g;
}
