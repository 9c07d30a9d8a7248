-- `clause_walk::list_passes` meets its contract. Assumes nothing.
use Rattle.definitions.specs.Estimate.{estimate_of}
use Rattle.sharing.specs.Shared.{GatheredOf}
use Rattle.clause_walk.proofs.Shows.{ListPassed}
use Rattle.clause_walk.proofs.list_passes.Given as goal

abbrev pub invariant-loop-i : goal.invariant-loop-i
invariant-loop-i l = record {
  passed : ListPassed l.named.lines.image.now (estimate_of l.t.estimate.image.now) l.t.estimate.boxes l.b l.named.lines.k l.listed l.i-index;
  gathered : GatheredOf (estimate_of l.t.estimate.image.now) l.t.estimate.boxes l.b l.g;
}
