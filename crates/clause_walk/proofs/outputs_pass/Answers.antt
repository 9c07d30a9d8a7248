-- `clause_walk::outputs_pass` meets its contract. Assumes nothing.
use Rattle.sets.proofs.Walk.{each_start}
use Rattle.clauses.proofs.Members.{left_62, names_rho, boxed}
use Rattle.sharing.proofs.Gather.{nothing_of}
use Rattle.clause_walk.proofs.Shows.{channel_stop, channel_turn, most_as}
use Rattle.clause_walk.proofs.outputs_pass.Goals as goal

pub loop-p-init : goal.loop-p-init
loop-p-init c = record {
  passed = rw c.into_iter-p-iterator.ensures.into_iter_gives (each_start _ _ c.ranges.on.fits);
  gathered = nothing_of _ _ _ _ c.nothing-g.ensures;
}

pub for_outputs-g-requires-clause-names : goal.for_outputs-g-requires-clause-names
for_outputs-g-requires-clause-names c =
    names_rho _ _ _ _ (boxed _ _ _ c.args.e.known c.requires.box_in) (left_62 _ _ _ _ c.requires.names c.loop-p.invariant.passed.there c.in-Some.ensures.steps) c.rho.ensures

pub returns-then-not-is_subset : goal.returns-then-not-is_subset
returns-then-not-is_subset c =
    channel_stop _ _ _ _ _ _ c.loop-p.invariant.passed c.in-Some.ensures.steps
    (most_as _ _ _ _ _ _ _ _ _ c.for_outputs-g.ensures.gathered c.for_outputs-g.ensures.out c.rho.ensures c.from.ensures c.is_subset.ensures)
    c.if-not-is_subset.true

pub loop-p-preserved : goal.loop-p-preserved
loop-p-preserved c = record {
  passed =
      channel_turn _ _ _ _ _ _ c.loop-p.invariant.passed c.in-Some.ensures.steps
      (most_as _ _ _ _ _ _ _ _ _ c.for_outputs-g.ensures.gathered c.for_outputs-g.ensures.out c.rho.ensures c.from.ensures c.is_subset.ensures)
      c.if-not-is_subset.false;
  gathered = c.for_outputs-g.ensures.gathered;
}
