-- `clauses::at_each` meets its contract: the members left give the answer. Assumes nothing.
use Rattle.std.proofs.lemmas.Result.{err_from_is_err_and}
use Rattle.sets.proofs.Each.{takes_next}
use Rattle.clauses.proofs.Each.{each_start, each_turn, each_stop}
use Rattle.clauses.proofs.at_each.Goals as goal

pub loop-n-init : goal.loop-n-init
loop-n-init g c = rw c.into_iter-n-iterator.ensures.into_iter_gives (each_start _ _ c.ranges.s.fits)

pub f-requires : goal.f-requires
f-requires g c = takes_next _ _ _ _ _ c.requires c.loop-n.invariant.there c.in-Some.ensures.steps

pub loop-n-preserved : goal.loop-n-preserved
loop-n-preserved g c = each_turn _ _ _ c.loop-n.invariant _ _ c.in-Some.ensures.steps c.in_ok-f.ensures

pub returns-in_err-f : goal.returns-in_err-f
returns-in_err-f g c =
    let p = err_from_is_err_and c.from_residual.result c.from_residual.ensures.1 in
    rw (p.1, p.2) (each_stop _ _ _ c.loop-n.invariant _ _ c.in-Some.ensures.steps _ c.in_err-f.ensures)
