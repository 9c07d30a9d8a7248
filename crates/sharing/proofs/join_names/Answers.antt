-- `sharing::join_names` meets its contract: what the names passed ask is gathered. Assumes nothing.
use Rattle.sharing.proofs.Gather.{gathering_turn, name_in, name_out, names_stop}
use Rattle.sharing.proofs.join_names.Goals as goal

pub returns-then-is_subset : goal.returns-then-is_subset
returns-then-is_subset c = names_stop _ _ _ _ _ _ _ c.loop-c.invariant _ _ c.requires.all c.is_subset.ensures c.if-is_subset.true

pub loop-c-preserved-then-intersects : goal.loop-c-preserved-then-intersects
loop-c-preserved-then-intersects c =
    gathering_turn _ _ _ _ _ c.loop-c.invariant _ _ _ c.in-Some.ensures.steps
    (name_in _ _ _ _ _ _ _ c.intersects.ensures c.eps.ensures _ _ c.if-intersects.true c.union-v.ensures c.kap.ensures)

pub loop-c-preserved : goal.loop-c-preserved
loop-c-preserved c =
    gathering_turn _ _ _ _ _ c.loop-c.invariant _ _ _ c.in-Some.ensures.steps
    (name_out _ _ _ _ _ _ _ c.intersects.ensures c.eps.ensures c.if-intersects.false)
