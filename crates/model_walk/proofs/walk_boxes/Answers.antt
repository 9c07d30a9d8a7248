-- `model_walk::walk_boxes` meets its contract. Assumes nothing.
use Rattle.std.proofs.Common.{rules}
use Rattle.model_walk.proofs.BoxWalks.{boxes_start, boxes_turn, boxes_end, told_if}
use Rattle.model_walk.proofs.walk_boxes.Goals as goal

pub loop-place-init : goal.loop-place-init
loop-place-init c = boxes_start _ _ c.requires.blocks c.requires.frame (search rules)

pub loop-place-preserved : goal.loop-place-preserved
loop-place-preserved c = boxes_turn _ _ c.requires.blocks c.requires.frame _ _ c.loop-place.invariant.places c.loop-place-test.true _ _ _ c.loop-place.invariant _ _ _ _ _ _
    c.walk_sites-s.ensures c.walk_lines-w.ensures c.complement.ensures c.intersection-place.ensures

pub returns : goal.returns
returns c = told_if _ _ _ _ c.then_some.ensures (boxes_end _ _ c.requires.blocks c.requires.frame _ _ _ _ _ _ c.loop-place.invariant (search rules) c.loop-place-test.false)
