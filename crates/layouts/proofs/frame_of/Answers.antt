-- `layouts::frame_of` meets its contract. Assumes nothing.
use Rattle.std.proofs.Common.{◌≤◌, arith, length-take}
use Rattle.layouts.proofs.LayoutLaws.{word_of_head, kinds_of_head, boxes_few, frame_start, frame_end}
use Rattle.layouts.proofs.frame_of.Goals as goal

pub slice_bounds-each-end : goal.slice_bounds-each-end
slice_bounds-each-end c = boxes_few _ c.args.right.right _ (word_of_head _ _ _ _ c.block-head.ensures c.data_word-boxes.ensures)

pub loop-place-init : goal.loop-place-init
loop-place-init c =
    let boxes = word_of_head _ _ _ _ c.block-head.ensures c.data_word-boxes.ensures in
    let few : c.data_word-boxes.result ≤ 8 = boxes_few _ c.args.right.right _ boxes in
    frame_start _ _ _ c.args.right.right boxes (simp length-take (omega arith))

pub returns : goal.returns
returns c = frame_end _ _ _ _ _ _ _ _ c.loop-place.invariant (omega (arith, c.loop-place.invariant.long)) (word_of_head _ _ _ _ c.block-head.ensures c.data_word-names.ensures)
    (kinds_of_head _ _ _ _ c.block-head.ensures c.kind_sets-kinds.ensures)
