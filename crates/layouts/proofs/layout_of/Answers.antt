-- `layouts::layout_of` meets its contract. Assumes nothing.
use Rattle.std.proofs.Common.{rules}
use Rattle.layouts.proofs.BoundLaws.{bound_start}
use Rattle.layouts.proofs.layout_of.Goals as goal

pub loop-place-init : goal.loop-place-init
loop-place-init c = bound_start _ _ c.args.right.right c.frame_of-frame.ensures (search rules)
