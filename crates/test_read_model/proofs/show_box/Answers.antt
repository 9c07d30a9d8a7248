-- A box has its place in the layout. Assumes nothing.
use Rattle.std.proofs.Common.{arith}
use Rattle.model.proofs.Models.{unrefused_room}
use Rattle.test_read_model.proofs.show_box.Goals as goal

pub bounds-m-b : goal.bounds-m-b
bounds-m-b g c = unrefused_room _ _ c.args.m.now.read c.args.m.now.of _ c.requires

pub offset_bounds-m-b : goal.offset_bounds-m-b
offset_bounds-m-b g c = let room = unrefused_room _ _ c.args.m.now.read c.args.m.now.of _ c.requires in omega arith
