-- `start::start_record` meets its contract. Assumes nothing.
use Rattle.std.proofs.Common.{arith}
use Rattle.model.proofs.Models.{unrefused_room}
use Rattle.start.proofs.StartLaws.{box_scaled, site-clear, site_names, sites_end}
use Rattle.start.proofs.start_record.Goals as goal

pub offset_bounds-m-b : goal.offset_bounds-m-b
offset_bounds-m-b c = box_scaled _ _ c.args.m.now.read c.args.m.now.of _ c.requires.there

pub bounds-m-b : goal.bounds-m-b
bounds-m-b c = unrefused_room _ _ c.args.m.now.read c.args.m.now.of _ c.requires.there

pub write_site-requires-clause-clear : goal.write_site-requires-clause-clear
write_site-requires-clause-clear c = site-clear _ _ _ _ _ _ c.loop-i.invariant (omega arith)

pub write_site-requires-clause-site : goal.write_site-requires-clause-site
write_site-requires-clause-site c = site_names _ _ _ _ _ _ c.loop-i.invariant (omega arith) _ c.block-block.ensures _ c.site-site.ensures c.args.m.now.read

pub returns : goal.returns
returns c = sites_end _ _ _ _ _ _ c.loop-i.invariant (omega arith)
