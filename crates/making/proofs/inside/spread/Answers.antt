-- `making::inside::spread` meets its contract. Assumes nothing.
use Rattle.making.proofs.Steps.{spread_live, spread_room, spread_edits}
use Rattle.making.proofs.inside.spread.Goals as goal

pub append_thread-requires-clause-live : goal.append_thread-requires-clause-live
append_thread-requires-clause-live c = spread_live c.requires _ _ c.set_line.ensures

pub append_thread-requires-clause-room : goal.append_thread-requires-clause-room
append_thread-requires-clause-room c = spread_room c.requires _ _ c.set_line.ensures

pub returns : goal.returns
returns c = spread_edits c.requires _ _ c.set_line.ensures _ _ c.append_thread.ensures
