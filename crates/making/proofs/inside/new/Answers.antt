-- `making::inside::new` meets its contract. Assumes nothing.
use Rattle.making.proofs.Steps.{new_edits}
use Rattle.making.proofs.inside.new.Goals as goal

pub returns : goal.returns
returns c = new_edits c.requires _ c.stamp-s.ensures _ c.stamped-v.ensures _ c.set_stamp.ensures _ c.bind.ensures _ c.set_line.ensures
