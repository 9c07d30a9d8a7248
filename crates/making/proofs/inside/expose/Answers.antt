-- `making::inside::expose` meets its contract. Assumes nothing.
use Rattle.making.proofs.Steps.{expose_edits}
use Rattle.making.proofs.inside.expose.Goals as goal

pub returns : goal.returns
returns c =
    expose_edits c.requires.stamps _ c.stamp-s.ensures _ c.stamped-v.ensures _ c.requires.room _ c.append_site.ensures _ c.set_stamp.ensures _
    c.bind.ensures _ c.set_line.ensures
