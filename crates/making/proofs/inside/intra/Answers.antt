-- `making::inside::intra` meets its contract. Assumes nothing.
use Rattle.making.proofs.Steps.{intra_edits}
use Rattle.making.proofs.inside.intra.Goals as goal

pub returns : goal.returns
returns c = intra_edits c.requires _ c.value-v.ensures _ c.bind.ensures _ c.set_line.ensures _ c.set_line-2.ensures
