-- `making::inside::turn` meets its contract. Assumes nothing.
use native.Mathlib.Omega.{arith}
use Rattle.making.proofs.Steps.{turn_site, turn_edits}
use Rattle.making.proofs.inside.turn.Goals as goal

pub set_flag-requires : goal.set_flag-requires
set_flag-requires c =
    omega (arith, c.requires.turns.goes.slot, turn_site c.requires.turns _ _ c.value-v.ensures c.site_with.ensures _ c.unwrap-i.ensures)

pub returns : goal.returns
returns c = turn_edits c.requires.turns _ _ c.value-v.ensures c.site_with.ensures _ c.unwrap-i.ensures _ c.set_line.ensures _ c.set_flag.ensures
