-- `box_records::type_fits` meets its contract. Assumes nothing.
use Rattle.std.proofs.Common.{arith}
use Rattle.box_records.proofs.SiteLaws.{type_start, type_turn, type_end}
use Rattle.box_records.proofs.type_fits.Goals as goal

pub loop-j-init : goal.loop-j-init
loop-j-init c = type_start _ _ _ c.type_word-first.ensures

pub loop-j-preserved : goal.loop-j-preserved
loop-j-preserved c = type_turn _ _ _ _ _ c.loop-j.invariant _ _ (omega arith) c.type_word-v.ensures c.follows-ok.ensures

pub returns : goal.returns
returns c = type_end _ _ _ _ _ c.loop-j.invariant _ _ (omega arith) c.type_word-first.ensures c.held_fits.ensures
