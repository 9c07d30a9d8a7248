-- `box_records::all_clear` meets its contract. Assumes nothing.
use Rattle.std.proofs.Common.{refl, arith}
use Rattle.definitions.proofs.Loops.{zeros-turn}
use Rattle.box_records.proofs.WordLaws.{clear_end}
use Rattle.box_records.proofs.all_clear.Goals as goal

pub loop-x-preserved : goal.loop-x-preserved
loop-x-preserved c = zeros-turn _ _ _ _ _ _ c.loop-x.invariant (omega arith) refl

pub returns : goal.returns
returns c = clear_end _ _ _ _ _ c.loop-x.invariant (omega arith)
