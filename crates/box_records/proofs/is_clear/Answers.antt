-- `box_records::is_clear` meets its contract. Assumes nothing.
use Rattle.std.proofs.Common.{rules, arith}
use Rattle.std.proofs.iter.runs.Made.{chains}
use Rattle.box_records.proofs.WordLaws.{runs_some}
use Rattle.box_records.proofs.is_clear.Goals as goal

pub returns-else-all : goal.returns-else-all
returns-else-all c = runs_some _ _ _ c.requires.start (omega (arith, c.requires.end, c.told-r)) _ (search (rules, chains)) c.if-all.false
