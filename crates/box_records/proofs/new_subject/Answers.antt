-- `box_records::new_subject` meets its contract. Assumes nothing.
use Rattle.std.proofs.Common.{arith}
use Rattle.definitions.proofs.Loops.{joining_start, joining_turn}
use Rattle.box_records.proofs.SiteLaws.{differ_test}
use Rattle.box_records.proofs.new_subject.Goals as goal

pub loop-j-init : goal.loop-j-init
loop-j-init c = joining_start _ _

pub loop-j-preserved : goal.loop-j-preserved
loop-j-preserved c = joining_turn _ _ _ _ _ c.loop-j.invariant (omega arith) (differ_test _ _ _ _ _ _ c.ne-ok.ensures c.subject.ensures c.subject-s.ensures)
