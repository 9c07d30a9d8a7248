-- `start::write` meets its contract. Assumes nothing.
use Rattle.std.proofs.Common.{arith}
use Rattle.start.proofs.StartLaws.{records_start, record_clear, records_turn, records_end}
use Rattle.start.proofs.write.Goals as goal

pub loop-b-init : goal.loop-b-init
loop-b-init c = records_start _ _ _ _ c.args.m.now.read c.args.m.now.of c.requires.long (c.fill.ensures.after (λ y e. e))

pub start_record-requires-clause-clear : goal.start_record-requires-clause-clear
start_record-requires-clause-clear c =
    record_clear _ _ _ _ c.loop-b.invariant (omega arith) _ _ c.first_record.ensures.value c.split_at_mut-words.ensures.back

pub loop-b-preserved : goal.loop-b-preserved
loop-b-preserved c =
    records_turn _ _ _ _ c.loop-b.invariant (omega arith) _ _ _ c.split_at_mut-words.ensures.front c.split_at_mut-words.ensures.back c.start_record.ensures

pub returns : goal.returns
returns c = records_end _ _ _ _ c.loop-b.invariant (omega arith)
