-- `state_rules::records_fit` meets its contract. Assumes nothing.
use Rattle.std.proofs.Common.{arith}
use Rattle.definitions.proofs.Loops.{passing_turn, passing_stop}
use Rattle.state_rules.proofs.StateLaws.{used_lines, names_above, record_is}
use Rattle.state_rules.proofs.records_fit.Goals as goal

pub invariant_of-used : goal.invariant_of-used
invariant_of-used c = record { there = used_lines _ _ c.args.m.now.read c.args.m.now.of _ (omega arith) _ _ c.lines_used.ensures }

pub invariant_of-rules : goal.invariant_of-rules
invariant_of-rules c = record {
  names = names_above _ _ c.args.m.now.read c.args.m.now.of _ (omega arith) _ _ c.lines_used.ensures _ c.above.ensures;
}

pub returns-then-not-record_fits : goal.returns-then-not-record_fits
returns-then-not-record_fits c =
    passing_stop _ _ _ _ (omega arith)
    (record_is _ _ _ c.record-r.ensures _ _ _ _ _ _ _ c.args.m.now.read c.args.m.now.of (omega arith) c.requires.limits c.union-subjects.ensures
    c.lines_used.ensures c.above.ensures c.record_fits.ensures)
    c.if-not-record_fits.true

pub loop-b-preserved : goal.loop-b-preserved
loop-b-preserved c =
    passing_turn _ _ _ c.loop-b.invariant
    (record_is _ _ _ c.record-r.ensures _ _ _ _ _ _ _ c.args.m.now.read c.args.m.now.of (omega arith) c.requires.limits c.union-subjects.ensures
    c.lines_used.ensures c.above.ensures c.record_fits.ensures)
    c.if-not-record_fits.false
