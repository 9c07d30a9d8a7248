-- `start::write` meets its contract. Assumes nothing.
use Rattle.start.proofs.StartLaws.{RecordsWritten}
use Rattle.start.proofs.write.Given as goal

abbrev pub invariant-loop-b : goal.invariant-loop-b
invariant-loop-b l = RecordsWritten l.m.image.now l.m.layout.boxes l.b l.state
