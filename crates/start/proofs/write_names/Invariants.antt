-- `start::write_names` meets its contract. Assumes nothing.
use Rattle.std.specs.Iterator.Adapters.{enumerate_source, enumerate_count}
use Rattle.start.proofs.StartLaws.{NamesWritten}
use Rattle.start.proofs.write_names.Given as goal

abbrev pub invariant-loop-i : goal.invariant-loop-i
invariant-loop-i l = NamesWritten l.names (enumerate_source l.i-iterator).0 (enumerate_count l.i-iterator) l.words
