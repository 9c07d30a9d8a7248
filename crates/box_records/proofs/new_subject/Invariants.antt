-- `box_records::new_subject` meets its contract. Assumes nothing.
use Rattle.definitions.proofs.Loops.{Joining}
use Rattle.box_records.specs.Rules.{subjects_differ}
use Rattle.box_records.proofs.new_subject.Given as goal

abbrev pub invariant-loop-j : goal.invariant-loop-j
invariant-loop-j l = Joining l.i (subjects_differ l.r l.i) l.j l.ok
