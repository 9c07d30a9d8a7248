-- `state::edits::insert_name` meets its contract. Assumes nothing.
use Rattle.state.proofs.Inserts.{Inserting}
use Rattle.state.proofs.edits.insert_name.Given as goal

abbrev pub invariant-loop-word : goal.invariant-loop-word
invariant-loop-word l = Inserting l.initial.word-items l.initial.x l.word-index l.x l.word-items
