-- `turns::turn` meets its contract. Assumes nothing.
use Rattle.turns.proofs.Acts.{turn-made, turn_keeps}
use Rattle.turns.proofs.turn.Goals as goal

pub make-requires-clause-made : goal.make-requires-clause-made
make-requires-clause-made c = rw c.in_ok-kind.ensures.kind (turn-made c.requires _ c.in_ok-kind.ensures.answer)

pub returns-clause-keeps : goal.returns-clause-keeps
returns-clause-keeps c = turn_keeps c.requires _ _ c.make.ensures
