-- The moves of a lent list, and those of a list of numbers. Assumes nothing.
use Rattle.std.specs.Prelude.{List, map, ℕ, ◌+◌, ◌*◌, ◌/◌, length}
use Rattle.definitions.specs.Bounded.{tabulate}
use Rattle.definitions.specs.Slots.{word}
use Rattle.definitions.specs.Moves as moves
use Rattle.state.specs.declared.moves.Move.{Move}
use Rattle.state.specs.Moves.{move_in}

-- the moves of a lent list
abbrev pub moves_in : List Move → List moves.Move
moves_in ms = map move_in ms

-- the moves of a list of numbers, five a move; fewer than five at its end are no move
unfoldable pub move_at : List ℕ → ℕ → Move
move_at numbers i = record {
  kind = word numbers (5 * i);
  boxno = word numbers (5 * i + 1);
  thread = word numbers (5 * i + 2);
  boxno2 = word numbers (5 * i + 3);
  thread2 = word numbers (5 * i + 4);
}

unfoldable pub moves_of : List ℕ → List Move
moves_of numbers = tabulate (length numbers / 5) (move_at numbers)
