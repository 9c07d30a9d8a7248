-- A move by its five numbers. Assumes nothing.
use Rattle.std.specs.Prelude.{List, get_or, ℕ}
use Rattle.definitions.specs.Moves as moves
use Rattle.state.specs.declared.moves.Move.{Move}
use Rattle.state.specs.declared.moves.Turn.{Turn}

abbrev pub move_of : ℕ → ℕ → ℕ → ℕ → ℕ → moves.Move
move_of kind b t c u = record { kind = kind; box = b; thread = t; box2 = c; thread2 = u }

-- a move by a list of its five numbers
abbrev pub five_in : List ℕ → moves.Move
five_in a = move_of (get_or a 0 0) (get_or a 1 0) (get_or a 2 0) (get_or a 3 0) (get_or a 4 0)

abbrev pub move_in : Move → moves.Move
move_in m = move_of m.kind m.boxno m.thread m.boxno2 m.thread2

abbrev pub turn_in : Turn → moves.Move
turn_in m = move_of m.kind m.b m.t m.c m.u
