-- The outcome of a move inside one box, by the number of its kind. Assumes nothing.
use Rattle.std.specs.Prelude.{List, ℕ}
use Rattle.definitions.specs.Model.{Box}
use Rattle.definitions.specs.Moves.{Kind, inside, inter, unknown, kind_of_move, Outcome, refused, inside_move}

-- kinds 1 to 8 are moves of a box; others are not made there
abbrev pub inside_as : List ℕ → Box → List ℕ → Kind → ℕ → ℕ → Outcome (List ℕ)
inside_as kinds x r (inside k) t u = inside_move kinds x r k t u
inside_as kinds x r inter t u = refused 12
inside_as kinds x r unknown t u = refused 12

unfoldable pub inside_outcome : List ℕ → Box → List ℕ → ℕ → ℕ → ℕ → Outcome (List ℕ)
inside_outcome kinds x r kind t u = inside_as kinds x r (kind_of_move kind) t u
