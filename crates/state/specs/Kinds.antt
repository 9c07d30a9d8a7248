-- The number of each kind of move. Assumes nothing.
use Rattle.std.specs.Prelude.{◌≡◌, ℕ, Result, MatchResult}
use Rattle.definitions.specs.Moves.{kind_of_move, unknown}
use Rattle.state.specs.declared.kinds.Kind.{Kind}
use Rattle.state.specs.declared.kinds.UnknownKind.{UnknownKind}
use Rattle.state.specs.declared.kinds.Kind.TheVariants.{Drop, Spread, New, Copy, Expose, Hide, Unhide, Intra, Inter}

abbrev pub kind_number : Kind → ℕ
kind_number Drop = 1
kind_number Spread = 2
kind_number New = 3
kind_number Copy = 4
kind_number Expose = 5
kind_number Hide = 6
kind_number Unhide = 7
kind_number Intra = 8
kind_number Inter = 9

-- the kind of a number, if it is one
abbrev pub KindOf : ℕ → Result Kind UnknownKind → Type 0
KindOf n r = MatchResult r (λ k. kind_number k ≡ n) (λ e. kind_of_move n ≡ unknown)
