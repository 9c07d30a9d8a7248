-- What is known of a line of a model that has been read, and what its clauses ask. Assumes nothing.
use Rattle.std.specs.Prelude.{◌≡◌, Bool, ℕ, ◌<◌, T}
use Rattle.std.proofs.Math.Option.{Option, none}
use Rattle.definitions.specs.Bounded.{◌implies◌, ◌is◌, ◌isnt◌, when, or_else}
use Rattle.definitions.specs.Sets.{has, absent}
use Rattle.definitions.specs.Model.{Site, Line}
use Rattle.definitions.specs.Estimate.{Estimate}
use Rattle.sets.specs.Names.{NamesOnly}

-- the names of a line are below 60, and its type is a set of names
pub record LineOfNames (l : Line) : Type 0 where
  pub first : l.name1 < 60
  pub second : l.name2 < 60
  pub type : NamesOnly l.type

-- a clause that a test may show met: where it passes no name is missing
pub record MetWhere (t : Bool) (o : Option ℕ) : Type 0 where
  pub met : T t → o ≡ none

-- the names that a line may turn, by hide from shown to hidden and by unhide back: where one is in `from` it is in `to`
pub record MayTurn (from to s : ℕ) : Type 0 where
  pub members : (n : ℕ) → n < 64 → has s n ≡ (has from n implies has to n)

-- the subject of a starting site in shown(b) or hidden(b), as its byte says
unfoldable pub on_wall : Estimate → ℕ → Site → Option ℕ
on_wall e b s = or_else (when (s.flag is 0) (absent (e.shown b) s.subject)) (when (s.flag isnt 0) (absent (e.hidden b) s.subject))
