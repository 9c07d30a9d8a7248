-- What the code's answer says, as the definitions have it: none, or the first broken clause. Assumes nothing.
use Rattle.std.proofs.Math.Option.{Option, none, some}
use Rattle.std.specs.Prelude.{Result, Ok, Err}
use Rattle.definitions.specs.Clauses as clauses
use Rattle.record_clauses.specs.declared.Broken.{Broken}

-- a broken clause: its number, its box, its record and the name that is missing
abbrev pub broken_in : Broken → clauses.Broken
broken_in x = clauses.broken x.clause x.boxno x.place x.name.0

abbrev pub found_in : Result (Unit {0}) Broken → Option clauses.Broken
found_in (Ok _) = none
found_in (Err x) = some (broken_in x)
