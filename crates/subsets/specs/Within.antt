-- What the code's answer says, as the definitions have it: none, or the number of the name that is missing. Assumes nothing.
use Rattle.std.proofs.Math.Option.{Option, none, some}
use Rattle.std.specs.Prelude.{ℕ, Result, Ok, Err}
use Rattle.sets.specs.declared.NameNo.{NameNo}

abbrev pub within_in : Result (Unit {0}) NameNo → Option ℕ
within_in (Ok _) = none
within_in (Err n) = some n.0
