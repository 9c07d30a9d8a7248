-- An answer of the code in the definitions' terms. Assumes nothing.
use Rattle.std.specs.Prelude as code
use Rattle.std.specs.Prelude.{Some, None}
use Rattle.std.proofs.Math.Option.{Option, none, some}

abbrev pub option_in : {A : Type 0} → code.Option A → Option A
option_in None = none
option_in (Some a) = some a
