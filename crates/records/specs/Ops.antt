-- The number of each operation. Assumes nothing.
use Rattle.std.specs.Prelude.{◌≡◌, ℕ, ◌<◌, Result, MatchResult}
use Rattle.definitions.specs.Model as model
use Rattle.records.specs.declared.Op.{Op}
use Rattle.records.specs.declared.UnknownOp.{UnknownOp}
use Rattle.records.specs.declared.Op.TheVariants.{Nil, Parallel, Replication, Restriction, Output, Input, Expose, Hide, Unhide}

-- the number of an operation
abbrev pub op_number : Op → ℕ
op_number Nil = model.nil
op_number Parallel = model.parallel
op_number Replication = model.replication
op_number Restriction = model.restriction
op_number Output = model.output
op_number Input = model.input
op_number Expose = model.expose
op_number Hide = model.hide
op_number Unhide = model.unhide

-- the operation of a number, if it is one
abbrev pub OpOf : ℕ → Result Op UnknownOp → Type 0
OpOf n r = MatchResult r (λ o. op_number o ≡ n) (λ e. model.unhide < n)
