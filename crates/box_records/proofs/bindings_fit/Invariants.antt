-- `box_records::bindings_fit` meets its contract. Assumes nothing.
use Rattle.definitions.specs.Record.{thread}
use Rattle.box_records.proofs.ThreadLaws.{BindingsRun}
use Rattle.box_records.proofs.bindings_fit.Given as goal

abbrev pub invariant-loop-n : goal.invariant-loop-n
invariant-loop-n l = BindingsRun l.limits (thread l.r l.t) l.above l.n-iterator.0 l.ok
