-- `box_records::bindings` meets its contract. Assumes nothing.
use Rattle.definitions.specs.Record.{thread}
use Rattle.box_records.proofs.ThreadLaws.{CountRun}
use Rattle.box_records.proofs.bindings.Given as goal

abbrev pub invariant-loop-v : goal.invariant-loop-v
invariant-loop-v l = CountRun (thread l.r l.t) l.v-index l.c
