-- `estimate::tables::each_box`: the boxes passed have no refusal. Assumes nothing.
use Rattle.definitions.proofs.Loops.{Passed}
use Rattle.estimate.specs.Blocks.{box_tables_fault}
use Rattle.estimate.proofs.tables.each_box.Given as goal

abbrev pub invariant-loop-b : goal.invariant-loop-b
invariant-loop-b l = Passed l.boxes (box_tables_fault l.image l.names) l.b
