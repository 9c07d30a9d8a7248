-- `layouts::kind_sets` meets its contract. Assumes nothing.
use Rattle.layouts.specs.Layouts.{KindSetsOf}
use Rattle.layouts.proofs.kind_sets.Given as goal

abbrev pub invariant-loop-n : goal.invariant-loop-n
invariant-loop-n l = KindSetsOf l.head l.n l.s
