-- A listed name is below 60. Assumes nothing.
use Rattle.std.proofs.Common.{arith, rules}
use Rattle.test_read_model.proofs.Shown.{name_few}
use Rattle.test_read_model.proofs.show_names.Goals as goal

pub overflow_cast-n : goal.overflow_cast-n
overflow_cast-n g c = let few = name_few _ c.args.m.now.read _ c.args.m.now.of c.loop-n.n-counter (search rules) in omega arith

pub kind-kind-requires-clause-few : goal.kind-kind-requires-clause-few
kind-kind-requires-clause-few g c = name_few _ c.args.m.now.read _ c.args.m.now.of c.loop-n.n-counter (search rules)
