-- `sets::union` meets its contract: the digits of `a | b`. Assumes nothing.
use Rattle.definitions.proofs.Sets.{has-or}
use Rattle.sets.proofs.union.Goals as goal

pub returns : goal.returns
returns c = has-or c.args.a c.args.b
