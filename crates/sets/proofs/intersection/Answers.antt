-- `sets::intersection` meets its contract: the digits of `s & t`. Assumes nothing.
use Rattle.definitions.proofs.Sets.{has-and}
use Rattle.sets.proofs.intersection.Goals as goal

pub returns : goal.returns
returns c = has-and c.args.s c.args.t
