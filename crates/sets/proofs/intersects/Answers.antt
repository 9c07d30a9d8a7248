-- `sets::intersects` meets its contract: the members of `a & b` are those that a and b share. Assumes nothing.
use Rattle.definitions.proofs.Sets.{meets_word}
use Rattle.sets.proofs.intersects.Goals as goal

pub returns : goal.returns
returns c = meets_word c.args.a c.args.b c.ranges.a.fits
