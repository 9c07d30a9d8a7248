-- `sets::is_subset` meets its contract: the members of `a & !b` are those of a that b lacks. Assumes nothing.
use Rattle.definitions.proofs.Sets.{within_word}
use Rattle.sets.proofs.is_subset.Goals as goal

pub returns : goal.returns
returns c = within_word c.args.a c.args.b c.ranges.a.fits c.ranges.b.fits
