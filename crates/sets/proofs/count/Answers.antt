-- `sets::count` meets its contract: the set digits, counted. Assumes nothing.
use Rattle.definitions.proofs.Sets.{size_word}
use Rattle.sets.proofs.count.Goals as goal

pub returns : goal.returns
returns c = size_word c.args.s c.ranges.s.fits
