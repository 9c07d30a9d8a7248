-- `sets::contains` meets its contract: one digit by its mask; a word of 64 digits has none from 64 on. Assumes nothing.
use Rattle.std.proofs.Common.{sym}
use Rattle.definitions.proofs.Sets.{has_above, has_bit}
use Rattle.sets.proofs.contains.Goals as goal

pub returns-then-n-lt64 : goal.returns-then-n-lt64
returns-then-n-lt64 c = has_bit c.args.s c.args.n.0

pub returns-else-n-lt64 : goal.returns-else-n-lt64
returns-else-n-lt64 c =
    sym (has_above 64 c.args.s c.args.n.0 c.ranges.s.fits c.if-n-lt64.false)
