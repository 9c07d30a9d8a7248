-- `sets::lowest` meets its contract: the zeros below the lowest set digit are counted. The cast is of a count of
-- zeros at either end, so that a count at the wrong end fails at the answer. Assumes nothing.
use Rattle.std.proofs.Common.{arith}
use lib.Count.{trailing_le, leading_le}
use Rattle.sets.proofs.Walk.{lowest-word}
use Rattle.sets.proofs.lowest.Goals as goal

pub overflow_cast-result : goal.overflow_cast-result
overflow_cast-result c = omega (arith, trailing_le 64 c.args.s, leading_le 64 c.args.s)

pub returns-else-s-eq0 : goal.returns-else-s-eq0
returns-else-s-eq0 c = (omega (arith, c.if-s-eq0.false), lowest-word c.args.s c.ranges.s.fits)
