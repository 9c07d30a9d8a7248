-- `subsets::missing` meets its contract: the lowest member of `a & !b` is the lowest that b lacks. Assumes nothing.
use Rattle.subsets.proofs.Lacking.{lack_none, lack_some}
use Rattle.subsets.proofs.missing.Goals as goal

pub returns-in-Some : goal.returns-in-Some
returns-in-Some c =
    let e = c.in-Some.ensures in lack_some c.args.a c.args.b c.ranges.a.fits c.ranges.b.fits c.in-Some.n.0 e.0 e.1

pub returns-in-None : goal.returns-in-None
returns-in-None c = lack_none c.args.a c.args.b c.ranges.a.fits c.ranges.b.fits c.in-None.ensures
