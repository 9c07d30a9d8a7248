-- `sets::union_of` meets its contract: what the members passed give is gathered. Assumes nothing.
use Rattle.sets.proofs.Each.{UnionLeft}
use Rattle.sets.proofs.union_of.Given as goal

abbrev pub invariant-loop-n : goal.invariant-loop-n
invariant-loop-n g l = UnionLeft (goal.F-post g l.f) l.s l.n-iterator.0 l.v
