-- `clauses::at_each` meets its contract: the members left give the answer. Assumes nothing.
use Rattle.clauses.proofs.Each.{EachLeft}
use Rattle.clauses.proofs.at_each.Given as goal

abbrev pub invariant-loop-n : goal.invariant-loop-n
invariant-loop-n g l = EachLeft (goal.F-post g l.f) l.s l.n-iterator.0
