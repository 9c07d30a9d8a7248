-- `runs::run_each` meets its contract. Assumes nothing.
use Rattle.std.specs.Prelude.{map}
use Rattle.runs.proofs.Fold.{MovesRun}
use Rattle.runs.proofs.run_each.Given as goal

abbrev pub invariant-loop-i : goal.invariant-loop-i
invariant-loop-i g l = MovesRun l.model (map g.T.Listed.as_move l.moves) l.initial.state l.initial.answers l.read l.i l.state l.answers
