-- `box_runs::box_lines` meets its contract. Assumes nothing.
use Rattle.definitions.specs.Image.{model_of}
use Rattle.box_runs.specs.Runs.{line_fit}
use Rattle.box_runs.proofs.Runs.{RecordsFit}
use Rattle.box_runs.proofs.box_lines.Given as goal

abbrev pub invariant-loop-i : goal.invariant-loop-i
invariant-loop-i l = RecordsFit 7 l.lines.n (line_fit (model_of l.lines.image.now)) l.b l.i
