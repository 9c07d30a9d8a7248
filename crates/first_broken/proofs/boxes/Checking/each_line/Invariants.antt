-- `first_broken::boxes::Checking::each_line` meets its contract. Assumes nothing.
use Rattle.definitions.specs.Image.{lines_of, model_of}
use Rattle.definitions.specs.Estimate.{estimate_of}
use Rattle.definitions.specs.Clauses.{line_broken}
use Rattle.definitions.proofs.Loops.{Passed}
use Rattle.sharing.specs.Shared.{GatheredOf}
use Rattle.first_broken.proofs.boxes.Checking.each_line.Given as goal

abbrev pub invariant-loop-j : goal.invariant-loop-j
invariant-loop-j l = record {
  passed : Passed (lines_of l.self.model.image.now l.b) (line_broken (model_of l.self.model.image.now) (estimate_of l.self.tables.estimate.image.now) l.b) l.j;
  gathered : GatheredOf (estimate_of l.self.tables.estimate.image.now) l.self.tables.estimate.boxes l.b l.g;
}
