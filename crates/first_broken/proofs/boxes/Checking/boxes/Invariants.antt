-- `first_broken::boxes::Checking::boxes` meets its contract: the boxes passed break nothing. Assumes nothing.
use Rattle.definitions.specs.Image.{boxes_of, model_of}
use Rattle.definitions.specs.Estimate.{estimate_of}
use Rattle.definitions.specs.Clauses.{box_broken}
use Rattle.definitions.proofs.Loops.{Passed}
use Rattle.first_broken.proofs.boxes.Checking.boxes.Given as goal

abbrev pub invariant-loop-b : goal.invariant-loop-b
invariant-loop-b l = Passed (boxes_of l.self.model.image.now) (box_broken (model_of l.self.model.image.now) (estimate_of l.self.tables.estimate.image.now)) l.b
