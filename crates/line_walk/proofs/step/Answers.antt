-- `line_walk::step` meets its contract. Assumes nothing.
use Rattle.line_walk.proofs.Steps.{steps}
use Rattle.line_walk.proofs.step.Goals as goal

pub returns : goal.returns
returns c = search steps
