-- `line_walk::children_wrong` meets its contract. Assumes nothing.
use Rattle.line_walk.proofs.Steps.{steps}
use Rattle.line_walk.proofs.children_wrong.Goals as goal

pub returns : goal.returns
returns c = search steps
