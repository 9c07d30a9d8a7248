-- `line_walk::walk_lines` meets its contract. Assumes nothing.
use Rattle.line_walk.proofs.Walks.{walks}
use Rattle.line_walk.proofs.walk_lines.Goals as goal

pub loop-i-init : goal.loop-i-init
loop-i-init c = search walks

pub loop-i-preserved : goal.loop-i-preserved
loop-i-preserved c = search walks

pub returns : goal.returns
returns c = search walks
