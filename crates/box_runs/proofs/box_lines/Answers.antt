-- `box_runs::box_lines` meets its contract. Assumes nothing.
use Rattle.std.proofs.Common.{arith}
use Rattle.box_runs.proofs.Runs.{line-turn, runs}
use Rattle.box_runs.proofs.box_lines.Goals as goal

pub loop-i-init : goal.loop-i-init
loop-i-init c = search runs

pub loop-i-preserved : goal.loop-i-preserved
loop-i-preserved c =
    line-turn _ _ _ _ _ _ _ _ _ _ _ c.loop-i.invariant c.requires.lines (omega arith)
    c.line.ensures c.requires.kinds c.line_fits-fits.ensures c.in_ok-fault_if.ensures
