-- `box_runs::box_tree` meets its contract. Assumes nothing.
use Rattle.std.proofs.Common.{arith}
use Rattle.box_runs.proofs.Runs.{tree-turn, runs}
use Rattle.box_runs.proofs.box_tree.Goals as goal

pub loop-i-init : goal.loop-i-init
loop-i-init c = search runs

pub loop-i-preserved : goal.loop-i-preserved
loop-i-preserved c =
    tree-turn _ _ _ _ _ _ _ _ _ c.loop-i.invariant c.requires (omega arith)
    c.line-l.ensures c.children-all.ensures c.tree_fits-fits.ensures _ c.in_ok-fault_if.ensures c.with_children-seen.ensures
