-- `box_runs::box_sites` meets its contract. Assumes nothing.
use Rattle.std.proofs.Common.{arith}
use Rattle.box_runs.proofs.Runs.{site-turn, runs}
use Rattle.box_runs.proofs.box_sites.Goals as goal

pub loop-i-init : goal.loop-i-init
loop-i-init c = search runs

pub loop-i-preserved : goal.loop-i-preserved
loop-i-preserved c =
    site-turn _ _ _ _ _ _ _ _ _ _ c.loop-i.invariant c.requires.sites (omega arith) c.block-block.ensures
    c.site-s.ensures c.requires.few c.requires.free c.site_fits.ensures _ c.in_ok-fault_if.ensures c.insert-seen.ensures
