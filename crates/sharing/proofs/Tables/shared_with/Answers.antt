-- `sharing::Tables::shared_with` meets its contract: what the boxes passed ask is gathered. Assumes nothing.
use Rattle.sharing.proofs.Gather.{through_start, through_turn, box_in_lem, box_out}
use Rattle.sharing.proofs.Tables.shared_with.Goals as goal
use Rattle.sharing.proofs.Tables.shared_with.Goals.{then-k-b, else-k-b}

pub loop-k-init : goal.loop-k-init
loop-k-init c = through_start _

pub loop-k-preserved : goal.loop-k-preserved
loop-k-preserved c =
    through_turn _ _ _ _ c.loop-k.invariant (
    elim c.if-k-b.branch [
      | then-k-b w ↦ rw w.w-is (box_in_lem _ _ _ _ _ _ w.if-k-b.true w.join_shown-w.ensures)
      | else-k-b w ↦ rw w.w-is (box_out _ _ _ _ _ w.if-k-b.false)
    ])
