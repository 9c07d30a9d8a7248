-- `sharing::sent_by_others` meets its contract: what the boxes passed may send is gathered. Assumes nothing.
use Rattle.std.proofs.Common.{refl}
use Rattle.sharing.proofs.Gather.{through_start, through_turn, sent_in_other, sent_out_own}
use Rattle.sharing.proofs.sent_by_others.Goals as goal
use Rattle.sharing.proofs.sent_by_others.Goals.{then-k-b, else-k-b}

pub loop-k-init : goal.loop-k-init
loop-k-init c = through_start _

pub loop-k-preserved : goal.loop-k-preserved
loop-k-preserved c =
    through_turn _ _ _ _ c.loop-k.invariant (
    elim c.if-k-b.branch [
      | then-k-b w ↦ rw w.w-is (sent_in_other _ _ _ _ _ _ _ _ w.if-k-b.true c.requires.sent c.loop-k-test.true refl w.union-w.ensures)
      | else-k-b w ↦ rw w.w-is (sent_out_own _ _ _ _ w.if-k-b.false)
    ])
