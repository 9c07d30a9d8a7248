-- `line_gather::put_sent` meets its contract. Assumes nothing.
use Rattle.std.proofs.Common.{refl}
use Rattle.line_gather.proofs.Puts.{sent_put}
use Rattle.line_gather.proofs.put_sent.Goals as goal
use Rattle.line_gather.proofs.put_sent.Goals.{then-l, else-l}

pub returns : goal.returns
returns c =
    sent_put _ _ _ _ _ _ _ c.from-p.ensures refl
    (λ is_output. elim c.if-l.branch [ then-l w ↦ w.sends-is | else-l w ↦ absurd (w.if-l.false is_output) ]) c.union.ensures
