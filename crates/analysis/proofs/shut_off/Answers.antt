-- `analysis::shut_off` meets its contract: the checker's answer where it is not accepted, and else the box's. Assumes nothing.
use Rattle.std.proofs.Common.{◌∙◌}
use Rattle.std.proofs.lemmas.Result.{err_from_is_err_and}
use Rattle.analysis.proofs.Replies.{reply_not}
use Rattle.analysis.proofs.shut_off.Goals as goal

pub returns-in_err-both : goal.returns-in_err-both
returns-in_err-both c =
    let p = err_from_is_err_and c.from_residual.result c.from_residual.ensures.1 in
    rw p.1 (p.2 ∙ reply_not _ _ _ _ c.in_err-both.ensures.verdict)
