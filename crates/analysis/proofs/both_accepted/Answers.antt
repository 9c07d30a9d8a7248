-- `analysis::both_accepted` meets its contract: neither image is refused, so the clauses decide. Assumes nothing.
use Rattle.std.proofs.Common.{ap, ◌∙◌}
use Rattle.std.proofs.lemmas.Result.{err_from_is_err_and}
use Rattle.definitions.specs.Clauses as clauses
use Rattle.analysis.proofs.Replies.{unrefused_check}
use Rattle.analysis.proofs.both_accepted.Goals as goal

pub returns-in_err-find-clause-verdict : goal.returns-in_err-find-clause-verdict
returns-in_err-find-clause-verdict c =
    let both = c.in_ok-both in
    let p = err_from_is_err_and c.from_residual-in_err-find.result c.from_residual-in_err-find.ensures.1 in
    rw p.1 (rw (both.ensures.model, both.ensures.estimate) at (p.2 ∙ ap clauses.verdict_of c.in_err-find.ensures ∙ unrefused_check _ _ both.both.unrefused))

pub returns-clause-verdict : goal.returns-clause-verdict
returns-clause-verdict c =
    let both = c.in_ok-both in
    rw (both.ensures.model, both.ensures.estimate) at (ap clauses.verdict_of c.in_ok-find.ensures ∙ unrefused_check _ _ both.both.unrefused)
