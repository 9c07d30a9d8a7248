-- `record_clauses::lines::by_operation` meets its contract. Assumes nothing.
use Rattle.std.proofs.Common.{refl}
use Rattle.std.proofs.lemmas.Result.{err_from_is_err_and}
use Rattle.record_clauses.specs.Found.{broken_in}
use Rattle.record_clauses.proofs.Steps.{arm_five, arms}
use Rattle.record_clauses.proofs.lines.by_operation.Goals as goal

pub returns-in_err-broken_at-in-Ok-Input : goal.returns-in_err-broken_at-in-Ok-Input
returns-in_err-broken_at-in-Ok-Input c =
    let p = err_from_is_err_and c.from_residual.result c.from_residual.ensures.1 in
    rw (p.1, p.2) (arm_five _ _ _ _ _ _ (broken_in c.in_err-broken_at-in-Ok-Input.field-0.0) _ (search arms) refl c.in_err-broken_at-in-Ok-Input.ensures (search arms))
