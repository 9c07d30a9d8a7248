-- `analysis::both_read` meets its contract: the model's refusal, else the estimate's by the counts of the layout. Assumes nothing.
use Rattle.std.proofs.Common.{rules, ◌≡◌, sym, ap, ◌∙◌}
use Rattle.std.proofs.lemmas.Result.{err_from_is_err_and}
use Rattle.definitions.specs.Clauses as clauses
use Rattle.refusals.specs.Answers.{refusal_in}
use Rattle.analysis.specs.declared.NotAccepted.TheVariants.{RefusedModel, RefusedEstimate}
use Rattle.analysis.specs.Answers.{not_accepted_in}
use Rattle.analysis.proofs.Replies.{made_of, left_ok, model_refused, estimate_refused, both_read}
use Rattle.analysis.proofs.both_read.Goals as goal

pub returns-in_err-model-clause-verdict : goal.returns-in_err-model-clause-verdict
unfolding clauses.read_both
returns-in_err-model-clause-verdict c =
    let p = err_from_is_err_and c.from_residual.result c.from_residual.ensures.1 in
    let q = made_of c.read.result _ _ c.in_err-model.ensures.variant c.in_err-model.ensures.cases in
    let z : c.in_err-model.field-0.0 ≡ RefusedModel q.0 = search rules in
    rw p.1 (ap not_accepted_in (p.2 ∙ z) ∙ model_refused _ _ (refusal_in q.0) _ (rw q.1 at (sym c.read.ensures.answer)))

pub returns-in_err-map_err-clause-verdict : goal.returns-in_err-map_err-clause-verdict
unfolding clauses.read_both
returns-in_err-map_err-clause-verdict c =
    let q = left_ok c.read.result _ _ c.in_ok-model.ensures.variant c.in_ok-model.ensures.cases in
    let m = c.in_ok-model.model in
    let p = err_from_is_err_and c.from_residual-in_err-map_err.result c.from_residual-in_err-map_err.ensures.1 in
    let r = made_of c.read-2.result _ _ c.in_err-map_err.ensures.variant c.in_err-map_err.ensures.cases in
    let z : c.in_err-map_err.field-0.0 ≡ RefusedEstimate r.0 = search rules in
    rw p.1 (ap not_accepted_in (p.2 ∙ z) ∙ estimate_refused _ _ _ (rw (rw q at c.read.ensures.image) at m.of) (rw q at (sym c.read.ensures.answer)) _ _ (rw r.1 at (sym c.read-2.ensures)))

pub returns-clause-verdict : goal.returns-clause-verdict
unfolding clauses.read_both
returns-clause-verdict c =
    let q = left_ok c.read.result _ _ c.in_ok-model.ensures.variant c.in_ok-model.ensures.cases in
    let m = c.in_ok-model.model in
    let r = left_ok c.read-2.result _ _ c.in_ok-map_err.ensures.variant c.in_ok-map_err.ensures.cases in
    both_read _ _ _ (rw (rw q at c.read.ensures.image) at m.of) (rw q at (sym c.read.ensures.answer)) (rw r at (sym c.read-2.ensures)) _
