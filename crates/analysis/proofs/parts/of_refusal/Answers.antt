-- `analysis::parts::of_refusal` meets its contract: the block in the image that is refused. Assumes nothing.
use Rattle.analysis.proofs.Refused.{part_model, part-estimate, stands_model, stands_estimate}
use Rattle.analysis.proofs.parts.of_refusal.Goals as goal

pub returns-in-RefusedModel : goal.returns-in-RefusedModel
returns-in-RefusedModel c = (
  part_model _ _ _ _ _ c.in-RefusedModel.is c.refused.ensures.0,
  stands_model _ _ _ _ _ c.in-RefusedModel.is c.refused.ensures.1,
)

pub returns-in-RefusedEstimate : goal.returns-in-RefusedEstimate
returns-in-RefusedEstimate c = (
  part-estimate _ _ _ _ _ c.in-RefusedEstimate.is c.refused-in-RefusedEstimate.ensures.0,
  stands_estimate _ _ _ _ _ c.in-RefusedEstimate.is c.refused-in-RefusedEstimate.ensures.1,
)
