-- `state_rules::fits` meets its contract. Assumes nothing.
use Rattle.std.proofs.Common.{rules}
use Rattle.state_rules.proofs.StateLaws.{few_boxes, few_names, state_clear}
use Rattle.state_rules.proofs.fits.Goals as goal

pub stamps_fit-requires-clause-few : goal.stamps_fit-requires-clause-few
stamps_fit-requires-clause-few c = few_boxes _ _ c.args.m.now.read c.args.m.now.of

pub set_limits-requires-clause-few : goal.set_limits-requires-clause-few
set_limits-requires-clause-few c = few_names _ _ c.args.m.now.read c.args.m.now.of

pub returns-then-records_fit : goal.returns-then-records_fit
returns-then-records_fit c =
    state_clear _ _ c.args.m.now.read c.args.m.now.of _ _ (search rules) c.records_fit.ensures _ (search rules) c.missing_clear.ensures
