-- `record_rules::bound_fits` meets its contract. Assumes nothing.
use Rattle.records.specs.Records.{line_in}
use Rattle.record_rules.proofs.RuleLaws.{bound-is}
use Rattle.record_rules.proofs.bound_fits.Goals as goal

pub returns : goal.returns
returns c = bound-is _ _ (line_in c.args.l) _ _ c.contains.ensures c.contains-2.ensures
