-- `record_rules::shape_fits` meets its contract. Assumes nothing.
use Rattle.records.specs.Records.{line_in}
use Rattle.record_rules.proofs.RuleLaws.{shape_is}
use Rattle.record_rules.proofs.shape_fits.Goals as goal

pub returns : goal.returns
returns c = shape_is (line_in c.args.l)
