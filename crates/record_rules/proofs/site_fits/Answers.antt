-- `record_rules::site_fits` meets its contract. Assumes nothing.
use Rattle.records.specs.Records.{site_in}
use Rattle.record_rules.proofs.RuleLaws.{site_joined}
use Rattle.record_rules.proofs.site_fits.Goals as goal

pub returns : goal.returns
returns c = site_joined (site_in c.args.s) _ _ _ _ _ c.ranges.free.fits c.contains.ensures c.contains-2.ensures c.type_fits.ensures
