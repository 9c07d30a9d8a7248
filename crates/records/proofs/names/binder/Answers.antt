-- `records::names::binder` meets its contract. Assumes nothing.
use Rattle.records.specs.Records.{line_in}
use Rattle.records.proofs.NameSetLaws.{binds-is}
use Rattle.records.proofs.names.binder.Goals as goal

pub returns : goal.returns
returns c = binds-is (line_in c.args.l) _ _ c.insert_if.ensures c.insert_if-2.ensures
