-- `records::names::used` meets its contract. Assumes nothing.
use Rattle.records.specs.Records.{line_in}
use Rattle.records.proofs.NameSetLaws.{uses-is}
use Rattle.records.proofs.names.used.Goals as goal

pub returns : goal.returns
returns c = uses-is (line_in c.args.l) _ _ _ _ c.insert_if.ensures c.insert_if-named.ensures c.set_if.ensures c.union.ensures
