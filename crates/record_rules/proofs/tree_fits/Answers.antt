-- `record_rules::tree_fits` meets its contract. Assumes nothing.
use Rattle.records.specs.Records.{line_in}
use Rattle.record_rules.proofs.RuleLaws.{tree-two}
use Rattle.record_rules.proofs.tree_fits.Goals as goal

pub returns-then-l-2 : goal.returns-then-l-2
returns-then-l-2 c = tree-two (line_in c.args.l) _ _ _ _ _ c.has_line.ensures _ c.if-not-child.false c.if-l.false c.child_fits.ensures c.if-not-child_fits.false _ c.if-l-2.true c.child_fits-then-l-2.ensures
