-- `record_rules::line_sets::with_children` meets its contract. Assumes nothing.
use Rattle.records.specs.Records.{line_in}
use Rattle.record_rules.proofs.RuleLaws.{children_two}
use Rattle.record_rules.proofs.line_sets.with_children.Goals as goal

pub returns-then-l-2 : goal.returns-then-l-2
returns-then-l-2 c = children_two c.args.s (line_in c.args.l) _ _ c.if-l-2.true c.with_line-first.ensures c.with_line.ensures
