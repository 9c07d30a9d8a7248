-- `report::text::Text::push` leaves zeros behind the text. Assumes nothing.
use Rattle.std.proofs.Common.{rules}
use Rattle.report.proofs.Rest.{rest_set}
use Rattle.report.proofs.text.Text.push.Goals as goal

pub invariant_of-self : goal.invariant_of-self
invariant_of-self c = (search rules, search rules, rest_set c.self.inside.bytes c.self.inside.len c.args.b c.self.invariant.2)
