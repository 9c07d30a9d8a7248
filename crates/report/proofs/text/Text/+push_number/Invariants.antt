-- `report::text::Text::push_number`: each call has fewer digits to write.
use Rattle.report.proofs.text.Text.+push_number.Given as goal

abbrev pub decreases-push_number : goal.decreases-push_number
decreases-push_number l = l.most
