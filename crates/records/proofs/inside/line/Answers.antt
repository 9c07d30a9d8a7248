-- `records::inside::line` meets its contract. Assumes nothing.
use Rattle.std.proofs.Common.{◌∙◌}
use Rattle.records.proofs.PlaceLaws.{line_by_bytes, line_words}
use Rattle.records.proofs.inside.line.Goals as goal

pub returns : goal.returns
returns c = line_by_bytes _ _ _ _ _ _ c.to_le_bytes-b.result (search line_words) (search line_words) c.to_le_bytes-b.ensures (c.from.ensures ∙ c.from_le_bytes.ensures) (c.from-2.ensures ∙ c.from_le_bytes-2.ensures)
