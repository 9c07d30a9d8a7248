-- `blocks::inside::heading_matches` meets its contract: tests joined. Assumes nothing.
use Rattle.definitions.specs.Bounded.{◌is◌}
use Rattle.definitions.proofs.Bounded.{and_is}
use Rattle.blocks.proofs.inside.heading_matches.Goals as goal

pub returns : goal.returns
unfolding ◌is◌
returns c = simp and_is
