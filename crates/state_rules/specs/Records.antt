-- The state rules of a box's record in a state. Assumes nothing.
use Rattle.std.specs.Prelude.{Bool, List, ℕ}
use Rattle.definitions.specs.Model.{Model, box_at}
use Rattle.definitions.specs.Record.{record_of, last_stamps}
use Rattle.definitions.specs.StateRules.{record_fits}

-- the record of box b fits
unfoldable pub record_fits_at : Model → List ℕ → ℕ → Bool
record_fits_at m st b = record_fits m (last_stamps st) (box_at m b) (record_of st b)
