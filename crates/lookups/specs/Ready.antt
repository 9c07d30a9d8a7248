-- A box record that is in order, in a model that is read: what the moves of that box are asked of. Assumes nothing.
use Rattle.std.specs.Prelude.{List, ℕ, ◌<◌, T}
use Rattle.definitions.specs.Model.{Box, box_at}
use Rattle.definitions.specs.Image.{boxes_of, model_of}
use Rattle.definitions.specs.StateRules.{record_fits, state_fits}
use Rattle.model.specs.declared.ReadModel.{ReadModel}

-- the kinds of the names of a model that is read, and the contents of its box b
abbrev pub kinds_in : ReadModel → List ℕ
kinds_in m = (model_of m.image.now).kinds

abbrev pub box_in : ReadModel → ℕ → Box
box_in m b = box_at (model_of m.image.now) b

-- the record of box b is in order under some last stamps
pub record RecordFor (image : List ℕ) (b : ℕ) (r : List ℕ) : Type 0 where
  pub last : ℕ → ℕ
  pub fits : T (record_fits (model_of image) last (box_at (model_of image) b) r)

-- the same, whichever last stamps they are
pub record BoxReady (m : ReadModel) (b : ℕ) (r : List ℕ) : Type 0 where
  pub inside : b < boxes_of m.image.now
  pub fits : ∥ RecordFor m.image.now b r ∥₁

-- the state obeys the state rules of the model
pub record Ready (m : ReadModel) (st : List ℕ) : Type 0 where
  pub fits : T (state_fits (model_of m.image.now) st)
