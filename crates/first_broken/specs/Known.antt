-- What is known once both images are read. Assumes nothing.
use Rattle.std.specs.Prelude.{◌≡◌, List, ℕ}
use Rattle.std.proofs.Math.Option.{none}
use Rattle.definitions.specs.Image.{name_count, boxes_of}
use Rattle.definitions.specs.ReadModel.{read_model}
use Rattle.definitions.specs.ReadEstimate.{read_estimate}

-- neither image is refused
pub record Unrefused (m e : List ℕ) : Type 0 where
  pub model : read_model m ≡ none
  pub estimate : read_estimate (name_count m) (boxes_of m) e ≡ none
