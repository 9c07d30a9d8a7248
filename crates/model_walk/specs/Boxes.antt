-- What the walk over all boxes tells where it finds no wrong digit. Assumes nothing.
use Rattle.std.specs.Prelude.{◌≡◌, List, ℕ}
use Rattle.std.proofs.Math.Option.{none}
use Rattle.definitions.specs.Image.{model_of}
use Rattle.definitions.specs.ReadModel.{model_fault}
use Rattle.layouts.specs.declared.Layout.{Layout}
use Rattle.layouts.specs.LayoutOf.{LayoutOf}

-- no record is refused, and the layout is right
pub record BoxesTold (image : List ℕ) (l : Layout) : Type 0 where
  pub model : model_fault (model_of image) ≡ none
  pub layout : LayoutOf image l
