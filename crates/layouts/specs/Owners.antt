-- The box that binds a name. Assumes nothing.
use Rattle.std.specs.Prelude.{List, ℕ, get_or}
use Rattle.std.proofs.Math.Option.{Option}
use Rattle.definitions.specs.Bounded.{some_if, first_below}
use Rattle.definitions.specs.Sets.{has}
use Rattle.layouts.specs.declared.BoxPlace.{BoxPlace}
use Rattle.layouts.specs.LayoutOf.{nowhere}

-- of so many boxes, the first whose lines bind n
unfoldable pub first_binder : List BoxPlace → ℕ → ℕ → Option ℕ
first_binder each boxes n = first_below boxes (λ b. some_if (has (get_or each b nowhere).bound n) b)
