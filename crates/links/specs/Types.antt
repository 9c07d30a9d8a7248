-- The union of a box's types. Assumes nothing.
use Rattle.std.specs.Prelude.{◌≡◌, ℕ}
use Rattle.definitions.specs.Sets.{for_some, meets}
use Rattle.definitions.specs.Estimate.{Estimate}

-- v is the union of box k's types on the names of s: a type shares a name with v exactly when it shares one with some of them
pub record Types (e : Estimate) (k s v : ℕ) : Type 0 where
  pub same : (x : ℕ) → meets x v ≡ for_some s (λ c. meets x (e.eps k c))
