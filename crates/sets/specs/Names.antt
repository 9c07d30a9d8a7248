-- Sets of names of a model. Assumes nothing.
use Rattle.std.specs.Prelude.{ℕ, ◌<◌, T}
use Rattle.definitions.specs.Limits.{name_limit}
use Rattle.definitions.specs.Sets.{has}

-- a set of names below 60
pub record NamesOnly (s : ℕ) : Type 0 where
  pub below : (n : ℕ) → n < 64 → T (has s n) → n < name_limit
