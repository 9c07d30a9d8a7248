-- Sets of names by a test. Assumes nothing.
use Rattle.std.specs.Prelude.{◌≡◌, Bool, not, ℕ, ◌<◌}
use Rattle.definitions.specs.Bounded.{◌and◌, ◌or◌, ◌is◌}
use Rattle.definitions.specs.Sets.{has}

-- s is the set of the names below 64 that pass a test
pub record SetOf (s : ℕ) (p : ℕ → Bool) : Type 0 where
  pub at : (n : ℕ) → n < 64 → has s n ≡ p n

-- the set s with name n put in where t is met; s where t is met, and else no name; the names that s lacks
unfoldable pub insert_if : ℕ → Bool → ℕ → ℕ → Bool
insert_if s t n m = has s m or (t and n is m)

unfoldable pub set_if : Bool → ℕ → ℕ → Bool
set_if t s m = t and has s m

unfoldable pub lacks : ℕ → ℕ → Bool
lacks s m = not (has s m)
