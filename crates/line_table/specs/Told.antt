-- What wrong digits tell of a line's type, where they are none. Assumes nothing.
use Rattle.std.specs.Prelude.{◌≡◌, false, ◌≢◌, ℕ, ◌-◌, ◌/◌, ◌%◌, ◌^◌, T}
use Rattle.std.specs.Int.Bits.{bit_and}
use Rattle.definitions.specs.Sets.{has}
use Rattle.definitions.specs.ReadModel.{type_fits}

-- no digit is 1
pub record Empty (x : ℕ) : Type 0 where
  pub at : (n : ℕ) → has x n ≡ false

-- the type of an expose fits
pub record TypeRight (a rest w type v : ℕ) : Type 0 where
  pub typed : w % 16 ≡ 6 → T (type_fits (has a) (w / 2 ^ 8 % 256) type)
  pub none : w % 16 ≢ 6 → Empty type
  pub reach : Empty (bit_and (bit_and type rest) (2 ^ 64 - 1 - v))

-- what its wrong digits r tell
pub record Typed (a rest w type v r : ℕ) : Type 0 where
  pub tells : Empty r → TypeRight a rest w type v
