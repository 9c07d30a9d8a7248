-- A set's lowest member, and the set without it. Assumes nothing.
use Rattle.std.specs.Prelude.{◌≡◌, ℕ, ◌<◌}
use Rattle.std.proofs.Math.Option.{none, some}
use Rattle.definitions.specs.Bounded.{◌and◌, ◌isnt◌, some_if, first_below}
use Rattle.definitions.specs.Sets.{has}

-- the lowest member, or 64 where there is none
unfoldable pub lowest_of : ℕ → ℕ
lowest_of s = elim (first_below 64 (λ n. some_if (has s n) n)) [ none ↦ 64 | some n ↦ n ]

-- r is s without its lowest member; as a number it is smaller, which bounds a walk
pub record WithoutLowest (s r : ℕ) : Type 0 where
  pub members : (m : ℕ) → has r m ≡ (has s m and lowest_of s isnt m)
  pub less : 0 < s → r < s
