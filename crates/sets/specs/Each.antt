-- A function called at each member of a set. Assumes nothing.
use Rattle.std.specs.Prelude.{◌≡◌, ◌<◌, ℕ, T}
use Rattle.definitions.specs.Sets.{has, for_some}
use Rattle.sets.specs.declared.NameNo.{NameNo}

-- it may be called at each member of s
pub record TakesMembers (pre : NameNo → Type 0) (s : ℕ) : Type 0 where
  pub each : (n : NameNo) → n.0 < 64 → T (has s n.0) → pre n

-- v is the union of what it gives at the members of s, whatever g says what it gives there
pub record UnionOfEach (post : NameNo → ℕ → Type 0) (s v : ℕ) : Type 0 where
  pub members : (g : ℕ → ℕ) → ((n : NameNo) (r : ℕ) → post n r → r ≡ g n.0) → (m : ℕ) → has v m ≡ for_some s (λ n. has (g n) m)
