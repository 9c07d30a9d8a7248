-- The first name that is missing at the members of a set. Assumes nothing.
use Rattle.std.specs.Prelude.{◌≡◌, ℕ, Result}
use Rattle.std.proofs.Math.Option.{Option}
use Rattle.definitions.specs.Sets.{first_short}
use Rattle.sets.specs.declared.NameNo.{NameNo}
use Rattle.subsets.specs.Within.{within_in}

-- r is the first that is found at the members of s, whatever g says what is found there
pub record ShortAtEach (post : NameNo → Result (Unit {0}) NameNo → Type 0) (s : ℕ) (r : Result (Unit {0}) NameNo) : Type 0 where
  pub same : (g : ℕ → Option ℕ) → ((n : NameNo) (t : Result (Unit {0}) NameNo) → post n t → within_in t ≡ g n.0) → within_in r ≡ first_short s g
