-- One step over a set: its lowest member, and the set without it. Assumes nothing.
use Rattle.std.specs.Prelude.{◌≡◌, ◌<◌, ℕ, Option, MatchOption}
use Rattle.sets.specs.declared.Ascending.{Ascending}
use Rattle.sets.specs.declared.NameNo.{NameNo}
use Rattle.sets.specs.Lowest.{lowest_of, WithoutLowest}

-- n is the lowest member of s, and t the others
pub record LowestOf (s n t : ℕ) : Type 0 where
  pub some_left : 0 < s
  pub lowest : n ≡ lowest_of s
  pub others : WithoutLowest s t

abbrev pub NextMember : Ascending → Option NameNo → Ascending → Type 0
NextMember s r t = MatchOption r ((s.0 ≡ 0) × (t.0 ≡ 0)) (λ n. LowestOf s.0 n.0 t.0)
