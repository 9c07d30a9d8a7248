-- The lowest member of a that b lacks is the lowest set digit of `a & !b`. Assumes nothing.
use mathlib.Core.Path.{◌≡◌, refl, sym, ap, ◌∙◌}
use mathlib.Core.Bool.{Bool, true, false, not}
use mathlib.Core.Option.{Option, none, some}
use Prim.Native.Nat.{ℕ, ◌-◌, ◌^◌, ◌<◌}
use native.Mathlib.Nat.{lt_of_le_of_lt, lt_trans}
use native.Mathlib.Omega.{arith}
use borrow.Author.Tests.{eq-eqb}
use mir.Syntax.{w8}
use mir.Val.{Fits}
use lib.Bits.{bit_and, bit_xor, and_le_l, xor_add_and}
use lib.Count.{count_trailing_zeros, count_leading_zeros, trailing_le, leading_le}
use Rattle.definitions.specs.Bounded.{◌and◌, some_if, when}
use Rattle.definitions.specs.Sets.{has, absent, first_short, missing}
use Rattle.definitions.proofs.Bounded.{of_true, each_none, first_stop}
use Rattle.sets.specs.Lowest.{lowest_of}
use Rattle.sets.proofs.Walk.{lowest-word}
use Rattle.definitions.proofs.Sets.{has_minus, low_clear, low_set, missing_iff, within_iff, within_word}

-- a name that both have, or that the first lacks, is not missing; one that only the first has is
asked_none : (x y : Bool) (n : ℕ) → (x and not y) ≡ false → when x (some_if (not y) n) ≡ none
unfolding ◌and◌
asked_none true true n e = refl
asked_none true false n e = absurd (of_true (sym e))
asked_none false y n e = refl

asked_some : (x y : Bool) (n : ℕ) → (x and not y) ≡ true → when x (some_if (not y) n) ≡ some n
unfolding ◌and◌
asked_some true true n e = absurd (of_true e)
asked_some true false n e = refl
asked_some false y n e = absurd (of_true e)

module _ (a b : ℕ) (ha : a < 2 ^ 64) (hb : b < 2 ^ 64) where
  pub lack_none : bit_and a (2 ^ 64 - 1 - b) ≡ 0 → none ≡ missing a b
  lack_none z =
      sym ((missing_iff a b).1 ((within_iff a b).0 (of_true (sym (within_word a b ha hb) ∙ eq-eqb (bit_and a (2 ^ 64 - 1 - b)) 0 z))))

  lack_zeros : (bit_and a (2 ^ 64 - 1 - b) ≡ 0 → ⊥) → some (count_trailing_zeros 64 (bit_and a (2 ^ 64 - 1 - b))) ≡ missing a b
  unfolding missing first_short absent
  lack_zeros z =
      let d = bit_and a (2 ^ 64 - 1 - b) in
      let n = count_trailing_zeros 64 d in
      let low = low_set 64 d (omega arith) (lt_of_le_of_lt (and_le_l a (2 ^ 64 - 1 - b)) ha) in
      let asked : ℕ → Option ℕ = λ j. when (has a j) (some_if (not (has b j)) j) in
      sym (first_stop asked 64 low.0
      (each_none asked n (λ j l. asked_none (has a j) (has b j) j (sym (has_minus a b j hb (lt_trans l low.0)) ∙ low_clear 64 d j l)))
      (asked_some (has a n) (has b n) n (sym (has_minus a b n hb low.0) ∙ low.1)))

  pub lack_some : (n : ℕ) → 0 < bit_and a (2 ^ 64 - 1 - b) → n ≡ lowest_of (bit_and a (2 ^ 64 - 1 - b)) → some n ≡ missing a b
  lack_some n p e =
      let d = bit_and a (2 ^ 64 - 1 - b) in
      ap some (e ∙ sym (lowest-word d (lt_of_le_of_lt (and_le_l a (2 ^ 64 - 1 - b)) ha))) ∙ lack_zeros (λ z. omega (arith, p, z))

-- a count of zeros, and its distance from 63, fit a byte
pub zeros_fit : (d : ℕ) → Fits w8 (count_trailing_zeros 64 d)
zeros_fit d = record { fits = omega (arith, trailing_le 64 d) }

pub distance_fits : (d : ℕ) → Fits w8 (bit_xor 63 (count_leading_zeros 64 d))
distance_fits d = record { fits = omega (arith, xor_add_and 63 (count_leading_zeros 64 d), leading_le 64 d) }

-- for an edit that puts one of the two into `missing`: its cast passes, so the answer is what fails
pub ruleset casts = (zeros_fit, distance_fits)

-- one name
module _ (s n : ℕ) (t : Bool) (e : t ≡ has s n) where
  pub absent_no : t ≡ true → none ≡ absent s n
  unfolding absent
  absent_no h = sym (ap (λ (b : Bool). some_if (not b) n) (sym e ∙ h))

  pub absent_yes : t ≡ false → some n ≡ absent s n
  unfolding absent
  absent_yes h = sym (ap (λ (b : Bool). some_if (not b) n) (sym e ∙ h))
