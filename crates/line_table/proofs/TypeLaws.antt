-- What wrong digits of a line's type tell. Assumes nothing.
use mathlib.Core.Path.{◌≡◌, sym, ap, ◌∙◌, subst}
use mathlib.Core.Bool.{Bool, true}
use Prim.Native.Nat.{ℕ, ◌-◌, ◌/◌, ◌%◌, ◌^◌}
use borrow.Author.Rules.{rules}
use lib.Dec.{T}
use lib.Bits.{bit_and}
use Rattle.definitions.specs.Bounded.{◌and◌}
use Rattle.definitions.specs.Sets.{has}
use Rattle.definitions.specs.ReadModel.{type_fits}
use Rattle.definitions.proofs.Bounded.{of_true, not-false}
use Rattle.definitions.proofs.Sets.{has-and}
use Rattle.line_table.specs.Told.{Empty, Typed}

-- one is not empty; a meet with an empty set is empty
pub one-digit : Empty 1 → ⊥
unfolding has
one-digit e = not-false (e.at 0) tt

and_empty : (x y : ℕ) → Empty x → Empty (bit_and x y)
unfolding ◌and◌
and_empty x y e = record { at = λ n. has-and x y n ∙ ap (λ (b : Bool). b and has y n) (e.at n) }

-- the type of an expose that fits, of one that does not, and of any other line
module _ (a rest w ty v : ℕ) where
  pub typed_yes : (n : ℕ) (b : Bool) → w % 16 ≡ 6 → b ≡ type_fits (has a) n ty → b ≡ true → n ≡ w / 256 % 256 → Typed a rest w ty v (bit_and (bit_and ty rest) (2 ^ 64 - 1 - v))
  typed_yes n b o e q z = record {
    tells = λ h. record { typed = λ _. subst (λ (n : ℕ). T (type_fits (has a) n ty)) z (of_true (sym e ∙ q)); none = λ m. absurd (m o); reach = h };
  }

  pub typed_no : Typed a rest w ty v 1
  typed_no = record { tells = λ e. absurd (one-digit e) }

  pub typed_other : (w % 16 ≡ 6 → ⊥) → Typed a rest w ty v ty
  typed_other n = record { tells = λ h. record { typed = λ q. absurd (n q); none = λ _. h; reach = and_empty (bit_and ty rest) (2 ^ 64 - 1 - v) (and_empty ty rest h) } }

pub ruleset typed_laws = (rules, typed_yes, typed_no, typed_other)
