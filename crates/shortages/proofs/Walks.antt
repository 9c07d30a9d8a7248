-- Clauses 4 and 5, each by its walk. Assumes nothing.
use mathlib.Core.Path.{◌≡◌, ap₂, ◌∙◌}
use mathlib.Core.Option.{Option}
use Prim.Native.Nat.{ℕ}
use borrow.Author.Rules.{rules}
use Rattle.definitions.specs.Sets.{first_short, missing}
use Rattle.definitions.specs.Model.{Line}
use Rattle.definitions.specs.Estimate.{Estimate}
use Rattle.definitions.specs.Clauses.{clause4, clause5}
use Rattle.clauses.proofs.Members.{shorts, names_rho, box_512, box_there, names_62, met_yes}

module _ (e : Estimate) (b : ℕ) (l : Line) (s q : ℕ) (r : Option ℕ) (es : s ≡ e.rho l.name1) (eq : q ≡ e.rho l.name2) where
  pub four_is : r ≡ first_short s (λ a. missing q (e.kap b a)) → r ≡ clause4 e b l
  unfolding clause4
  four_is er = er ∙ ap₂ (λ (x y : ℕ). first_short x (λ a. missing y (e.kap b a))) es eq

  pub five-is : r ≡ first_short s (λ a. missing (e.kap b a) q) → r ≡ clause5 e b l
  unfolding clause5
  five-is er = er ∙ ap₂ (λ (x y : ℕ). first_short x (λ a. missing (e.kap b a) y)) es eq

pub ruleset found = (rules, met_yes, box_512, box_there, names_62, names_rho, four_is, five-is)
