-- Laws of checks in a row: one after another, and a run of them below a bound. A premise says what a check finds, `none` or `some a`, as the arms of
-- `?` know it. Assumes nothing.
use Rattle.std.proofs.Common.{◌≡◌, ℕ, ◌+◌, ◌≤◌, ◌<◌, Bool, true, false, sym, ap, ◌∙◌, rules}
use Rattle.std.proofs.Math.Option.{Option, none, some}
use Rattle.definitions.specs.Bounded.{some_if, or_else, first_below}
use Rattle.definitions.proofs.Bounded.{first-zero}
use Rattle.definitions.proofs.Loops.{Passed, passed-turn, passed_stop, passed_end}

module _ {A : Type 0} where
  -- a check where a test says so
  pub fault_yes : (b : Bool) (a : A) → b ≡ true → some_if b a ≡ some a
  fault_yes b a e = ap (λ (t : Bool). some_if t a) e

  pub fault_no : (b : Bool) (a : A) → b ≡ false → some_if b a ≡ none
  fault_no b a e = ap (λ (t : Bool). some_if t a) e

  -- one after another: the first that finds something, or the next
  pub else_first : (x y : Option A) (a : A) → x ≡ some a → or_else x y ≡ some a
  else_first x y a e = ap (λ (t : Option A). or_else t y) e

  pub else_next : (x y o : Option A) → x ≡ none → y ≡ o → or_else x y ≡ o
  else_next x y o e q = ap (λ (t : Option A). or_else t y) e ∙ q

  -- a run of checks, of which `first-zero` starts: after a check that finds nothing, at one that finds something, and at its end
  module _ (n : ℕ) (f : ℕ → Option A) where
    pub run_end : (i : ℕ) → Passed n f i → n ≤ i → first_below n f ≡ none
    run_end i p l = sym (passed_end n f i p l)

    module _ (i : ℕ) (p : Passed n f i) (l : i < n) where
      pub run_turn : f i ≡ none → Passed n f (i + 1)
      run_turn e = passed-turn n f i p l (sym e)

      pub run_stop : (a : A) → f i ≡ some a → first_below n f ≡ some a
      run_stop a e = sym (passed_stop n f i a p l (sym e))

pub ruleset answers = (rules, first-zero, fault_yes, fault_no, else_first, else_next, run_turn, run_stop, run_end)
