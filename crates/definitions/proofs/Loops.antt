-- What a loop knows at its head, and the laws for its start, turn, early stop and end: a test at every number and at some number, one
-- after another, words joined, and a first fault. Assumes nothing.
use mathlib.Core.Path.{◌≡◌, refl, sym, ap, ap₂, subst, ◌∙◌}
use mathlib.Core.Bool.{Bool, true, false, not, ◌&&◌}
use mathlib.Core.Logic.{◌↔◌}
use mathlib.Core.Option.{Option, none, some}
use Prim.Native.Nat.{ℕ, ◌+◌, ◌≤◌, ◌<◌, zero-le}
use native.Mathlib.Nat.{le_refl, le_antisymm, not-suc-le-zero}
use native.Mathlib.Numerals.{add-one}
use native.Mathlib.Omega.{arith}
use native.Mathlib.Decide.{ℕ_discrete}
use lib.Bits.{bit_or, or_add_and, and_le_l, and_le_r}
use lib.Dec.{T}
use Rattle.definitions.specs.Bounded.{◌and◌, ◌or◌, all_below, any_below, or_else, first_below}
use Rattle.definitions.proofs.Bounded.{
  and_is,
  all_iff,
  any_iff,
  all_more,
  true_of,
  of_true,
  false_of,
  not-false,
  first-zero,
  first_more,
  first_stop,
}

-- ---- what the code tests with `!`

pub fails : (b : Bool) → not b ≡ true → b ≡ false
fails true e = sym e
fails false e = refl

pub holds : (b : Bool) → not b ≡ false → b ≡ true
holds true e = refl
holds false e = sym e

-- ---- a test at every number below n

pub record Passing (p : ℕ → Bool) (i : ℕ) : Type 0 where
  pub each : (j : ℕ) → j < i → T (p j)

pub passing_start : (p : ℕ → Bool) → Passing p 0
passing_start p = record { each = λ j l. absurd (not-suc-le-zero l) }

pub passing_turn : (p : ℕ → Bool) (i : ℕ) (b : Bool) → Passing p i → b ≡ p i → b ≡ true → Passing p (i + 1)
passing_turn p i b h e t = record { each = λ j l. pick j l (ℕ_discrete i j) }
  where
    pick : (j : ℕ) → j < i + 1 → Dec (i ≡ j) → T (p j)
    pick j l (yes q) = subst (λ (k : ℕ). T (p k)) q (of_true (sym e ∙ t))
    pick j l (no q) = h.each j (omega arith)

pub passing_stop : (n : ℕ) (p : ℕ → Bool) (i : ℕ) (b : Bool) → i < n → b ≡ p i → b ≡ false → false ≡ all_below n p
passing_stop n p i b l e t = sym (false_of (all_below n p) (λ u. not-false (sym e ∙ t) ((all_iff n p).0 u i l)))

pub passing_end : (n : ℕ) (p : ℕ → Bool) (i : ℕ) → Passing p i → n ≤ i → true ≡ all_below n p
passing_end n p i h l = sym (true_of (all_below n p) ((all_iff n p).1 (λ j k. h.each j (omega arith))))

-- ---- a test at every number below n, joined with no branch

pub record Joining (n : ℕ) (p : ℕ → Bool) (i : ℕ) (ok : Bool) : Type 0 where
  pub upto : i ≤ n
  pub same : ok ≡ all_below i p

module _ (n : ℕ) (p : ℕ → Bool) where
  pub joining_start : Joining n p 0 true
  unfolding all_below
  joining_start = record { upto = zero-le; same = refl }

  pub joining_turn : (i : ℕ) (ok b : Bool) → Joining n p i ok → i < n → b ≡ p i → Joining n p (i + 1) (ok && b)
  joining_turn i ok b h l e = record { upto = omega arith; same = and_is ok b ∙ ap₂ ◌and◌ h.same e ∙ sym (all_more i p) }

  pub joining_end : (i : ℕ) (ok : Bool) → Joining n p i ok → n ≤ i → ok ≡ all_below n p
  joining_end i ok h l = h.same ∙ ap (λ (m : ℕ). all_below m p) (le_antisymm h.upto l)

-- ---- words from one number up to another, joined with no branch and tested once against zero

-- two words joined are zero where both are
pub join_iff : (v w : ℕ) → (bit_or v w ≡ 0) ↔ ((v ≡ 0) × (w ≡ 0))
join_iff v w =
    let sum = or_add_and v w in
    let a = and_le_l v w in
    let b = and_le_r v w in
    (λ e. (omega arith, omega arith), λ p. let x = p.0 in let y = p.1 in omega arith)

-- the words from `from` up to i are joined to w, and they are all before `to`
pub record ZeroRun (f : ℕ → ℕ) (from to i w : ℕ) : Type 0 where
  pub start : from ≤ i
  pub inside : (j : ℕ) → from ≤ j → j < i → j < to
  pub each : w ≡ 0 → (j : ℕ) → j < i → from ≤ j → f j ≡ 0
  pub whole : ((j : ℕ) → j < i → from ≤ j → f j ≡ 0) → w ≡ 0

module _ (f : ℕ → ℕ) (from to : ℕ) where
  pub zeros-start : ZeroRun f from to from 0
  zeros-start = record { start = le_refl from; inside = λ j a b. absurd (omega arith); each = λ _ j l q. absurd (omega arith); whole = λ _. refl }

  pub zeros-turn : (i w v : ℕ) → ZeroRun f from to i w → i < to → v ≡ f i → ZeroRun f from to (i + 1) (bit_or w v)
  zeros-turn i w v p h d = record {
    start = omega (arith, p.start);
    inside = λ j a b. omega arith;
    each = λ e j l q. pick ((join_iff w v).0 e) j l q (ℕ_discrete i j);
    whole = λ g. (join_iff w v).1 (p.whole (λ j l q. g j (omega arith) q), d ∙ g i (omega arith) p.start);
  }
    where
      pick : (w ≡ 0) × (v ≡ 0) → (j : ℕ) → j < i + 1 → from ≤ j → Dec (i ≡ j) → f j ≡ 0
      pick e j l q (yes z) = ap f (sym z) ∙ sym d ∙ e.1
      pick e j l q (no z) = p.each e.0 j (omega arith) q

  pub zeros_end : (i w : ℕ) → ZeroRun f from to i w → to ≤ i → (w ≡ 0) ↔ ((j : ℕ) → j < to → from ≤ j → f j ≡ 0)
  zeros_end i w p h = (
    λ e j l q. p.each e j (omega arith) q,
    λ g. p.whole (λ j l q. g j (p.inside j q l) q),
  )

-- ---- a test at some number below n

-- the test passes at no number below i
pub record Missing (p : ℕ → Bool) (i : ℕ) : Type 0 where
  pub each : (j : ℕ) → j < i → T (p j) → ⊥

pub missing-start : (p : ℕ → Bool) → Missing p 0
missing-start p = record { each = λ j h. absurd (omega arith) }

pub missing-turn : (p : ℕ → Bool) (i : ℕ) (b : Bool) → Missing p i → b ≡ p i → b ≡ false → Missing p (i + 1)
missing-turn p i b k e f = record { each = λ j h. pick j h (ℕ_discrete i j) }
  where
    pick : (j : ℕ) → j < i + 1 → Dec (i ≡ j) → T (p j) → ⊥
    pick j h (yes q) t = not-false (sym e ∙ f) (subst (λ (n : ℕ). T (p n)) (sym q) t)
    pick j h (no q) t = k.each j (omega arith) t

pub missing_stop : (n : ℕ) (p : ℕ → Bool) (i : ℕ) (b : Bool) → i < n → b ≡ p i → b ≡ true → true ≡ any_below n p
missing_stop n p i b h e f = sym (true_of (any_below n p) ((any_iff n p).1 (i, h, of_true (sym e ∙ f))))

pub missing_end : (n : ℕ) (p : ℕ → Bool) (i : ℕ) → Missing p i → n ≤ i → false ≡ any_below n p
missing_end n p i k h =
    sym (false_of (any_below n p) (λ t. let w = (any_iff n p).0 t in k.each w.0 (let q = w.1 in omega arith) w.2))

-- whether it passes at some number below i, joined as the loop goes on
pub any_start : (p : ℕ → Bool) → false ≡ any_below 0 p
unfolding any_below
any_start p = refl

pub any_turn : (p : ℕ → Bool) (i : ℕ) (b c d : Bool) → b ≡ any_below i p → c ≡ p i → d ≡ (b or c) → d ≡ any_below (i + 1) p
unfolding any_below
any_turn p i b c d e f g = g ∙ ap (λ (x : Bool). x or c) e ∙ ap (λ (x : Bool). any_below i p or x) f ∙ sym (ap (λ (n : ℕ). any_below n p) (add-one i))

-- ---- the first fault

-- no fault before i
pub record Passed {A : Type 0} (n : ℕ) (f : ℕ → Option A) (i : ℕ) : Type 0 where
  pub upto : i ≤ n
  pub clean : first_below i f ≡ none

module _ {A : Type 0} where
  pub passed_start : (n : ℕ) (f : ℕ → Option A) → Passed n f 0
  passed_start n f = record { upto = zero-le; clean = first-zero f }

  pub passed-turn : (n : ℕ) (f : ℕ → Option A) (i : ℕ) → Passed n f i → i < n → none ≡ f i → Passed n f (i + 1)
  passed-turn n f i p l e = record { upto = omega arith; clean = first_more f p.clean e refl }

  pub passed_stop : (n : ℕ) (f : ℕ → Option A) (i : ℕ) (a : A) → Passed n f i → i < n → some a ≡ f i → some a ≡ first_below n f
  passed_stop n f i a p l e = sym (first_stop f n l p.clean (sym e))

  pub passed_end : (n : ℕ) (f : ℕ → Option A) (i : ℕ) → Passed n f i → n ≤ i → none ≡ first_below n f
  passed_end n f i p l = sym p.clean ∙ ap (λ (m : ℕ). first_below m f) (le_antisymm p.upto l)

  -- one after another
  pub else_stop : (x y : Option A) (a : A) → some a ≡ x → some a ≡ or_else x y
  else_stop x y a e = ap (λ (t : Option A). or_else t y) e

  pub else_go : (x y r : Option A) → none ≡ x → r ≡ y → r ≡ or_else x y
  else_go x y r e q = q ∙ ap (λ (t : Option A). or_else t y) e

-- ---- answers of code: `value r` says what the answer r means

module _ {X A : Type 0} (value : X → Option A) (r : X) where
  -- v means that there is nothing
  pub answer_none : (v : X) → value v ≡ none → (x : Option A) → value r ≡ x → r ≡ v → none ≡ x
  answer_none v m x e q = sym (ap value q ∙ m) ∙ e

  -- v means a: it is the first of two, and the first of a run
  module _ (v : X) (a : A) (m : value v ≡ some a) where
    pub answer_else : (x y : Option A) → value r ≡ x → r ≡ v → value r ≡ or_else x y
    answer_else x y e q = ap value q ∙ m ∙ else_stop x y a (sym (ap value q ∙ m) ∙ e)

    pub answer_stop : (n : ℕ) (f : ℕ → Option A) (i : ℕ) → Passed n f i → i < n → value r ≡ f i → r ≡ v → value r ≡ first_below n f
    answer_stop n f i p l e q = ap value q ∙ m ∙ passed_stop n f i a p l (sym (ap value q ∙ m) ∙ e)
