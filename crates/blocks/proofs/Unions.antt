-- The union of sets from one number up to another: how it is gathered, and what its digits say of each. Assumes nothing.
use Rattle.std.proofs.Common.{◌≡◌, ℕ, ◌+◌, ◌-◌, ◌/◌, ◌^◌, ◌≤◌, ◌<◌, Bool, List, [], ◌∷◌, refl, sym, ap, ◌∙◌, ap₂, le_refl, arith, rules}
use mathlib.Core.Logic.{◌↔◌}
use native.Mathlib.Numerals.{add-one}
use lib.Bits.{bit_or}
use lib.Dec.{T}
use Rattle.definitions.specs.Bounded.{◌and◌, ◌or◌, ◌upto◌, any_below}
use Rattle.definitions.specs.Sets.{has}
use Rattle.definitions.proofs.Bounded.{and_iff, upto_iff, any_iff, true_of, of_true, false_of, same_test}
use Rattle.definitions.proofs.Sets.{has-none, has-or, past_iff}
use Rattle.blocks.specs.Answers.{UnionOver}

-- the sets from `from` to i are gathered, and they are all before `to`
pub record Gathered (f : ℕ → ℕ) (from to i w : ℕ) : Type 0 where
  pub start : from ≤ i
  pub inside : (j : ℕ) → from ≤ j → j < i → j < to
  pub so_far : UnionOver f from i w

module _ (f : ℕ → ℕ) (from to : ℕ) where
  at : ℕ → ℕ → Bool
  at m i = from upto i and has (f i) m

  pub gathered_start : Gathered f from to from 0
  unfolding at
  gathered_start = record {
    start = le_refl from;
    inside = λ j a b. absurd (omega arith);
    so_far = record { members = λ m. has-none m ∙ sym (false_of (any_below from (at m)) (λ t. none m ((any_iff from (at m)).0 t))) };
  }
    where
      none : (m : ℕ) → (i : ℕ) × (i < from) × T (at m i) → ⊥
      none m x =
          let l = x.1 in
          let h = (upto_iff from x.0).0 ((and_iff (from upto x.0) (has (f x.0) m)).0 x.2).0 in
          omega arith

  pub gathered_turn : (i w u : ℕ) → Gathered f from to i w → i < to → u ≡ f i → Gathered f from to (i + 1) (bit_or w u)
  unfolding any_below ◌and◌ at
  gathered_turn i w u g l e = record {
    start = omega (arith, g.start);
    inside = λ j a b. omega arith;
    so_far = record {
      members = λ m.
          has-or w u m ∙ ap₂ ◌or◌ (g.so_far.members m) (ap (λ (x : ℕ). has x m) e
          ∙ ap (λ (b : Bool). b and has (f i) m) (sym (true_of (from upto i) ((upto_iff from i).1 g.start))))
          ∙ ap (λ (n : ℕ). any_below n (at m)) (sym (add-one i));
    };
  }

  pub gathered_end : (i w : ℕ) → Gathered f from to i w → to ≤ i → UnionOver f from to w
  unfolding at
  gathered_end i w g l = record { members = λ m. g.so_far.members m ∙ same_test (any_below i (at m)) (any_below to (at m)) (cut m) (more m) }
    where
      cut : (m : ℕ) → T (any_below i (at m)) → T (any_below to (at m))
      cut m t =
          let x = (any_iff i (at m)).0 t in
          let h = (upto_iff from x.0).0 ((and_iff (from upto x.0) (has (f x.0) m)).0 x.2).0 in
          (any_iff to (at m)).1 (x.0, g.inside x.0 h x.1, x.2)

      more : (m : ℕ) → T (any_below to (at m)) → T (any_below i (at m))
      more m t = let x = (any_iff to (at m)).0 t in let h = x.1 in (any_iff i (at m)).1 (x.0, omega arith, x.2)

  -- a union has no digit from n on exactly where none of its sets has
  pub union_past : (n w : ℕ) → UnionOver f from to w → (w / 2 ^ n ≡ 0) ↔ ((i : ℕ) → i < to → from ≤ i → f i / 2 ^ n ≡ 0)
  unfolding at
  union_past n w u = (each, all)
    where
      each : w / 2 ^ n ≡ 0 → (i : ℕ) → i < to → from ≤ i → f i / 2 ^ n ≡ 0
      each z i b a =
          (past_iff (f i) n).1 (λ m t. (past_iff w n).0 z m (of_true (u.members m
          ∙ true_of (any_below to (at m)) ((any_iff to (at m)).1 (i, b, (and_iff (from upto i) (has (f i) m)).1 ((upto_iff from i).1 a, t))))))

      all : ((i : ℕ) → i < to → from ≤ i → f i / 2 ^ n ≡ 0) → w / 2 ^ n ≡ 0
      all g =
          (past_iff w n).1 (λ m t.
          let x = (any_iff to (at m)).0 (of_true (sym (u.members m) ∙ true_of (has w m) t)) in
          let y = (and_iff (from upto x.0) (has (f x.0) m)).0 x.2 in
          (past_iff (f x.0) n).0 (g x.0 x.1 ((upto_iff from x.0).0 y.0)) m y.1)

pub ruleset unions = (rules, gathered_start, gathered_turn, gathered_end)
