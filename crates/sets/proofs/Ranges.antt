-- What `all`, `any` and `fold` over a range say of its numbers. Assumes nothing.
use mathlib.Core.Path.{◌≡◌, refl, sym, ap, subst, ◌∙◌}
use mathlib.Core.Bool.{Bool, true, false}
use mathlib.Core.List.{List, [], ◌∷◌}
use Prim.Native.Nat.{ℕ, ◌+◌, ◌-◌, ◌≤◌, ◌<◌, zero-le}
use native.Mathlib.Omega.{arith}
use lib.ListN.{length, get_or}
use lib.Dec.{T}
use denote.Param.Members.{Mut}
use Rattle.std.specs.Prelude.{MatchBool}
use Rattle.std.specs.Fn.{Called}
use Rattle.std.specs.declared.ops.Range.{Range}
use Rattle.std.specs.Iterator.{Yields, FoldTurn, FoldsItems}
use Rattle.std.specs.List.{range_with_len, AllWithin, HoldsAt, FoldsTo}
use Rattle.std.proofs.iter.Yields.{nat_range_steps}
use Rattle.std.proofs.lemmas.List.FromFn.{length-range_with_len, get_or-range_with_len}
use Rattle.definitions.specs.Bounded.{all_below, any_below}
use Rattle.definitions.proofs.Bounded.{all_iff, any_iff, true_of, of_true, false_of, not-false}

module _ (P : ℕ → Type 0) (a n : ℕ) where
  -- the n numbers from a on
  abbrev numbers : List ℕ
  numbers = range_with_len a n

  -- P holds of each of them
  abbrev pub Each : Type 0
  Each = AllWithin P numbers 0 (length numbers)

  -- P holds of one of them
  abbrev pub One : Type 0
  One = (k : ℕ) × (k < length numbers) × HoldsAt P numbers k

  pub each_in : Each → (k : ℕ) → a ≤ k → k < a + n → P k
  each_in h k l q =
      subst P (omega (arith, l, get_or-range_with_len a n (k - a) 0 (omega (arith, l, q))))
      (h (k - a) 0 zero-le (omega (arith, l, q, length-range_with_len a n)))

  pub one_in : One → (k : ℕ) × (a ≤ k) × (k < a + n) × P k
  one_in h =
      let q : h.0 < n = omega (arith, h.1, length-range_with_len a n) in
      let e = get_or-range_with_len a n h.0 0 q in
      (get_or numbers h.0 0, omega (arith, e), omega (arith, e, q), h.2 0)

-- a test of each of the first n numbers, and of one
module _ (p : ℕ → Bool) (n : ℕ) where
  pub all_numbers : (r : Bool) → MatchBool r (Each (λ k. true ≡ p k) 0 n) (One (λ k. false ≡ p k) 0 n) → r ≡ all_below n p
  all_numbers true h = sym (true_of (all_below n p) ((all_iff n p).1 (λ k l. of_true (sym (each_in (λ k. true ≡ p k) 0 n h k zero-le (omega (arith, l)))))))
  all_numbers false h =
      let o = one_in (λ k. false ≡ p k) 0 n h in
      sym (false_of (all_below n p) (λ t. not-false (sym o.3) ((all_iff n p).0 t o.0 (omega (arith, o.2)))))

  pub any_numbers : (r : Bool) → MatchBool r (One (λ k. true ≡ p k) 0 n) (Each (λ k. false ≡ p k) 0 n) → r ≡ any_below n p
  any_numbers true h =
      let o = one_in (λ k. true ≡ p k) 0 n h in
      sym (true_of (any_below n p) ((any_iff n p).1 (o.0, omega (arith, o.2), of_true (sym o.3))))
  any_numbers false h =
      sym (false_of (any_below n p) (λ t. let o = (any_iff n p).0 t in not-false (sym (each_in (λ k. false ≡ p k) 0 n h o.0 zero-le (omega (arith, o.1)))) o.2))

-- a fold over from..to whose turns keep J and leave the closure as it is: J at its end, which is `to` where the range has a number or none is asked
module _ {F C : Type 0} (g : Mut F (C × (ℕ × Unit {0})) C) (J : ℕ → C → Type 0) (f : F) (from to : ℕ)
    (turn : (i : ℕ) (a b : C) (f' : F) → J i a → i < to → Called g f (a, (i, tt)) b f' → J (i + 1) b × (f' ≡ f)) where
  turns : (xs : List ℕ) (s t : Range ℕ) (p q : F × C) → p.0 ≡ f → J s.start p.1 → s.end ≡ to → (from ≤ to → s.start ≤ to) → Yields nat_range_steps s xs t
      → t.end - t.start ≡ 0 → FoldsTo {P = F × C} (FoldTurn g) p xs q → (i : ℕ) × (to ≤ i) × (from ≤ to → i ≤ to) × J i q.1
  turns [] s t p q e j l w y z c =
      (s.start, omega (arith, l, z, ap (λ (s : Range ℕ). s.end) y, ap (λ (s : Range ℕ). s.start) y), w, subst (λ (q : F × C). J s.start q.1) c j)
  turns (x ∷ xs) s t p q e j l w y z c =
      let u = y.0 in
      let m = c.0 in
      let here : Called g f (p.1, (s.start, tt)) m.1 m.0 = subst (λ (f : F). Called g f (p.1, (s.start, tt)) m.1 m.0) e (subst (λ (i : ℕ). Called g p.0 (p.1, (i, tt)) m.1 m.0) y.1.1.1 c.1) in
      let below : s.start < to = omega (arith, l, y.1.1.0) in
      let h : J (s.start + 1) m.1 × (m.0 ≡ f) = turn s.start p.1 m.1 m.0 j below here in
      turns xs u t m q h.1 (subst (λ (i : ℕ). J i m.1) (omega (arith, y.1.1.2)) h.0) (omega (arith, l, y.1.0)) (λ _. omega (arith, below, y.1.1.2)) y.2 z c.2

  pub fold_between : (a r : C) → J from a → FoldsItems nat_range_steps g (record { start = from; end = to }) f a r → (i : ℕ) × (to ≤ i) × (from ≤ to → i ≤ to) × J i r
  fold_between a r j ran = turns ran.0 (record { start = from; end = to }) ran.2.1.0 (f, a) (ran.1, r) refl j refl (λ l. l) ran.2.1.1 ran.2.1.2.1.0 ran.3

  pub fold_up : (a r : C) → from ≤ to → J from a → FoldsItems nat_range_steps g (record { start = from; end = to }) f a r → J to r
  fold_up a r l j ran = let e = fold_between a r j ran in let k = e.2 l in subst (λ (i : ℕ). J i r) (omega (arith, k, e.1)) e.3
