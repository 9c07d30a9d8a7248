-- The reach of a line's names, from sets. Assumes nothing.
use mathlib.Core.Path.{◌≡◌, sym, subst}
use mathlib.Core.Bool.{false, not}
use mathlib.Core.Logic.{◌⊎◌, inl, inr}
use Prim.Native.Nat.{ℕ, ◌-◌, ◌^◌, ◌≤◌, ◌<◌}
use native.Mathlib.Omega.{arith}
use lib.Dec.{T}
use lib.Bits.{bit_and}
use lib.ListN.{length}
use Rattle.definitions.specs.Bounded.{◌and◌, ◌or◌, ◌is◌, ◌implies◌, all_below}
use Rattle.definitions.specs.Sets.{has}
use Rattle.definitions.specs.Model.{Line, Model, line_at, box_at, listed, kind_of_name, is_free, binds, bound_above}
use Rattle.definitions.specs.ReadModel.{uses, bound_before, reach_fits}
use Rattle.definitions.proofs.Bounded.{and_iff, or_iff, implies_iff, below_iff, all_iff, false_of, not-false, decide}
use Rattle.definitions.proofs.Faults.{not_iff}
use Rattle.records.specs.NameSets.{SetOf}
use Rattle.line_table.specs.Told.{Empty}
use Rattle.line_table.proofs.Digits.{in_set, lacks}

module _ (m : Model) (b i : ℕ) (l : Line) (e : l ≡ line_at (box_at m b) i) (few : length m.kinds ≤ 60)
    (a f y v seen bs : ℕ) (all : SetOf a (listed m.kinds)) (free : SetOf f (is_free m.kinds)) (fv : v < 2 ^ 64)
    (named : (n : ℕ) → n < 64 → T (uses l n) → T (has a n))
    (inside : (n : ℕ) → n < 64 → T (uses l n) → has f n ≡ false → T (has y n))
    (above : (n : ℕ) → n < 63 → has v n ≡ bound_above (box_at m b) i n)
    (before : SetOf seen (bound_before m b i)) (binder : SetOf bs (binds l))
    (reached : Empty (bit_and y (2 ^ 64 - 1 - v))) (once : Empty (bit_and seen bs)) where
  in_above : (n : ℕ) → n < 64 → T (has y n) → T (has v n)
  in_above n h t = in_set v n h fv (λ u. not-false (lacks y (2 ^ 64 - 1 - v) reached n u) t)

  reaches : (n : ℕ) → n < 64 → T (uses l n) → T (kind_of_name m.kinds n is 0 or bound_above (box_at m b) i n)
  reaches n h u = (or_iff (kind_of_name m.kinds n is 0) (bound_above (box_at m b) i n)).1 (pick (decide (has f n)))
    where
      small : n < 60
      small = let q = (below_iff n (length m.kinds)).0 (subst T (all.at n h) (named n h u)) in omega arith

      pick : T (has f n) ⊎ (T (has f n) → ⊥) → T (kind_of_name m.kinds n is 0) ⊎ T (bound_above (box_at m b) i n)
      pick (inl t) = inl ((and_iff (listed m.kinds n) (kind_of_name m.kinds n is 0)).0 (subst T (free.at n h) t)).1
      pick (inr t) = inr (subst T (above n (omega (arith, small))) (in_above n h (inside n h u (false_of (has f n) t))))

  first-bound : (n : ℕ) → n < 64 → T (binds l n) → T (bound_before m b i n) → ⊥
  first-bound n h u t = not-false (lacks seen bs once n (subst T (sym (binder.at n h)) u)) (subst T (sym (before.at n h)) t)

  pub reach_right : T (reach_fits m b i)
  unfolding reach_fits
  reach_right = subst (λ (l : Line). T (all_below 64 (λ n. (uses l n implies kind_of_name m.kinds n is 0 or bound_above (box_at m b) i n) and (binds l n implies not (bound_before m b i n))))) e
      ((all_iff 64 (λ n. (uses l n implies kind_of_name m.kinds n is 0 or bound_above (box_at m b) i n) and (binds l n implies not (bound_before m b i n)))).1
      (λ n h. (and_iff (uses l n implies kind_of_name m.kinds n is 0 or bound_above (box_at m b) i n) (binds l n implies not (bound_before m b i n))).1 (
        (implies_iff (uses l n) (kind_of_name m.kinds n is 0 or bound_above (box_at m b) i n)).1 (reaches n h),
        (implies_iff (binds l n) (not (bound_before m b i n))).1 (λ u. (not_iff (bound_before m b i n)).1 (first-bound n h u)),
      )))
