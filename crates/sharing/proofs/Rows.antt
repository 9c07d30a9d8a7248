-- A table with an entry for each box, made in order. Assumes nothing.
use mathlib.Core.Path.{◌≡◌, sym, subst}
use mathlib.Core.List.{List, ◌++◌}
use Prim.Native.Nat.{ℕ, ◌+◌, ◌≤◌, ◌<◌}
use native.Mathlib.Omega.{arith}
use native.Mathlib.Decide.{ℕ_discrete}
use native.Mathlib.Nat.{not-suc-le-zero}
use lib.ListN.{length, get_or, set, take, length-set, length-take, get_or-append}
use lib.Seq.{get_or-set_same, get_or-set_other}

-- a table of n entries: those below k are right
pub record Rows {A : Type 0} (d : A) (P : ℕ → A → Type 0) (n k : ℕ) (t : List A) : Type 0 where
  pub size : length t ≡ n
  pub each : (i : ℕ) → i < k → P i (get_or t i d)

module _ {A : Type 0} (d : A) (P : ℕ → A → Type 0) where
  pub rows_start : (n : ℕ) (t : List A) → n ≤ length t → Rows d P n 0 (take n t)
  rows_start n t h = record { size = omega (arith, length-take n t); each = λ i l. absurd (not-suc-le-zero l) }

  pub rows_turn : (n k : ℕ) (w : A) (t : List A) → Rows d P n k t → k < length t → P k w → Rows d P n (k + 1) (set t k w)
  rows_turn n k w t f h p = record { size = simp length-set f.size; each = λ i l. pick i l (ℕ_discrete k i) }
    where
      pick : (i : ℕ) → i < k + 1 → Dec (k ≡ i) → P i (get_or (set t k w) i d)
      pick i l (yes z) = subst (λ (j : ℕ). P j (get_or (set t k w) j d)) z (subst (P k) (sym (get_or-set_same t k w d h)) p)
      pick i l (no z) = subst (P i) (sym (get_or-set_other t k i w d (λ q. z (sym q)))) (f.each i (omega arith))

  -- the entries, before what follows them
  pub rows_end : (n k : ℕ) (t u : List A) → Rows d P n k t → n ≤ k → (i : ℕ) → i < n → P i (get_or (t ++ u) i d)
  rows_end n k t u f h i l = rw (get_or-append t u d i (omega (arith, f.size))) (f.each i (omega arith))
