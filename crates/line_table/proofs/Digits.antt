-- Laws of digits: a field whose digits are zero is zero, and what an empty meet says. Assumes nothing.
use mathlib.Core.Path.{◌≡◌, refl, sym, ap, ◌∙◌, subst}
use mathlib.Core.Bool.{Bool, true, false, not}
use mathlib.Core.Logic.{◌⊎◌, inl, inr}
use Prim.Native.Nat.{ℕ, zero, suc, ◌+◌, ◌-◌, ◌*◌, ◌/◌, ◌%◌, ◌^◌, ◌<◌}
use native.Mathlib.Nat.{mod-lt}
use native.Mathlib.Numerals.{add-one}
use native.Mathlib.Omega.{arith}
use lib.Dec.{T, eqb, lit<}
use lib.Bits.{bit_and, bit_or}
use lib.Pow.{mod-pow-add}
use Rattle.definitions.specs.Bounded.{all_below}
use Rattle.definitions.specs.Sets.{has}
use Rattle.line_table.specs.Told.{Empty}
use Rattle.definitions.proofs.Bounded.{and_iff, or_iff, all_iff, false_of, not-false}
use Rattle.definitions.proofs.Sets.{has-and, has-or, has-not, has-none, has_shr, has-suc, has-zero}

-- a digit of either is one of their join, and a digit of both one of their meet
pub in_or : (a b n : ℕ) → T (has a n) ⊎ T (has b n) → T (has (bit_or a b) n)
in_or a b n t = subst T (sym (has-or a b n)) ((or_iff (has a n) (has b n)).1 t)

pub in_and : (a b n : ℕ) → T (has a n) → T (has b n) → T (has (bit_and a b) n)
in_and a b n t u = subst T (sym (has-and a b n)) ((and_iff (has a n) (has b n)).1 (t, u))

-- a digit that is none of those that s lacks is one of s
pub in_set : (s n : ℕ) → n < 64 → s < 2 ^ 64 → (T (has (2 ^ 64 - 1 - s) n) → ⊥) → T (has s n)
in_set s n l h f = pick (has s n) (has-not 64 s n h l)
  where
    pick : (b : Bool) → has (2 ^ 64 - 1 - s) n ≡ not b → T b
    pick true q = tt
    pick false q = absurd (f (subst T (sym q) tt))

-- zero is empty; both parts of an empty join are empty
pub empty_zero : (x : ℕ) → x ≡ 0 → Empty x
empty_zero x e = record { at = λ n. ap (λ (x : ℕ). has x n) e ∙ has-none n }

pub empty_or_left : (a b : ℕ) → Empty (bit_or a b) → Empty a
empty_or_left a b e = record { at = λ n. false_of (has a n) (λ t. not-false (e.at n) (in_or a b n (inl t))) }

pub empty_or_right : (a b : ℕ) → Empty (bit_or a b) → Empty b
empty_or_right a b e = record { at = λ n. false_of (has b n) (λ t. not-false (e.at n) (in_or a b n (inr t))) }

-- where a meet is empty, one has no digit of the other
pub lacks : (a b : ℕ) → Empty (bit_and a b) → (n : ℕ) → T (has b n) → has a n ≡ false
lacks a b e n t = false_of (has a n) (λ u. not-false (e.at n) (in_and a b n u t))

-- a digit that is not 1 is 0
odd_digit : (x : ℕ) → eqb (x % 2) 1 ≡ false → x % 2 ≡ 0
odd_digit x e = pick (x % 2) (mod-lt x (lit< tt)) e
  where
    pick : (d : ℕ) → d < 2 → eqb d 1 ≡ false → d ≡ 0
    pick zero l e = refl
    pick (suc zero) l e = absurd (not-false e tt)
    pick (suc (suc d)) l e = absurd (omega arith)

-- the low k digits are zero
pub low_zero : (k x : ℕ) → ((j : ℕ) → j < k → has x j ≡ false) → x % 2 ^ k ≡ 0
low_zero zero x f = omega arith
low_zero (suc k) x f =
    let high : x / 2 % 2 ^ k ≡ 0 = low_zero k (x / 2) (λ j l. sym (has-suc x j) ∙ f (suc j) (omega arith)) in
    let low : x % 2 ≡ 0 = odd_digit x (sym (has-zero x) ∙ f 0 (omega arith)) in
    let cut : x % 2 ^ (k + 1) ≡ (x / 2 ^ 1 % 2 ^ k) * 2 ^ 1 + x % 2 ^ 1 = mod-pow-add x k 1 in
    ap (λ (n : ℕ). x % 2 ^ n) (sym (add-one k)) ∙ cut ∙ omega arith

-- the digits of z from a on, k of them, are all there, and w has none of z's: that field of w is zero
pub field_zero : (w z a k : ℕ) → Empty (bit_and w z) → T (all_below k (λ j. has z (a + j))) → w / 2 ^ a % 2 ^ k ≡ 0
field_zero w z a k e t =
    low_zero k (w / 2 ^ a) (λ j l. has_shr w a j ∙ lacks w z e (a + j) ((all_iff k (λ j. has z (a + j))).0 t j l))
