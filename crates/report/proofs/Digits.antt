-- The definitions' decimal is the library's. Assumes nothing.
use Rattle.std.proofs.Common.{◌≡◌, refl, ap, ◌∙◌, sym, ℕ, zero, suc, ◌+◌, ◌/◌, ◌%◌, ◌-◌, ◌≤◌, ◌<◌, ◌^◌, List, [], ◌∷◌, ◌++◌, Bool, true, false, arith}
use Rattle.std.specs.Fmt as library
use Rattle.std.proofs.lemmas.Fmt.{AppendsLastDigit, decimal_from_appends, length-decimal-le}
use borrow.Author.Rules.{rules}
use lib.ListN.{length}
use Rattle.definitions.specs.Bounded.{◌below◌}
use Rattle.definitions.specs.Program.{decimal_in, decimal}
use Rattle.definitions.proofs.Bounded.{true_of, false_of, below_iff}

choose : ℕ → ℕ → Bool → List ℕ
choose most n b = elim b [ true ↦ (48 + n) ∷ [] | false ↦ decimal_in most (n / 10) ++ ((48 + n % 10) ∷ []) ]

digits_step : (most n : ℕ) → decimal_in (suc most) n ≡ choose most n (n below 10)
unfolding decimal_in choose
digits_step most n = refl

appends : AppendsLastDigit decimal_in
unfolding choose
appends = record {
  one = λ k n l. digits_step k n ∙ ap (choose k n) (true_of (n below 10) ((below_iff n 10).1 l));
  more = λ k n l. digits_step k n ∙ ap (choose k n) (false_of (n below 10) (λ t. let q = (below_iff n 10).0 t in omega arith));
}

-- the digits of a number, of at most so many: none, one, and more
pub no_digits : (most n : ℕ) → most ≡ 0 → decimal_in most n ≡ []
unfolding decimal_in
no_digits most n e = ap (λ (m : ℕ). decimal_in m n) e

before : (most : ℕ) → (most ≡ 0 → ⊥) → most ≡ suc (most - 1)
before most h = omega (arith, h)

pub one-digit : (most n : ℕ) → (most ≡ 0 → ⊥) → n < 10 → decimal_in most n ≡ (48 + n) ∷ []
unfolding choose
one-digit most n h l =
    ap (λ (m : ℕ). decimal_in m n) (before most h) ∙ digits_step (most - 1) n ∙ ap (choose (most - 1) n) (true_of (n below 10) ((below_iff n 10).1 l))

pub more_digits : (most n : ℕ) → (most ≡ 0 → ⊥) → 10 ≤ n → decimal_in most n ≡ decimal_in (most - 1) (n / 10) ++ ((48 + n % 10) ∷ [])
unfolding choose
more_digits most n h l =
    ap (λ (m : ℕ). decimal_in m n) (before most h) ∙ digits_step (most - 1) n
    ∙ ap (choose (most - 1) n) (false_of (n below 10) (λ t. let q = (below_iff n 10).0 t in omega arith))

pub decimal_as : (n : ℕ) → n < 2 ^ 64 → library.decimal n ≡ decimal n
decimal_as n h = sym (decimal_from_appends decimal_in appends 20 n h (length-decimal-le 20 n (omega arith) (omega arith) h))

pub decimal_short : (n : ℕ) → n < 2 ^ 64 → length (library.decimal n) ≤ 20
decimal_short n h = length-decimal-le 20 n (omega arith) (omega arith) h

pub decimal_20 : (n : ℕ) → n < 2 ^ 64 → length (decimal n) ≤ 20
decimal_20 n h = let e = ap length (decimal_as n h) in let s = decimal_short n h in omega (arith, e)

pub ruleset digits = (rules, decimal_as, decimal_short, decimal_20)

pub ruleset digits_in = (rules, no_digits, one-digit, more_digits)
