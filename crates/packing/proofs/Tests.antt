-- What the tests of the packed answers say: below 10, and is 0; and the tag of a call's refusal. Assumes nothing.
use mathlib.Core.Path.{ap, sym}
use mathlib.Core.Bool.{Bool}
use Rattle.std.proofs.Common.{◌≡◌, true, false, ℕ, ◌<◌, ◌≤◌, arith}
use Rattle.definitions.specs.Bounded.{◌is◌, ◌below◌}
use Rattle.definitions.proofs.Bounded.{true_of, false_of, is_iff, below_iff}
use Rattle.packing.specs.Packed.{call_tag}

pub below_true : (m n : ℕ) → m < n → (m below n) ≡ true
below_true m n h = true_of (m below n) ((below_iff m n).1 h)

pub below_false : (m n : ℕ) → n ≤ m → (m below n) ≡ false
below_false m n h = false_of (m below n) (λ t. let q = (below_iff m n).0 t in omega arith)

pub is_true : (m n : ℕ) → m ≡ n → (m is n) ≡ true
is_true m n h = true_of (m is n) ((is_iff m n).1 h)

pub is_false : (m n : ℕ) → (m ≡ n → ⊥) → (m is n) ≡ false
is_false m n h = false_of (m is n) (λ t. h ((is_iff m n).0 t))

pub tag_model : (n : ℕ) → n < 10 → 2 ≡ call_tag n
tag_model n h = ap (λ (b : Bool). elim b as (λ _. ℕ) [ true ↦ 2 | false ↦ 6 ]) (sym (below_true n 10 h))

pub tag_own : (n : ℕ) → 10 ≤ n → 6 ≡ call_tag n
tag_own n h = ap (λ (b : Bool). elim b as (λ _. ℕ) [ true ↦ 2 | false ↦ 6 ]) (sym (below_false n 10 h))

pub ruleset decided = (below_true, below_false, is_true, is_false)
