-- Laws of the check's arithmetic modulo 2 ^ 64: a step, 31 times a number by five doublings, and four factors of 31. Assumes nothing.
use Rattle.std.proofs.Common.{◌≡◌, ℕ, ◌+◌, ◌*◌, ◌%◌, ◌^◌, ◌<◌, sym, ap, ◌∙◌, arith}
use Rattle.definitions.proofs.Check.{mul-mod_r}

-- equal modulo 2 ^ 64
abbrev pub Same : ℕ → ℕ → Type 0
Same x y = x % 2 ^ 64 ≡ y % 2 ^ 64

pub same : (x y : ℕ) → x ≡ y % 2 ^ 64 → Same x y
same x y e = omega arith

add_same : (x y v w : ℕ) → Same x y → Same v w → Same (x + v) (y + w)
add_same x y v w e f = omega arith

times31_same : (x y : ℕ) → Same x y → Same (31 * x) (31 * y)
times31_same x y e = sym (mul-mod_r 31 x (2 ^ 64)) ∙ ap (λ (u : ℕ). (31 * u) % 2 ^ 64) e ∙ mul-mod_r 31 y (2 ^ 64)

pub step_same : (x y v w : ℕ) → Same x y → Same v w → Same (31 * x + v) (31 * y + w)
step_same x y v w e f = add_same (31 * x) (31 * y) v w (times31_same x y e) f

double_same : (x a b : ℕ) → Same a x → b ≡ (a + a) % 2 ^ 64 → Same b (x + x)
double_same x a b e f = same b (a + a) f ∙ add_same a x a x e e

less_one : (x r e : ℕ) → r < 2 ^ 64 → Same e (32 * x) → (r + x) % 2 ^ 64 ≡ e → r ≡ 31 * x % 2 ^ 64
less_one x r e h p s = omega arith

-- five doublings, and x off 32 x
pub thirty_one : (x a b c d e r : ℕ) → a ≡ (x + x) % 2 ^ 64 → b ≡ (a + a) % 2 ^ 64 → c ≡ (b + b) % 2 ^ 64 → d ≡ (c + c) % 2 ^ 64
    → e ≡ (d + d) % 2 ^ 64 → (r + x) % 2 ^ 64 ≡ e → r < 2 ^ 64 → r ≡ 31 * x % 2 ^ 64
thirty_one x a b c d e r ha hb hc hd he hr h =
    let x₁ = x + x in
    let x₂ = x₁ + x₁ in
    let x₃ = x₂ + x₂ in
    let x₄ = x₃ + x₃ in
    let all : Same e (x₄ + x₄) =
    double_same x₄ d e (double_same x₃ c d (double_same x₂ b c (double_same x₁ a b (same a x₁ ha) hb) hc) hd) he in
    let sum : x₄ + x₄ ≡ 32 * x = omega arith in
    less_one x r e h (all ∙ ap (λ (y : ℕ). y % 2 ^ 64) sum) hr

-- three times 31 and a step are 31 ^ 4 and the word
pub chain_step-is : (c x y z w v r : ℕ) → x ≡ (31 * c) % 2 ^ 64 → y ≡ (31 * x) % 2 ^ 64 → z ≡ (31 * y) % 2 ^ 64 → w ≡ v → r ≡ (31 * z + w) % 2 ^ 64
    → r ≡ (31 ^ 4 * c + v) % 2 ^ 64
chain_step-is c x y z w v r e f g k h =
    let y' : Same y (31 * (31 * c)) = same y (31 * x) f ∙ times31_same x (31 * c) (same x (31 * c) e) in
    let z' : Same z (31 * (31 * (31 * c))) = same z (31 * y) g ∙ times31_same y (31 * (31 * c)) y' in
    let r' = h ∙ step_same z (31 * (31 * (31 * c))) w v z' (ap (λ (u : ℕ). u % 2 ^ 64) k) in
    omega (arith, r')
