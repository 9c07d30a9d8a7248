-- The laws of the block check: one word at a time, and as a sum of the words times powers of 31; of a block of an image. Assumes nothing.
use mathlib.Core.Path.{◌≡◌, sym, ap, ap₂, ◌∙◌}
use mathlib.Core.List.{List, [], ◌∷◌}
use Prim.Native.Nat.{ℕ, zero, suc, ◌+◌, ◌-◌, ◌*◌, ◌/◌, ◌%◌, ◌^◌, ◌<◌}
use native.Mathlib.Nat.{mod-lt, mod-eq_of_lt, mul_comm, mul_assoc, mul-add, add-mul, mul-one, add-zero, pow-succ', not-suc-le-zero, div-add-mod', mul-add-mod_self_right}
use native.Mathlib.Numerals.{sub-one}
use native.Mathlib.Omega.{arith}
use lib.Dec.{lit<}
use lib.ListN.{drop}
use lib.Seq.{drop-drop}
use Rattle.definitions.specs.Words.{word_at, words_of, block_of}
use Rattle.definitions.specs.Check.{check_from, check_of, stored_check}
use Rattle.definitions.proofs.Words.{word_at_block, word_at-drop, words_of_block}

-- ---- of a block, as of the image from the block on

pub check_of_block : (image : List ℕ) (k : ℕ) → check_of (block_of image k) ≡ check_from 1 (words_of 63 (drop (512 * k) image))
unfolding check_of
check_of_block image k = ap (check_from 1) (words_of_block image k 63 (omega arith))

pub stored_check_block : (image : List ℕ) (k : ℕ) → stored_check (block_of image k) ≡ word_at image (512 * k + 504)
unfolding stored_check
stored_check_block image k = word_at_block image k 504 (omega arith)

-- ---- one word at a time, with n words to go from place p

pub check-turn : (s : List ℕ) (p n c d : ℕ) → 0 < n → d ≡ (31 * c + word_at s p) % 2 ^ 64
    → check_from c (words_of n (drop p s)) ≡ check_from d (words_of (n - 1) (drop (p + 8) s))
unfolding check_from words_of
check-turn s p zero c d l e = absurd (not-suc-le-zero l)
check-turn s p (suc n) c d l e =
    let w : word_at (drop p s) 0 ≡ word_at s p = word_at-drop p s 0 ∙ ap (word_at s) (add-zero p) in
    ap₂ check_from (ap (λ (x : ℕ). (31 * c + x) % 2 ^ 64) w ∙ sym e)
    (ap₂ words_of (sym (sub-one (suc n))) (drop-drop 8 p s))

pub check-lt : (c : ℕ) (ws : List ℕ) → c < 2 ^ 64 → check_from c ws < 2 ^ 64
unfolding check_from
check-lt c [] h = h
check-lt c (w ∷ ws) h = check-lt ((31 * c + w) % 2 ^ 64) ws (mod-lt (31 * c + w) (lit< tt))

-- ---- as a sum

-- a factor may be reduced first
pub mul-mod_r : (a b m : ℕ) → (a * (b % m)) % m ≡ (a * b) % m
mul-mod_r a b m =
    sym
    (ap (λ (x : ℕ). (a * x) % m) (sym (div-add-mod' b m))
    ∙ ap (λ (x : ℕ). x % m) (mul-add a (b / m * m) (b % m) ∙ ap (λ (y : ℕ). y + a * (b % m)) (sym (mul_assoc a (b / m) m)))
    ∙ mul-add-mod_self_right (a * (b / m)) m (a * (b % m)))

pub mul-mod_l : (a b m : ℕ) → (a % m * b) % m ≡ (a * b) % m
mul-mod_l a b m = ap (λ (x : ℕ). x % m) (mul_comm (a % m) b) ∙ mul-mod_r b a m ∙ ap (λ (x : ℕ). x % m) (mul_comm b a)

-- what the first n words of a list add: each times the power of 31 that counts the words after it
unfoldable pub weigh : ℕ → List ℕ → ℕ
weigh zero s = 0
weigh (suc n) s = word_at s 0 * 31 ^ n + weigh n (drop 8 s)

reduced : (c q r : ℕ) → (c % 2 ^ 64 * q + r) % 2 ^ 64 ≡ (c * q + r) % 2 ^ 64
reduced c q r = omega (arith, mul-mod_l c q (2 ^ 64))

spread : (c w q r : ℕ) → (31 * c + w) * q + r ≡ c * (31 * q) + (w * q + r)
spread c w q r =
    let a : (31 * c + w) * q ≡ 31 * c * q + w * q = add-mul (31 * c) w q in
    let b : 31 * c * q ≡ c * (31 * q) = ap (λ (x : ℕ). x * q) (mul_comm 31 c) ∙ mul_assoc c 31 q in
    omega (arith, a, b)

weigh_from : (n : ℕ) (s : List ℕ) (c : ℕ) → check_from c (words_of n s) % 2 ^ 64 ≡ (c * 31 ^ n + weigh n s) % 2 ^ 64
unfolding check_from words_of weigh
weigh_from zero s c = ap (λ (x : ℕ). x % 2 ^ 64) (sym (add-zero (c * 1) ∙ mul-one c))
weigh_from (suc n) s c =
    let w = word_at s 0 in
    let r = weigh n (drop 8 s) in
    weigh_from n (drop 8 s) ((31 * c + w) % 2 ^ 64) ∙ reduced (31 * c + w) (31 ^ n) r
    ∙ ap (λ (x : ℕ). x % 2 ^ 64) (spread c w (31 ^ n) r ∙ ap (λ (x : ℕ). c * x + (w * 31 ^ n + r)) (sym (pow-succ' 31 n)))

pub check-weigh : (n : ℕ) (s : List ℕ) (c : ℕ) → c < 2 ^ 64 → check_from c (words_of n s) ≡ (c * 31 ^ n + weigh n s) % 2 ^ 64
check-weigh n s c h = sym (mod-eq_of_lt (check-lt c (words_of n s) h)) ∙ weigh_from n s c

-- one word more of the sum, with n words to go from place p
pub weigh-turn : (s : List ℕ) (p n : ℕ) → 0 < n → weigh n (drop p s) ≡ word_at s p * 31 ^ (n - 1) + weigh (n - 1) (drop (p + 8) s)
unfolding weigh
weigh-turn s p zero l = absurd (not-suc-le-zero l)
weigh-turn s p (suc n) l =
    let w : word_at (drop p s) 0 ≡ word_at s p = word_at-drop p s 0 ∙ ap (word_at s) (add-zero p) in
    let m : n ≡ suc n - 1 = sym (sub-one (suc n)) in
    ap₂ ◌+◌ (ap₂ ◌*◌ w (ap (λ (i : ℕ). 31 ^ i) m)) (ap₂ weigh m (drop-drop 8 p s))
