-- The loop of the check, in four chains: at place p with n words to go, what is left takes the check so far to the answer R. Assumes nothing.
use Rattle.std.proofs.Common.{◌≡◌, ℕ, zero, suc, ◌+◌, ◌-◌, ◌*◌, ◌%◌, ◌^◌, ◌<◌, ◌≤◌, List, length, drop, sym, refl, ap, ◌∙◌, ap₂, not-suc-le-zero, arith, rules}
use Rattle.definitions.specs.Words.{word_at, words_of}
use Rattle.definitions.specs.Check.{check_from, check_of}
use Rattle.definitions.proofs.Check.{check-turn}
use Rattle.blocks.proofs.Modulo.{Same, same, step_same, chain_step-is}

-- ---- word by word

-- c is the check so far, reduced or not
pub record ToGo (s : List ℕ) (R p n c : ℕ) : Type 0 where
  pub room : p + 8 * n ≤ length s
  pub rest : check_from (c % 2 ^ 64) (words_of n (drop p s)) ≡ R

-- one word more
turn : (s : List ℕ) (R p q m n c w : ℕ) → q ≡ p + 8 → m ≡ n + 1 → w ≡ word_at s p → ToGo s R p m c → ToGo s R q n (31 * c + w)
turn s R p q m n c w e f g h =
    let here : (31 * c + w) % 2 ^ 64 ≡ (31 * (c % 2 ^ 64) + word_at s p) % 2 ^ 64 =
    step_same c (c % 2 ^ 64) w (word_at s p) (sym (same (c % 2 ^ 64) c refl)) (ap (λ (x : ℕ). x % 2 ^ 64) g) in
    let left : n ≡ m - 1 = omega arith in
    record {
      room = omega (arith, h.room);
      rest =
          ap₂ (λ (k r : ℕ). check_from ((31 * c + w) % 2 ^ 64) (words_of k (drop r s))) left e
          ∙ sym (check-turn s p m (c % 2 ^ 64) ((31 * c + w) % 2 ^ 64) (omega arith) here) ∙ h.rest;
    }

-- ---- in four chains

-- the check of the words that four chains have: the chains joined by three steps
unfoldable pub of_chains : ℕ → ℕ → ℕ → ℕ → ℕ
of_chains a b c d = 31 * (31 * (31 * a + b) + c) + d

-- n turns of four words to go
pub record Chains (s : List ℕ) (R p n a b c d : ℕ) : Type 0 where
  pub check : ToGo s R p (4 * n) (of_chains a b c d)

of_chains_same : (a b c d x y z w : ℕ) → Same a x → Same b y → Same c z → Same d w → Same (of_chains a b c d) (of_chains x y z w)
unfolding of_chains
of_chains_same a b c d x y z w e f g h =
    step_same (31 * (31 * a + b) + c) (31 * (31 * x + y) + z) d w (step_same (31 * a + b) (31 * x + y) c z (step_same a x b y e f) g) h

-- the 1 of the start and the first three words
pub chains_start : (s : List ℕ) (p b c d : ℕ) → length s ≡ 512 → p ≡ 24 → b ≡ word_at s 0 → c ≡ word_at s 8 → d ≡ word_at s 16
    → Chains s (check_of s) p 15 1 b c d
unfolding of_chains check_of
chains_start s p b c d h q e f g =
    let R = check_from 1 (words_of 63 s) in
    let none : ToGo s R 0 63 1 = record { room = omega (arith, h); rest = refl } in
    let one = turn s R 0 8 63 62 1 b refl refl e none in
    let two = turn s R 8 16 62 61 (31 * 1 + b) c refl refl f one in
    record { check = turn s R 16 p 61 60 (31 * (31 * 1 + b) + c) d q refl g two }

-- four words more, one to a chain
pub chains_turn : (s : List ℕ) (R p n q m a b c d e f g h : ℕ) → Chains s R p n a b c d → 0 < n → q ≡ p + 32 → m + 1 ≡ n
    → e ≡ (31 ^ 4 * a + word_at s p) % 2 ^ 64 → f ≡ (31 ^ 4 * b + word_at s (p + 8)) % 2 ^ 64 → g ≡ (31 ^ 4 * c + word_at s (p + 16)) % 2 ^ 64
    → h ≡ (31 ^ 4 * d + word_at s (p + 24)) % 2 ^ 64 → Chains s R q m e f g h
unfolding of_chains
chains_turn s R p n q m a b c d e f g h k l eq em ee ef eg eh =
    let v = 4 * m in
    let j = of_chains a b c d in
    let x = word_at s p in
    let y = word_at s (p + 8) in
    let z = word_at s (p + 16) in
    let w = word_at s (p + 24) in
    let one = turn s R p (p + 8) (4 * n) (v + 3) j x refl (omega arith) refl k.check in
    let two = turn s R (p + 8) (p + 16) (v + 3) (v + 2) (31 * j + x) y (omega arith) (omega arith) refl one in
    let three = turn s R (p + 16) (p + 24) (v + 2) (v + 1) (31 * (31 * j + x) + y) z (omega arith) (omega arith) refl two in
    let four = turn s R (p + 24) q (v + 1) v (31 * (31 * (31 * j + x) + y) + z) w (omega arith) refl refl three in
    let shared : 31 * (31 * (31 * (31 * j + x) + y) + z) + w ≡ of_chains (31 ^ 4 * a + x) (31 ^ 4 * b + y) (31 ^ 4 * c + z) (31 ^ 4 * d + w) = omega arith in
    let reduced =
    of_chains_same e f g h (31 ^ 4 * a + x) (31 ^ 4 * b + y) (31 ^ 4 * c + z) (31 ^ 4 * d + w) (same e (31 ^ 4 * a + x) ee) (same f (31 ^ 4 * b + y) ef)
    (same g (31 ^ 4 * c + z) eg) (same h (31 ^ 4 * d + w) eh) in
    let now = reduced ∙ sym (ap (λ (t : ℕ). t % 2 ^ 64) shared) in
    record { check = record { room = four.room; rest = ap (λ (t : ℕ). check_from t (words_of v (drop q s))) now ∙ four.rest } }

-- the chains joined, where no word is left
pub chains_end : (s : List ℕ) (R p n a b c d x y r : ℕ) → Chains s R p n a b c d → n ≤ 0
    → x ≡ (31 * a + b) % 2 ^ 64 → y ≡ (31 * x + c) % 2 ^ 64 → r ≡ (31 * y + d) % 2 ^ 64 → r ≡ R
unfolding check_from words_of of_chains
chains_end s R p zero a b c d x y r h l e f g =
    g ∙ step_same y (31 * (31 * a + b) + c) d d (same y (31 * x + c) f ∙ step_same x (31 * a + b) c c (same x (31 * a + b) e) refl) refl ∙ h.check.rest
chains_end s R p (suc n) a b c d x y r h l e f g = absurd (not-suc-le-zero l)

pub ruleset sums = (rules, chain_step-is, chains_start, chains_turn, chains_end)
