-- Laws of words: those of a range are zero, those of the slots past a count are zero, and how many numbers pass a test. Assumes nothing.
use mathlib.Core.Path.{◌≡◌, refl, sym, ap, ap₂, subst, ◌∙◌}
use mathlib.Core.Bool.{Bool, true, false}
use mathlib.Core.List.{List, []}
use mathlib.Core.Logic.{◌↔◌}
use Prim.Native.Nat.{ℕ, zero, suc, zero-le, ◌+◌, ◌-◌, ◌*◌, ◌/◌, ◌%◌, ◌≤◌, ◌<◌}
use native.Mathlib.Nat.{le_refl, mul_comm, mul-le-mul_left, mod-lt, div-add-mod', div-lt_iff_lt-mul}
use native.Mathlib.Numerals.{add-one}
use native.Mathlib.Omega.{arith}
use native.Mathlib.Decide.{ℕ_discrete, dec_lt}
use lib.Dec.{T, eqb}
use lib.ListN.{length, take, drop, get_or, length-take, length-drop}
use lib.Seq.{get_or-take, get_or-drop, drop-drop}
use Rattle.std.specs.Simd.{first_chunks}
use Rattle.definitions.specs.Bounded.{◌and◌, ◌is◌, ◌below◌, ◌upto◌, all_below}
use Rattle.definitions.specs.Slots.{word, slot}
use Rattle.definitions.specs.StateRules.{clear, slots_fit}
use Rattle.definitions.proofs.Bounded.{tests, choice_iff, and_iff, is_iff, below_iff, upto_iff, all_iff, true_of, of_true, false_of, not-false, same_test}
use Rattle.definitions.proofs.Loops.{fails, holds, ZeroRun, zeros-start, zeros-turn, zeros_end}
use Rattle.definitions.proofs.Slots.{slot_length, word_slot}
use Rattle.box_records.specs.Rules.{clear_between, count_below}

-- ---- a range of words

pub between_iff : (r : List ℕ) (from to : ℕ) → T (clear_between r from to) ↔ ((j : ℕ) → j < to → from ≤ j → word r j ≡ 0)
unfolding clear_between
between_iff r from to = (λ t. simp tests at t, λ f. simp tests f)

pub clear_end : (r : List ℕ) (from to i w : ℕ) → ZeroRun (word r) from to i w → to ≤ i → eqb w 0 ≡ clear_between r from to
unfolding ◌is◌
clear_end r from to i w p h =
    let zero = zeros_end (word r) from to i w p h in
    same_test (w is 0) (clear_between r from to)
    (λ t. (between_iff r from to).1 (zero.0 ((is_iff w 0).0 t)))
    (λ t. (is_iff w 0).1 (zero.1 ((between_iff r from to).0 t)))

-- a part of a list is zero where its words are
pub clear_part : (r : List ℕ) (a n : ℕ) → a + n ≤ length r → clear_between (take n (drop a r)) 0 (length (take n (drop a r))) ≡ clear_between r a (a + n)
clear_part r a n room =
    same_test (clear_between part 0 (length part)) (clear_between r a (a + n))
    (λ t. (between_iff r a (a + n)).1 (λ j l g. ap (word r) (let z : j ≡ a + (j - a) = omega arith in z) ∙ sym (at (j - a) (omega arith)) ∙ (between_iff part 0 (length part)).0 t (j - a) (omega (arith, size)) zero-le))
    (λ t. (between_iff part 0 (length part)).1 (λ j l g. at j (omega (arith, size)) ∙ (between_iff r a (a + n)).0 t (a + j) (omega (arith, size)) (omega arith)))
  where
    part : List ℕ
    part = take n (drop a r)

    size : length part ≡ n
    size = simp (length-take, length-drop) (omega arith)

    at : (j : ℕ) → j < n → word part j ≡ word r (a + j)
    at j l = get_or-take n (drop a r) j 0 l ∙ get_or-drop a r j 0

-- the end of a list too
clear_rest : (r : List ℕ) (a : ℕ) → a ≤ length r → clear_between (drop a r) 0 (length (drop a r)) ≡ clear_between r a (length r)
clear_rest r a h =
    same_test (clear_between (drop a r) 0 (length (drop a r))) (clear_between r a (length r))
    (λ t. (between_iff r a (length r)).1 (λ j l g. ap (word r) (let z : j ≡ a + (j - a) = omega arith in z) ∙ sym (get_or-drop a r (j - a) 0) ∙ (between_iff (drop a r) 0 (length (drop a r))).0 t (j - a) (omega (arith, size)) zero-le))
    (λ t. (between_iff (drop a r) 0 (length (drop a r))).1 (λ j l g. get_or-drop a r j 0 ∙ (between_iff r a (length r)).0 t (a + j) (omega (arith, size)) (omega arith)))
  where
    size : length (drop a r) ≡ length r - a
    size = length-drop a r

module _ (r : List ℕ) (from to : ℕ) where
  pub run_none : to ≤ from → true ≡ clear_between r from to
  run_none h = sym (true_of (clear_between r from to) ((between_iff r from to).1 (λ j l g. absurd (omega arith))))

  pub run_part : (t : Bool) → t ≡ clear_between (take (to - from) (drop from r)) 0 (length (take (to - from) (drop from r))) → from ≤ to → to ≤ length r → t ≡ clear_between r from to
  run_part t e h room = e ∙ clear_part r from (to - from) (omega arith) ∙ ap (clear_between r from) (let z : from + (to - from) ≡ to = omega arith in z)

-- each of a list's runs of 64 words is zero
pub record ClearRuns (runs : List (List ℕ)) : Type 0 where
  pub each : (j : ℕ) → j < length runs → T (clear_between (get_or runs j []) 0 (length (get_or runs j [])))

run_is : (k : ℕ) (xs : List ℕ) (i : ℕ) → i < k → get_or (first_chunks 64 k xs) i [] ≡ take 64 (drop (64 * i) xs)
run_is zero xs i h = absurd (omega arith)
run_is (suc k) xs zero h = refl
run_is (suc k) xs (suc i) h =
    run_is k (drop 64 xs) i (omega arith) ∙ ap (take 64) (drop-drop (64 * i) 64 xs ∙ ap (λ (n : ℕ). drop n xs) (let z : 64 + 64 * i ≡ 64 * suc i = omega arith in z))

runs_many : (k : ℕ) (xs : List ℕ) → length (first_chunks 64 k xs) ≡ k
runs_many zero xs = refl
runs_many (suc k) xs = ap (λ (n : ℕ). suc n) (runs_many k (drop 64 xs))

module _ (r : List ℕ) (from to : ℕ) (h : from ≤ to) (room : to ≤ length r) where
  abbrev xs : List ℕ
  xs = take (to - from) (drop from r)

  whole : clear_between xs 0 (length xs) ≡ clear_between r from to
  whole = run_part r from to _ refl h room

  run_clear_is : (i : ℕ) → i < length xs / 64
      → clear_between (get_or (first_chunks 64 (length xs / 64) xs) i []) 0 (length (get_or (first_chunks 64 (length xs / 64) xs) i [])) ≡ clear_between xs (64 * i) (64 * i + 64)
  run_clear_is i l =
      ap (λ (x : List ℕ). clear_between x 0 (length x)) (run_is (length xs / 64) xs i l) ∙ clear_part xs (64 * i) 64 (omega arith)

  -- one of the runs is not zero
  pub runs_some : (t : Bool) → ((i : ℕ) × (i < length (first_chunks 64 (length xs / 64) xs))
      × (false ≡ clear_between (get_or (first_chunks 64 (length xs / 64) xs) i []) 0 (length (get_or (first_chunks 64 (length xs / 64) xs) i [])))) → t ≡ false → t ≡ clear_between r from to
  runs_some t w z =
      let i = w.0 in
      let inside : i < length xs / 64 = omega (arith, w.1, runs_many (length xs / 64) xs) in
      z ∙ sym (false_of (clear_between r from to) (λ u. not-false (sym (w.2 ∙ run_clear_is i inside))
      ((between_iff xs (64 * i) (64 * i + 64)).1 (λ j q g. (between_iff xs 0 (length xs)).0 (of_true (whole ∙ true_of (clear_between r from to) u)) j (omega arith) zero-le))))

  pub runs_end : (t : Bool) → ClearRuns (first_chunks 64 (length xs / 64) xs)
      → t ≡ clear_between (drop (length xs / 64 * 64) xs) 0 (length (drop (length xs / 64 * 64) xs)) → t ≡ clear_between r from to
  runs_end t p e =
      e ∙ clear_rest xs (length xs / 64 * 64) (omega arith)
      ∙ same_test (clear_between xs (length xs / 64 * 64) (length xs)) (clear_between xs 0 (length xs))
      (λ u. (between_iff xs 0 (length xs)).1 (λ j l g. pick u j l (dec_lt j (length xs / 64 * 64))))
      (λ u. (between_iff xs (length xs / 64 * 64) (length xs)).1 (λ j l g. (between_iff xs 0 (length xs)).0 u j l zero-le))
      ∙ whole
    where
      pick : T (clear_between xs (length xs / 64 * 64) (length xs)) → (j : ℕ) → j < length xs → Dec (j < length xs / 64 * 64) → word xs j ≡ 0
      pick u j l (yes q) =
          let inside : j / 64 < length xs / 64 = omega arith in
          (between_iff xs (64 * (j / 64)) (64 * (j / 64) + 64)).0 (of_true (sym (run_clear_is (j / 64) inside) ∙ true_of _ (p.each (j / 64) (omega (arith, runs_many (length xs / 64) xs))))) j (omega arith) (omega arith)
      pick u j l (no q) = (between_iff xs (length xs / 64 * 64) (length xs)).0 u j l (omega arith)

-- ---- slots

module _ (base w cap : ℕ) (some : 0 < w) (r : List ℕ) (room : base + w * cap ≤ length r) where
  -- the slots from n on are clear exactly when their words are
  pub slots_clear : (n : ℕ) → T (clear_between r (base + w * n) (base + w * cap)) ↔ ((i : ℕ) → i < cap → n ≤ i → T (clear w (slot base w r i)))
  unfolding clear
  slots_clear n = (
    λ t i h l.
        simp tests (
          slot_length base w cap r room i h,
          λ j q.
              word_slot base w r i j q
              ∙ (between_iff r (base + w * n) (base + w * cap)).0 t (base + w * i + j) (omega (arith, mul-le-mul_left w h)) (omega (arith, mul-le-mul_left w l)),
        ),
    λ f. (between_iff r (base + w * n) (base + w * cap)).1 (λ k h l. at f k (k - base) (omega arith) h l),
  )
    where
      -- word k is word d % w of slot d / w
      at : ((i : ℕ) → i < cap → n ≤ i → T (length (slot base w r i) is w and all_below w (λ j. word (slot base w r i) j is 0)))
          → (k d : ℕ) → k ≡ base + d → k < base + w * cap → base + w * n ≤ k → word r k ≡ 0
      at f k d e h l =
          let split : d / w * w + d % w ≡ d = div-add-mod' d w in
          let less : d % w < w = mod-lt d some in
          let turned : d / w * w ≡ w * (d / w) = mul_comm (d / w) w in
          let most : cap * w ≡ w * cap = mul_comm cap w in
          let past : n * w ≡ w * n = mul_comm n w in
          let inside : d / w < cap = (div-lt_iff_lt-mul some).1 (omega arith) in
          let after : n ≤ d / w = below-not (d / w) (omega arith) in
          ap (word r) (let z : k ≡ base + w * (d / w) + d % w = omega arith in z) ∙ sym (word_slot base w r (d / w) (d % w) less)
          ∙ (simp tests at (f (d / w) inside after)).1 (d % w) less
        where
          below-not : (q : ℕ) → w * n < w * (q + 1) → n ≤ q
          below-not q a = let f : q + 1 ≤ n → ⊥ = λ b. absurd (omega (arith, mul-le-mul_left w b)) in omega (arith, f)

  -- the first n slots pass their tests and the others are clear exactly when the words past the n slots are zero
  pub slots_each : (ok : ℕ → Bool) (n : ℕ) → n ≤ cap
      → all_below cap (λ i. elim (i below n) [ true ↦ ok i | false ↦ clear w (slot base w r i) ]) ≡ (all_below n ok and clear_between r (base + w * n) (base + w * cap))
  slots_each ok n most =
      same_test (all_below cap each) (all_below n ok and rest)
      (λ t. let u : (i : ℕ) → i < cap → (T (i below n) → T (ok i)) × ((T (i below n) → ⊥) → T (clear w (slot base w r i))) =
      λ i h. (choice_iff (i below n) (ok i) (clear w (slot base w r i))).0 ((all_iff cap each).0 t i h) in
      (and_iff (all_below n ok) rest).1 (
        (all_iff n ok).1 (λ i h. (u i (omega arith)).0 ((below_iff i n).1 h)),
        (slots_clear n).1 (λ i h l. (u i h).1 (λ b. let q = (below_iff i n).0 b in omega arith)),
      ))
      (λ t. let u = (and_iff (all_below n ok) rest).0 t in
      (all_iff cap each).1
      (λ i h. (choice_iff (i below n) (ok i) (clear w (slot base w r i))).1 (
        λ b. (all_iff n ok).0 u.0 i ((below_iff i n).0 b),
        λ b. (slots_clear n).0 u.1 i h (let q : i < n → ⊥ = λ k. b ((below_iff i n).1 k) in omega (arith, q)),
      )))
    where
      rest : Bool
      rest = clear_between r (base + w * n) (base + w * cap)

      each : ℕ → Bool
      each i = elim (i below n) [ true ↦ ok i | false ↦ clear w (slot base w r i) ]

-- of 16 slots the first n pass a test, and the words of the others are zero
pub slots_fit_lem : (base w : ℕ) → 0 < w → (r : List ℕ) → base + w * 16 ≤ length r → (ok : List ℕ → Bool) (n : ℕ) → n ≤ 16
    → slots_fit w ok n (slot base w r) ≡ (all_below n (λ i. ok (slot base w r i)) and clear_between r (base + w * n) (base + w * 16))
unfolding slots_fit ◌and◌
slots_fit_lem base w some r room ok n most =
    ap (λ (b : Bool). b and all_below 16 (λ i. elim (i below n) [ true ↦ ok (slot base w r i) | false ↦ clear w (slot base w r i) ]))
    (true_of (n upto 16) ((upto_iff n 16).1 most))
    ∙ slots_each base w 16 some r room (λ i. ok (slot base w r i)) n most

-- ---- counts

module _ (p : ℕ → Bool) where
  pub count_more : (n : ℕ) → count_below (n + 1) p ≡ count_below n p + elim (p n) [ true ↦ 1 | false ↦ 0 ]
  unfolding count_below
  count_more n = ap (λ (m : ℕ). count_below m p) (add-one n)

  pub count_most : (n : ℕ) → count_below n p ≤ n
  unfolding count_below
  count_most zero = le_refl 0
  count_most (suc n) = step (p n) (count_most n)
    where
      step : (b : Bool) → count_below n p ≤ n → count_below n p + elim b [ true ↦ 1 | false ↦ 0 ] ≤ suc n
      step true h = omega arith
      step false h = omega arith

-- two tests that agree have one count
pub count_cong : (n : ℕ) (p q : ℕ → Bool) → ((i : ℕ) → i < n → p i ≡ q i) → count_below n p ≡ count_below n q
unfolding count_below
count_cong zero p q f = refl
count_cong (suc n) p q f =
    ap₂ ◌+◌ (count_cong n p q (λ i l. f i (omega arith))) (ap (λ (b : Bool). elim b as (λ _. ℕ) [ true ↦ 1 | false ↦ 0 ]) (f n (le_refl (suc n))))

-- where each number that passes q passes p, p has the larger count, and with one count the tests agree
module _ (p q : ℕ → Bool) where
  pub count_mono : (n : ℕ) → ((i : ℕ) → i < n → T (q i) → T (p i)) → count_below n q ≤ count_below n p
  unfolding count_below
  count_mono zero f = le_refl 0
  count_mono (suc n) f = step (q n) (p n) (f n (le_refl (suc n))) (count_mono n (λ i l. f i (omega arith)))
    where
      step : (a b : Bool) → (T a → T b) → count_below n q ≤ count_below n p
          → count_below n q + elim a [ true ↦ 1 | false ↦ 0 ] ≤ count_below n p + elim b [ true ↦ 1 | false ↦ 0 ]
      step true true g h = omega arith
      step true false g h = absurd (g tt)
      step false true g h = omega arith
      step false false g h = omega arith

  pub count_same : (n : ℕ) → ((i : ℕ) → i < n → T (q i) → T (p i)) → count_below n p ≡ count_below n q → (i : ℕ) → i < n → T (p i) → T (q i)
  unfolding count_below
  count_same zero f e i l t = absurd (omega arith)
  count_same (suc n) f e i l t = pick (ℕ_discrete n i) (λ g k. count_same n g k i)
    where
      fewer : (i : ℕ) → i < n → T (q i) → T (p i)
      fewer i l = f i (omega arith)

      -- the counts below n are the same too, and so are the tests at n
      at_last : (a b : Bool) → (T b → T a) → count_below n p + elim a [ true ↦ 1 | false ↦ 0 ] ≡ count_below n q + elim b [ true ↦ 1 | false ↦ 0 ]
          → (T a → T b) × (count_below n p ≡ count_below n q)
      at_last true true g k = (λ _. tt, omega arith)
      at_last true false g k = absurd (omega (arith, count_mono n fewer))
      at_last false true g k = absurd (g tt)
      at_last false false g k = (λ u. u, omega arith)

      last : (T (p n) → T (q n)) × (count_below n p ≡ count_below n q)
      last = at_last (p n) (q n) (f n (le_refl (suc n))) e

      pick : Dec (n ≡ i) → (((j : ℕ) → j < n → T (q j) → T (p j)) → count_below n p ≡ count_below n q → i < n → T (p i) → T (q i)) → T (q i)
      pick (yes z) rest = subst (λ (j : ℕ). T (q j)) z (last.0 (subst (λ (j : ℕ). T (p j)) (sym z) t))
      pick (no z) rest = rest fewer last.1 (omega arith) t

pub ruleset words = (zeros-start, zeros-turn, clear_end, run_none, run_part, runs_end)
