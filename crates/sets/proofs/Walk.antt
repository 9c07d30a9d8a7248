-- A walk over the members of a set by `lowest` and `without_lowest`: what is left of the set gives the answer of the whole. Each premise of the loop's laws
-- is a fact that the code has: n is what `lowest` gives, b what the test gives there, t what `without_lowest` gives. Assumes nothing.
use Rattle.std.proofs.Common.{◌≡◌, ℕ, ◌+◌, ◌-◌, ◌%◌, ◌^◌, ◌<◌, Bool, true, false, T, ◌⊎◌, sym, refl, ap, ◌∙◌, subst, inl, inr, ⊎_elim, lt_trans, lt_of_le_of_lt, eq-zero-or-pos, arith, rules}
use mathlib.Core.Option.{Option, none, some}
use native.Mathlib.Decide.{ℕ_discrete}
use borrow.Author.Tests.{not-true, not-false as not-not}
use lib.Bits.{bit_and, and_zero_l, and_le_r}
use lib.Count.{count_trailing_zeros, trailing_of_zero}
use Rattle.definitions.specs.Bounded.{◌and◌, ◌or◌, ◌isnt◌, some_if, first_below}
use Rattle.definitions.specs.Sets.{has, for_each, for_some}
use Rattle.definitions.proofs.Bounded.{and_iff, or_iff, isnt_iff, true_of, of_true, false_of, not-false, same_test, none_fault, each_none as none_below, first_stop}
use Rattle.definitions.proofs.Sets.{has-none, has_rest, low_clear, low_set, for_each_iff, for_some_iff}
use Rattle.sets.specs.Lowest.{lowest_of, WithoutLowest}
use Rattle.sets.specs.Names.{NamesOnly}

-- ---- `lowest` and `without_lowest`

some_or : Option ℕ → ℕ
some_or o = elim o [ none ↦ 64 | some n ↦ n ]

pub lowest-word : (s : ℕ) → s < 2 ^ 64 → count_trailing_zeros 64 s ≡ lowest_of s
unfolding lowest_of some_or
lowest-word s h = ⊎_elim empty full (eq-zero-or-pos s)
  where
    test : ℕ → Option ℕ
    test n = some_if (has s n) n

    empty : s ≡ 0 → count_trailing_zeros 64 s ≡ some_or (first_below 64 test)
    empty e =
        ap (count_trailing_zeros 64) e ∙ trailing_of_zero 64
        ∙ sym (ap some_or (none_below test 64 (λ n l. none_fault (has s n) n (not-false (ap (λ (x : ℕ). has x n) e ∙ has-none n)))))

    full : 0 < s → count_trailing_zeros 64 s ≡ some_or (first_below 64 test)
    full p =
        let low = low_set 64 s p h in
        sym (ap some_or (first_stop test 64 low.0
        (none_below test (count_trailing_zeros 64 s) (λ i l. none_fault (has s i) i (not-false (low_clear 64 s i l))))
        (ap (λ (b : Bool). some_if b (count_trailing_zeros 64 s)) low.1)))

pub rest_word : (s d : ℕ) → s < 2 ^ 64 → d < 2 ^ 64 → (d + 1) % 2 ^ 64 ≡ s → WithoutLowest s (bit_and s d)
unfolding ◌and◌
rest_word s d h k e = ⊎_elim empty full (eq-zero-or-pos s)
  where
    empty : s ≡ 0 → WithoutLowest s (bit_and s d)
    empty z =
        record {
          members = λ m.
              ap (λ (x : ℕ). has (bit_and x d) m) z ∙ ap (λ (x : ℕ). has x m) (and_zero_l d) ∙ has-none m
              ∙ sym (ap (λ (b : Bool). b and lowest_of s isnt m) (ap (λ (x : ℕ). has x m) z ∙ has-none m));
          less = λ p. absurd (omega arith);
        }

    full : 0 < s → WithoutLowest s (bit_and s d)
    full p =
        let q : d ≡ s - 1 = omega arith in
        record {
          members = λ m.
              ap (λ (x : ℕ). has (bit_and s x) m) q ∙ has_rest s m p h ∙ ap (λ (x : ℕ). has s m and x isnt m) (lowest-word s h);
          less = λ _. lt_of_le_of_lt (and_le_r s d) (omega arith);
        }

-- ---- the walk

pub lowest_in : (s n : ℕ) → s < 2 ^ 64 → (s ≡ 0 → ⊥) → n ≡ lowest_of s → T (has s n)
lowest_in s n h z e =
    subst (λ (m : ℕ). T (has s m)) (lowest-word s h ∙ sym e) (of_true (low_set 64 s (omega arith) h).1)

pub lowest-below : (s n : ℕ) → s < 2 ^ 64 → (s ≡ 0 → ⊥) → n ≡ lowest_of s → n < 64
lowest-below s n h z e = subst (λ (m : ℕ). m < 64) (lowest-word s h ∙ sym e) (low_set 64 s (omega arith) h).0

pub walk_less : (s t : ℕ) → (s ≡ 0 → ⊥) → WithoutLowest s t → t < s
walk_less s t z r = r.less (omega arith)

-- another member than the lowest is in the rest
pub rest_keeps : (s t n : ℕ) → WithoutLowest s t → n ≡ lowest_of s → (j : ℕ) → (j ≡ n → ⊥) → T (has s j) → T (has t j)
rest_keeps s t n r e j k u =
    of_true (r.members j ∙ true_of (has s j and lowest_of s isnt j)
    ((and_iff (has s j) (lowest_of s isnt j)).1 (u, (isnt_iff (lowest_of s) j).1 (λ (l : lowest_of s ≡ j). k (sym (e ∙ l))))))

-- what is true of the lowest member and of each other member is true of each member, and back
rest_each : (s t n : ℕ) → n ≡ lowest_of s → WithoutLowest s t → (Q : ℕ → Type 0) → Q n → ((j : ℕ) → T (has t j) → Q j) → (j : ℕ) → T (has s j) → Q j
rest_each s t n e r Q q f j u = pick (ℕ_discrete n j)
  where
    pick : Dec (n ≡ j) → Q j
    pick (yes k) = subst Q k q
    pick (no k) = f j (rest_keeps s t n r e j (λ l. k (sym l)) u)

rest_in : (s t : ℕ) → WithoutLowest s t → (j : ℕ) → T (has t j) → T (has s j)
rest_in s t r j u = ((and_iff (has s j) (lowest_of s isnt j)).0 (of_true (sym (r.members j) ∙ true_of (has t j) u))).0

module _ (p : ℕ → Bool) (left t n : ℕ) (fit : left < 2 ^ 64) (some_left : left ≡ 0 → ⊥) (e : n ≡ lowest_of left) (r : WithoutLowest left t) where
  -- a test at each member, or at some member: at the lowest, and over the rest
  pub split_each : for_each left p ≡ (p n and for_each t p)
  split_each =
      same_test (for_each left p) (p n and for_each t p)
      (λ u. (and_iff (p n) (for_each t p)).1 (
        (for_each_iff left p).0 u n (lowest-below left n fit some_left e) (lowest_in left n fit some_left e),
        (for_each_iff t p).1 (λ j l v. (for_each_iff left p).0 u j l (rest_in left t r j v)),
      ))
      (λ u. let x = (and_iff (p n) (for_each t p)).0 u in
      (for_each_iff left p).1 (λ j l v. rest_each left t n e r (λ i. i < 64 → T (p i)) (λ _. x.0) (λ i h g. (for_each_iff t p).0 x.1 i g h) j v l))

  pub split_some : for_some left p ≡ (p n or for_some t p)
  split_some =
      same_test (for_some left p) (p n or for_some t p)
      (λ u. let x = (for_some_iff left p).0 u in
      (or_iff (p n) (for_some t p)).1 (rest_each left t n e r (λ i. i < 64 → T (p i) → T (p n) ⊎ T (for_some t p)) (λ _. inl)
      (λ i h g y. inr ((for_some_iff t p).1 (i, g, h, y))) x.0 x.2 x.1 x.3))
      (λ u. ⊎_elim (λ y. (for_some_iff left p).1 (n, lowest-below left n fit some_left e, lowest_in left n fit some_left e, y))
      (λ v. let x = (for_some_iff t p).0 v in (for_some_iff left p).1 (x.0, x.1, rest_in left t r x.0 x.2, x.3)) ((or_iff (p n) (for_some t p)).0 u))

pub none_each : (p : ℕ → Bool) (left : ℕ) → left ≡ 0 → for_each left p ≡ true
none_each p left z =
    true_of (for_each left p) ((for_each_iff left p).1 (λ j l t. absurd (not-false (ap (λ (x : ℕ). has x j) z ∙ has-none j) t)))

pub none-some : (p : ℕ → Bool) (left : ℕ) → left ≡ 0 → for_some left p ≡ false
none-some p left z =
    false_of (for_some left p) (λ t. let x = (for_some_iff left p).0 t in not-false (ap (λ (y : ℕ). has y x.0) z ∙ has-none x.0) x.2)

-- what is left to walk of s
pub record Left (s left : ℕ) : Type 0 where
  pub fit : left < 2 ^ 64
  pub inside : (j : ℕ) → T (has left j) → T (has s j)

pub left_start : (s : ℕ) → s < 2 ^ 64 → Left s s
left_start s h = record { fit = h; inside = λ j t. t }

pub left_turn : (s left t : ℕ) → Left s left → (left ≡ 0 → ⊥) → WithoutLowest left t → Left s t
left_turn s left t w z r = record { fit = lt_trans (walk_less left t z r) w.fit; inside = λ j u. w.inside j (rest_in left t r j u) }

pub left_in : (s left n : ℕ) → Left s left → (left ≡ 0 → ⊥) → n ≡ lowest_of left → T (has s n)
left_in s left n w z e = w.inside n (lowest_in left n w.fit z e)

pub left_name : (s left n : ℕ) → NamesOnly s → Left s left → (left ≡ 0 → ⊥) → n ≡ lowest_of left → n < 60
left_name s left n f w z e = f.below n (lowest-below left n w.fit z e) (left_in s left n w z e)

-- what is left of s gives the answer that s gives
pub record EachLeft (p : ℕ → Bool) (s left : ℕ) : Type 0 where
  pub there : Left s left
  pub same : for_each left p ≡ for_each s p

module _ (p : ℕ → Bool) (s : ℕ) where
  pub each_start : s < 2 ^ 64 → EachLeft p s s
  each_start h = record { there = left_start s h; same = refl }

  pub each_end : (left : ℕ) → EachLeft p s left → left ≡ 0 → true ≡ for_each s p
  each_end left w z = sym (none_each p left z) ∙ w.same

  module _ (left n : ℕ) (b : Bool) (w : EachLeft p s left) (z : left ≡ 0 → ⊥) (e : n ≡ lowest_of left) (is : b ≡ p n) where
    pub each_stop : b ≡ false → false ≡ for_each s p
    each_stop f =
        sym
        (false_of (for_each left p)
        (λ t. not-false (sym is ∙ f) ((for_each_iff left p).0 t n (lowest-below left n w.there.fit z e) (lowest_in left n w.there.fit z e))))
        ∙ w.same

    pub each_turn : (t : ℕ) → WithoutLowest left t → b ≡ true → EachLeft p s t
    unfolding ◌and◌
    each_turn t r q = record {
      there = left_turn s left t w.there z r;
      same = sym (split_each p left t n w.there.fit z e r ∙ ap (λ (x : Bool). x and for_each t p) (sym is ∙ q)) ∙ w.same;
    }

pub ruleset walks = (rules, not-true, not-not, lowest-below, walk_less, each_start, each_turn, each_stop, each_end)
