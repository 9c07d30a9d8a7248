-- Ranges of a block's words: a union stands for its words, and three ranges are all of them. Assumes nothing.
use mathlib.Core.Path.{◌≡◌, refl, sym, ap, ◌∙◌}
use mathlib.Core.Bool.{Bool, true, false, ◌&&◌}
use mathlib.Core.List.{List}
use mathlib.Core.Logic.{◌↔◌, ◌⊎◌, inl, inr, ⊎_elim}
use Prim.Native.Nat.{ℕ, ◌/◌, ◌^◌, ◌≤◌, ◌<◌, min, zero-le}
use native.Mathlib.Nat.{div-one, div-eq_of_lt, lt_of_lt_of_le}
use native.Mathlib.Omega.{arith}
use borrow.Author.Rules.{rules}
use lib.Dec.{T, eqb}
use lib.Pow.{pow_mono}
use Rattle.definitions.specs.Bounded.{◌and◌, ◌is◌, ◌below◌, ◌upto◌}
use Rattle.definitions.specs.Sets.{no_bit_past}
use Rattle.definitions.specs.Words.{data_word}
use Rattle.definitions.specs.ReadEstimate.{sets_fit, is_set}
use Rattle.definitions.proofs.Bounded.{tests, and_iff, or_iff, is_iff, below_iff, true_of, of_true, false_of, same_test, decide}
use Rattle.definitions.proofs.ReadEstimate.{sets_iff}
use Rattle.blocks.specs.Answers.{UnionOver}
use Rattle.blocks.proofs.Unions.{union_past}
use Rattle.estimate.specs.Blocks.{last_sets, words_fit}

-- ---- the union of a range of words

range_iff : (n from to : ℕ) (f : ℕ → ℕ) → T (words_fit n from to f) ↔ ((i : ℕ) → i < to → from ≤ i → f i / 2 ^ n ≡ 0)
unfolding words_fit no_bit_past
range_iff n from to f = (λ t. simp tests at t, λ g. simp tests g)

-- a union has no bit past n exactly when none of its words has
pub union_fits : (f : ℕ → ℕ) (from to n w : ℕ) (r : Bool) → UnionOver f from to w → r ≡ no_bit_past n w → r ≡ words_fit n from to f
unfolding no_bit_past
union_fits f from to n w r u e =
    let past = union_past f from to n w u in
    e ∙ same_test (w / 2 ^ n is 0) (words_fit n from to f) (λ t. (range_iff n from to f).1 (past.0 ((is_iff (w / 2 ^ n) 0).0 t)))
    (λ t. (is_iff (w / 2 ^ n) 0).1 (past.1 ((range_iff n from to f).0 t)))

-- ---- the words of a block

pub past_shift : (names w : ℕ) → eqb (w / 2 ^ names) 0 ≡ no_bit_past names w
unfolding no_bit_past ◌is◌
past_shift names w = refl

-- from 64 names on, no bit of a word is past them
pub past_all : (names w : ℕ) → 64 ≤ names → w < 2 ^ 64 → true ≡ no_bit_past names w
unfolding no_bit_past
past_all names w l h = sym (true_of (w / 2 ^ names is 0) ((is_iff (w / 2 ^ names) 0).1 (div-eq_of_lt (lt_of_lt_of_le h (pow_mono l)))))

module _ (asked : ℕ) where
  pub last-five : asked ≡ 5 → 60 ≡ last_sets asked
  unfolding last_sets
  last-five e = ap (λ (b : Bool). elim b as (λ _. ℕ) [ true ↦ 60 | false ↦ 62 ]) (sym (true_of (asked is 5) ((is_iff asked 5).1 e)))

  pub last_other : (asked ≡ 5 → ⊥) → 62 ≡ last_sets asked
  unfolding last_sets
  last_other f = ap (λ (b : Bool). elim b as (λ _. ℕ) [ true ↦ 60 | false ↦ 62 ]) (sym (false_of (asked is 5) (λ t. f ((is_iff asked 5).0 t))))

  last_case : ((asked ≡ 5) × (60 ≡ last_sets asked)) ⊎ (62 ≡ last_sets asked)
  last_case = ⊎_elim (λ t. let e = (is_iff asked 5).0 t in inl (e, last-five e)) (λ f. inr (last_other (λ e. f ((is_iff asked 5).1 e)))) (decide (asked is 5))

  pub last_most : (last : ℕ) → last ≡ last_sets asked → last ≤ 62
  last_most last e = ⊎_elim (λ p. omega (arith, p.1)) (λ q. omega arith) last_case

-- word i of a block is a set exactly where it is a name's or one of the last sets
module _ (names asked named last : ℕ) (en : named ≡ min names 60) (el : last ≡ last_sets asked) (i : ℕ) (l : i < 62) where
  is_name : Bool
  is_name = i below names and i below 60

  set_low : i < named → T (is_set names asked i)
  unfolding is_name
  set_low h =
      (or_iff is_name (asked is 5 and 60 upto i)).1
      (inl ((and_iff (i below names) (i below 60)).1 ((below_iff i names).1 (omega arith), (below_iff i 60).1 (omega arith))))

  set_high : last ≤ i → T (is_set names asked i)
  unfolding is_name
  set_high h =
      (or_iff is_name (asked is 5 and 60 upto i)).1
      (inr (⊎_elim (λ p. simp tests (p.0, omega (arith, p.1))) (λ q. absurd (omega arith)) (last_case asked)))

  set_where : T (is_set names asked i) → (i < named) ⊎ (last ≤ i)
  unfolding is_name
  set_where t =
      ⊎_elim (λ a. let p = (and_iff (i below names) (i below 60)).0 a in
      let h = (below_iff i names).0 p.0 in
      let k = (below_iff i 60).0 p.1 in
      inl (omega arith))
      (λ a. let p = simp tests at a in inr (omega (arith, p.1, last-five asked p.0)))
      ((or_iff is_name (asked is 5 and 60 upto i)).0 t)

  set-not : (T (is_set names asked i) → ⊥) → (named ≤ i) × (i < last)
  set-not n =
      let a : i < named → ⊥ = λ h. n (set_low h) in
      let b : last ≤ i → ⊥ = λ h. n (set_high h) in
      (omega arith, omega arith)

  not_set : named ≤ i → i < last → T (is_set names asked i) → ⊥
  not_set a b t = ⊎_elim (λ h. omega arith) (λ h. omega arith) (set_where t)

-- the names' words, the words between and the last sets are all the words
module _ (names asked : ℕ) (block : List ℕ) (named last : ℕ) (a b c : Bool) (ea : a ≡ words_fit names 0 named (data_word block))
    (eb : b ≡ words_fit 0 named last (data_word block)) (ec : c ≡ words_fit names last 62 (data_word block)) (en : named ≡ min names 60)
    (el : last ≡ last_sets asked) where
  ranges_fit : T a → T b → T c → T (sets_fit names (is_set names asked) block)
  ranges_fit ta tb tc =
      (sets_iff names (is_set names asked) block).1
      (λ i l. (λ s. set i l (set_where names asked named last en el i l s), λ n. clear i (set-not names asked named last en el i l n)))
    where
      set : (i : ℕ) → i < 62 → (i < named) ⊎ (last ≤ i) → data_word block i / 2 ^ names ≡ 0
      set i l =
          ⊎_elim (λ h. (range_iff names 0 named (data_word block)).0 (of_true (sym ea ∙ true_of a ta)) i h zero-le)
          (λ h. (range_iff names last 62 (data_word block)).0 (of_true (sym ec ∙ true_of c tc)) i l h)

      clear : (i : ℕ) → (named ≤ i) × (i < last) → data_word block i ≡ 0
      clear i h =
          sym (div-one (data_word block i)) ∙ (range_iff 0 named last (data_word block)).0 (of_true (sym eb ∙ true_of b tb)) i h.1 h.0

  fit_ranges : T (sets_fit names (is_set names asked) block) → T a × T b × T c
  fit_ranges t = (
    of_true (ea ∙ true_of (words_fit names 0 named (data_word block)) ((range_iff names 0 named (data_word block)).1
        (λ i h _. let l : i < 62 = omega arith in (w i l).0 (set_low names asked named last en el i l h)))),
    of_true (eb ∙ true_of (words_fit 0 named last (data_word block)) ((range_iff 0 named last (data_word block)).1
        (λ i h k. let l : i < 62 = omega (arith, last_most asked last el) in
        div-one (data_word block i) ∙ (w i l).1 (not_set names asked named last en el i l k h)))),
    of_true (ec ∙ true_of (words_fit names last 62 (data_word block)) ((range_iff names last 62 (data_word block)).1
        (λ i l h. (w i l).0 (set_high names asked named last en el i l h)))),
  )
    where
      w : (i : ℕ) → i < 62 → (T (is_set names asked i) → data_word block i / 2 ^ names ≡ 0) × ((T (is_set names asked i) → ⊥) → data_word block i ≡ 0)
      w = (sets_iff names (is_set names asked) block).0 t

  pub three_ranges : ((a && b) && c) ≡ sets_fit names (is_set names asked) block
  unfolding ◌and◌
  three_ranges =
      same_test (a and b and c) (sets_fit names (is_set names asked) block)
      (λ t. let p = simp tests at t in ranges_fit p.0.0 p.0.1 p.1)
      (λ t. let p = fit_ranges t in simp tests ((p.0, p.1), p.2))

pub ruleset words = (rules, past_shift, past_all, last-five, last_other, last_most, three_ranges)
