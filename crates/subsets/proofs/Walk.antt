-- A walk over the members of a set, ascending, that stops at the first one short: what is left of the set gives the answer of the whole. Each
-- premise of the loop's laws is a fact that the code has: n is what `lowest` gives, r what is found there, t what `without_lowest` gives.
-- Assumes nothing.
use mathlib.Core.Path.{◌≡◌, refl, sym, ap, ◌∙◌}
use mathlib.Core.Bool.{Bool, true, false}
use mathlib.Core.Option.{Option, none, some}
use Prim.Native.Nat.{ℕ, ◌^◌, ◌<◌}
use native.Mathlib.Omega.{arith}
use native.Mathlib.Decide.{ℕ_discrete}
use Rattle.definitions.specs.Bounded.{◌and◌, ◌isnt◌, when}
use Rattle.definitions.specs.Sets.{has, first_short}
use Rattle.definitions.proofs.Bounded.{isnt_iff, true_of, not-false, each_none, first_stop, first_cong}
use Rattle.definitions.proofs.Sets.{and-true, has-none, low_clear, short_iff}
use Rattle.sets.specs.Lowest.{lowest_of, WithoutLowest}
use Rattle.sets.specs.Ascending.{LowestOf}
use Rattle.sets.proofs.Walk.{Left, left_start, left_turn, lowest-word, lowest_in, lowest-below}

when-none : (b : Bool) → when {A = ℕ} b none ≡ none
when-none true = refl
when-none false = refl

module _ (f : ℕ → Option ℕ) (left n : ℕ) (fit : left < 2 ^ 64) (z : left ≡ 0 → ⊥) (e : n ≡ lowest_of left) where
  -- the lowest member is the first one short where f gives a name there
  short_first : (x : ℕ) → f n ≡ some x → first_short left f ≡ some x
  unfolding first_short
  short_first x q =
      let asked : ℕ → Option ℕ = λ j. when (has left j) (f j) in
      first_stop asked 64 (lowest-below left n fit z e)
      (each_none asked n (λ j l. ap (λ (b : Bool). when b (f j)) (low_clear 64 left j (omega (arith, lowest-word left fit)))))
      (ap (λ (b : Bool). when b (f n)) (true_of (has left n) (lowest_in left n fit z e)) ∙ q)

  -- and else it is that of the rest, which has every other member
  short_rest : (t : ℕ) → WithoutLowest left t → f n ≡ none → first_short left f ≡ first_short t f
  unfolding first_short
  short_rest t r q = first_cong 64 (λ j. when (has left j) (f j)) (λ j. when (has t j) (f j)) (λ j l. kept j (ℕ_discrete n j))
    where
      kept : (j : ℕ) → Dec (n ≡ j) → when (has left j) (f j) ≡ when (has t j) (f j)
      kept j (yes k) =
          let g : f j ≡ none = ap f (sym k) ∙ q in
          ap (λ (o : Option ℕ). when (has left j) o) g ∙ when-none (has left j) ∙ sym (ap (λ (o : Option ℕ). when (has t j) o) g ∙ when-none (has t j))
      kept j (no k) =
          ap (λ (b : Bool). when b (f j))
          (sym (r.members j ∙ ap (λ (b : Bool). has left j and b) (true_of (lowest_of left isnt j) ((isnt_iff (lowest_of left) j).1 (λ i. k (e ∙ i)))) ∙ and-true (has left j)))

pub none_short : (f : ℕ → Option ℕ) (left : ℕ) → left ≡ 0 → first_short left f ≡ none
none_short f left z = (short_iff left f).1 (λ n l t. absurd (not-false (ap (λ (x : ℕ). has x n) z ∙ has-none n) t))

-- what is left of s gives the first one short that s gives
pub record ShortLeft (f : ℕ → Option ℕ) (s left : ℕ) : Type 0 where
  pub there : Left s left
  pub same : first_short left f ≡ first_short s f

not_zero : (n : ℕ) → 0 < n → n ≡ 0 → ⊥
not_zero n h e = omega arith

module _ (f : ℕ → Option ℕ) (s : ℕ) where
  pub short_start : s < 2 ^ 64 → ShortLeft f s s
  short_start h = record { there = left_start s h; same = refl }

  pub short_end : (left : ℕ) → ShortLeft f s left → left ≡ 0 → first_short s f ≡ none
  short_end left w z = sym w.same ∙ none_short f left z

  module _ (left n t : ℕ) (w : ShortLeft f s left) (d : LowestOf left n t) where
    pub short_stop : (m : ℕ) → f n ≡ some m → first_short s f ≡ some m
    short_stop m q = sym w.same ∙ short_first f left n w.there.fit (not_zero left d.some_left) d.lowest m q

    pub short_turn : f n ≡ none → ShortLeft f s t
    short_turn q = record {
      there = left_turn s left t w.there (not_zero left d.some_left) d.others;
      same = sym (short_rest f left n w.there.fit (not_zero left d.some_left) d.lowest t d.others q) ∙ w.same;
    }
