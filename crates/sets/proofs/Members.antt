-- The members of a set in order: the lowest, then those of the set without it. Assumes nothing.
use Rattle.std.proofs.Common.{◌≡◌, ℕ, zero, suc, ◌^◌, ◌<◌, Bool, true, false, List, [], ◌∷◌, ◌++◌, length, sym, refl, ap, ◌∙◌, le_refl, add-one, arith}
use native.Mathlib.Decide.{le_ind}
use Rattle.definitions.specs.Bounded.{◌isnt◌}
use Rattle.definitions.specs.Sets.{has, members_below, members, size}
use Rattle.definitions.proofs.Bounded.{and_iff, isnt_iff, false_of, same_test}
use Rattle.definitions.proofs.Sets.{has-none, low_clear, members_in, members_out, member_at, length-members}
use Rattle.sets.specs.Lowest.{lowest_of, WithoutLowest}
use Rattle.sets.proofs.Walk.{lowest-word, lowest_in, lowest-below}

-- no member below n
none_below : (s n : ℕ) → ((m : ℕ) → m < n → has s m ≡ false) → members_below n s ≡ []
unfolding members_below
none_below s zero f = refl
none_below s (suc n) f =
    ap (λ (k : ℕ). members_below k s) (sym (add-one n)) ∙ members_out s n (f n (le_refl (suc n))) ∙ none_below s n (λ m h. f m (omega arith))

pub members-none : (s : ℕ) → s ≡ 0 → members s ≡ []
unfolding members
members-none s z = none_below s 64 (λ m h. ap (λ (x : ℕ). has x m) z ∙ has-none m)

pub length-size : (s : ℕ) → length (members s) ≡ size s
unfolding members size
length-size s = length-members s 64

pub members-some : (s : ℕ) → s < 2 ^ 64 → (s ≡ 0 → ⊥) → 0 < length (members s)
unfolding members
members-some s fit some =
    let n = lowest_of s in
    let at = member_at s 64 n (lowest-below s n fit some refl) (lowest_in s n fit some refl) in
    omega (arith, length-members s 64, at.0)

module _ (s t n : ℕ) (fit : s < 2 ^ 64) (some : s ≡ 0 → ⊥) (e : n ≡ lowest_of s) (r : WithoutLowest s t) where
  clear : (m : ℕ) → m < n → has s m ≡ false
  clear m h = low_clear 64 s m (omega (arith, lowest-word s fit))

  -- beside n both have the same members, and t lacks n
  other : (m : ℕ) → (m ≡ n → ⊥) → has t m ≡ has s m
  other m f =
      same_test (has t m) (has s m) (λ u. ((and_iff (has s m) (lowest_of s isnt m)).0 (rw (r.members m) at u)).0)
      (λ u. rw (r.members m) ((and_iff (has s m) (lowest_of s isnt m)).1 (u, (isnt_iff (lowest_of s) m).1 (λ q. f (sym (e ∙ q))))))

  out : has t n ≡ false
  out = false_of (has t n) (λ u. (isnt_iff (lowest_of s) n).0 ((and_iff (has s n) (lowest_of s isnt n)).0 (rw (r.members n) at u)).1 (sym e))

  first : members_below (suc n) s ≡ n ∷ members_below (suc n) t
  first =
      ap (λ (k : ℕ). members_below k s) (sym (add-one n)) ∙ members_in s n (lowest_in s n fit some e)
      ∙ ap (λ (x : List ℕ). x ++ n ∷ []) (none_below s n clear)
      ∙ ap (λ (x : List ℕ). n ∷ x) (sym (ap (λ (k : ℕ). members_below k t) (sym (add-one n)) ∙ members_out t n out
      ∙ none_below t n (λ m h. other m (λ q. omega arith) ∙ clear m h)))

  rest : (k : ℕ) → n < k → members_below k s ≡ n ∷ members_below k t
  unfolding members_below
  rest k h =
      le_ind (λ (i : ℕ). members_below i s ≡ n ∷ members_below i t) first
      (λ i g q. ap (λ (x : List ℕ). x ++ elim (has s i) [ true ↦ i ∷ [] | false ↦ [] ]) q
      ∙ ap (λ (b : Bool). n ∷ members_below i t ++ elim b [ true ↦ i ∷ [] | false ↦ [] ]) (sym (other i (λ z. omega arith)))) k h

  pub members-first : members s ≡ n ∷ members t
  unfolding members
  members-first = rest 64 (lowest-below s n fit some e)
