-- The union of what a function gives at each member of a set, member by member. Assumes nothing.
use Rattle.std.proofs.Common.{◌≡◌, ℕ, ◌^◌, ◌<◌, Bool, T, sym, ap, ◌∙◌, arith, rules}
use Rattle.definitions.specs.Bounded.{◌or◌}
use Rattle.definitions.specs.Sets.{has, for_some}
use Rattle.definitions.proofs.Sets.{has-none, or_assoc, or-false}
use Rattle.sets.specs.declared.NameNo.{NameNo}
use Rattle.sets.specs.Ascending.{LowestOf}
use Rattle.sets.specs.Each.{TakesMembers, UnionOfEach}
use Rattle.sets.proofs.Walk.{Left, left_start, left_turn, left_in, lowest-below, split_some, none-some}

pub some_left : (left n t : ℕ) → LowestOf left n t → left ≡ 0 → ⊥
some_left left n t d z = omega (arith, d.some_left)

-- the next member of what is left is a member of s
pub takes_next : (pre : NameNo → Type 0) (s left : ℕ) (n : NameNo) (t : ℕ) → TakesMembers pre s → Left s left → LowestOf left n.0 t → pre n
takes_next pre s left n t f w d =
    let z = some_left left n.0 t d in
    f.each n (lowest-below left n.0 w.fit z d.lowest) (left_in s left n.0 w z d.lowest)

-- what is gathered, and what is left of s, have together what the members of s give
pub record UnionLeft (post : NameNo → ℕ → Type 0) (s left v : ℕ) : Type 0 where
  pub there : Left s left
  pub same : (g : ℕ → ℕ) → ((n : NameNo) (r : ℕ) → post n r → r ≡ g n.0) → (m : ℕ) → (has v m or for_some left (λ n. has (g n) m)) ≡ for_some s (λ n. has (g n) m)

module _ (post : NameNo → ℕ → Type 0) (s : ℕ) where
  pub union_start : s < 2 ^ 64 → UnionLeft post s s 0
  unfolding ◌or◌
  union_start h = record {
    there = left_start s h;
    same = λ g e m. ap (λ (b : Bool). b or for_some s (λ n. has (g n) m)) (has-none m);
  }

  module _ (left v : ℕ) (w : UnionLeft post s left v) where
    pub union_turn : (n : NameNo) (t u y : ℕ) → LowestOf left n.0 t → ((m : ℕ) → has u m ≡ (has v m or has y m)) → post n y → UnionLeft post s t u
    union_turn n t u y d j p = let z = some_left left n.0 t d in record {
      there = left_turn s left t w.there z d.others;
      same = λ g e m. ap (λ (b : Bool). b or for_some t (λ i. has (g i) m)) (j m ∙ ap (λ (x : ℕ). has v m or has x m) (e n y p))
          ∙ or_assoc (has v m) (has (g n.0) m) (for_some t (λ i. has (g i) m))
          ∙ ap (λ (b : Bool). has v m or b) (sym (split_some (λ i. has (g i) m) left t n.0 w.there.fit z d.lowest d.others)) ∙ w.same g e m;
    }

    pub union_end : left ≡ 0 → UnionOfEach post s v
    union_end z = record {
      members = λ g e m. sym (or-false (has v m)) ∙ ap (λ (b : Bool). has v m or b) (sym (none-some (λ n. has (g n) m) left z)) ∙ w.same g e m;
    }

pub ruleset unions = (rules, union_start, union_turn, union_end)
