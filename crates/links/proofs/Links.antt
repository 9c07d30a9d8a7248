-- The union of a box's types; and boxes that are linked, and all of them apart. Assumes nothing.
use mathlib.Core.Path.{◌≡◌, sym, ap, ◌∙◌}
use mathlib.Core.Bool.{Bool, true, false, not}
use mathlib.Core.List.{List}
use Prim.Native.Nat.{ℕ, ◌<◌, zero-le}
use native.Mathlib.Omega.{arith}
use borrow.Author.Rules.{rules}
use lib.ListN.{length, get_or}
use Rattle.std.specs.Prelude.{MatchBool}
use Rattle.std.specs.List.{range_with_len, AllWithin, HoldsAt}
use Rattle.std.proofs.lemmas.List.FromFn.{length-range_with_len, get_or-range_with_len}
use Rattle.definitions.specs.Bounded.{◌implies◌, ◌isnt◌, all_below}
use Rattle.definitions.specs.Sets.{has, for_some, meets}
use Rattle.definitions.specs.Estimate.{Estimate}
use Rattle.definitions.specs.ShutOff.{linked, shut_off}
use Rattle.definitions.proofs.Bounded.{isnt_iff, all_iff, true_of, of_true, false_of, not-false, same_test}
use Rattle.definitions.proofs.Sets.{for_some_iff, for_some_cong, meets_iff, meets_comm}
use Rattle.sets.specs.declared.NameNo.{NameNo}
use Rattle.sets.specs.Each.{UnionOfEach}
use Rattle.sets.proofs.Ranges.{Each, One, all_numbers}
use Rattle.clauses.proofs.Members.{UnionOf, left_62, names_shown}
use Rattle.links.specs.Types.{Types}

-- ---- the union of types

-- a type shares a name with the union of types exactly when it shares one with some of them
pub types_union : (e : Estimate) (k s v : ℕ) (post : NameNo → ℕ → Type 0) → UnionOfEach post s v → ((n : NameNo) (r : ℕ) → post n r → r ≡ e.eps k n.0)
    → Types e k s v
types_union e k s v post u each = record {
  same = λ x.
      same_test (meets x v) (for_some s (λ c. meets x (e.eps k c)))
      (λ t. let m = (meets_iff x v).0 t in
      let c = (for_some_iff s (λ n. has (e.eps k n) m.0)).0 (of_true (sym (at m.0) ∙ true_of (has v m.0) m.3)) in
      (for_some_iff s (λ n. meets x (e.eps k n))).1 (c.0, c.1, c.2, (meets_iff x (e.eps k c.0)).1 (m.0, m.1, m.2, c.3)))
      (λ t. let c = (for_some_iff s (λ n. meets x (e.eps k n))).0 t in
      let m = (meets_iff x (e.eps k c.0)).0 c.3 in
      (meets_iff x v).1 (
        m.0,
        m.1,
        m.2,
        of_true (at m.0 ∙ true_of (for_some s (λ n. has (e.eps k n) m.0))
            ((for_some_iff s (λ n. has (e.eps k n) m.0)).1 (c.0, c.1, c.2, m.3))),
      ));
}
  where
    at : (m : ℕ) → has v m ≡ for_some s (λ n. has (e.eps k n) m)
    at = u.members (e.eps k) each

module _ (e : Estimate) (h k : ℕ) where
  pub types_as : (s u v : ℕ) → Types e k s v → s ≡ u → Types e k u v
  types_as s u v t z = rw z at t

  -- two boxes are linked exactly when the unions of their types share a name
  pub linked_as : (u v : ℕ) (r : Bool) → r ≡ meets v u → Types e h (e.shown h) u → Types e k (e.shown k) v → r ≡ linked e h k
  unfolding linked
  linked_as u v r i o t = i ∙ o.same v ∙ for_some_cong (e.shown h) (λ a. meets v (e.eps h a)) (λ a. for_some (e.shown k) (λ c. meets (e.eps h a) (e.eps k c))) (λ a _. meets_comm v (e.eps h a) ∙ t.same (e.eps h a))

-- ---- every other box

module _ (h k : ℕ) (c : Bool) where
  pub same_box : k ≡ h → true ≡ (k isnt h implies c)
  unfolding ◌implies◌
  same_box e = sym (ap (λ (x : Bool). x implies c) (false_of (k isnt h) (λ t. (isnt_iff k h).0 t e)))

  pub other_box : (x y : Bool) → (k ≡ h → ⊥) → x ≡ y → c ≡ not y → not x ≡ (k isnt h implies c)
  unfolding ◌implies◌
  other_box x y f e q = ap not e ∙ sym q ∙ sym (ap (λ (z : Bool). z implies c) (true_of (k isnt h) ((isnt_iff k h).1 f)))

-- box k is box h, or not linked to it; the boxes, by what is answered for each
abbrev pub is_apart : Estimate → ℕ → ℕ → Bool
is_apart e h k = k isnt h implies not (linked e h k)

pub shut_is : (e : Estimate) (boxes h : ℕ) (r : Bool) → MatchBool r (Each (λ k. true ≡ is_apart e h k) 0 boxes) (One (λ k. false ≡ is_apart e h k) 0 boxes)
    → r ≡ shut_off e boxes h
unfolding shut_off
shut_is e boxes h = all_numbers (is_apart e h) boxes

pub ruleset unions = (rules, names_shown, types_union, types_as, linked_as)

pub ruleset apart = (rules, same_box, other_box)
