-- Laws of the tests of one record: from sets and flags to the paper's rules. Assumes nothing.
use mathlib.Core.Path.{◌≡◌, refl, sym, ap, ap₂, ◌∙◌, subst}
use mathlib.Core.Bool.{Bool, true, false, not, ◌&&◌, ◌||◌}
use mathlib.Core.List.{List}
use mathlib.Core.Logic.{◌⊎◌, inl, inr}
use Prim.Native.Nat.{ℕ, ◌*◌, ◌%◌, ◌^◌, ◌≤◌, ◌<◌}
use native.Mathlib.Omega.{arith}
use native.Mathlib.Decide.{dec_lt}
use borrow.Author.Rules.{rules}
use borrow.Author.Tests.{eq-eqb, ne_eqb}
use lib.Dec.{T, eqb, leb, ltb}
use lib.ListN.{length}
use Rattle.definitions.specs.Bounded.{◌and◌, ◌or◌, ◌implies◌, ◌is◌, ◌below◌, all_below, ◌isnt◌, ◌upto◌}
use Rattle.definitions.specs.Sets.{has, within, meets}
use Rattle.definitions.specs.Model.{Site, Line, box_at, listed, is_free, kind_of_name, has_child, binds, bound_above}
use Rattle.definitions.specs.ReadModel.{type_fits, used_before, site_fits, uses_name1, uses_name2, uses_child1, line_fits, uses, bound_before, reach_fits}
use Rattle.definitions.proofs.Bounded.{tests, and_iff, or_iff, implies_iff, is_iff, below_iff, all_iff, false_of, of_true, not-false, same_test, decide, and_is, or_is}
use Rattle.definitions.proofs.Faults.{not_iff}
use native.Mathlib.Nat.{one-mul, mod-eq_of_lt}
use lib.Pow.{pow-lt}
use lib.Bits.{bit_or}
use Rattle.definitions.proofs.Sets.{has_above, has_bit, has-or, has_one, within_iff, meets_iff, and-true, or_assoc, or-false}
use Rattle.record_rules.specs.declared.line_sets.LineSet.{LineSet}
use Rattle.records.specs.NameSets.{SetOf}
use Rattle.record_rules.specs.Rules.{is_free_or_unlisted, site_ok, shape_fit, names_fit, bound_fit, expose_fit, line_ok, tree_ok, DecidesSite, DecidesLine, DecidesChild, DecidesTree, DecidesReach}
use Rattle.record_rules.specs.LineSets.{insert_line, insert_children, LineSetOf}

-- ---- a set that says all of a test, where the test fails from 64 on

full : (s : ℕ) (p : ℕ → Bool) → s < 2 ^ 64 → SetOf s p → ((n : ℕ) → T (p n) → n < 64) → (n : ℕ) → has s n ≡ p n
full s p h f few n = pick (dec_lt n 64)
  where
    pick : Dec (n < 64) → has s n ≡ p n
    pick (yes l) = f.at n l
    pick (no l) = has_above 64 s n h (omega arith) ∙ sym (false_of (p n) (λ t. let k = few n t in absurd (omega arith)))

listed_few : (kinds : List ℕ) (n : ℕ) → length kinds ≤ 60 → T (listed kinds n) → n < 64
listed_few kinds n h t = let l = (below_iff n (length kinds)).0 t in omega arith

-- ---- 6

pub site_decided : (s : Site) (free used : ℕ) (f u x y z type r : Bool) → free < 2 ^ 64 → f ≡ has free s.subject → u ≡ has used s.subject
    → x ≡ (f and not u) → y ≡ (x and leb s.flag 1) → z ≡ (y and eqb s.spare 0) → type ≡ type_fits (has free) s.subject s.type
    → r ≡ (z and type) → DecidesSite s free used r
unfolding site_ok site_fits ◌upto◌ ◌is◌ ◌and◌
site_decided s free used f u x y z type r few ef eu ex ey ez et er = record {
  decides = λ m b i h frees before e.
      let kinds = m.kinds in
      let all : (n : ℕ) → T (is_free kinds n) → n < 64 = λ n t. listed_few kinds n h ((and_iff (listed kinds n) (kind_of_name kinds n is 0)).0 t).0 in
      let same = full free (is_free kinds) few frees all in
      raw ∙ (λ i. site_ok (λ n. same n i) (has used s.subject) s)
      ∙ fresh (is_free kinds) (used_before m b i s.subject) (all s.subject) (λ l. before.at s.subject l)
      ∙ ap (λ (s : Site). site_ok (is_free kinds) (used_before m b i s.subject) s) e;
}
  where
    raw : r ≡ site_ok (has free) (has used s.subject) s
    raw = cc

    fresh : (p : ℕ → Bool) (v : Bool) → (T (p s.subject) → s.subject < 64) → (s.subject < 64 → has used s.subject ≡ v)
        → site_ok p (has used s.subject) s ≡ site_ok p v s
    fresh p v small same = pick (decide (p s.subject))
      where
        pick : T (p s.subject) ⊎ (T (p s.subject) → ⊥) → site_ok p (has used s.subject) s ≡ site_ok p v s
        pick (inl t) = ap (λ (v : Bool). site_ok p v s) (same (small t))
        pick (inr n) = stop (has used s.subject) ∙ sym (stop v)
          where
            stop : (v : Bool) → site_ok p v s ≡ false
            stop v =
                ap (λ (t : Bool). t and not v and leb s.flag 1 and eqb s.spare 0 and type_fits p s.subject s.type)
                (false_of (p s.subject) n)

pub site_joined : (s : Site) (free used : ℕ) (f u type : Bool) → free < 2 ^ 64 → f ≡ has free s.subject → u ≡ has used s.subject
    → type ≡ type_fits (has free) s.subject s.type → DecidesSite s free used ((((f && not u) && leb s.flag 1) && eqb s.spare 0) && type)
site_joined s free used f u type few ef eu et =
    site_decided s free used f u (f && not u) ((f && not u) && leb s.flag 1) (((f && not u) && leb s.flag 1) && eqb s.spare 0) type _
    few ef eu (and_is _ _) (and_is _ _) (and_is _ _) et (and_is _ _)

-- ---- 7

-- a test asked where another passes, and where it fails
implied : (a b : Bool) → (a || b) ≡ (not a implies b)
unfolding ◌implies◌
implied true b = refl
implied false b = refl

required : (a b : Bool) → (not a || b) ≡ (a implies b)
unfolding ◌implies◌
required true b = refl
required false b = refl

-- a rule by a test: where it is met the first part alone is asked, and else the second
pub rule_yes : (c a b : Bool) → c ≡ true → a ≡ ((c implies a) and (not c implies b))
unfolding ◌and◌ ◌implies◌
rule_yes true true b e = refl
rule_yes true false b e = refl
rule_yes false a b e = absurd (of_true e)

pub rule_no : (c a b : Bool) → c ≡ false → b ≡ ((c implies a) and (not c implies b))
unfolding ◌and◌ ◌implies◌
rule_no true a b e = absurd (not-false e tt)
rule_no false a b e = refl

pub shape_is : (l : Line) → ((leb l.op 8 && eqb l.spare 0) && ((not (eqb l.op 0) || eqb l.child1 0) && (eqb l.op 1 || eqb l.child2 0))) ≡ shape_fit l
unfolding shape_fit uses_child1 ◌is◌ ◌isnt◌ ◌upto◌
shape_is l =
    (simp and_is)
    ∙ ap₂ (λ (s t : Bool). (leb l.op 8 and eqb l.spare 0) and (s and t)) (implied (not (eqb l.op 0)) (eqb l.child1 0)) (implied (eqb l.op 1) (eqb l.child2 0))

names_by : (all : ℕ → Bool) (l : Line) (second-used a b first second r : Bool) → r ≡ (first and second)
    → first ≡ ((leb 3 l.op implies a) and (not (leb 3 l.op) implies eqb l.name1 0))
    → second ≡ ((second-used implies b) and (not second-used implies eqb l.name2 0)) → a ≡ all l.name1 → b ≡ all l.name2
    → second-used ≡ (eqb l.op 4 or eqb l.op 5) → r ≡ names_fit all l
unfolding names_fit uses_name1 uses_name2 ◌is◌ ◌upto◌
names_by all l second-used a b first second r e1 e2 e3 e4 e5 e6 = cc

pub names_is : (all : ℕ → Bool) (l : Line) (a b first second : Bool) → first ≡ ((leb 3 l.op implies a) and (not (leb 3 l.op) implies eqb l.name1 0))
    → second ≡ (((eqb l.op 4 || eqb l.op 5) implies b) and (not (eqb l.op 4 || eqb l.op 5) implies eqb l.name2 0)) → a ≡ all l.name1 → b ≡ all l.name2
    → (first && second) ≡ names_fit all l
names_is all l a b first second e f g h = names_by all l _ a b first second _ (and_is first second) e f g h (or_is _ _)

bound_by : (p q : ℕ → Bool) (l : Line) (a b one second r : Bool) → r ≡ (one and second) → one ≡ (eqb l.op 3 implies a) → a ≡ p l.name1
    → second ≡ (eqb l.op 5 implies b) → b ≡ q l.name2 → r ≡ bound_fit p q l
unfolding bound_fit ◌is◌
bound_by p q l a b one second r e1 e2 e3 e4 e5 = cc

pub bound-is : (p q : ℕ → Bool) (l : Line) (a b : Bool) → a ≡ p l.name1 → b ≡ q l.name2
    → ((not (eqb l.op 3) || a) && (not (eqb l.op 5) || b)) ≡ bound_fit p q l
bound-is p q l a b e f = bound_by p q l a b _ _ _ (and_is _ _) (required _ _) e (required _ _) f

pub expose_yes : (p q : ℕ → Bool) (l : Line) (a type : Bool) → l.op ≡ 6 → a ≡ q l.name1 → type ≡ type_fits p l.name1 l.type
    → (a && type) ≡ expose_fit p q l
unfolding expose_fit ◌is◌ ◌isnt◌
expose_yes p q l a type o ea et =
    and_is a type ∙ ap₂ ◌and◌ ea et
    ∙ rule_yes (eqb l.op 6) (q l.name1 and type_fits p l.name1 l.type) (eqb l.type 0) (eq-eqb l.op 6 o)

pub expose_no : (p q : ℕ → Bool) (l : Line) (r : Bool) → (l.op ≡ 6 → ⊥) → r ≡ eqb l.type 0 → r ≡ expose_fit p q l
unfolding expose_fit ◌is◌ ◌isnt◌
expose_no p q l r o e =
    e ∙ rule_no (eqb l.op 6) (q l.name1 and type_fits p l.name1 l.type) (eqb l.type 0) (ne_eqb l.op 6 o)

line_fits_lem : (kinds : List ℕ) (l : Line)
    → line_ok (listed kinds) (λ n. listed kinds n and kind_of_name kinds n is 1) (λ n. listed kinds n and kind_of_name kinds n is 2) (λ n. listed kinds n and kind_of_name kinds n is 3) l
    ≡ line_fits kinds l
unfolding line_ok shape_fit names_fit bound_fit expose_fit line_fits uses_name1 uses_name2 uses_child1
line_fits_lem kinds l = same_test _ _
    (λ t. let p = simp (tests, not_iff) at t in
    let shape = p.0.0.0 in
    let names = p.0.0.1 in
    let bound = p.0.1 in
    simp (tests, not_iff) (
      (
        (
          (
            (((((((shape.0.0, shape.0.1), names.0.0), names.0.1), names.1.0), names.1.1), shape.1.0), shape.1.1),
            λ e. (bound.0 e).1,
          ),
          λ e. (bound.1 e).1,
        ),
        λ e. ((p.1.0 e).0.1, (p.1.0 e).1),
      ),
      p.1.1,
    ))
    (λ t. let q = simp (tests, not_iff) at t in
    let f = q.0.0.0.0 in
    let named : 3 ≤ l.op → l.name1 < length kinds = f.0.0.0.0.0.1 in
    simp (tests, not_iff) (
      (
        (((f.0.0.0.0.0.0.0, f.0.0.0.0.0.0.1), (f.0.1, f.1)), ((f.0.0.0.0.0.1, f.0.0.0.0.1), (f.0.0.0.1, f.0.0.1))),
        (
          λ e. (named (omega arith), q.0.0.0.1 e),
          λ e. (f.0.0.0.1 ((or_iff (l.op is 4) (l.op is 5)).1 (inr ((is_iff l.op 5).1 e))), q.0.0.1 e),
        ),
      ),
      (λ e. ((named (omega arith), (q.0.1 e).0), (q.0.1 e).1), q.1),
    ))

of_kind_few : (kinds : List ℕ) (k n : ℕ) → length kinds ≤ 60 → T (listed kinds n and kind_of_name kinds n is k) → n < 64
of_kind_few kinds k n h t = listed_few kinds n h ((and_iff (listed kinds n) (kind_of_name kinds n is k)).0 t).0

pub line_decided : (l : Line) (a r c e : ℕ) (shape names fields bound shown x fits : Bool) → fits ≡ (x and shown) → x ≡ (fields and bound)
    → fields ≡ (shape and names) → shape ≡ shape_fit l → names ≡ names_fit (has a) l → bound ≡ bound_fit (has r) (has c) l
    → shown ≡ expose_fit (has a) (has e) l → a < 2 ^ 64 → r < 2 ^ 64 → c < 2 ^ 64 → e < 2 ^ 64 → DecidesLine l a r c e fits
unfolding line_ok
line_decided l a r c e shape names fields bound shown x fits e1 e2 e3 e4 e5 e6 e7 fa fr fc fe = record {
  decides = λ m k.
      let kinds = m.kinds in
      let sa = full a (listed kinds) fa k.all (λ n t. listed_few kinds n k.few t) in
      let sr = full r (λ n. listed kinds n and kind_of_name kinds n is 1) fr k.restricted (λ n t. of_kind_few kinds 1 n k.few t) in
      let sc = full c (λ n. listed kinds n and kind_of_name kinds n is 2) fc k.received (λ n t. of_kind_few kinds 2 n k.few t) in
      let se = full e (λ n. listed kinds n and kind_of_name kinds n is 3) fe k.exposed (λ n t. of_kind_few kinds 3 n k.few t) in
      raw ∙ (λ i. line_ok (λ n. sa n i) (λ n. sr n i) (λ n. sc n i) (λ n. se n i) l) ∙ line_fits_lem kinds l;
}
  where
    raw : fits ≡ line_ok (has a) (has r) (has c) (has e) l
    raw = cc

pub line_joined : (l : Line) (a r c e : ℕ) (shape names bound shown : Bool) → shape ≡ shape_fit l → names ≡ names_fit (has a) l
    → bound ≡ bound_fit (has r) (has c) l → shown ≡ expose_fit (has a) (has e) l → a < 2 ^ 64 → r < 2 ^ 64 → c < 2 ^ 64 → e < 2 ^ 64
    → DecidesLine l a r c e (((shape && names) && bound) && shown)
line_joined l a r c e shape names bound shown f g h k fa fr fc fe =
    line_decided l a r c e shape names (shape && names) bound shown ((shape && names) && bound) _ (and_is _ _) (and_is _ _) (and_is _ _) f g h k fa fr fc fe

-- ---- 8

-- a digit of a set of lines
pub has-none_past : (s c : ℕ) → s < 2 ^ 128 → 128 ≤ c → false ≡ has s c
has-none_past s c h l = sym (has_above 128 s c h l)

pub put_in : (s c : ℕ) → c < 128 → LineSetOf (record { 0 = bit_or s ((1 * 2 ^ c) % 2 ^ 128) }) (insert_line s c)
unfolding insert_line
put_in s c l = record {
  at = λ d _.
      ap (λ (x : ℕ). has (bit_or s x) d) (ap (λ (x : ℕ). x % 2 ^ 128) (one-mul (2 ^ c)) ∙ mod-eq_of_lt (pow-lt l))
      ∙ has-or s (2 ^ c) d ∙ ap (λ (t : Bool). has s d or t) (has_one c d);
}

pub put_past : (k : LineSet) (c : ℕ) → 128 ≤ c → LineSetOf k (insert_line k.0 c)
unfolding insert_line
put_past k c h = record {
  at = λ d l. sym (ap (λ (t : Bool). has k.0 d or t) (false_of (c is d) (λ u. let e = (is_iff c d).0 u in omega arith)) ∙ or-false (has k.0 d));
}

-- the children put in, by the operation: none, one, two
module _ (k : LineSet) (l : Line) where
  pub children_none : l.op ≡ 0 → LineSetOf k (insert_children k.0 l)
  unfolding insert_children has_child ◌is◌ ◌isnt◌ ◌and◌
  children_none o = record {
    at = λ c h.
        let x = has k.0 c in
        let y = eqb l.child1 c or (eqb l.op 1 and eqb l.child2 c) in
        sym (ap (λ (t : Bool). x or (not t and y)) (eq-eqb l.op 0 o) ∙ or-false x);
  }

  pub children_one : (a : LineSet) → (l.op ≡ 0 → ⊥) → (l.op ≡ 1 → ⊥) → LineSetOf a (insert_line k.0 l.child1)
      → LineSetOf a (insert_children k.0 l)
  unfolding insert_line insert_children has_child ◌is◌ ◌isnt◌ ◌and◌
  children_one a o q f = record {
    at = λ c h.
        let x = has k.0 c in
        let y = eqb l.child1 c in
        let z = eqb l.child2 c in
        f.at c h
        ∙ sym (ap₂ (λ (t u : Bool). x or (not t and (y or (u and z)))) (ne_eqb l.op 0 o) (ne_eqb l.op 1 q)
        ∙ ap (λ (t : Bool). x or t) (or-false y));
  }

  pub children_two : (a r : LineSet) → l.op ≡ 1 → LineSetOf a (insert_line k.0 l.child1)
      → LineSetOf r (insert_line a.0 l.child2) → LineSetOf r (insert_children k.0 l)
  unfolding insert_line insert_children has_child ◌is◌ ◌isnt◌ ◌and◌
  children_two a r o f g = record {
    at = λ c h.
        let x = has k.0 c in
        let y = eqb l.child1 c in
        let z = eqb l.child2 c in
        g.at c h ∙ ap (λ (t : Bool). t or z) (f.at c h) ∙ or_assoc x y z
        ∙ sym (ap₂ (λ (t u : Bool). x or (not t and (y or (u and z)))) (ne_eqb l.op 0 (λ e. absurd (omega arith))) (eq-eqb l.op 1 o));
  }

module _ (i c n : ℕ) (seen : LineSet) where
  pub child_in : (k : Bool) → (ltb i c && ltb c n) ≡ true → k ≡ has seen.0 c → DecidesChild i c n seen (not k)
  unfolding ◌below◌ ◌and◌
  child_in k ok ek = record {
    decides = λ p children few.
        let both : (ltb i c and ltb c n) ≡ true = sym (and_is (ltb i c) (ltb c n)) ∙ ok in
        let l : c < n = (below_iff c n).0 ((and_iff (ltb i c) (ltb c n)).0 (of_true both)).1 in
        ap not (ek ∙ children.at c (omega arith)) ∙ sym (ap (λ (t : Bool). t and not (p c)) both);
  }

  pub child_out : (ltb i c && ltb c n) ≡ false → DecidesChild i c n seen false
  unfolding ◌below◌ ◌and◌
  child_out out = record { decides = λ p children few. sym (ap (λ (t : Bool). t and not (p c)) (sym (and_is (ltb i c) (ltb c n)) ∙ out)) }

-- ---- a line in its tree, by the test that decides it: z, nil; o, parallel; f and s, its children; c, it is a child

abbrev in_tree : Bool → Bool → Bool → Bool → Bool → Bool
in_tree z o f s c = (not z implies f) and (o implies s) and c

module _ (z o f s c : Bool) where
  in_tree-nil : z ≡ true → o ≡ false → c ≡ true → true ≡ in_tree z o f s c
  unfolding ◌and◌ ◌implies◌
  in_tree-nil ez eo ec = sym (λ i. in_tree (ez i) (eo i) f s (ec i))

  in_tree-first : z ≡ false → f ≡ false → false ≡ in_tree z o f s c
  unfolding ◌and◌ ◌implies◌
  in_tree-first ez ef = sym (λ i. in_tree (ez i) o (ef i) s c)

  in_tree-one : z ≡ false → o ≡ false → f ≡ true → c ≡ true → true ≡ in_tree z o f s c
  unfolding ◌and◌ ◌implies◌
  in_tree-one ez eo ef ec = sym (λ i. in_tree (ez i) (eo i) (ef i) s (ec i))

  in_tree-two : z ≡ false → o ≡ true → f ≡ true → c ≡ true → s ≡ in_tree z o f s c
  unfolding ◌and◌ ◌implies◌
  in_tree-two ez eo ef ec = sym ((λ i. in_tree (ez i) (eo i) (ef i) s (ec i)) ∙ and-true s)

pub tree-first : (l : Line) (i n : ℕ) (seen all : LineSet) (f : Bool) → (l.op ≡ 0 → ⊥) → DecidesChild i l.child1 n seen f → f ≡ false
    → DecidesTree l i n seen all false
unfolding tree_ok ◌is◌ ◌isnt◌
tree-first l i n seen all f o first e = record {
  decides = λ p q few low before s. in_tree-first _ _ _ _ _ (ne_eqb l.op 0 o) (sym (first.decides p before few) ∙ e);
}

module _ (l : Line) (i n : ℕ) (seen all : LineSet) (h : Bool) (eh : h ≡ has all.0 i) where
  named : (q : ℕ → Bool) → n ≤ 124 → i < n → LineSetOf all q → (not (eqb i 0) implies q i) ≡ (eqb i 0 || h)
  named q few low s = sym (implied (eqb i 0) h ∙ ap (λ (t : Bool). not (eqb i 0) implies t) (eh ∙ s.at i (omega arith)))

  pub tree-unnamed : (eqb i 0 || h) ≡ false → DecidesTree l i n seen all false
  unfolding tree_ok ◌is◌ ◌isnt◌
  tree-unnamed e = record {
    decides = λ p q few low before s.
        sym (false_of (tree_ok l i n p q) (λ t. not-false (named q few low s ∙ e) ((and_iff _ (not (eqb i 0) implies q i)).0 t).1));
  }

  pub tree-nil : (eqb i 0 || h) ≡ true → l.op ≡ 0 → DecidesTree l i n seen all true
  unfolding tree_ok ◌is◌ ◌isnt◌
  tree-nil e o = record {
    decides = λ p q few low before s.
        in_tree-nil _ _ _ _ _ (eq-eqb l.op 0 o) (ne_eqb l.op 1 (λ u. absurd (omega arith))) (named q few low s ∙ e);
  }

  module _ (f : Bool) (e : (eqb i 0 || h) ≡ true) (o : l.op ≡ 0 → ⊥) (first : DecidesChild i l.child1 n seen f) (ef : f ≡ true) where
    pub tree-one : (l.op ≡ 1 → ⊥) → DecidesTree l i n seen all true
    unfolding tree_ok ◌is◌ ◌isnt◌
    tree-one u = record {
      decides = λ p q few low before s.
          in_tree-one _ _ _ _ _ (ne_eqb l.op 0 o) (ne_eqb l.op 1 u) (sym (first.decides p before few) ∙ ef) (named q few low s ∙ e);
    }

    pub tree-two : (g : Bool) → l.op ≡ 1 → DecidesChild i l.child2 n seen g → DecidesTree l i n seen all (g && not (eqb l.child1 l.child2))
    unfolding tree_ok ◌is◌ ◌isnt◌
    tree-two g u second = record {
      decides = λ p q few low before s.
          and_is g _ ∙ ap (λ (t : Bool). t and not (eqb l.child1 l.child2)) (second.decides p before few)
          ∙ in_tree-two _ _ _ _ _ (ne_eqb l.op 0 o) (eq-eqb l.op 1 u) (sym (first.decides p before few) ∙ ef) (named q few low s ∙ e);
    }

-- ---- 9

pub reach_decided : (l : Line) (free-or-unlisted above bound us v bs : ℕ) (w mt : Bool) → SetOf us (uses l) → ((n : ℕ) → has v n ≡ (has free-or-unlisted n or has above n))
    → w ≡ within us v → SetOf bs (binds l) → mt ≡ meets bs bound → DecidesReach l free-or-unlisted above bound (w && not mt)
unfolding reach_fits is_free_or_unlisted
reach_decided l free-or-unlisted above bound us v bs w mt u un ew bi em = record {
  decides = λ m b i sp sa sb e.
      let kinds = m.kinds in
      let x = box_at m b in
      and_is w (not mt) ∙ ap₂ (λ (s t : Bool). s and not t) ew em
      ∙ same_test (within us v and not (meets bs bound))
      (all_below 64 (λ n. (uses l n implies kind_of_name kinds n is 0 or bound_above x i n) and (binds l n implies not (bound_before m b i n))))
      (λ t. let p = (and_iff (within us v) (not (meets bs bound))).0 t in
      (all_iff 64 _).1 (λ n h. (and_iff _ _).1 (
        (implies_iff _ _).1 (λ q.
            let k = (within_iff us v).0 p.0 n h (subst T (sym (u.at n h)) q) in
            subst T (un n ∙ ap₂ ◌or◌ (sp.at n h) (sa.at n h)) k),
        (implies_iff _ _).1 (λ q. (not_iff (bound_before m b i n)).1 (λ c. (not_iff (meets bs bound)).0 p.1 ((meets_iff bs bound).1 (n, h, subst T (sym (bi.at n h)) q, subst T (sym (sb.at n h)) c)))),
      )))
      (λ t. let p = (all_iff 64 (λ n. (uses l n implies kind_of_name kinds n is 0 or bound_above x i n) and (binds l n implies not (bound_before m b i n)))).0 t in
      (and_iff (within us v) (not (meets bs bound))).1 (
        (within_iff us v).1 (λ n h q.
            let k = (implies_iff _ _).0 ((and_iff _ _).0 (p n h)).0 (subst T (u.at n h) q) in
            subst T (sym (un n ∙ ap₂ ◌or◌ (sp.at n h) (sa.at n h))) k),
        (not_iff (meets bs bound)).1 (λ c. let y = (meets_iff bs bound).0 c in
            (not_iff (bound_before m b i y.0)).0 ((implies_iff _ _).0 ((and_iff _ _).0 (p y.0 y.1)).1 (subst T (bi.at y.0 y.1) y.2))
            (subst T (sb.at y.0 y.1) y.3)),
      ))
      ∙ ap (λ (l : Line). all_below 64 (λ n. (uses l n implies kind_of_name kinds n is 0 or bound_above x i n) and (binds l n implies not (bound_before m b i n)))) e;
}

pub ruleset line_laws = (rules, rule_yes, rule_no, names_is, expose_yes, expose_no, line_joined)

pub ruleset set_laws = (rules, has_bit, has-none_past, put_in, put_past, children_none, children_one)

pub ruleset child_laws = (rules, child_in, child_out)

pub ruleset tree_laws = (rules, tree-first, tree-unnamed, tree-nil, tree-one)

pub ruleset reach_laws = (rules, reach_decided)
