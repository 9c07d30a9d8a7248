-- Laws of one step of the walk: from the code's words to what its wrong digits tell. Assumes nothing.
use mathlib.Core.Path.{◌≡◌, ap, ap₂, ◌∙◌, subst}
use mathlib.Core.List.{List}
use mathlib.Core.Logic.{⊎_elim}
use Prim.Native.Nat.{ℕ, ◌-◌, ◌^◌, ◌<◌}
use borrow.Author.Rules.{rules}
use lib.Dec.{T}
use lib.Bits.{bit_and, bit_or}
use lib.ListN.{get_or, set}
use Rattle.definitions.specs.Sets.{has}
use Rattle.definitions.proofs.Bounded.{and_iff, or_iff, false_of, not-false}
use Rattle.definitions.proofs.Sets.{has-and, has-or}
use Rattle.line_table.specs.Table.{mark, row}
use Rattle.line_table.specs.LineWords.{first, second, wrong, bound, named, used}
use Rattle.line_table.specs.Told.{Empty, Typed}
use Rattle.line_walk.specs.Told.{Own, OwnTold, Children, ChildrenTold, Stepped, child1_of, child2_of, handed}
use Rattle.line_table.proofs.Digits.{in_and, empty_or_left, empty_or_right}

-- a join shares nothing with a set where neither part does
join_empty : (x y z : ℕ) → Empty (bit_and x z) → Empty (bit_and y z) → Empty (bit_and (bit_or x y) z)
join_empty x y z e f = record {
  at = λ n. false_of (has (bit_and (bit_or x y) z) n) (λ t.
      let p = (and_iff (has (bit_or x y) n) (has z n)).0 (subst T (has-and (bit_or x y) z n) t) in
      ⊎_elim (λ u. not-false (e.at n) (in_and x z n u p.1)) (λ u. not-false (f.at n) (in_and y z n u p.1))
      ((or_iff (has x n) (has y n)).0 (subst T (has-or x y n) p.0)));
}

-- a line by itself
module _ (t : List ℕ) (a rest w ty v seen : ℕ) where
  used-reach : Empty (bit_and (named t w) (2 ^ 64 - 1 - v)) → Empty (bit_and (bit_and ty rest) (2 ^ 64 - 1 - v)) → Empty (bit_and (used t rest w ty) (2 ^ 64 - 1 - v))
  unfolding used named
  used-reach e f = join_empty (bit_or (bit_and (first w) (row t 3 w)) (bit_and (second w) (row t 4 w))) (bit_and ty rest) (2 ^ 64 - 1 - v) e f

  pub own_told : v < 2 ^ 64 → w < 2 ^ 64 → ty < 2 ^ 64 → (line expose u x : ℕ) → line ≡ wrong t w → Typed a rest w ty v expose → u ≡ named t w → x ≡ bound t w
      → OwnTold t a rest w ty v seen (bit_or (bit_or (bit_or (bit_or line expose) (bit_and u (2 ^ 64 - 1 - v))) (bit_and seen x)) (bit_and (2 ^ 64 - 1 - v) mark))
  own_told hv hw ht line expose u x e1 e2 e3 e4 = record {
    word = hv;
    first = hw;
    second = ht;
    tells = λ e.
        let p4 = empty_or_left (bit_or (bit_or (bit_or line expose) (bit_and u (2 ^ 64 - 1 - v))) (bit_and seen x)) (bit_and (2 ^ 64 - 1 - v) mark) e in
        let p3 = empty_or_left (bit_or (bit_or line expose) (bit_and u (2 ^ 64 - 1 - v))) (bit_and seen x) p4 in
        let p2 = empty_or_left (bit_or line expose) (bit_and u (2 ^ 64 - 1 - v)) p3 in
        let ty' = e2.tells (empty_or_right line expose p2) in
        record {
          line = subst Empty e1 (empty_or_left line expose p2);
          none = ty'.none;
          typed = ty'.typed;
          reach = used-reach (subst (λ (u : ℕ). Empty (bit_and u (2 ^ 64 - 1 - v))) e3 (empty_or_right (bit_or line expose) (bit_and u (2 ^ 64 - 1 - v)) p3)) ty'.reach;
          once = subst (λ (x : ℕ). Empty (bit_and seen x)) e4 (empty_or_right (bit_or (bit_or line expose) (bit_and u (2 ^ 64 - 1 - v))) (bit_and seen x) p4);
          visit = empty_or_right (bit_or (bit_or (bit_or line expose) (bit_and u (2 ^ 64 - 1 - v))) (bit_and seen x)) (bit_and (2 ^ 64 - 1 - v) mark) e;
        };
  }

-- the two places written
module _ (t : List ℕ) (w here : ℕ) (up : List ℕ) where
  pub children_told : (f1 f2 d1 d2 a8 a9 : ℕ) → f1 ≡ get_or up (child1_of w) 0 → d1 ≡ here → f2 ≡ get_or (set up (child1_of w) d1) (child2_of w) 0 → d2 ≡ here
      → a8 ≡ row t 7 w → a9 ≡ row t 8 w → ChildrenTold t w here up (bit_or (bit_and f1 a8) (bit_and f2 a9)) (set (set up (child1_of w) d1) (child2_of w) d2)
  children_told f1 f2 d1 d2 a8 a9 e1 k1 e2 k2 e8 e9 = record {
    tells = λ e. record {
      first = subst Empty (ap₂ bit_and e1 e8) (empty_or_left (bit_and f1 a8) (bit_and f2 a9) e);
      second = subst Empty (ap₂ bit_and (e2 ∙ ap (λ (d : ℕ). get_or (set up (child1_of w) d) (child2_of w) 0) k1) e9) (empty_or_right (bit_and f1 a8) (bit_and f2 a9) e);
    };
    put = ap₂ (λ (d1 d2 : ℕ). set (set up (child1_of w) d1) (child2_of w) d2) k1 k2;
  }

-- the whole step
module _ (t : List ℕ) (a rest w ty i seen : ℕ) (up : List ℕ) where
  pub stepped : (own children v x here : ℕ) (new : List ℕ) → v ≡ get_or up i 0 → OwnTold t a rest w ty v seen own → x ≡ bound t w → here ≡ bit_or x v → ChildrenTold t w here up children new
      → Stepped t a rest w ty i up seen (bit_or own children) new
  stepped own children v x here new e1 o e2 e3 k =
      let z : here ≡ handed t up w i = e3 ∙ ap₂ bit_or e2 e1 in
      record {
        own = λ e. subst (λ (v : ℕ). Own t a rest w ty v seen) e1 (o.tells (empty_or_left own children e));
        children = λ e. subst (λ (h : ℕ). Children t w h up) z (k.tells (empty_or_right own children e));
        put = k.put ∙ ap (λ (h : ℕ). set (set up (child1_of w) h) (child2_of w) h) z;
        word = subst (λ (v : ℕ). v < 2 ^ 64) e1 o.word;
        first = o.first;
        second = o.second;
      }

pub ruleset steps = (rules, own_told, children_told, stepped)
