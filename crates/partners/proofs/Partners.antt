-- Laws of the walk of clause 6: a name, a box, the boxes, and the clause. Assumes nothing.
use mathlib.Core.Path.{◌≡◌, refl, sym, ap, ◌∙◌}
use mathlib.Core.Bool.{Bool, true, false}
use mathlib.Core.Option.{Option, none}
use Prim.Native.Nat.{ℕ, ◌^◌, ◌<◌}
use borrow.Author.Rules.{rules}
use Rattle.definitions.specs.Bounded.{◌and◌, ◌isnt◌, when, first_below}
use Rattle.definitions.specs.Sets.{has, first_short, missing, meets}
use Rattle.definitions.specs.Model.{Line}
use Rattle.definitions.specs.Estimate.{Estimate}
use Rattle.definitions.specs.Clauses.{clause6}
use Rattle.definitions.proofs.Bounded.{isnt_iff, true_of, false_of, first_cong}
use Rattle.definitions.proofs.Loops.{passed-turn, passed_end}
use Rattle.subsets.proofs.Walk.{ShortLeft, short_start}
use Rattle.clauses.proofs.Members.{shorts, names_shown, rho_names, box_62, names_62, second_62, met_yes}
use Rattle.partners.specs.Partners.{fitting, of_box, of_boxes}

-- ---- one name of another box, and its shown names

module _ (e : Estimate) (x q k c : ℕ) (t : Bool) (y : ℕ) (et : t ≡ meets x y) (ey : y ≡ e.eps k c) where
  test : (v : Bool) → t ≡ v → meets x (e.eps k c) ≡ v
  test v h = sym (et ∙ ap (meets x) ey) ∙ h

  pub fits : (u : ℕ) (r : Option ℕ) → t ≡ true → r ≡ missing u q → u ≡ e.kap k c → r ≡ fitting e x q k c
  unfolding fitting
  fits u r h er eu = er ∙ ap (λ (z : ℕ). missing z q) eu ∙ sym (ap (λ (z : Bool). when z (missing (e.kap k c) q)) (test true h))

  pub unfit : t ≡ false → none ≡ fitting e x q k c
  unfolding fitting
  unfit h = sym (ap (λ (z : Bool). when z (missing (e.kap k c) q)) (test false h))

module _ (e : Estimate) (b x q k : ℕ) where
  pub own_box : k ≡ b → none ≡ of_box e b x q k
  unfolding of_box
  own_box h = sym (ap (λ (z : Bool). when z (first_short (e.shown k) (fitting e x q k))) (false_of (k isnt b) (λ t. (isnt_iff k b).0 t h)))

  pub other_box : (r : Option ℕ) → (k ≡ b → ⊥) → r ≡ first_short (e.shown k) (fitting e x q k) → r ≡ of_box e b x q k
  unfolding of_box
  other_box r h er = er ∙ sym (ap (λ (z : Bool). when z (first_short (e.shown k) (fitting e x q k))) (true_of (k isnt b) ((isnt_iff k b).1 h)))

-- the walk begins with a set that a called function gave
pub shown_start : (f : ℕ → Option ℕ) (s v : ℕ) → v < 2 ^ 64 → v ≡ s → ShortLeft f s v
shown_start f s v h ev = rw (sym ev) (short_start f v h)

pub boxes_as : (e : Estimate) (boxes b q a x : ℕ) (r : Option ℕ) → x ≡ e.eps b a → r ≡ first_below boxes (of_box e b x q) → r ≡ of_boxes e boxes b q a
unfolding of_boxes
boxes_as e boxes b q a x r ex er = er ∙ ap (λ (z : ℕ). first_below boxes (of_box e b z q)) ex

-- ---- the clause, by its walk

-- the first one short of the members that two sets share
short_both : (s y d : ℕ) (f : ℕ → Option ℕ) → ((m : ℕ) → has d m ≡ (has s m and has y m)) → first_short d f ≡ first_short s (λ a. when (has y a) (f a))
unfolding first_short ◌and◌
short_both s y d f both =
    first_cong 64 (λ j. when (has d j) (f j)) (λ j. when (has s j) (when (has y j) (f j)))
    (λ j l. ap (λ (z : Bool). when z (f j)) (both j) ∙ twice (has s j) (has y j) (f j))
  where
    twice : (v w : Bool) (o : Option ℕ) → when (v and w) o ≡ when v (when w o)
    twice true w o = refl
    twice false w o = refl

pub six_is : (e : Estimate) (boxes b : ℕ) (l : Line) (p y d q : ℕ) (r : Option ℕ) → p ≡ e.rho l.name1 → y ≡ e.shown b → ((m : ℕ) → has d m ≡ (has p m and has y m))
    → q ≡ e.rho l.name2 → r ≡ first_short d (of_boxes e boxes b q) → r ≡ clause6 e boxes b l
unfolding clause6 of_boxes of_box fitting
six_is e boxes b l p y d q r ep ey both eq er =
    er ∙ short_both p y d (of_boxes e boxes b q) both
    ∙ (λ i. first_short (ep i) (λ a. when (has (ey i) a) (of_boxes e boxes b (eq i) a)))

pub ruleset partners = (shorts, fits, unfit, own_box, other_box, shown_start, names_shown, passed-turn, passed_end, boxes_as, box_62)

pub ruleset found = (rules, met_yes, second_62, names_62, rho_names, six_is)
