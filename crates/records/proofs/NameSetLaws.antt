-- Laws of sets of names by a test, of what a line binds and uses, and of a type. Assumes nothing.
use mathlib.Core.Path.{◌≡◌, refl, sym, ap, ap₂, ◌∙◌}
use mathlib.Core.Bool.{Bool, true, false, not, ◌&&◌, ◌||◌}
use Prim.Native.Nat.{ℕ, ◌-◌, ◌^◌, ◌<◌}
use borrow.Author.Rules.{rules}
use lib.Dec.{eqb, leb}
use Rattle.definitions.specs.Bounded.{◌and◌, ◌or◌, ◌is◌, ◌upto◌}
use Rattle.definitions.specs.Sets.{has, within, size}
use Rattle.definitions.specs.Model.{Line, binds}
use Rattle.definitions.specs.ReadModel.{type_fits, uses}
use Rattle.definitions.proofs.Bounded.{and_is, or_is}
use Rattle.definitions.proofs.Sets.{has-none, has-not, or-false, within_each}
use Rattle.records.specs.NameSets.{SetOf, insert_if, set_if, lacks}

-- ---- sets by a test

false-or : (b : Bool) → (false or b) ≡ b
unfolding ◌or◌
false-or b = refl

pub insert_yes : (s n r : ℕ) (t : Bool) → ((m : ℕ) → m < 64 → has r m ≡ (has s m or n is m)) → t ≡ true
    → SetOf r (insert_if s t n)
unfolding insert_if ◌and◌
insert_yes s n r t f e = record { at = λ m l. f m l ∙ ap (λ (y : Bool). has s m or (y and n is m)) (sym e) }

pub insert_no : (s n : ℕ) (t : Bool) → t ≡ false → SetOf s (insert_if s t n)
unfolding insert_if ◌and◌
insert_no s n t e =
    record { at = λ m l. sym (or-false (has s m)) ∙ ap (λ (y : Bool). has s m or (y and n is m)) (sym e) }

pub set_yes : (s : ℕ) (t : Bool) → t ≡ true → SetOf s (set_if t s)
unfolding set_if ◌and◌
set_yes s t e = record { at = λ m l. ap (λ (y : Bool). y and has s m) (sym e) }

pub set_no : (s : ℕ) (t : Bool) → t ≡ false → SetOf 0 (set_if t s)
unfolding set_if ◌and◌
set_no s t e = record { at = λ m l. has-none m ∙ ap (λ (y : Bool). y and has s m) (sym e) }

pub complement_is : (s : ℕ) → s < 2 ^ 64 → SetOf (2 ^ 64 - 1 - s) (lacks s)
unfolding lacks
complement_is s h = record { at = λ m l. has-not 64 s m h l }

-- what a line binds and uses, by tests joined with `|`
pub binds-is : (l : Line) (a r : ℕ) → SetOf a (insert_if 0 (eqb l.op 3 || eqb l.op 6) l.name1) → SetOf r (insert_if a (eqb l.op 5) l.name2)
    → SetOf r (binds l)
unfolding insert_if binds ◌is◌
binds-is l a r f g = record {
  at = λ m h. g.at m h
      ∙ ap (λ (t : Bool). t or (eqb l.op 5 and eqb l.name2 m))
      (f.at m h
      ∙ ap₂ (λ (s t : Bool). s or (t and eqb l.name1 m)) (has-none m) (or_is (eqb l.op 3) (eqb l.op 6))
      ∙ false-or ((eqb l.op 3 or eqb l.op 6) and eqb l.name1 m));
}

pub uses-is : (l : Line) (a b w r : ℕ) → SetOf a (insert_if 0 (((eqb l.op 4 || eqb l.op 5) || eqb l.op 7) || eqb l.op 8) l.name1)
    → SetOf b (insert_if a (eqb l.op 4) l.name2) → SetOf w (set_if (eqb l.op 6) l.type) → ((m : ℕ) → has r m ≡ (has b m or has w m)) → SetOf r (uses l)
unfolding insert_if set_if uses ◌is◌
uses-is l a b w r f g h k = record {
  at = λ m l'. k m
      ∙ ap₂ ◌or◌
      (g.at m l'
      ∙ ap (λ (t : Bool). t or (eqb l.op 4 and eqb l.name2 m))
      (f.at m l'
      ∙ ap₂ (λ (s t : Bool). s or (t and eqb l.name1 m)) (has-none m) (simp or_is)
      ∙ false-or ((eqb l.op 4 or eqb l.op 5 or eqb l.op 7 or eqb l.op 8) and eqb l.name1 m)))
      (h.at m l');
}

-- ---- a type

pub type_is : (ok subject names n : ℕ) (w h : Bool) → n ≡ size names → w ≡ within names ok → h ≡ has names subject
    → (((leb 1 n && leb n 8) && w) && not h) ≡ type_fits (has ok) subject names
unfolding type_fits ◌upto◌
type_is ok subject names n w h en ew eh =
    (simp and_is)
    ∙ ap₂ (λ (s t : Bool). s and not t) (ap₂ ◌and◌ (ap (λ (x : ℕ). leb 1 x and leb x 8) en) (ew ∙ within_each names ok)) eh

pub ruleset name_sets = (rules, insert_yes, insert_no, set_yes, set_no, complement_is, type_is)
