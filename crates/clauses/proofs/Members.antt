-- A walk over the members of a set of names; and tests on what called functions answered. Assumes nothing.
use mathlib.Core.Path.{◌≡◌, sym, ap, ap₂, ◌∙◌}
use mathlib.Core.Bool.{Bool, true}
use mathlib.Core.List.{List}
use mathlib.Core.Option.{Option, none}
use Prim.Native.Nat.{ℕ, ◌+◌, ◌*◌, ◌≤◌, ◌<◌}
use native.Mathlib.Omega.{arith}
use borrow.Author.Rules.{rules}
use Rattle.definitions.specs.Bounded.{◌and◌, ◌or◌}
use Rattle.definitions.specs.Sets.{has, absent, missing, within}
use Rattle.definitions.specs.Estimate.{Estimate, estimate_of}
use Rattle.definitions.proofs.Bounded.{and_iff, true_of, of_true}
use lib.ListN.{length}
use Rattle.records.specs.declared.Line.{Line}
use Rattle.records.specs.Records.{line_in}
use Rattle.sets.specs.Names.{NamesOnly}
use Rattle.sets.specs.Ascending.{LowestOf}
use Rattle.sets.proofs.Walk.{Left, left_name}
use Rattle.subsets.proofs.Walk.{ShortLeft, short_start, short_turn, short_stop, short_end}
use Rattle.estimate.specs.Known.{BoxOfNames, EstimateOfNames}
use Rattle.clauses.specs.Known.{LineOfNames, MetWhere}

-- the next member of a set of names
pub left_62 : (s left n t : ℕ) → NamesOnly s → Left s left → LowestOf left n t → n < 62
left_62 s left n t f w d = let z = d.some_left in omega (arith, left_name s left n f w (λ q. omega arith) d.lowest)

pub left_name_62 : (f : ℕ → Option ℕ) (s left n t : ℕ) → NamesOnly s → ShortLeft f s left → LowestOf left n t → n < 62
left_name_62 f s left n t o w d = left_62 s left n t o w.there d

-- v is the union of w and u
abbrev pub UnionOf : ℕ → ℕ → ℕ → Type 0
UnionOf v w u = (m : ℕ) → has v m ≡ (has w m or has u m)

-- ---- a test on what called functions answered

pub within_as : (x y u v : ℕ) (r : Bool) → r ≡ within x y → x ≡ u → y ≡ v → r ≡ within u v
within_as x y u v r e f g = e ∙ ap₂ within f g

module _ (x y u v : ℕ) (r : Option ℕ) where
  pub absent_as : r ≡ absent x y → x ≡ u → r ≡ absent u y
  absent_as e f = e ∙ ap (λ (z : ℕ). absent z y) f

  pub missing_as : r ≡ missing x y → x ≡ u → y ≡ v → r ≡ missing u v
  missing_as e f g = e ∙ ap₂ missing f g

-- rho(n) and shown(b), as the code has them, are sets of names
pub names_rho : (image : List ℕ) (b n s : ℕ) → BoxOfNames image b → n < 62 → s ≡ (estimate_of image).rho n → NamesOnly s
names_rho image b n s k h e = rw e (k.rho n h)

pub names_shown : (image : List ℕ) (boxes b s : ℕ) → EstimateOfNames image boxes → b < boxes → s ≡ (estimate_of image).shown b → NamesOnly s
names_shown image boxes b s k h e = rw e (k.shown b h)

-- so are the members of one that another has too
pub names_both : (e : Estimate) (b s d y : ℕ) → NamesOnly s → y ≡ e.shown b → ((m : ℕ) → has d m ≡ (has s m and has y m)) → NamesOnly d
names_both e b s d y f ey both = record { below = λ n l t. f.below n l ((and_iff (has s n) (has y n)).0 (of_true (sym (both n) ∙ true_of (has d n) t))).0 }

-- a clause that a test shows met
pub met_yes : (t r : Bool) (o : Option ℕ) → MetWhere t o → r ≡ t → r ≡ true → none ≡ o
met_yes t r o m e h = sym (m.met (of_true (sym e ∙ h)))

-- ---- what the calls require

pub rho_names : (image : List ℕ) (boxes s : ℕ) (l : Line) → EstimateOfNames image boxes → LineOfNames (line_in l) → s ≡ (estimate_of image).rho l.name1.0 → NamesOnly s
rho_names image boxes s l f h e = rw e (f.rho l.name1.0 (omega (arith, h.first)))

pub box_62 : (image : List ℕ) (boxes b : ℕ) → EstimateOfNames image boxes → b < boxes → 512 * (3 + 2 * b) ≤ length image
box_62 image boxes b f h = omega (arith, f.there)

pub names_62 : (l : Line) → LineOfNames (line_in l) → l.name1.0 < 62
names_62 l f = omega (arith, f.first)

pub second_62 : (image : List ℕ) (boxes : ℕ) → EstimateOfNames image boxes → 512 ≤ length image
second_62 image boxes f = omega (arith, f.there)

pub box_there : (image : List ℕ) (b : ℕ) → BoxOfNames image b → 512 * (3 + 2 * b) ≤ length image
box_there image b f = f.there

pub boxed : (image : List ℕ) (boxes b : ℕ) → EstimateOfNames image boxes → b < boxes → BoxOfNames image b
boxed image boxes b f h = record { there = omega (arith, f.there); rho = f.rho; shown = f.shown b h }

pub box_512 : (image : List ℕ) (b : ℕ) → BoxOfNames image b → 512 ≤ length image
box_512 image b f = omega (arith, f.there)

pub box_1024 : (image : List ℕ) (b : ℕ) → BoxOfNames image b → 512 * (2 + 2 * b) ≤ length image
box_1024 image b f = omega (arith, f.there)

pub ruleset gathered = (rules, within_as)

pub ruleset shorts = (rules, left_name_62, short_start, short_turn, short_stop, short_end, absent_as, missing_as, names_rho)
