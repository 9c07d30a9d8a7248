-- Laws of the box that binds a name. Assumes nothing.
use mathlib.Core.Path.{◌≡◌, sym, ap, ◌∙◌}
use mathlib.Core.Bool.{Bool, true, false}
use mathlib.Core.List.{List}
use mathlib.Core.Option.{Option}
use Prim.Native.Nat.{ℕ, ◌<◌, zero-le}
use native.Mathlib.Omega.{arith}
use lib.ListN.{length, get_or, take}
use Rattle.std.specs.Prelude as code
use Rattle.std.specs.Prelude.{MatchOption}
use Rattle.std.specs.List.{AllWithin, HoldsAt}
use Rattle.std.proofs.lemmas.List.{get_or-take}
use Rattle.definitions.specs.Bounded.{some_if, first_below}
use Rattle.definitions.specs.Sets.{has}
use Rattle.definitions.specs.Model.{Box, box_at, box_count, binds_in, owner}
use Rattle.definitions.specs.Image.{boxes_of, model_of}
use Rattle.definitions.proofs.Bounded.{first_cong}
use Rattle.definitions.proofs.Faults.{first_iff}
use Rattle.definitions.proofs.Loops.{passed_stop}
use Rattle.definitions.proofs.Image.{model_count, model_box}
use Rattle.sets.specs.Options.{option_in}
use Rattle.layouts.specs.declared.Layout.{Layout}
use Rattle.layouts.specs.declared.BoxPlace.{BoxPlace}
use Rattle.layouts.specs.LayoutOf.{nowhere, LayoutOf}
use Rattle.layouts.specs.Owners.{first_binder}

abbrev binder_at : List BoxPlace → ℕ → ℕ → Option ℕ
binder_at each n b = some_if (has (get_or each b nowhere).bound n) b

-- a place binds n, or does not
abbrev pub Binds : ℕ → Bool → BoxPlace → Type 0
Binds n t p = has p.bound n ≡ t

-- the first place of so many that binds n is the first box that does
module _ (each : List BoxPlace) (boxes n : ℕ) where
  answer : (b : ℕ) (t : Bool) → b < boxes → Binds n t (get_or (take boxes each) b nowhere) → binder_at each n b ≡ some_if t b
  answer b t l e = ap (λ (t : Bool). some_if t b) (ap (λ (p : BoxPlace). has p.bound n) (sym (get_or-take boxes each b nowhere l)) ∙ e)

  pub owner_is : length (take boxes each) ≡ boxes → (r : code.Option ℕ)
      → MatchOption r (AllWithin (Binds n false) (take boxes each) 0 (length (take boxes each)))
      (λ b. (b < length (take boxes each)) × HoldsAt (Binds n true) (take boxes each) b × AllWithin (Binds n false) (take boxes each) 0 b)
      → option_in r ≡ first_binder each boxes n
  unfolding first_binder
  owner_is e code.None h = sym ((first_iff boxes (binder_at each n)).1 (λ b l. answer b false l (h b nowhere zero-le (omega (arith, e, l)))))
  owner_is e (code.Some b) h =
      let l : b < boxes = omega (arith, e, h.0) in
      passed_stop boxes (binder_at each n) b b
      (record { upto = omega (arith, l); clean = (first_iff b (binder_at each n)).1 (λ c k. answer c false (omega (arith, l, k)) (h.2 c nowhere zero-le k)) })
      l (sym (answer b true l (h.1 nowhere)))

-- the first box of a layout that binds a name is the name's owner
pub binder_owner : (image : List ℕ) (l : Layout) (n : ℕ) → LayoutOf image l → n < 64 → first_binder l.each l.boxes n ≡ owner (model_of image) n
unfolding first_binder owner
binder_owner image l n h w =
    ap (λ (boxes : ℕ). first_below boxes (binder_at l.each n)) (h.frame.boxes ∙ sym (model_count image))
    ∙ first_cong (box_count (model_of image)) (binder_at l.each n) (λ b. some_if (binds_in (box_at (model_of image) b) n) b)
    (λ b q. let k : b < boxes_of image = omega (arith, model_count image) in
    ap (λ (t : Bool). some_if t b) (h.bound b k n w ∙ ap (λ (x : Box). binds_in x n) (sym (model_box image b k))))
