-- `clause_walk::listed_passes` meets its contract. Assumes nothing.
use Rattle.std.proofs.Common.{◌≡◌, Bool, true, false, refl}
use Rattle.std.specs.Prelude.{IfSome}
use Rattle.std.specs.Bool.{then_some}
use Rattle.sharing.specs.declared.Gathered.{Gathered}
use Rattle.clause_walk.proofs.Shows.{listed_expose}
use Rattle.clause_walk.proofs.listed_passes.Goals as goal

only_if : (P : Gathered → Type 0) (r : Bool) (g : Gathered) → (r ≡ true → P g) → IfSome (then_some r g) P
only_if P true g f = f refl
only_if P false g f = tt

pub returns : goal.returns
returns c =
    rw c.then_some.ensures (
    only_if _ _ _ (λ passes. listed_expose _ _ _ _ _ _ _ c.if-l.false c.eps-types.ensures c.types_within.ensures passes c.requires.gathered))
