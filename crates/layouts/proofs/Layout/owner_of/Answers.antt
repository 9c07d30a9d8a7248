-- `layouts::Layout::owner_of` meets its contract. Assumes nothing.
use Rattle.std.proofs.Common.{rules, arith, true, false, take, length-take}
use Rattle.std.proofs.lemmas.Iterator.{YieldsList-from_slice, IsFirst-from_position}
use Rattle.layouts.proofs.OwnerLaws.{Binds, owner_is}
use Rattle.layouts.proofs.Layout.owner_of.Goals as goal

pub returns : goal.returns
returns c =
    owner_is c.args.self.now.each c.args.self.now.boxes c.args.n.0 (simp length-take (omega arith)) _
    (IsFirst-from_position _ _ _ (Binds c.args.n.0 true) (Binds c.args.n.0 false) c.position.ensures.ran
    (YieldsList-from_slice (take c.args.self.now.boxes c.args.self.now.each) cc) (λ x q k. search rules) (λ x q k. search rules))
