-- `line_walk::unmark` meets its contract. Assumes nothing.
use mathlib.Core.Path.{ap, ◌∙◌}
use Prim.Native.Nat.{ℕ}
use native.Mathlib.Omega.{arith}
use lib.ListN.{replicate}
use Rattle.std.proofs.lemmas.List.{length-take-le}
use Rattle.line_walk.proofs.Walks.{unmarked}
use Rattle.line_walk.proofs.unmark.Goals as goal

pub returns : goal.returns
returns c =
    unmarked c.args.n c.requires.few c.args.up.now c.fill.new.self c.requires.marked
    (c.fill.ensures.after (λ y e. e) ∙ ap (λ (m : ℕ). replicate m 0) (length-take-le c.args.n c.args.up.now (omega arith)))
