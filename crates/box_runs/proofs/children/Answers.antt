-- `box_runs::children` meets its contract. Assumes nothing.
use Prim.Native.Nat.{zero-le}
use Rattle.box_runs.specs.Runs.{child_in}
use Rattle.record_rules.specs.LineSets.{LineSetOf}
use Rattle.sets.proofs.Ranges.{fold_up}
use Rattle.box_runs.proofs.Runs.{child_start, runs}
use Rattle.box_runs.proofs.children.Goals as goal

pub returns : goal.returns
returns c =
    fold_up _ (λ i s. LineSetOf s (child_in c.args.lines.image.now c.args.lines.k i)) _ 0 _ (λ i a b f p l k. (search runs, search runs)) _ _ zero-le
    (child_start c.args.lines.image.now c.args.lines.k) c.fold.ensures.ran
