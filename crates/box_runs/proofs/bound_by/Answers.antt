-- `box_runs::bound_by` meets its contract. Assumes nothing.
use Prim.Native.Nat.{zero-le}
use Rattle.records.specs.NameSets.{SetOf}
use Rattle.box_runs.specs.Runs.{bound_in}
use Rattle.sets.proofs.Ranges.{fold_up}
use Rattle.box_runs.proofs.Runs.{bound-start, runs}
use Rattle.box_runs.proofs.bound_by.Goals as goal

pub returns : goal.returns
returns c =
    fold_up _ (λ i s. SetOf s (bound_in c.args.lines.image.now c.args.lines.k i)) _ 0 _ (λ i a b f p l k. (search runs, search runs)) _ _ zero-le
    (bound-start c.args.lines.image.now c.args.lines.k) c.fold.ensures.ran
