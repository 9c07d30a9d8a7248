-- `box_runs::subjects` meets its contract. Assumes nothing.
use Prim.Native.Nat.{zero-le}
use Rattle.definitions.specs.Words.{block_of}
use Rattle.records.specs.NameSets.{SetOf}
use Rattle.box_runs.specs.Runs.{subject_in}
use Rattle.sets.proofs.Ranges.{fold_up}
use Rattle.box_runs.proofs.Runs.{subject-start, runs}
use Rattle.box_runs.proofs.subjects.Goals as goal

pub returns : goal.returns
returns c =
    fold_up _ (λ i s. SetOf s (subject_in (block_of c.args.image.now c.args.k) i)) _ 0 _ (λ i a b f p l k. (search runs, search runs)) _ _ zero-le
    (subject-start (block_of c.args.image.now c.args.k)) c.fold.ensures.ran
