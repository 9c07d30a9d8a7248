-- `first_broken::find` meets its contract: names, then boxes. Assumes nothing.
use Rattle.std.proofs.lemmas.Result.{err_from_is_err_and}
use Rattle.definitions.specs.Estimate.{estimate_of}
use Rattle.first_broken.proofs.Steps.{all_stop, all_go, finds}
use Rattle.first_broken.proofs.Facts.{kind_names}
use Rattle.first_broken.proofs.find.Goals as goal

pub returns-in_err-names : goal.returns-in_err-names
returns-in_err-names c =
    let p = err_from_is_err_and c.from_residual.result c.from_residual.ensures.1 in
    rw (p.1, p.2) (all_stop _ _ (estimate_of _) _ c.args.both.now.model.of (search finds) c.in_err-names.ensures)

pub names-requires-clause-names : goal.names-requires-clause-names
names-requires-clause-names c = kind_names _ _ c.args.both.now.unrefused _ _ c.args.both.now.model.of.frame.free

pub returns : goal.returns
returns c =
    all_go _ _ (estimate_of c.args.both.now.estimate.image.now) _ c.args.both.now.model.of (search finds) c.in_ok-names.ensures
    (rw c.new.ensures.of at c.boxes.ensures)
