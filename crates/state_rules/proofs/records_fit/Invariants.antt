-- `state_rules::records_fit` meets its contract. Assumes nothing.
use Rattle.definitions.specs.Image.{model_of}
use Rattle.definitions.proofs.Loops.{Passing}
use Rattle.state_rules.specs.Records.{record_fits_at}
use Rattle.state_rules.proofs.records_fit.Given as goal

abbrev pub invariant-loop-b : goal.invariant-loop-b
invariant-loop-b l = Passing (record_fits_at (model_of l.m.image.now) l.state) l.b
