-- `clauses::own_within` meets its contract: the answer as a test. Assumes nothing.
use Rattle.definitions.specs.Estimate.{estimate_of}
use Rattle.clauses.proofs.Tests.{own_test}
use Rattle.clauses.proofs.own_within.Goals as goal

pub returns : goal.returns
returns c = own_test (estimate_of _) _ _ _ c.is_ok.ensures.value c.own_missing.ensures
