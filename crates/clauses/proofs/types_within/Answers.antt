-- `clauses::types_within` meets its contract: the answer as a test. Assumes nothing.
use Rattle.definitions.specs.Estimate.{estimate_of}
use Rattle.clauses.proofs.Tests.{types_test}
use Rattle.clauses.proofs.types_within.Goals as goal

pub returns : goal.returns
returns c = types_test (estimate_of _) _ _ _ c.is_ok.ensures.value _ c.types_missing.ensures
