-- `record_clauses::names::names` meets its contract: the first free name that its own set lacks. Assumes nothing.
use Rattle.std.proofs.Common.{◌≡◌, rules}
use Rattle.definitions.specs.Estimate.{estimate_of}
use Rattle.subsets.specs.Within.{within_in}
use Rattle.record_clauses.specs.Found.{found_in}
use Rattle.record_clauses.proofs.Steps.{own_broken, names_found}
use Rattle.record_clauses.proofs.names.names.Goals as goal

same : (c : goal.After-map_err) → found_in c.map_err.result ≡ own_broken (within_in c.own_missing.result)
same c = search rules

pub returns : goal.returns
returns c = names_found (estimate_of _) _ _ _ c.own_missing.ensures (same c)
