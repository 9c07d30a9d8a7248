-- `partners::clause6` meets its contract: by one test, or by the walk. Assumes nothing.
use Rattle.definitions.specs.Estimate.{estimate_of}
use Rattle.clauses.proofs.Members.{names_both}
use Rattle.partners.proofs.Partners.{found}
use Rattle.partners.proofs.clause6.Goals as goal

pub each_partner-requires-clause-members : goal.each_partner-requires-clause-members
each_partner-requires-clause-members c = names_both (estimate_of _) _ _ _ _ (search found) c.shown.ensures c.intersection-s.ensures
