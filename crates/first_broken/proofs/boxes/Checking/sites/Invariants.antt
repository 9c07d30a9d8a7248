-- `first_broken::boxes::Checking::sites` meets its contract: the sites passed break nothing. Assumes nothing.
use Rattle.definitions.specs.Words.{block_of, count_of}
use Rattle.definitions.specs.Image.{sites_block, model_of}
use Rattle.definitions.specs.Estimate.{estimate_of}
use Rattle.definitions.specs.Clauses.{site_broken}
use Rattle.definitions.proofs.Loops.{Passed}
use Rattle.first_broken.proofs.boxes.Checking.sites.Given as goal

abbrev pub invariant-loop-i : goal.invariant-loop-i
invariant-loop-i l = Passed (count_of (block_of l.self.model.image.now (sites_block l.self.model.image.now l.b))) (site_broken (model_of l.self.model.image.now) (estimate_of l.self.tables.estimate.image.now) l.b) l.i
