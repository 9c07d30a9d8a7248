-- `subsets::absent` meets its contract: one test. Assumes nothing.
use borrow.Author.Rules.{rules}
use Rattle.subsets.proofs.Lacking.{absent_no, absent_yes}
use Rattle.subsets.proofs.absent.Goals as goal

pub returns-then-contains : goal.returns-then-contains
returns-then-contains c = search (rules, absent_no)

pub returns-else-contains : goal.returns-else-contains
returns-else-contains c = search (rules, absent_yes)
