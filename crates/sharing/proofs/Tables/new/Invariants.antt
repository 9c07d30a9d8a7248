-- `sharing::Tables::new` meets its contract: the entries passed are right. Assumes nothing.
use Rattle.sharing.specs.Shared.{SetsOf, no_sets}
use Rattle.sharing.proofs.Rows.{Rows}
use Rattle.sharing.proofs.Tables.new.Given as goal

abbrev pub invariant-loop-k : goal.invariant-loop-k
invariant-loop-k l = Rows no_sets (SetsOf l.e.image.now) l.e.boxes l.k l.x-items
