-- `lookups::value` meets its contract. Assumes nothing.
use Rattle.lookups.proofs.Ready.{read_names}
use Rattle.lookups.proofs.value.Goals as goal

pub kind-requires-clause-few : goal.kind-requires-clause-few
kind-requires-clause-few c = read_names _ _ c.requires.read c.requires.listed

pub stamped-requires-clause-listed : goal.stamped-requires-clause-listed
stamped-requires-clause-listed c = read_names _ _ c.requires.read c.requires.listed

pub binding-requires-clause-listed : goal.binding-requires-clause-listed
binding-requires-clause-listed c = read_names _ _ c.requires.read c.requires.listed
