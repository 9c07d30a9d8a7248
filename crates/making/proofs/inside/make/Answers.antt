-- `making::inside::make` meets its contract. Assumes nothing.
use mathlib.Core.Path.{ap}
use Rattle.state.specs.Kinds.{kind_number}
use Rattle.making.proofs.Lefts.{drop_dead, drop_live, drop_left, other_number}
use Rattle.making.proofs.inside.make.Goals as goal

pub remove_thread-requires-clause-dead : goal.remove_thread-requires-clause-dead
remove_thread-requires-clause-dead c = drop_dead c.requires.ready

pub remove_thread-requires-clause-live : goal.remove_thread-requires-clause-live
remove_thread-requires-clause-live c = drop_live c.requires.ready _ _ _ c.requires.made (ap kind_number c.in-Drop.is)

pub go_on-requires-clause-stays : goal.go_on-requires-clause-stays
go_on-requires-clause-stays c = other_number _ c.in_default.not-Drop

pub returns-in-Drop : goal.returns-in-Drop
returns-in-Drop c = drop_left c.requires.ready _ _ _ c.requires.made (ap kind_number c.in-Drop.is) _ c.remove_thread.ensures
