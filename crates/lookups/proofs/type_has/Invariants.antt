-- `lookups::type_has` meets its contract. Assumes nothing.
use mathlib.Core.Path.{◌≡◌}
use Rattle.definitions.specs.Bounded.{any_below}
use Rattle.definitions.specs.Record.{site}
use Rattle.lookups.specs.Found.{type_is}
use Rattle.lookups.proofs.type_has.Given as goal

abbrev pub invariant-loop-j : goal.invariant-loop-j
invariant-loop-j l = l.found ≡ any_below l.j (type_is (site l.r l.i) l.v.0)
