-- `box_records::type_fits` meets its contract. Assumes nothing.
use Rattle.definitions.specs.Record.{site}
use Rattle.box_records.proofs.SiteLaws.{TypeRun}
use Rattle.box_records.proofs.type_fits.Given as goal

abbrev pub invariant-loop-j : goal.invariant-loop-j
invariant-loop-j l = TypeRun l.limits (site l.r l.i) l.j l.before.0 l.ok
