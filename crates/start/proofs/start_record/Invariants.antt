-- `start::start_record` meets its contract. Assumes nothing.
use Rattle.std.proofs.Common.{get_or}
use Rattle.layouts.specs.LayoutOf.{nowhere}
use Rattle.start.proofs.StartLaws.{SitesWritten}
use Rattle.start.proofs.start_record.Given as goal

abbrev pub invariant-loop-i : goal.invariant-loop-i
invariant-loop-i l = SitesWritten l.m.image.now l.b (get_or l.m.layout.each l.b nowhere).at l.count l.i l.r
