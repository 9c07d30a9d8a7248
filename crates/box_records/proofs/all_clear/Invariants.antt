-- `box_records::all_clear` meets its contract. Assumes nothing.
use Rattle.std.proofs.Common.{length}
use Rattle.definitions.specs.Slots.{word}
use Rattle.definitions.proofs.Loops.{ZeroRun}
use Rattle.box_records.proofs.all_clear.Given as goal

abbrev pub invariant-loop-x : goal.invariant-loop-x
invariant-loop-x l = ZeroRun (word l.words) 0 (length l.words) l.x-index l.w
