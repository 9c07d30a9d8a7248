-- `line_gather::gather` meets its contract. Assumes nothing.
use Rattle.line_gather.specs.Gathered.{Gathers}
use Rattle.line_gather.proofs.gather.Given as goal

abbrev pub invariant-loop-i : goal.invariant-loop-i
invariant-loop-i l = Gathers l.named.lines.image.now l.estimate l.named.lines.k l.i l.ops l.sent l.listed l.c
