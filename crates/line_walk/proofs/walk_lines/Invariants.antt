-- `line_walk::walk_lines` meets its contract. Assumes nothing.
use Rattle.line_walk.proofs.Walks.{Walking, At}
use Rattle.line_walk.proofs.walk_lines.Given as goal

abbrev pub invariant-loop-i : goal.invariant-loop-i
invariant-loop-i l = record {
  walk : Walking l.lines.image.now l.lines.k l.lines.n l.kinds.listed l.kinds.restricted l.kinds.received l.kinds.exposed l.kinds.free l.start l.i l.bad l.seen l.up;
  place : At l.lines.k l.i l.p.at l.p.left;
}
