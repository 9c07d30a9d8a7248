-- `block_order::lines_blocks`: the blocks passed have no fault. Assumes nothing.
use Prim.Native.Nat.{◌+◌}
use Rattle.definitions.specs.ReadModel.{lines_fault}
use Rattle.definitions.proofs.Loops.{Passed}
use Rattle.block_order.proofs.lines_blocks.Given as goal

abbrev pub invariant-loop-j : goal.invariant-loop-j
invariant-loop-j l = Passed l.n (λ j. lines_fault l.blocks.image.now (l.k + j) l.b j) l.j
