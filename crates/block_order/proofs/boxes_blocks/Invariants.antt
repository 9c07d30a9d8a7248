-- `block_order::boxes_blocks`: the boxes passed have no fault, and k is where the next one's sites are to be. Assumes nothing.
use Prim.Native.Nat.{◌+◌, ◌*◌, ◌≤◌}
use mathlib.Core.Path.{◌≡◌}
use Rattle.definitions.specs.Image.{sites_block}
use Rattle.definitions.specs.ReadModel.{box_fault}
use Rattle.definitions.proofs.Loops.{Passed}
use Rattle.block_order.proofs.boxes_blocks.Given as goal

abbrev pub invariant-loop-b : goal.invariant-loop-b
invariant-loop-b l = record { at : l.k ≡ sites_block l.blocks.image.now l.b; small : l.k ≤ 1 + 5 * l.b; passed : Passed l.boxes (box_fault l.blocks.image.now) l.b }
