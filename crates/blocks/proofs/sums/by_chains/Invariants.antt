-- `blocks::sums::by_chains` meets its contract: the words left take the chains, joined, to the answer. Assumes nothing.
use Rattle.std.proofs.Common.{◌+◌, ◌-◌, ◌*◌}
use Rattle.definitions.specs.Check.{check_of}
use Rattle.blocks.proofs.Loops.{Chains}
use Rattle.blocks.proofs.sums.by_chains.Given as goal

abbrev pub invariant-loop-i : goal.invariant-loop-i
invariant-loop-i l = Chains l.block (check_of l.block) (24 + 32 * l.i) (15 - l.i) l.a l.b l.c l.d
