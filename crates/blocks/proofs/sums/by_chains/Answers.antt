-- `blocks::sums::by_chains` meets its contract: the words left take the chains, joined, to the answer. Assumes nothing.
use Rattle.std.proofs.Common.{refl, arith}
use Rattle.blocks.proofs.Loops.{chains_start, chains_end}
use Rattle.blocks.proofs.sums.by_chains.Goals as goal

pub loop-i-init : goal.loop-i-init
loop-i-init c = chains_start _ _ _ _ _ c.told-block refl c.word-b.ensures c.word-c.ensures c.word-d.ensures

pub returns : goal.returns
returns c = chains_end _ _ _ _ _ _ _ _ _ _ _ c.loop-i.invariant (omega arith) c.step.ensures c.step-2.ensures c.step-3.ensures
