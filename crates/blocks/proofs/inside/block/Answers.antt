-- `blocks::inside::block` meets its contract: the first 512 bytes from the block's place on. Assumes nothing.
use Rattle.blocks.proofs.BlockLaws.{block_chunk}
use Rattle.blocks.proofs.inside.block.Goals as goal

pub returns : goal.returns
returns c = block_chunk _ _ _ (rw c.unwrap.ensures at c.first_chunk.ensures.cases)
