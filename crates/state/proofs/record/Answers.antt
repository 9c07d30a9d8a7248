-- `state::record` meets its contract. Assumes nothing.
use Rattle.state.proofs.Records.{record_chunk}
use Rattle.state.proofs.record.Goals as goal

pub returns : goal.returns
returns c = record_chunk _ _ _ (rw c.unwrap.ensures at c.first_chunk.ensures.cases)
