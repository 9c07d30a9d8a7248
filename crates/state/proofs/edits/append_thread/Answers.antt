-- `state::edits::append_thread` meets its contract. Assumes nothing.
use native.Mathlib.Omega.{arith}
use Rattle.state.proofs.Stores.{appended}
use Rattle.state.proofs.edits.append_thread.Goals as goal

pub returns : goal.returns
returns c =
    let by = c.copy_within.ensures.by_index in
    appended _ _ _ _ _ _ (omega arith) c.requires.live c.requires.room c.threads-n.ensures (omega arith) c.copy_within.ensures.len by.0 by.1 by.2
