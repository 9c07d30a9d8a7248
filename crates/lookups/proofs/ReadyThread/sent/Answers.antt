-- `lookups::ReadyThread::sent` meets its contract. Assumes nothing.
use Rattle.std.proofs.Common.{arith}
use Rattle.lookups.proofs.Ready.{thread-slot}
use Rattle.lookups.proofs.ReadyThread.sent.Goals as goal

pub value-requires-clause-slot : goal.value-requires-clause-slot
value-requires-clause-slot c = let l = thread-slot c.args.self.now in omega (arith, l)
