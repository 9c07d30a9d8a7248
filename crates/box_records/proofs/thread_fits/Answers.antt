-- `box_records::thread_fits` meets its contract. Assumes nothing.
use Rattle.std.proofs.Common.{arith, rules}
use Rattle.box_records.proofs.ThreadLaws.{thread_count}
use Rattle.box_records.proofs.thread_fits.Goals as goal

pub returns-else-bindings-count : goal.returns-else-bindings-count
returns-else-bindings-count c =
    thread_count _ _ _ _ _ _ c.line-l.ensures c.told-r c.requires (omega arith) c.args.rules.now.names _ _
    c.bindings.ensures c.count.ensures (search rules)
