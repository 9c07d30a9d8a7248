-- `line_gather::gather` meets its contract. Assumes nothing.
use Rattle.line_gather.proofs.Puts.{gathers_start, gathers_turn}
use Rattle.std.proofs.Common.{rules}
use Rattle.line_gather.proofs.gather.Goals as goal

pub loop-i-init : goal.loop-i-init
loop-i-init c = gathers_start _ _ _ _ _ _ c.requires.ops_empty c.requires.sent_empty c.requires.list_empty

pub loop-i-preserved : goal.loop-i-preserved
loop-i-preserved c =
    gathers_turn _ _ _ _ _ _ _ _ _ (search rules) (search rules) (search rules) c.loop-i.invariant c.loop-i-test.true c.args.named.named _ c.line-l.ensures _
    c.rho.ensures _ _ _ _ c.put_name.ensures c.put_sent.ensures c.put_line-c.ensures
