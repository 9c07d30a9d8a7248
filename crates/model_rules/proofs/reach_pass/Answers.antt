-- `model_rules::reach_pass` meets its contract. Assumes nothing.
use Rattle.std.proofs.Common.{arith}
use Rattle.model_rules.proofs.PassLaws.{nine_start, nine_turn, boxes_end}
use Rattle.model_rules.proofs.reach_pass.Goals as goal

pub loop-b-init : goal.loop-b-init
loop-b-init c = nine_start _ _ c.args.m.now.right c.args.m.now.of.frame

pub loop-b-preserved : goal.loop-b-preserved
loop-b-preserved c = nine_turn _ _ _ _ c.args.m.now.right c.args.m.now.of c.loop-b.invariant (omega arith) _
    c.in_ok-box_reach.ensures c.union-bound.ensures

pub returns : goal.returns
returns c = boxes_end _ _ _ _ _ _ c.loop-b.invariant.boxes_fit (omega arith)
