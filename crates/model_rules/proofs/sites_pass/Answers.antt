-- `model_rules::sites_pass` meets its contract. Assumes nothing.
use Rattle.std.proofs.Common.{arith}
use Rattle.layouts.proofs.FrameLaws.{few_kinds}
use Rattle.model_rules.proofs.PassLaws.{six_start, six_turn, boxes_end}
use Rattle.model_rules.proofs.sites_pass.Goals as goal

pub loop-b-init : goal.loop-b-init
loop-b-init c = six_start _ _ c.args.m.now.right c.args.m.now.of.frame

pub box_sites-requires-clause-few : goal.box_sites-requires-clause-few
box_sites-requires-clause-few c = few_kinds _ _ c.args.m.now.right c.args.m.now.of.frame

pub loop-b-preserved : goal.loop-b-preserved
loop-b-preserved c = six_turn _ _ _ _ c.args.m.now.right c.args.m.now.of.frame c.loop-b.invariant (omega arith) _ _
    c.in_ok-box_sites.ensures c.subjects.ensures c.union-used.ensures

pub returns : goal.returns
returns c = boxes_end _ _ _ _ _ _ c.loop-b.invariant.boxes_fit (omega arith)
