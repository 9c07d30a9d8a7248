-- `model_rules::lines_pass` meets its contract. Assumes nothing.
use Rattle.std.proofs.Common.{arith}
use Rattle.layouts.proofs.FrameLaws.{kinds_in}
use Rattle.model_rules.proofs.PassLaws.{boxes_start, lines_turn, boxes_end}
use Rattle.model_rules.proofs.lines_pass.Goals as goal

pub loop-b-init : goal.loop-b-init
loop-b-init c = boxes_start _ _ c.args.m.now.right c.args.m.now.of.frame _ _ _

pub box_lines-requires-clause-kinds : goal.box_lines-requires-clause-kinds
box_lines-requires-clause-kinds c = kinds_in _ _ c.args.m.now.right c.args.m.now.of.frame

pub loop-b-preserved : goal.loop-b-preserved
loop-b-preserved c = lines_turn _ _ _ c.args.m.now.right c.args.m.now.of.frame (omega arith) _ _ c.loop-b.invariant c.in_ok-box_lines.ensures

pub returns : goal.returns
returns c = boxes_end _ _ _ _ _ _ c.loop-b.invariant (omega arith)
