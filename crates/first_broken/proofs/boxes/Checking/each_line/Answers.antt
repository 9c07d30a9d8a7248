-- `first_broken::boxes::Checking::each_line` meets its contract: the line's record is the model's. Assumes nothing.
use Rattle.std.proofs.Common.{◌∙◌}
use Rattle.std.proofs.lemmas.Result.{err_from_is_err_and}
use Rattle.definitions.proofs.Loops.{passed_start, passed-turn, passed_stop}
use Rattle.first_broken.proofs.Steps.{inside_of, line-is, walks}
use Rattle.first_broken.proofs.boxes.Checking.each_line.Goals as goal

pub loop-j-init : goal.loop-j-init
loop-j-init c = record { passed = passed_start _ _; gathered = search walks }

pub loop-j-preserved : goal.loop-j-preserved
loop-j-preserved c =
    let self = c.args.self.now in
    let box = c.named_lines-named.ensures in
    record {
      passed = passed-turn _ _ _ c.loop-j.invariant.passed (inside_of _ _ _ box.lines.lines c.loop-j-test.true)
          (line-is _ _ _ _ _ _ _ _ c.line-l.result.line _ (self.boxes ∙ self.model.of.frame.boxes) box.image box.lines c.loop-j-test.true c.line-l.ensures
          c.in_ok-by_operation.ensures);
      gathered = c.gather-g.ensures.gathered;
    }

pub returns-in_err-by_operation : goal.returns-in_err-by_operation
returns-in_err-by_operation c =
    let self = c.args.self.now in
    let box = c.named_lines-named.ensures in
    let p = err_from_is_err_and c.from_residual.result c.from_residual.ensures.1 in
    rw (p.1, p.2) (passed_stop _ _ _ _ c.loop-j.invariant.passed (inside_of _ _ _ box.lines.lines c.loop-j-test.true)
    (line-is _ _ _ _ _ _ _ _ c.line-l.result.line _ (self.boxes ∙ self.model.of.frame.boxes) box.image box.lines c.loop-j-test.true c.line-l.ensures
    c.in_err-by_operation.ensures))
