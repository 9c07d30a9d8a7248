-- `model_rules::trees_pass` meets its contract. Assumes nothing.
use Rattle.definitions.specs.Model.{line_count}
use Rattle.definitions.specs.Image.{model_of}
use Rattle.box_runs.specs.Runs.{tree_fit}
use Rattle.model_rules.proofs.PassLaws.{BoxesFit}
use Rattle.model_rules.proofs.trees_pass.Given as goal

abbrev pub invariant-loop-b : goal.invariant-loop-b
invariant-loop-b l = BoxesFit (model_of l.m.image.now) l.m.layout.boxes 8 line_count (tree_fit (model_of l.m.image.now)) l.b
