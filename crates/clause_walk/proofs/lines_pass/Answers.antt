-- `clause_walk::lines_pass` meets its contract. Assumes nothing.
use Rattle.std.proofs.Common.{sym, ◌∙◌, rules}
use Rattle.clause_walk.proofs.Shows.{lines_yes}
use Rattle.clause_walk.proofs.lines_pass.Goals as goal
use Rattle.clause_walk.proofs.lines_pass.Goals.{then-names_pass, else-names_pass}

pub returns-then-outputs_pass : goal.returns-then-outputs_pass
returns-then-outputs_pass c =
    elim c.if-names_pass.branch [
      | then-names_pass w ↦
          lines_yes _ _ _ _ _ _ _ _ c.args.named.named c.gather-c.ensures _ _ _ _ _ c.names_pass.ensures w.if-names_pass.true
          w.outputs_pass.ensures (sym w.value-is ∙ c.if-outputs_pass.true) (search rules) c.list_passes.ensures
      | else-names_pass w ↦ absurd (cc)
    ]
