-- `clauses::clause7` meets its contract: one test after another. Assumes nothing.
use Rattle.std.proofs.Common.{sym}
use Rattle.std.proofs.lemmas.Result.{err_from_is_err_and}
use Rattle.definitions.specs.Estimate.{estimate_of}
use Rattle.records.specs.Records.{line_in}
use Rattle.clauses.proofs.Members.{shorts}
use Rattle.clauses.proofs.Tests.{seven_shown}
use Rattle.clauses.proofs.clause7.Goals as goal

pub returns-in_err-absent-2 : goal.returns-in_err-absent-2
returns-in_err-absent-2 c =
    let p = err_from_is_err_and c.from_residual-in_err-absent-2.result c.from_residual-in_err-absent-2.ensures.1 in
    rw (p.1, p.2) (sym (seven_shown (estimate_of c.args.estimate.now) c.args.b (line_in c.args.l.line) _ (search shorts) (search shorts)))
