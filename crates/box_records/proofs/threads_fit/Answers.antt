-- `box_records::threads_fit` meets its contract. Assumes nothing.
use Rattle.std.proofs.Common.{rules, true, false, refl, arith}
use Rattle.std.proofs.lemmas.Iterator.{cases_from_all, YieldsList-from_range}
use Rattle.box_records.proofs.ThreadLaws.{decided, threads_all}
use Rattle.box_records.proofs.threads_fit.Goals as goal

pub returns : goal.returns
returns c =
    let d = decided c.args.rules.now.limits.now c.args.rules.now.up.now c.args.rules.now.lines c.args.r.now in
    threads_all _ _ _ _ _ c.requires _ (cases_from_all _ _ _ (d true) (d false) c.all.ensures.ran
    (YieldsList-from_range 0 c.args.n c.args.n refl (omega arith)) (λ x q k. search rules) (λ x q k. search rules))
