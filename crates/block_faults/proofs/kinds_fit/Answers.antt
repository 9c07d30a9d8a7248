-- `block_faults::kinds_fit` meets its contract. Assumes nothing.
use Prim.Native.Nat.{◌+◌, ◌≤◌, ◌<◌}
use Rattle.std.proofs.Common.{rules, refl, arith}
use Rattle.std.proofs.lemmas.Iterator.{cases_from_all, YieldsList-from_range}
use Rattle.definitions.specs.Words.{data_word}
use Rattle.block_faults.proofs.FaultLaws.{kinds_all}
use Rattle.block_faults.proofs.kinds_fit.Goals as goal

pub returns : goal.returns
returns c =
    let w = data_word c.args.block.now in
    kinds_all _ _ c.requires _ (cases_from_all _ _ _ (λ n. w (2 + n) ≤ 3) (λ n. 3 < w (2 + n)) c.all.ensures.ran
    (YieldsList-from_range 0 c.args.names c.args.names refl (omega arith)) (λ x q k. search rules) (λ x q k. search rules))
