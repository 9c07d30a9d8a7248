-- `analysis::parts::refused` meets its contract: the block of a refusal 2 to 5. Assumes nothing.
use Rattle.std.proofs.Common.{◌≤◌}
use native.Mathlib.Omega.{arith}
use Rattle.analysis.proofs.Refused.{part_in, block_stands}
use Rattle.analysis.proofs.parts.refused.Goals as goal

pub returns-then-contains : goal.returns-then-contains
returns-then-contains c =
    let l : 2 ≤ c.args.r.number = grind arith in
    let h : c.args.r.number ≤ 5 = grind arith in
    (part_in _ _ _ _ _ l h c.whole.ensures.0, block_stands _ _ _ _ (c.requires.there l h) c.whole.ensures.0 c.whole.ensures.1)
