-- `sets::insert` meets its contract: the digits of `s | (1 << n)`; no number below 64 is n where n is above 63. Assumes nothing.
use Rattle.std.proofs.Common.{Bool, sym, ap, ◌∙◌, arith}
use Rattle.definitions.specs.Bounded.{◌or◌, ◌is◌}
use Rattle.definitions.specs.Sets.{has}
use Rattle.definitions.proofs.Bounded.{is_iff, false_of}
use Rattle.definitions.proofs.Sets.{has_with, or-false}
use Rattle.sets.proofs.insert.Goals as goal

pub returns-then-n-lt64 : goal.returns-then-n-lt64
returns-then-n-lt64 c =
    λ m l. has_with c.args.s c.args.n.0 m c.if-n-lt64.true

pub returns-else-n-lt64 : goal.returns-else-n-lt64
returns-else-n-lt64 c =
    λ m l.
    let s = c.args.s in
    let n = c.args.n.0 in
    sym (ap (λ (b : Bool). has s m or b) (false_of (n is m) (λ t. let e = (is_iff n m).0 t in omega arith)) ∙ or-false (has s m))
