-- `state::edits::remove_thread` meets its contract. Assumes nothing.
use mathlib.Core.Path.{ap, ◌∙◌}
use mathlib.Core.List.{List}
use Prim.Native.Nat.{ℕ, ◌-◌}
use native.Mathlib.Omega.{arith}
use lib.ListN.{set}
use Rattle.state.proofs.Stores.{cleared_part, removed}
use Rattle.state.proofs.edits.remove_thread.Goals as goal

pub returns : goal.returns
returns c =
    let by = c.copy_within.ensures.by_index in
    ap (λ (x : List ℕ). set x 1 (c.threads-last.result - 1)) (cleared_part _ _ _ (omega (arith, c.copy_within.ensures.len)) (c.fill.ensures.after (λ y e. e)))
    ∙ removed _ _ _ _ _ (omega arith) c.requires.dead c.requires.live c.threads-last.ensures (omega arith) c.copy_within.ensures.len by.0 by.1 by.2
