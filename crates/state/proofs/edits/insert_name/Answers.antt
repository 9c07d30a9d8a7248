-- `state::edits::insert_name` meets its contract. Assumes nothing.
use mathlib.Core.Path.{◌∙◌}
use native.Mathlib.Omega.{arith}
use lib.ListN.{length-set}
use Rattle.state.proofs.Inserts.{insert-same, insert_end, insert_back}
use Rattle.state.proofs.edits.insert_name.Goals as goal

pub returns-then-y-x : goal.returns-then-y-x
returns-then-y-x c =
    insert_back _ _ _ _ (omega (arith, c.requires)) (length-set _ _ _ ∙ c.loop-word.auto.word-items) (insert-same c.loop-word.invariant c.loop-word-test.true c.if-y-x.true)

pub returns : goal.returns
returns c = insert_back _ _ _ _ (omega (arith, c.requires)) c.loop-word.auto.word-items (insert_end c.loop-word.invariant c.loop-word-test.false)
