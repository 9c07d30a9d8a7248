-- `box_records::bindings_fit` meets its contract. Assumes nothing.
use Rattle.std.proofs.Common.{arith}
use Rattle.box_records.proofs.ThreadLaws.{bindings_start, bindings_name, bindings_turn}
use Rattle.box_records.proofs.bindings_fit.Goals as goal

pub loop-n-init : goal.loop-n-init
loop-n-init c = rw c.into_iter-n-iterator.ensures.into_iter_gives (bindings_start _ _ _ (omega arith))

pub binding-requires-clause-listed : goal.binding-requires-clause-listed
binding-requires-clause-listed c = bindings_name _ _ _ _ _ c.loop-n.invariant _ _ c.requires.names c.in-Some.ensures.steps

pub loop-n-preserved : goal.loop-n-preserved
loop-n-preserved c = bindings_turn _ _ _ _ _ c.loop-n.invariant _ _ _ _ c.in-Some.ensures.steps c.binding.ensures c.held_fits-ok.ensures
