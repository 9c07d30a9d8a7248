-- `layouts::kind_sets` meets its contract. Assumes nothing.
use Rattle.layouts.proofs.LayoutLaws.{kinds_none, kinds_insert}
use Rattle.layouts.proofs.kind_sets.Goals as goal

pub loop-n-init : goal.loop-n-init
loop-n-init c = kinds_none _

pub loop-n-preserved : goal.loop-n-preserved
loop-n-preserved c = kinds_insert _ _ _ _ _ c.loop-n.invariant c.data_word-kind.ensures c.insert_kind-s.ensures
