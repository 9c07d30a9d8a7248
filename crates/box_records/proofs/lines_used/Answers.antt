-- `box_records::lines_used` meets its contract. Assumes nothing.
use Rattle.std.proofs.Common.{rules, refl}
use Rattle.std.specs.List.{range_with_len}
use Rattle.std.proofs.iter.Yields.{nat_range_steps}
use Rattle.std.proofs.lemmas.Fn.{fold_over}
use Rattle.std.proofs.lemmas.Iterator.{YieldsList-from_range}
use Rattle.box_records.proofs.ThreadLaws.{EachLow, stand_start, stand_turn, stand_end}
use Rattle.box_records.proofs.lines_used.Goals as goal

pub returns : goal.returns
returns c =
    stand_end _ _ _ (fold_over nat_range_steps (λ t. t) _ (EachLow c.args.r.now c.args.lines) _ (λ ts a t b f p k. (stand_turn _ _ _ _ _ _ p (search rules), search rules))
    (record { start = 0; end = 16 }) (range_with_len 0 16) _ _ (YieldsList-from_range 0 16 16 refl refl).runs (stand_start _ _) c.fold.ensures.ran)
