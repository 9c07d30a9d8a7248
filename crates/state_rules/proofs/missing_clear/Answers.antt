-- `state_rules::missing_clear` meets its contract. Assumes nothing.
use Rattle.std.proofs.Common.{rules, true, false, refl}
use Rattle.std.proofs.lemmas.Iterator.{cases_from_all, YieldsList-from_range}
use Rattle.state_rules.proofs.StateLaws.{clear_is, missing_all}
use Rattle.state_rules.proofs.missing_clear.Goals as goal

pub returns : goal.returns
returns c =
    missing_all _ c.requires.long _ c.requires.few _ (cases_from_all _ _ _ (clear_is c.args.state.now true) (clear_is c.args.state.now false) c.all.ensures.ran
    (YieldsList-from_range c.args.boxes 8 _ refl refl) (λ x q k. search rules) (λ x q k. search rules))
