-- `lookups::types_share` meets its contract. Assumes nothing.
use mathlib.Core.Path.{◌≡◌, refl}
use mathlib.Core.Bool.{true, false}
use borrow.Author.Rules.{rules}
use borrow.Author.Tests.{tests}
use Rattle.std.proofs.lemmas.Iterator.{cases_from_any, YieldsList-from_range}
use Rattle.definitions.specs.Record.{site}
use Rattle.lookups.specs.Found.{shared_at}
use Rattle.lookups.proofs.Lookups.{share_any}
use Rattle.lookups.proofs.types_share.Goals as goal

pub returns : goal.returns
returns c =
    let test = shared_at (site c.args.r.now c.args.i) (site c.args.s.now c.args.k) in
    share_any _ _ _
    (cases_from_any _ _ _ (λ j. true ≡ test j) (λ j. false ≡ test j) c.any.ensures.ran (YieldsList-from_range 0 8 8 refl refl) (λ x q k. search (rules, tests)) (λ x q k. search (rules, tests)))
