-- `lookups::site_with` meets its contract. Assumes nothing.
use mathlib.Core.Path.{◌≡◌}
use mathlib.Core.Bool.{true, false}
use borrow.Author.Rules.{rules}
use borrow.Author.Tests.{tests}
use Rattle.std.proofs.lemmas.Iterator.{first_from_Range}
use Rattle.lookups.specs.Found.{site_is}
use Rattle.lookups.proofs.Lookups.{site_first}
use Rattle.lookups.proofs.site_with.Goals as goal

pub returns : goal.returns
returns c =
    let test = site_is c.args.r.now c.args.v.0 c.args.f in
    site_first _ _ _ _ _ c.sites.ensures c.requires
    (first_from_Range _ _ _ _ (λ i. true ≡ test i) (λ i. false ≡ test i) c.find.ensures.ran (λ x q k. search (rules, tests)) (λ x q k. search (rules, tests)))
