-- `links::shut_off` meets its contract. Assumes nothing.
use Rattle.std.proofs.Common.{◌≡◌, true, false, refl, arith}
use Rattle.std.proofs.lemmas.Iterator.{cases_from_all, YieldsList-from_range}
use Rattle.definitions.specs.Estimate.{estimate_of}
use Rattle.links.proofs.Links.{apart, is_apart, shut_is}
use Rattle.links.proofs.shut_off.Goals as goal

pub returns : goal.returns
returns c =
    let p = is_apart (estimate_of c.args.e.image.now) c.args.h in
    shut_is _ _ _ _ (cases_from_all _ _ _ (λ k. true ≡ p k) (λ k. false ≡ p k) c.all.ensures.ran
    (YieldsList-from_range 0 c.args.e.boxes c.args.e.boxes refl (omega arith)) (λ x q k. search apart) (λ x q k. search apart))
