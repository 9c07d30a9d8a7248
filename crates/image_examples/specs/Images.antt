-- The images of model K and of estimate E. Assumes nothing.
use Rattle.std.specs.Prelude.{Bool, List, ℕ}
use Rattle.definitions.specs.Bounded.{◌and◌, ◌is◌, all_below}
use Rattle.definitions.specs.Estimate.{Estimate}
use Rattle.definitions.specs.Starred.{K, E}
use Rattle.image_examples.specs.Encode.{encode_model, encode_estimate}

unfoldable pub image_k : List ℕ
image_k = encode_model K

unfoldable pub image_e : List ℕ
image_e = encode_estimate 6 2 E

-- two estimates have the same sets for so many names and boxes
unfoldable pub same_sets : ℕ → ℕ → Estimate → Estimate → Bool
same_sets names boxes d e =
    all_below names (λ n. d.rho n is e.rho n)
    and all_below boxes (λ b.
    d.shown b is e.shown b and d.hidden b is e.hidden b and all_below names (λ n. d.eps b n is e.eps b n and d.kap b n is e.kap b n))
