-- Concrete models for rule 3: K with a third box in two fillings that is shut off; and K's own box 1, which is not. Assumes nothing.
use Rattle.std.specs.Prelude.{List, [], ◌∷◌, ℕ, ◌+◌, ◌^◌, get_or}
use Rattle.definitions.specs.Model.{Box, Model}
use Rattle.definitions.specs.Estimate.{Estimate}
use Rattle.definitions.specs.Moves.{Move}
use Rattle.image_examples.specs.Encode.{encode_model, encode_estimate}
use Rattle.definitions.specs.Starred.{shown_site, untyped_line, box_k0, box_k1, spread_of, inter_of}

-- ---- a box that is shut off. The names of K, and 6 w free, 7 d free, 8 r restricted; box 2 has a site w of type {d}

-- box 2 as two buyers fill it: one does nothing, the other makes a name
unfoldable pub quiet : Box
quiet = record { sites = shown_site 6 (2 ^ 7) ∷ []; lines = untyped_line 0 0 0 0 0 ∷ [] }

unfoldable pub busy : Box
busy = record { sites = shown_site 6 (2 ^ 7) ∷ []; lines = untyped_line 3 8 0 1 0 ∷ untyped_line 0 0 0 0 0 ∷ [] }

unfoldable pub filled : Box → Model
filled x = record { kinds = 0 ∷ 0 ∷ 2 ∷ 0 ∷ 0 ∷ 0 ∷ 0 ∷ 0 ∷ 1 ∷ []; boxes = box_k0 ∷ box_k1 ∷ x ∷ [] }

-- E with the third box's sets; the busy filling needs rho(r) = {r}
unfoldable pub estimate_for : ℕ → Estimate
estimate_for rho_r = record {
  rho = λ n. get_or (2 ^ 0 ∷ 2 ^ 1 ∷ (2 ^ 1 + 2 ^ 4) ∷ 2 ^ 3 ∷ 2 ^ 4 ∷ 2 ^ 5 ∷ 2 ^ 6 ∷ 2 ^ 7 ∷ rho_r ∷ []) n 0;
  eps = λ b n. get_or (get_or ((2 ^ 5 ∷ []) ∷ (0 ∷ 0 ∷ 0 ∷ 2 ^ 5 ∷ []) ∷ (0 ∷ 0 ∷ 0 ∷ 0 ∷ 0 ∷ 0 ∷ 2 ^ 7 ∷ []) ∷ []) b []) n 0;
  kap = λ b n. get_or (get_or ((2 ^ 1 ∷ []) ∷ (0 ∷ 0 ∷ 0 ∷ 2 ^ 4 ∷ []) ∷ []) b []) n 0;
  shown = λ b. get_or (2 ^ 0 ∷ 2 ^ 3 ∷ 2 ^ 6 ∷ []) b 0;
  hidden = λ b. 0;
}

unfoldable pub quiet_image : List ℕ
quiet_image = encode_model (filled quiet)

unfoldable pub busy_image : List ℕ
busy_image = encode_model (filled busy)

unfoldable pub quiet_estimate : List ℕ
quiet_estimate = encode_estimate 9 3 (estimate_for 0)

unfoldable pub busy_estimate : List ℕ
busy_estimate = encode_estimate 9 3 (estimate_for (2 ^ 8))

abbrev pub move_of : ℕ → ℕ → ℕ → Move
move_of k b t = record { kind = k; box = b; thread = t; box2 = 0; thread2 = 0 }

-- outside: box 0 spreads and receives from box 1. Inside: the quiet box ends, the busy one makes a name and ends
unfoldable pub quiet_moves : List Move
quiet_moves = spread_of 0 0 ∷ move_of 1 2 0 ∷ inter_of 0 0 1 0 ∷ []

unfoldable pub busy_moves : List Move
busy_moves = move_of 3 2 0 ∷ spread_of 0 0 ∷ inter_of 0 0 1 0 ∷ move_of 1 2 0 ∷ []

-- ---- a box that is not shut off: box 1 of K, which sends v, and the same box sending c

unfoldable pub sending : ℕ → Model
sending n = record {
  kinds = 0 ∷ 0 ∷ 2 ∷ 0 ∷ 0 ∷ 0 ∷ [];
  boxes = box_k0 ∷ record { sites = shown_site 3 (2 ^ 5) ∷ []; lines = untyped_line 4 3 n 1 0 ∷ untyped_line 0 0 0 0 0 ∷ [] } ∷ [];
}

unfoldable pub estimate_sending : ℕ → Estimate
estimate_sending n = record {
  rho = λ k. get_or (2 ^ 0 ∷ 2 ^ 1 ∷ (2 ^ 1 + 2 ^ n) ∷ 2 ^ 3 ∷ 2 ^ 4 ∷ 2 ^ 5 ∷ []) k 0;
  eps = λ b k. get_or (get_or ((2 ^ 5 ∷ []) ∷ (0 ∷ 0 ∷ 0 ∷ 2 ^ 5 ∷ []) ∷ []) b []) k 0;
  kap = λ b k. get_or (get_or ((2 ^ 1 ∷ []) ∷ (0 ∷ 0 ∷ 0 ∷ 2 ^ n ∷ []) ∷ []) b []) k 0;
  shown = λ b. get_or (2 ^ 0 ∷ 2 ^ 3 ∷ []) b 0;
  hidden = λ b. 0;
}

unfoldable pub sending_image : ℕ → List ℕ
sending_image n = encode_model (sending n)

unfoldable pub sending_estimate : ℕ → List ℕ
sending_estimate n = encode_estimate 6 2 (estimate_sending n)

unfoldable pub meeting : List Move
meeting = spread_of 0 0 ∷ inter_of 0 0 1 0 ∷ []
