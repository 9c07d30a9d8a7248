-- What is known of the images by what reading and checking answered. Assumes nothing.
use Rattle.std.specs.Prelude.{◌≡◌, List, ℕ, ◌+◌, ◌*◌, ◌≤◌, length}
use Rattle.definitions.specs.Answer.{Refusal}
use Rattle.definitions.specs.Clauses.{Verdict, refused_model, refused_estimate}

-- a refused block is there whole
pub record BlockThere (image : List ℕ) (number k : ℕ) : Type 0 where
  pub there : 2 ≤ number → number ≤ 5 → 512 * (k + 1) ≤ length image

pub record RefusedThere (model estimate : List ℕ) (v : Verdict) : Type 0 where
  pub in_model : (r : Refusal) → v ≡ refused_model r → BlockThere model r.number r.place
  pub in_estimate : (r : Refusal) → v ≡ refused_estimate r → BlockThere estimate r.number r.place
