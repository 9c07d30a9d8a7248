-- An estimate: sets of name numbers, as proposed for a model; and the estimate of an image. Assumes nothing.
use Rattle.std.specs.Prelude.{List, ℕ, ◌+◌, ◌*◌}
use Rattle.definitions.specs.Limits.{shown_word, hidden_word}
use Rattle.definitions.specs.Words.{block_of, data_word}

-- rho(n): what name n may stand for. In box b: eps(b,n) the types of its sites on n, kap(b,n) what may be sent on n, and its shown
-- and hidden names (iota)
pub record Estimate : Type 0 where
  pub rho : ℕ → ℕ
  pub eps : ℕ → ℕ → ℕ
  pub kap : ℕ → ℕ → ℕ
  pub shown : ℕ → ℕ
  pub hidden : ℕ → ℕ

-- the blocks: rho, then for each box epsilon and kappa. Word n is the set for name n; in epsilon, word 60 is shown and 61 hidden
unfoldable pub eps_block : ℕ → ℕ
eps_block b = 1 + 2 * b

unfoldable pub kap_block : ℕ → ℕ
kap_block b = 2 + 2 * b

unfoldable pub estimate_of : List ℕ → Estimate
estimate_of image = record {
  rho = λ n. data_word (block_of image 0) n;
  eps = λ b n. data_word (block_of image (eps_block b)) n;
  kap = λ b n. data_word (block_of image (kap_block b)) n;
  shown = λ b. data_word (block_of image (eps_block b)) shown_word;
  hidden = λ b. data_word (block_of image (eps_block b)) hidden_word;
}
