-- What is known of an estimate that has been read. Assumes nothing.
use Rattle.std.specs.Prelude.{List, ℕ, ◌+◌, ◌*◌, ◌≤◌, ◌<◌, length}
use Rattle.definitions.specs.Estimate.{estimate_of}
use Rattle.sets.specs.Names.{NamesOnly}

-- the image of an estimate: box b's blocks are there, and rho(n) and shown(b) are sets of names
pub record BoxOfNames (image : List ℕ) (b : ℕ) : Type 0 where
  pub there : 512 * (3 + 2 * b) ≤ length image
  pub rho : (n : ℕ) → n < 62 → NamesOnly ((estimate_of image).rho n)
  pub shown : NamesOnly ((estimate_of image).shown b)

-- the image of an estimate for so many boxes: its blocks are there, and rho(n) and shown(b) are sets of names
pub record EstimateOfNames (image : List ℕ) (boxes : ℕ) : Type 0 where
  pub there : 512 * (1 + 2 * boxes) ≤ length image
  pub most : boxes ≤ 8
  pub rho : (n : ℕ) → n < 62 → NamesOnly ((estimate_of image).rho n)
  pub shown : (b : ℕ) → b < boxes → NamesOnly ((estimate_of image).shown b)
