-- Where the records of a box stand in an image. Assumes nothing.
use Rattle.std.specs.Prelude.{◌≡◌, List, ℕ, ◌+◌, ◌*◌, ◌/◌, ◌%◌, ◌≤◌, ◌<◌, length}
use Rattle.definitions.specs.Words.{block_of, count_of}
use Rattle.definitions.specs.Model.{Line}
use Rattle.definitions.specs.Image.{line_record, boxes_of, sites_block, lines_of}

-- the image has n lines after block k
pub record LinesThere (image : List ℕ) (k n : ℕ) : Type 0 where
  pub few : n ≤ 124
  pub there : (i : ℕ) → i < n → 512 * (k + 1 + i / 31 + 1) ≤ length image

-- box b has n lines, and k is the block of its sites
pub record LinesAt (image : List ℕ) (b k n : ℕ) : Type 0 where
  pub inside : b < boxes_of image
  pub at : k ≡ sites_block image b
  pub lines : n ≡ lines_of image b
  pub there : LinesThere image k n

-- box b has n sites, in block k
pub record SitesAt (image : List ℕ) (b k n : ℕ) : Type 0 where
  pub inside : b < boxes_of image
  pub at : k ≡ sites_block image b
  pub sites : n ≡ count_of (block_of image k)
  pub few : n ≤ 16
  pub there : 512 * (k + 1) ≤ length image

-- line i after block k
abbrev pub line_record_at : List ℕ → ℕ → ℕ → Line
line_record_at image k i = line_record (block_of image (k + 1 + i / 31)) (i % 31)
