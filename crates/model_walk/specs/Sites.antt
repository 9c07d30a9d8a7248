-- What a walk over the sites of a box tells: where no wrong digit is found, each site fits. Assumes nothing.
use Rattle.std.specs.Prelude.{List, ℕ, ◌-◌, ◌%◌, ◌^◌, ◌≤◌, ◌<◌, T, length}
use Rattle.std.specs.Int.Bits.{bit_and, bit_or}
use Rattle.definitions.specs.Sets.{has}
use Rattle.definitions.specs.Model.{is_free}
use Rattle.definitions.specs.Image.{model_of}
use Rattle.definitions.specs.ReadModel.{type_fits, used_before, site_fits}
use Rattle.records.specs.NameSets.{SetOf}
use Rattle.records.specs.Places.{SitesAt}
use Rattle.line_table.specs.Told.{Empty}

-- the digits of a site's first word that are zero: its subject is below 64, its flag 0 or 1, and the rest spare
abbrev pub site_zero : ℕ
site_zero = 0xfffffffffffffec0

-- a type fits
pub record TypeTold (free w type r : ℕ) : Type 0 where
  pub tells : Empty r → T (type_fits (has free) (w % 256) type)

-- one site by its two words; used: the subjects of the sites before
pub record SiteTold (free used w type r : ℕ) : Type 0 where
  pub digits : Empty r → Empty (bit_and w site_zero)
  pub subject : Empty r → Empty (bit_and (2 ^ (w % 64)) (bit_or (2 ^ 64 - 1 - free) used))
  pub typed : Empty r → T (type_fits (has free) (w % 256) type)
  pub first : w < 2 ^ 64
  pub frees : free < 2 ^ 64

-- a box of an image with its free names, and the subjects of earlier boxes
pub record SitesGiven (image : List ℕ) (b k n free start : ℕ) : Type 0 where
  pub at : SitesAt image b k n
  pub few : length (model_of image).kinds ≤ 60
  pub frees : SetOf free (is_free (model_of image).kinds)
  pub before : SetOf start (used_before (model_of image) b 0)

-- each of its sites fits; used: the subjects up to its end
pub record SitesRight (image : List ℕ) (b n used : ℕ) : Type 0 where
  pub sites : (i : ℕ) → i < n → T (site_fits (model_of image) b i)
  pub before : SetOf used (used_before (model_of image) b n)

-- the one-sided promise
pub record SitesTold (image : List ℕ) (k n free start bad used : ℕ) : Type 0 where
  pub tells : Empty bad → (b : ℕ) → SitesGiven image b k n free start → SitesRight image b n used
