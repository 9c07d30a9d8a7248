-- What is asked of the words into which a site is written. Assumes nothing.
use Rattle.std.specs.Prelude.{◌≡◌, ◌≢◌, List, ℕ, ◌+◌, ◌≤◌, ◌<◌, T, length}
use Rattle.std.proofs.Math.Option.{none}
use Rattle.definitions.specs.Limits.{slot_limit, type_limit}
use Rattle.definitions.specs.Sets.{has}
use Rattle.definitions.specs.Slots.{zeros, part}
use Rattle.definitions.specs.Image.{name_count, model_of}
use Rattle.definitions.specs.ReadModel.{read_model}
use Rattle.definitions.specs.Record.{thread_base, record_length, site_width, sites, site, thread}
use Rattle.definitions.specs.Moves.{value_in}

-- thread t has a held name for each name of a type
pub record NamesHeld (image r : List ℕ) (t names : ℕ) : Type 0 where
  pub read : read_model image ≡ none
  pub long : length r ≡ record_length
  pub slot : t < slot_limit
  pub listed : (n : ℕ) → n < 64 → T (has names n) → n < name_count image
  pub given : (n : ℕ) → n < 64 → T (has names n) → value_in (model_of image).kinds (thread r t) n ≢ 0

-- eight words before the threads are zero
pub record TypeRoom (r : List ℕ) (at : ℕ) : Type 0 where
  pub before : at + type_limit ≤ thread_base
  pub clear : part r at type_limit ≡ zeros type_limit

-- there is room for a site more, and its words are zero
pub record SiteRoom (r : List ℕ) : Type 0 where
  pub room : sites r < slot_limit
  pub clear : site r (sites r) ≡ zeros site_width
