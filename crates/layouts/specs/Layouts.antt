-- What the parts of a layout say of the blocks that they are read of. Assumes nothing.
use Rattle.std.specs.Prelude.{◌≡◌, Bool, List, ℕ, ◌+◌, ◌-◌, ◌*◌, ◌<◌, eqb}
use Rattle.definitions.specs.Bounded.{◌and◌, ◌or◌, ◌is◌, ◌below◌}
use Rattle.definitions.specs.Sets.{has}
use Rattle.definitions.specs.Words.{block_of, count_of, data_word}
use Rattle.definitions.specs.Image.{line_blocks}
use Rattle.records.specs.NameSets.{SetOf, insert_if}
use Rattle.records.specs.declared.Kinds.{Kinds}
use Rattle.layouts.specs.declared.BoxPlace.{BoxPlace}

-- the name m is one of the first n, and of kind k
unfoldable pub kind_in : List ℕ → ℕ → ℕ → ℕ → Bool
kind_in block k n m = m below n and data_word block (2 + m) is k

unfoldable pub is_below : ℕ → ℕ → Bool
is_below n m = m below n

-- how many lines follow block k
unfoldable pub line_total : List ℕ → ℕ → ℕ
line_total image k = let n = line_blocks 4 image (k + 1) in 31 * (n - 1) + count_of (block_of image (k + n))

-- name n, of kind w, put into the sets by kind
pub record KindInserted (s : Kinds) (n w : ℕ) (r : Kinds) : Type 0 where
  pub listed : (m : ℕ) → m < 64 → has r.listed m ≡ (has s.listed m or n is m)
  pub free : SetOf r.free (insert_if s.free (eqb w 0) n)
  pub restricted : SetOf r.restricted (insert_if s.restricted (eqb w 1) n)
  pub received : SetOf r.received (insert_if s.received (eqb w 2) n)
  pub exposed : SetOf r.exposed (insert_if s.exposed (eqb w 3) n)

-- the first n names of the head, by kind
pub record KindSetsOf (block : List ℕ) (n : ℕ) (r : Kinds) : Type 0 where
  pub listed : SetOf r.listed (is_below n)
  pub free : SetOf r.free (kind_in block 0 n)
  pub restricted : SetOf r.restricted (kind_in block 1 n)
  pub received : SetOf r.received (kind_in block 2 n)
  pub exposed : SetOf r.exposed (kind_in block 3 n)

-- the box whose sites are block k
pub record BoxPlaceOf (image : List ℕ) (k : ℕ) (r : BoxPlace) : Type 0 where
  pub at : r.at ≡ k
  pub sites : r.sites ≡ count_of (block_of image k)
  pub lines : r.lines ≡ line_total image k
