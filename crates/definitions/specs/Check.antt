-- The check of a block. Assumes nothing.
use Rattle.std.specs.Prelude.{List, [], ◌∷◌, ℕ, ◌+◌, ◌*◌, ◌%◌, ◌^◌}
use Rattle.definitions.specs.Words.{word_at, words_of}

-- each word w takes c to 31 c + w, modulo 2 ^ 64
unfoldable pub check_from : ℕ → List ℕ → ℕ
check_from c [] = c
check_from c (w ∷ ws) = check_from ((31 * c + w) % 2 ^ 64) ws

-- the check of a block: from 1, over the 63 words of bytes 0 to 503
unfoldable pub check_of : List ℕ → ℕ
check_of block = check_from 1 (words_of 63 block)

-- the check that the block stores, in bytes 504 to 511
unfoldable pub stored_check : List ℕ → ℕ
stored_check block = word_at block 504
