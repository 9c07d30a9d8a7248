-- Bytes, little-endian words, and blocks of 512 bytes with their headings. Assumes nothing.
use Rattle.std.specs.Prelude.{List, [], ◌∷◌, ℕ, zero, suc, ◌+◌, ◌*◌, get_or, take, drop}

-- eight bytes as a number, the first the lowest
abbrev pub joined : ℕ → ℕ → ℕ → ℕ → ℕ → ℕ → ℕ → ℕ → ℕ
joined a b c d e f g h =
    a + 0x100 * b + 0x1_0000 * c + 0x100_0000 * d + 0x1_0000_0000 * e + 0x100_0000_0000 * f + 0x1_0000_0000_0000 * g
    + 0x100_0000_0000_0000 * h

-- the byte, and the word of eight bytes, at a place of a list
unfoldable pub byte_at : List ℕ → ℕ → ℕ
byte_at s at = get_or s at 0

unfoldable pub word_at : List ℕ → ℕ → ℕ
word_at s at =
    joined (get_or s at 0) (get_or s (at + 1) 0) (get_or s (at + 2) 0) (get_or s (at + 3) 0) (get_or s (at + 4) 0)
    (get_or s (at + 5) 0) (get_or s (at + 6) 0) (get_or s (at + 7) 0)

-- the first n words of a list
unfoldable pub words_of : ℕ → List ℕ → List ℕ
words_of zero s = []
words_of (suc n) s = word_at s 0 ∷ words_of n (drop 8 s)

-- block k of an image
unfoldable pub block_of : List ℕ → ℕ → List ℕ
block_of image k = take 512 (drop (512 * k) image)

-- a block's heading: its number, kind, box and record count, and bytes 6 and 7
unfoldable pub number_of : List ℕ → ℕ
number_of block = byte_at block 0 + 256 * byte_at block 1

unfoldable pub kind_of_block : List ℕ → ℕ
kind_of_block block = byte_at block 2

unfoldable pub box_of : List ℕ → ℕ
box_of block = byte_at block 3

unfoldable pub count_of : List ℕ → ℕ
count_of block = byte_at block 4 + 256 * byte_at block 5

unfoldable pub spare_of : List ℕ → ℕ
spare_of block = byte_at block 6 + 256 * byte_at block 7

-- word i, of 0 to 61, between the heading and the check
unfoldable pub data_word : List ℕ → ℕ → ℕ
data_word block i = word_at block (8 + 8 * i)
