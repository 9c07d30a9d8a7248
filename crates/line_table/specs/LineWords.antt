-- A line by its two words, and what the tables say of it. Assumes nothing.
use Rattle.std.specs.Prelude.{List, ℕ, ◌/◌, ◌%◌, ◌^◌}
use Rattle.std.specs.Int.Bits.{bit_and, bit_or}
use Rattle.definitions.specs.Model.{Line}
use Rattle.line_table.specs.Table.{row}

-- a line by its two words
abbrev pub line_word : ℕ → ℕ → Line
line_word w type = record {
  op = w % 256;
  name1 = w / 2 ^ 8 % 256;
  name2 = w / 2 ^ 16 % 256;
  spare = w / 2 ^ 24 % 256;
  child1 = w / 2 ^ 32 % 2 ^ 16;
  child2 = w / 2 ^ 48 % 2 ^ 16;
  type = type;
}

-- its names as sets of one name
unfoldable pub first : ℕ → ℕ
first w = 2 ^ (w / 2 ^ 8 % 64)

unfoldable pub second : ℕ → ℕ
second w = 2 ^ (w / 2 ^ 16 % 64)

-- wrong digits of a line by itself; what it binds; what it uses that is not free
unfoldable pub wrong : List ℕ → ℕ → ℕ
wrong t w = bit_or (bit_or (bit_and w (row t 0 w)) (bit_and (first w) (row t 1 w))) (bit_and (second w) (row t 2 w))

unfoldable pub bound : List ℕ → ℕ → ℕ
bound t w = bit_or (bit_and (first w) (row t 5 w)) (bit_and (second w) (row t 6 w))

unfoldable pub named : List ℕ → ℕ → ℕ
named t w = bit_or (bit_and (first w) (row t 3 w)) (bit_and (second w) (row t 4 w))

unfoldable pub used : List ℕ → ℕ → ℕ → ℕ → ℕ
used t rest w type = bit_or (bit_or (bit_and (first w) (row t 3 w)) (bit_and (second w) (row t 4 w))) (bit_and type rest)
