-- The largest numbers of things in a model, an image and a state. Assumes nothing.
use Rattle.std.specs.Prelude.{ℕ}

-- names and boxes of a model; names of a type
abbrev pub name_limit : ℕ
name_limit = 60

abbrev pub box_limit : ℕ
box_limit = 8

abbrev pub type_limit : ℕ
type_limit = 8

-- sites of a box, and threads of a box: 16 each, in a model and in a state
abbrev pub slot_limit : ℕ
slot_limit = 16

-- data words of a block; records of a block of lines; blocks of lines of a box
abbrev pub block_words : ℕ
block_words = 62

abbrev pub block_lines : ℕ
block_lines = 31

abbrev pub line_block_limit : ℕ
line_block_limit = 4

-- the words of a block of kind 5 that are the box's shown and hidden names
abbrev pub shown_word : ℕ
shown_word = 60

abbrev pub hidden_word : ℕ
hidden_word = 61
