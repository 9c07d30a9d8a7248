-- The model of an image. Assumes nothing.
use Rattle.std.specs.Prelude.{true, false, List, ℕ, zero, suc, ◌+◌, ◌-◌, ◌*◌, ◌/◌, ◌%◌, ◌^◌}
use Rattle.definitions.specs.Bounded.{◌below◌, tabulate}
use Rattle.definitions.specs.Limits.{block_lines, line_block_limit}
use Rattle.definitions.specs.Words.{block_of, count_of, data_word}
use Rattle.definitions.specs.Model.{Site, Line, Box, Model}

-- record i of a block: two words. A site's first word is subject, flag and six bytes more; its second the type
unfoldable pub site_record : List ℕ → ℕ → Site
site_record block i =
    let w = data_word block (2 * i) in
    record { subject = w % 256; flag = w / 2 ^ 8 % 256; spare = w / 2 ^ 16; type = data_word block (2 * i + 1) }

-- a line's first word is operation, first name, second name, a byte more, and two children of two bytes; its second the type
unfoldable pub line_record : List ℕ → ℕ → Line
line_record block i =
    let w = data_word block (2 * i) in
    record {
      op = w % 256;
      name1 = w / 2 ^ 8 % 256;
      name2 = w / 2 ^ 16 % 256;
      spare = w / 2 ^ 24 % 256;
      child1 = w / 2 ^ 32 % 2 ^ 16;
      child2 = w / 2 ^ 48 % 2 ^ 16;
      type = data_word block (2 * i + 1);
    }

-- the head: word 0 names, word 1 boxes, words 2 to 61 the kinds
unfoldable pub name_count : List ℕ → ℕ
name_count image = data_word (block_of image 0) 0

unfoldable pub boxes_of : List ℕ → ℕ
boxes_of image = data_word (block_of image 0) 1

unfoldable pub kinds_of : List ℕ → List ℕ
kinds_of image = let head = block_of image 0 in tabulate (name_count image) (λ n. data_word head (2 + n))

-- how many blocks of lines a box has, of at most so many, the first being block k: a block with fewer than 31 records ends the box
unfoldable pub line_blocks : ℕ → List ℕ → ℕ → ℕ
line_blocks zero image k = 0
line_blocks (suc most) image k =
    elim (count_of (block_of image k) below block_lines) [ true ↦ 1 | false ↦ 1 + line_blocks most image (k + 1) ]

-- the block of box b's sites; its lines follow, in one to four blocks; then comes the next box
unfoldable pub sites_block : List ℕ → ℕ → ℕ
sites_block image zero = 1
sites_block image (suc b) = let k = sites_block image b in k + 1 + line_blocks line_block_limit image (k + 1)

-- how many lines box b has: 31 in each of its blocks but the last
unfoldable pub lines_of : List ℕ → ℕ → ℕ
lines_of image b =
    let k = sites_block image b in
    let n = line_blocks line_block_limit image (k + 1) in
    block_lines * (n - 1) + count_of (block_of image (k + n))

unfoldable pub box_of_image : List ℕ → ℕ → Box
box_of_image image b =
    let k = sites_block image b in
    let block = block_of image k in
    record {
      sites = tabulate (count_of block) (site_record block);
      lines = tabulate (lines_of image b) (λ i. line_record (block_of image (k + 1 + i / block_lines)) (i % block_lines));
    }

unfoldable pub model_of : List ℕ → Model
model_of image = record { kinds = kinds_of image; boxes = tabulate (boxes_of image) (box_of_image image) }
