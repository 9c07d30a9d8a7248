-- Laws of the places of records: the words of a line, and the sites and lines of a box of the model. Assumes nothing.
use mathlib.Core.Path.{◌≡◌, sym, ap, ◌∙◌}
use mathlib.Core.List.{List, [], ◌∷◌}
use Prim.Native.Nat.{ℕ, ◌+◌, ◌*◌, ◌/◌, ◌%◌, ◌^◌, ◌≤◌, ◌<◌}
use native.Mathlib.Omega.{arith}
use borrow.Author.Rules.{rules}
use lib.ListN.{length}
use Rattle.std.specs.Prelude.{slice_index}
use Rattle.std.specs.Int.{w16, w64, to_le_bytes, from_le_bytes}
use Rattle.definitions.specs.Words.{word_at, block_of, count_of, data_word}
use Rattle.definitions.specs.Model.{Box, Line, site_at, line_at, box_at, site_count, line_count}
use Rattle.definitions.specs.Image.{site_record, line_record, model_of}
use Rattle.definitions.proofs.Words.{data_word_block}
use Rattle.definitions.proofs.Image.{line_of, model_box, box_sites, box_site, box_lines, box_line}
use Rattle.records.specs.Places.{LinesThere, LinesAt, SitesAt, line_record_at}

-- a line by the bytes of its first word w; its children are two bytes each
module _ (w : ℕ) where
  first_half : w / 256 ^ 4 % 256 + w / 256 ^ 5 % 256 * 256 ≡ w / 2 ^ 32 % 2 ^ 16
  first_half = omega arith

  second_half : w / 256 ^ 6 % 256 + w / 256 ^ 7 % 256 * 256 ≡ w / 2 ^ 48 % 2 ^ 16
  second_half = omega arith

module _ (block : List ℕ) (i w t x y : ℕ) (b : List ℕ) (first : w ≡ data_word block (2 * i)) (second : t ≡ data_word block (2 * i + 1))
    (bytes : b ≡ to_le_bytes w64 w) (child1 : x ≡ from_le_bytes w16 (slice_index b 4 ∷ slice_index b 5 ∷ []))
    (child2 : y ≡ from_le_bytes w16 (slice_index b 6 ∷ slice_index b 7 ∷ [])) where
  pub line_by_bytes : ◌≡◌ {A = Line}
      (record {
        op = slice_index b 0;
        name1 = slice_index b 1;
        name2 = slice_index b 2;
        spare = slice_index b 3;
        child1 = x;
        child2 = y;
        type = t;
      })
      (line_record block i)
  line_by_bytes =
      (λ k. record {
        op = slice_index (bytes k) 0;
        name1 = slice_index (bytes k) 1;
        name2 = slice_index (bytes k) 2;
        spare = slice_index (bytes k) 3;
        child1 = (child1 ∙ ap (λ (l : List ℕ). from_le_bytes w16 (slice_index l 4 ∷ slice_index l 5 ∷ [])) bytes ∙ first_half w) k;
        child2 = (child2 ∙ ap (λ (l : List ℕ). from_le_bytes w16 (slice_index l 6 ∷ slice_index l 7 ∷ [])) bytes ∙ second_half w) k;
        type = t;
      })
      ∙ line_of block i w t first second

-- the two words of line i, at their place in the image
module _ (image : List ℕ) (k i w : ℕ) where
  pub lowest-word : w ≡ word_at image (512 * (k + 1) + (8 + 16 * (i + i / 31))) → w ≡ data_word (block_of image (k + 1 + i / 31)) (2 * (i % 31))
  lowest-word e = e ∙ ap (word_at image) (omega arith) ∙ sym (data_word_block image (k + 1 + i / 31) (2 * (i % 31)) (omega arith))

  pub second_word : w ≡ word_at image (512 * (k + 1) + (8 + 16 * (i + i / 31)) + 8) → w ≡ data_word (block_of image (k + 1 + i / 31)) (2 * (i % 31) + 1)
  second_word e = e ∙ ap (word_at image) (omega arith) ∙ sym (data_word_block image (k + 1 + i / 31) (2 * (i % 31) + 1) (omega arith))

pub line-there : (image : List ℕ) (k n i : ℕ) → LinesThere image k n → i < n → 512 * (k + 1 + i / 31 + 1) ≤ length image
line-there image k n i h l = h.there i l

pub lines_of_box : (image : List ℕ) (b k n : ℕ) → LinesAt image b k n → LinesThere image k n
lines_of_box image b k n h = h.there

module _ (image : List ℕ) (b k n : ℕ) (h : LinesAt image b k n) where
  pub line-at : (i : ℕ) → i < n → line_record_at image k i ≡ line_at (box_at (model_of image) b) i
  line-at i l =
      ap (λ (j : ℕ). line_record_at image j i) h.at
      ∙ sym (box_line image b i (omega (arith, h.lines))) ∙ ap (λ (x : Box). line_at x i) (sym (model_box image b h.inside))

  pub line-count : n ≡ line_count (box_at (model_of image) b)
  line-count = h.lines ∙ sym (box_lines image b) ∙ ap line_count (sym (model_box image b h.inside))

module _ (image : List ℕ) (b k n : ℕ) (h : SitesAt image b k n) where
  pub site-at : (i : ℕ) → i < n → site_record (block_of image k) i ≡ site_at (box_at (model_of image) b) i
  site-at i l =
      ap (λ (j : ℕ). site_record (block_of image j) i) h.at
      ∙ sym (box_site image b i (omega (arith, h.sites, ap (λ (j : ℕ). count_of (block_of image j)) h.at)))
      ∙ ap (λ (x : Box). site_at x i) (sym (model_box image b h.inside))

  pub site-count : n ≡ site_count (box_at (model_of image) b)
  site-count =
      h.sites ∙ ap (λ (j : ℕ). count_of (block_of image j)) h.at ∙ sym (box_sites image b) ∙ ap site_count (sym (model_box image b h.inside))

pub ruleset places = (rules, line-there, lines_of_box)

pub ruleset line_words = (rules, lowest-word, second_word)
