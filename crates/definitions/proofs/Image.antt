-- The model of an image, entry by entry. Assumes nothing.
use mathlib.Core.Path.{◌≡◌, refl, sym, ap, ◌∙◌}
use mathlib.Core.List.{List}
use Prim.Native.Nat.{ℕ, ◌+◌, ◌*◌, ◌/◌, ◌%◌, ◌^◌, ◌≤◌, ◌<◌}
use native.Mathlib.Omega.{arith}
use lib.ListN.{length, get_or-eq_default}
use Rattle.definitions.specs.Words.{block_of, count_of, data_word}
use Rattle.definitions.specs.Model.{Site, Line, no_site, no_line, no_box, site_at, line_at, box_at, site_count, line_count, box_count, kind_of_name}
use Rattle.definitions.specs.Image.{site_record, line_record, name_count, boxes_of, kinds_of, sites_block, lines_of, box_of_image, model_of}
use Rattle.definitions.proofs.Bounded.{length-tabulate, get_d_tabulate}

module _ (image : List ℕ) where
  -- the boxes
  pub model_count : box_count (model_of image) ≡ boxes_of image
  unfolding model_of
  model_count = length-tabulate (boxes_of image) (box_of_image image)

  pub model_box : (b : ℕ) → b < boxes_of image → box_at (model_of image) b ≡ box_of_image image b
  unfolding model_of box_at
  model_box b h = get_d_tabulate (boxes_of image) (box_of_image image) no_box b h

  -- the names
  pub model_kinds : (model_of image).kinds ≡ kinds_of image
  unfolding model_of
  model_kinds = refl

  pub model_names : length (kinds_of image) ≡ name_count image
  unfolding kinds_of
  model_names = length-tabulate (name_count image) (λ n. data_word (block_of image 0) (2 + n))

  pub model_kind : (n : ℕ) → n < name_count image → kind_of_name (kinds_of image) n ≡ data_word (block_of image 0) (2 + n)
  unfolding kinds_of kind_of_name
  model_kind n h = get_d_tabulate (name_count image) (λ n. data_word (block_of image 0) (2 + n)) 0 n h

  pub kind_past : (n : ℕ) → name_count image ≤ n → kind_of_name (kinds_of image) n ≡ 0
  unfolding kind_of_name
  kind_past n h = get_or-eq_default (kinds_of image) 0 (omega (arith, model_names))

  -- a box's sites and lines
  module _ (b : ℕ) where
    pub box_sites : site_count (box_of_image image b) ≡ count_of (block_of image (sites_block image b))
    unfolding box_of_image
    box_sites = let block = block_of image (sites_block image b) in length-tabulate (count_of block) (site_record block)

    pub box_site : (i : ℕ) → i < count_of (block_of image (sites_block image b))
        → site_at (box_of_image image b) i ≡ site_record (block_of image (sites_block image b)) i
    unfolding box_of_image site_at
    box_site i h = let block = block_of image (sites_block image b) in get_d_tabulate (count_of block) (site_record block) no_site i h

    pub box_lines : line_count (box_of_image image b) ≡ lines_of image b
    unfolding box_of_image
    box_lines = length-tabulate (lines_of image b) (λ i. line_record (block_of image (sites_block image b + 1 + i / 31)) (i % 31))

    pub box_line : (i : ℕ) → i < lines_of image b
        → line_at (box_of_image image b) i ≡ line_record (block_of image (sites_block image b + 1 + i / 31)) (i % 31)
    unfolding box_of_image line_at
    box_line i h =
        get_d_tabulate (lines_of image b) (λ i. line_record (block_of image (sites_block image b + 1 + i / 31)) (i % 31)) no_line i h

-- ---- records from their two words

module _ (block : List ℕ) (i w t : ℕ) (first : w ≡ data_word block (2 * i)) (second : t ≡ data_word block (2 * i + 1)) where
  pub site_of : ◌≡◌ {A = Site} (record { subject = w % 256; flag = w / 2 ^ 8 % 256; spare = w / 2 ^ 16; type = t }) (site_record block i)
  unfolding site_record
  site_of =
      λ k. record { subject = first k % 256; flag = first k / 2 ^ 8 % 256; spare = first k / 2 ^ 16; type = second k }

  pub line_of : ◌≡◌ {A = Line}
      (record {
        op = w % 256;
        name1 = w / 2 ^ 8 % 256;
        name2 = w / 2 ^ 16 % 256;
        spare = w / 2 ^ 24 % 256;
        child1 = w / 2 ^ 32 % 2 ^ 16;
        child2 = w / 2 ^ 48 % 2 ^ 16;
        type = t;
      })
      (line_record block i)
  unfolding line_record
  line_of = λ k. record {
    op = first k % 256;
    name1 = first k / 2 ^ 8 % 256;
    name2 = first k / 2 ^ 16 % 256;
    spare = first k / 2 ^ 24 % 256;
    child1 = first k / 2 ^ 32 % 2 ^ 16;
    child2 = first k / 2 ^ 48 % 2 ^ 16;
    type = second k;
  }

-- the kind of a listed name, from the head's word
pub kind_of : (image : List ℕ) (n m w : ℕ) → n < name_count image → m ≡ n → w ≡ data_word (block_of image 0) (2 + m) → w ≡ kind_of_name (kinds_of image) n
kind_of image n m w h q e = e ∙ ap (λ (i : ℕ). data_word (block_of image 0) (2 + i)) q ∙ sym (model_kind image n h)
