-- What a layout says of the image that it was read of. Assumes nothing.
use Rattle.std.specs.Prelude.{◌≡◌, List, ℕ, ◌<◌, get_or}
use Rattle.definitions.specs.Bounded.{◌and◌, ◌is◌, ◌below◌}
use Rattle.definitions.specs.Sets.{has}
use Rattle.definitions.specs.Words.{block_of, count_of}
use Rattle.definitions.specs.Model.{kind_of_name, binds_in}
use Rattle.definitions.specs.Image.{name_count, boxes_of, kinds_of, sites_block, lines_of, box_of_image}
use Rattle.layouts.specs.declared.BoxPlace.{BoxPlace}
use Rattle.layouts.specs.declared.Layout.{Layout}

-- the place of no box
abbrev pub nowhere : BoxPlace
nowhere = record { at = 0; sites = 0; lines = 0; bound = 0 }

-- s is the set of the listed names of kind k
abbrev pub OfKind : List ℕ → ℕ → ℕ → Type 0
OfKind image k s = (n : ℕ) → n < 64 → has s n ≡ (n below name_count image and kind_of_name (kinds_of image) n is k)

-- all that a layout says but the names that lines bind
pub record FrameOf (image : List ℕ) (l : Layout) : Type 0 where
  pub names : l.names ≡ name_count image
  pub boxes : l.boxes ≡ boxes_of image
  -- box b: the block of its sites, and how many sites and lines it has
  pub at : (b : ℕ) → b < boxes_of image → (get_or l.each b nowhere).at ≡ sites_block image b
  pub sites : (b : ℕ) → b < boxes_of image → (get_or l.each b nowhere).sites ≡ count_of (block_of image (sites_block image b))
  pub lines : (b : ℕ) → b < boxes_of image → (get_or l.each b nowhere).lines ≡ lines_of image b
  -- the listed names, and those of each kind
  pub listed : (n : ℕ) → n < 64 → has l.kinds.listed n ≡ (n below name_count image)
  pub free : OfKind image 0 l.kinds.free
  pub restricted : OfKind image 1 l.kinds.restricted
  pub received : OfKind image 2 l.kinds.received
  pub exposed : OfKind image 3 l.kinds.exposed

-- the frame, and the names that the lines of box b bind
pub record LayoutOf (image : List ℕ) (l : Layout) : Type 0 where
  pub frame : FrameOf image l
  pub bound : (b : ℕ) → b < boxes_of image → (n : ℕ) → n < 64 → has ((get_or l.each b nowhere).bound) n ≡ binds_in (box_of_image image b) n
