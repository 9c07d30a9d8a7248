-- Laws of the reading of a model image. Assumes nothing.
use mathlib.Core.Path.{◌≡◌, subst}
use mathlib.Core.List.{List}
use mathlib.Core.Option.{none}
use Prim.Native.Nat.{ℕ, ◌%◌, ◌<◌}
use borrow.Author.Rules.{rules}
use lib.ListN.{length, get_or}
use Rattle.definitions.specs.Image.{model_of}
use Rattle.definitions.specs.ReadModel.{length_fault, blocks_fault, model_fault, read_model}
use Rattle.definitions.proofs.Faults.{else_iff}
use Rattle.definitions.proofs.ReadModel.{length_iff}
use Rattle.layouts.specs.declared.Layout.{Layout}
use Rattle.records.specs.Places.{LinesAt, SitesAt}
use Rattle.layouts.specs.LayoutOf.{nowhere, LayoutOf}
use Rattle.refusals.proofs.Answers.{else_first, else_next}
use Rattle.layouts.proofs.FrameLaws.{in_room, lines_at, sites-at}

pub read_whole : (image : List ℕ) → length_fault image ≡ none → length image % 512 ≡ 0
read_whole image e = ((length_iff image).0 e).blocks

-- a layout is of the image that it was read of
pub of_image : (image i : List ℕ) (l : Layout) → i ≡ image → LayoutOf i l → LayoutOf image l
of_image image i l e h = subst (λ (x : List ℕ). LayoutOf x l) e h

-- ---- what an image that is not refused says of each box

pub unrefused_blocks : (image : List ℕ) → read_model image ≡ none → blocks_fault image ≡ none
unfolding read_model
unrefused_blocks image e = ((else_iff (blocks_fault image) (model_fault (model_of image))).0 ((else_iff (length_fault image) _).0 e).1).0

module _ (image : List ℕ) (l : Layout) (e : read_model image ≡ none) (h : LayoutOf image l) (b : ℕ) (q : b < l.boxes) where
  pub unrefused_room : b < 8
  unrefused_room = in_room image l (unrefused_blocks image e) h.frame b q

  pub unrefused_lines : LinesAt image b (get_or l.each b nowhere).at (get_or l.each b nowhere).lines
  unrefused_lines = lines_at image l (unrefused_blocks image e) h.frame b q

  pub unrefused_sites : SitesAt image b (get_or l.each b nowhere).at (get_or l.each b nowhere).sites
  unrefused_sites = sites-at image l (unrefused_blocks image e) h.frame b q

pub ruleset models = (rules, read_whole, of_image, else_first, else_next)
