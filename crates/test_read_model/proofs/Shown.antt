-- What an image that is not refused gives to who writes out its names. Assumes nothing.
use Rattle.std.proofs.Common.{◌≡◌, List, ℕ, ◌≤◌, ◌<◌, length, arith}
use Rattle.std.proofs.Math.Option.{none}
use Rattle.definitions.specs.Image.{name_count}
use Rattle.definitions.specs.ReadModel.{read_model}
use Rattle.definitions.proofs.ReadModel.{blocks_iff}
use Rattle.layouts.specs.declared.Layout.{Layout}
use Rattle.layouts.specs.LayoutOf.{LayoutOf}
use Rattle.model.proofs.Models.{unrefused_blocks, unrefused_room, unrefused_lines, unrefused_sites}

module _ (image : List ℕ) (e : read_model image ≡ none) where
  pub head_there : 512 ≤ length image
  head_there = ((blocks_iff image).0 (unrefused_blocks image e)).head.headed.there

  module _ (l : Layout) (h : LayoutOf image l) (n : ℕ) (q : n < l.names) where
    pub name_listed : n < name_count image
    name_listed = let z = h.frame.names in omega arith

    pub name_few : n < 60
    name_few = let z = h.frame.names in let f = ((blocks_iff image).0 (unrefused_blocks image e)).head.names in omega arith

pub ruleset shown = (head_there, name_listed, name_few, unrefused_room, unrefused_lines, unrefused_sites)
