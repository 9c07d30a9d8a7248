-- Laws of the names that the lines of each box bind, filled into a frame box by box. Assumes nothing.
use mathlib.Core.Path.{◌≡◌, sym, ap, ap₂, ◌∙◌, subst}
use mathlib.Core.List.{List, ◌++◌}
use mathlib.Core.Option.{none}
use Prim.Native.Nat.{ℕ, ◌+◌, ◌≤◌, ◌<◌}
use native.Mathlib.Omega.{arith}
use borrow.Author.Rules.{rules}
use lib.ListN.{length, get_or, get_or-append, set, length-set, take}
use Rattle.std.proofs.lemmas.List.{get_or-take, length-take-le}
use Rattle.definitions.specs.Bounded.{any_below}
use Rattle.definitions.specs.Sets.{has}
use Rattle.definitions.specs.Model.{Line, Box, line_at, box_at, binds, binds_in}
use Rattle.definitions.specs.Image.{boxes_of, sites_block, lines_of, box_of_image, model_of}
use Rattle.definitions.specs.ReadModel.{blocks_fault}
use Rattle.definitions.proofs.Bounded.{any_cong}
use Rattle.definitions.proofs.Image.{model_box, box_lines, box_line}
use Rattle.records.specs.NameSets.{SetOf}
use Rattle.records.specs.Places.{LinesThere, line_record_at}
use Rattle.box_runs.specs.Runs.{bound_in}
use Rattle.layouts.specs.declared.Layout.{Layout}
use Rattle.layouts.specs.declared.BoxPlace.{BoxPlace}
use Rattle.layouts.specs.LayoutOf.{nowhere, FrameOf, LayoutOf}
use Rattle.layouts.proofs.LayoutLaws.{set_one, set_entry}
use Rattle.layouts.proofs.FrameLaws.{PlaceOf, place_in, place_lines, inside, boxes_most, boxes_there, in_boxes, past_boxes}

-- the lines of a box in its image bind what the box's lines bind
bound_box : (image : List ℕ) (b n : ℕ) → bound_in image (sites_block image b) (lines_of image b) n ≡ binds_in (box_of_image image b) n
unfolding bound_in binds_in
bound_box image b n =
    any_cong (lines_of image b) (λ i. binds (line_record_at image (sites_block image b) i) n) (λ i. binds (line_at (box_of_image image b) i) n)
    (λ i l. ap (λ (y : Line). binds y n) (sym (box_line image b i l)))
    ∙ ap (λ (m : ℕ). any_below m (λ i. binds (line_at (box_of_image image b) i) n)) (sym (box_lines image b))

-- a place with other names
abbrev pub bound_to : BoxPlace → ℕ → BoxPlace
bound_to p w = record { at = p.at; sites = p.sites; lines = p.lines; bound = w }

-- what is said of the names that the lines of each box bind
abbrev pub Binds : List ℕ → ℕ → BoxPlace → Type 0
Binds image b p = (n : ℕ) → n < 64 → has p.bound n ≡ binds_in (box_of_image image b) n

-- the places of all n boxes
pub record Placed (image : List ℕ) (n : ℕ) (each : List BoxPlace) : Type 0 where
  pub all : n ≡ boxes_of image
  pub few : n ≤ 8
  pub long : length each ≡ n
  pub placed : (b : ℕ) → b < boxes_of image → PlaceOf image b (get_or each b nowhere)

-- as a frame has them
pub placed_start : (image : List ℕ) (l : Layout) → blocks_fault image ≡ none → FrameOf image l → length l.each ≡ 8 → Placed image l.boxes (take l.boxes l.each)
placed_start image l f h e =
    let few : l.boxes ≤ 8 = boxes_most image l f h in
    record {
      all = h.boxes;
      few = few;
      long = length-take-le l.boxes l.each (omega (arith, few, e));
      placed = λ b k. subst (PlaceOf image b) (sym (get_or-take l.boxes l.each b nowhere (omega (arith, k, h.boxes)))) (place_in image l f h b k);
    }

module _ (image : List ℕ) (n : ℕ) (each : List BoxPlace) (p : Placed image n each) where
  -- with other names at one
  pub placed_turn : (b w : ℕ) → b < n → Placed image n (set each b (bound_to (get_or each b nowhere) w))
  placed_turn b w q =
      let here = p.placed b (omega (arith, q, p.all)) in
      record {
        all = p.all;
        few = p.few;
        long = length-set each b (bound_to (get_or each b nowhere) w) ∙ p.long;
        placed = λ c k.
            set_one nowhere (PlaceOf image) each b (bound_to (get_or each b nowhere) w) (omega (arith, q, p.long))
            (record { at = here.at; sites = here.sites; lines = here.lines }) c (λ _. p.placed c k);
      }

-- the layout that they stand in, before the rest
pub placed_layout : (image : List ℕ) (l : Layout) (each rest : List BoxPlace) → FrameOf image l → Placed image l.boxes each
    → ((b : ℕ) → b < boxes_of image → Binds image b (get_or each b nowhere))
    → LayoutOf image (record { names = l.names; boxes = l.boxes; each = each ++ rest; kinds = l.kinds })
placed_layout image l each rest h p f =
    let same : (b : ℕ) → b < boxes_of image → get_or (each ++ rest) b nowhere ≡ get_or each b nowhere =
    λ b k. get_or-append each rest nowhere b (omega (arith, k, p.all, p.long)) in
    record {
      frame = record {
        names = h.names;
        boxes = h.boxes;
        at = λ b k. ap (λ (q : BoxPlace). q.at) (same b k) ∙ (p.placed b k).at;
        sites = λ b k. ap (λ (q : BoxPlace). q.sites) (same b k) ∙ (p.placed b k).sites;
        lines = λ b k. ap (λ (q : BoxPlace). q.lines) (same b k) ∙ (p.placed b k).lines;
        listed = h.listed;
        free = h.free;
        restricted = h.restricted;
        received = h.received;
        exposed = h.exposed;
      };
      bound = λ b k. subst (Binds image b) (sym (same b k)) (f b k);
    }

-- the names that the lines of the boxes before b bind are put into their places
pub record BoundSoFar (image : List ℕ) (n b : ℕ) (each : List BoxPlace) : Type 0 where
  pub places : Placed image n each
  pub binders : (c : ℕ) → c < b → Binds image c (get_or each c nowhere)

pub bound_start : (image : List ℕ) (l : Layout) → blocks_fault image ≡ none → FrameOf image l → length l.each ≡ 8 → BoundSoFar image l.boxes 0 (take l.boxes l.each)
bound_start image l f h e = record { places = placed_start image l f h e; binders = λ c l. absurd (omega arith) }

module _ (image : List ℕ) (l : Layout) (f : blocks_fault image ≡ none) (h : FrameOf image l) (b : ℕ) (each : List BoxPlace) (p : BoundSoFar image l.boxes b each) where
  module _ (q : b < length (take l.boxes l.each)) where
    here : PlaceOf image b (get_or each b nowhere)
    here = p.places.placed b (inside image l f h b (in_boxes image l f h b q))

    pub bound-there : LinesThere image (get_or each b nowhere).at (get_or each b nowhere).lines
    bound-there = (place_lines image f b (inside image l f h b (in_boxes image l f h b q)) (get_or each b nowhere) here).there

    pub bound_more : (w : ℕ) → SetOf w (bound_in image (get_or each b nowhere).at (get_or each b nowhere).lines)
        → BoundSoFar image l.boxes (b + 1) (set each b (bound_to (get_or each b nowhere) w))
    bound_more w s =
        let z = in_boxes image l f h b q in
        record {
          places = placed_turn image l.boxes each p.places b w z;
          binders = set_entry nowhere (Binds image) each b (bound_to (get_or each b nowhere) w) (omega (arith, z, p.places.long)) p.binders
              (λ n z. s.at n z ∙ ap₂ (λ (i m : ℕ). bound_in image i m n) here.at here.lines ∙ bound_box image b n);
        }

  pub bound_end : length l.each ≡ 8 → length (take l.boxes l.each) ≤ b → (rest : List BoxPlace)
      → LayoutOf image (record { names = l.names; boxes = l.boxes; each = each ++ rest; kinds = l.kinds })
  bound_end e q rest = placed_layout image l each rest h p.places (λ c k. p.binders c (omega (arith, k, h.boxes, past_boxes image l f h b e q)))

-- the names that a layout says a box binds are those of the model's box
pub binds_in_lem : (image : List ℕ) (l : Layout) → blocks_fault image ≡ none → LayoutOf image l → (b : ℕ) → b < l.boxes
    → SetOf (get_or l.each b nowhere).bound (binds_in (box_at (model_of image) b))
binds_in_lem image l f h b q =
    let k = inside image l f h.frame b q in
    record { at = λ n z. h.bound b k n z ∙ ap (λ (x : Box). binds_in x n) (sym (model_box image b k)) }

pub ruleset bounds = (rules, boxes_there, bound_start, bound-there, bound_more, bound_end)
