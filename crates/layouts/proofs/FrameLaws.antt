-- What the frame of a layout says of the model, in an image whose blocks are right. Assumes nothing.
use mathlib.Core.Path.{◌≡◌, refl, sym, ap, ap₂, ◌∙◌}
use mathlib.Core.Bool.{Bool, true, false, not}
use mathlib.Core.List.{List}
use mathlib.Core.Option.{none}
use Prim.Native.Nat.{ℕ, ◌+◌, ◌*◌, ◌≤◌, ◌<◌}
use native.Mathlib.Omega.{arith}
use native.Mathlib.Decide.{dec_lt}
use lib.ListN.{length, get_or, take}
use Rattle.std.proofs.lemmas.List.{length-take, length-take-le}
use Rattle.definitions.specs.Bounded.{◌and◌, ◌or◌, ◌is◌, ◌below◌}
use Rattle.definitions.specs.Sets.{has}
use Rattle.definitions.specs.Words.{block_of, count_of}
use Rattle.definitions.specs.Model.{box_count, listed, is_free, kind_of_name}
use Rattle.definitions.specs.Image.{name_count, boxes_of, kinds_of, sites_block, lines_of, model_of}
use Rattle.definitions.specs.ReadModel.{blocks_fault}
use Rattle.definitions.proofs.Bounded.{is_iff, below_iff, true_of, false_of}
use Rattle.definitions.proofs.Image.{model_count, model_names, kind_past}
use Rattle.definitions.proofs.ReadModel.{lines_most, lines_there, sites-there}
use Rattle.records.specs.NameSets.{SetOf, lacks}
use Rattle.records.specs.Places.{LinesAt, SitesAt}
use Rattle.record_rules.specs.Rules.{KindsIn, is_free_or_unlisted}
use Rattle.layouts.specs.declared.BoxPlace.{BoxPlace}
use Rattle.layouts.specs.declared.Layout.{Layout}
use Rattle.layouts.specs.LayoutOf.{nowhere, FrameOf, LayoutOf}
use Rattle.layouts.proofs.LayoutLaws.{right}

-- a layout has a frame
pub framed : (image : List ℕ) (l : Layout) → LayoutOf image l → FrameOf image l
framed image l h = h.frame

first : (b : Bool) → ((true and b) or not true) ≡ b
unfolding ◌and◌ ◌or◌
first true = refl
first false = refl

second : (b : Bool) → ((false and b) or not false) ≡ true
unfolding ◌and◌ ◌or◌
second b = refl

-- a place is that of box b, whatever names are bound in it
pub record PlaceOf (image : List ℕ) (b : ℕ) (p : BoxPlace) : Type 0 where
  pub at : p.at ≡ sites_block image b
  pub sites : p.sites ≡ count_of (block_of image (sites_block image b))
  pub lines : p.lines ≡ lines_of image b

module _ (image : List ℕ) (f : blocks_fault image ≡ none) (b : ℕ) (k : b < boxes_of image) (p : BoxPlace) (e : PlaceOf image b p) where
  pub place_lines : LinesAt image b p.at p.lines
  place_lines = record {
    inside = k;
    at = e.at;
    lines = e.lines;
    there = record {
      few = (let z = lines_most image (right image f) b k in omega (arith, e.lines));
      there = λ i z. rw e.at (lines_there image (right image f) b k i (omega (arith, e.lines)));
    };
  }

  pub place_sites : SitesAt image b p.at p.sites
  place_sites = record {
    inside = k;
    at = e.at;
    sites = e.sites ∙ ap (λ (i : ℕ). count_of (block_of image i)) (sym e.at);
    few = (let z = ((right image f).box b k).sites.most in omega (arith, e.sites));
    there = rw e.at (sites-there image (right image f) b k);
  }

module _ (image : List ℕ) (l : Layout) (f : blocks_fault image ≡ none) (h : FrameOf image l) where
  pub inside : (b : ℕ) → b < l.boxes → b < boxes_of image
  inside b q = let z = h.boxes in omega arith

  pub in_room : (b : ℕ) → b < l.boxes → b < 8
  in_room b q = let z = h.boxes in let k = (right image f).head.boxes in omega arith

  pub boxes_most : l.boxes ≤ 8
  boxes_most = let z = h.boxes in let k = (right image f).head.boxes in omega arith

  -- the places of the boxes are the first of all places
  pub boxes_there : length l.each ≡ 8 → l.boxes ≤ length l.each
  boxes_there e = omega (arith, boxes_most)

  pub in_boxes : (b : ℕ) → b < length (take l.boxes l.each) → b < l.boxes
  in_boxes b q = let z = length-take l.boxes l.each in omega arith

  pub past_boxes : (b : ℕ) → length l.each ≡ 8 → length (take l.boxes l.each) ≤ b → l.boxes ≤ b
  past_boxes b e q = let z = length-take-le l.boxes l.each (boxes_there e) in omega arith

  pub in_model_lem : (b : ℕ) → b < l.boxes → b < box_count (model_of image)
  in_model_lem b q = let z = model_count image in let k = inside b q in omega arith

  pub past_model : (b : ℕ) → l.boxes ≤ b → box_count (model_of image) ≤ b
  past_model b q = let z = model_count image in let k = h.boxes in omega arith

  pub place_in : (b : ℕ) → b < boxes_of image → PlaceOf image b (get_or l.each b nowhere)
  place_in b k = record { at = h.at b k; sites = h.sites b k; lines = h.lines b k }

  pub lines_at : (b : ℕ) → b < l.boxes → LinesAt image b (get_or l.each b nowhere).at (get_or l.each b nowhere).lines
  lines_at b q = place_lines image f b (inside b q) (get_or l.each b nowhere) (place_in b (inside b q))

  pub sites-at : (b : ℕ) → b < l.boxes → SitesAt image b (get_or l.each b nowhere).at (get_or l.each b nowhere).sites
  sites-at b q = place_sites image f b (inside b q) (get_or l.each b nowhere) (place_in b (inside b q))

  pub site-there : (b : ℕ) → b < l.boxes → 512 * ((get_or l.each b nowhere).at + 1) ≤ length image
  site-there b q = (sites-at b q).there

  pub site_few : (b : ℕ) → b < l.boxes → (get_or l.each b nowhere).sites ≤ 31
  site_few b q = let z = (sites-at b q).few in omega arith

  -- the kinds of names
  pub few_kinds : length (model_of image).kinds ≤ 60
  unfolding model_of
  few_kinds = let z = model_names image in let k = (right image f).head.names in omega arith

  listed-is : (n : ℕ) → (n below name_count image) ≡ listed (kinds_of image) n
  listed-is n = ap (λ (m : ℕ). n below m) (sym (model_names image))

  pub free_in : SetOf l.kinds.free (is_free (model_of image).kinds)
  unfolding model_of
  free_in = record { at = λ n q. h.free n q ∙ ap (λ (t : Bool). t and kind_of_name (kinds_of image) n is 0) (listed-is n) }

  pub kinds_in : KindsIn (model_of image).kinds l.kinds.listed l.kinds.restricted l.kinds.received l.kinds.exposed
  unfolding model_of
  kinds_in = record {
    few = (let z = model_names image in let k = (right image f).head.names in omega arith);
    all = record { at = λ n q. h.listed n q ∙ listed-is n };
    restricted = record { at = λ n q. h.restricted n q ∙ ap (λ (t : Bool). t and kind_of_name (kinds_of image) n is 1) (listed-is n) };
    received = record { at = λ n q. h.received n q ∙ ap (λ (t : Bool). t and kind_of_name (kinds_of image) n is 2) (listed-is n) };
    exposed = record { at = λ n q. h.exposed n q ∙ ap (λ (t : Bool). t and kind_of_name (kinds_of image) n is 3) (listed-is n) };
  }

  pub free_or_unlisted_in : (o p : ℕ) → SetOf o (lacks l.kinds.listed) → ((m : ℕ) → has p m ≡ (has l.kinds.free m or has o m)) → SetOf p (is_free_or_unlisted (model_of image).kinds)
  unfolding model_of lacks is_free_or_unlisted
  free_or_unlisted_in o p s u = record {
    at = λ n q. u n ∙ ap₂ ◌or◌ (h.free n q) (s.at n q ∙ ap not (h.listed n q)) ∙ pick n (dec_lt n (name_count image));
  }
    where
      pick : (n : ℕ) → Dec (n < name_count image)
          → ((n below name_count image and kind_of_name (kinds_of image) n is 0) or not (n below name_count image)) ≡ (kind_of_name (kinds_of image) n is 0)
      pick n (yes z) =
          ap (λ (t : Bool). (t and kind_of_name (kinds_of image) n is 0) or not t) (true_of (n below name_count image) ((below_iff n (name_count image)).1 z))
          ∙ first (kind_of_name (kinds_of image) n is 0)
      pick n (no z) =
          ap (λ (t : Bool). (t and kind_of_name (kinds_of image) n is 0) or not t) (false_of (n below name_count image) (λ t. z ((below_iff n (name_count image)).0 t)))
          ∙ second (kind_of_name (kinds_of image) n is 0) ∙ sym (true_of (kind_of_name (kinds_of image) n is 0) ((is_iff (kind_of_name (kinds_of image) n) 0).1 (kind_past image n (omega arith))))
