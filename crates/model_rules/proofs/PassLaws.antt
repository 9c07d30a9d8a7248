-- Laws of the passes over the whole model. Assumes nothing.
use mathlib.Core.Path.{◌≡◌, refl, sym, ap, ap₂, ◌∙◌}
use mathlib.Core.Bool.{Bool}
use mathlib.Core.List.{List}
use mathlib.Core.Option.{Option, none, some}
use Prim.Native.Nat.{ℕ, ◌+◌, ◌≤◌, ◌<◌}
use native.Mathlib.Omega.{arith}
use borrow.Author.Rules.{rules}
use lib.ListN.{get_or}
use Rattle.definitions.specs.Bounded.{◌or◌, ◌is◌, or_else, first_below}
use Rattle.definitions.specs.Sets.{has}
use Rattle.definitions.specs.Words.{block_of}
use Rattle.definitions.specs.Answer.{Refusal}
use Rattle.definitions.specs.Model.{Site, Box, Model, site_at, box_at, site_count, line_count, box_count, binds_in}
use Rattle.definitions.specs.Image.{site_record, model_of}
use Rattle.definitions.specs.ReadModel.{used_before, site_fits, bound_before, reach_fits, first_misfit, blocks_fault, model_fault}
use Rattle.definitions.proofs.Bounded.{any_cong}
use Rattle.definitions.proofs.Loops.{Passed, passed_start, passed-turn, passed_stop, passed_end}
use Rattle.definitions.proofs.Faults.{faults}
use Rattle.definitions.proofs.Image.{model_count}
use Rattle.layouts.specs.declared.Layout.{Layout}
use Rattle.records.specs.NameSets.{SetOf}
use Rattle.box_runs.specs.Runs.{TreesFit, box_misfit, subject_in}
use Rattle.model_rules.specs.Passes.{sites_misfit, lines_misfit, trees_misfit, reach_misfit}
use Rattle.layouts.specs.LayoutOf.{nowhere, FrameOf, LayoutOf}
use Rattle.layouts.proofs.Before.{used_none, bound_none, used_first, bound_first, used_next, bound_next}
use Rattle.layouts.proofs.FrameLaws.{framed, in_model_lem, lines_at, sites-at, site-there, site_few, free_in, kinds_in, free_or_unlisted_in}
use Rattle.layouts.proofs.LayoutLaws.{right}
use Rattle.layouts.proofs.BoundLaws.{binds_in_lem}
use Rattle.refusals.proofs.Answers.{else_first, else_next}
use Rattle.records.proofs.PlaceLaws.{site-at, site-count, line-count}

-- ---- boxes ascending

-- the first misfit of box b of a model
abbrev of_box : ℕ → Model → (Box → ℕ) → (ℕ → ℕ → Bool) → ℕ → Option Refusal
of_box number m count fits b = box_misfit number (count (box_at m b)) fits b

-- of so many boxes of a model, those before b have no misfit
pub record BoxesFit (m : Model) (boxes number : ℕ) (count : Box → ℕ) (fits : ℕ → ℕ → Bool) (b : ℕ) : Type 0 where
  pub few : boxes ≤ 8
  pub whole : boxes ≡ box_count m
  pub passed : Passed boxes (of_box number m count fits) b

module _ (m : Model) (boxes number : ℕ) (count : Box → ℕ) (fits : ℕ → ℕ → Bool) (b : ℕ) (p : BoxesFit m boxes number count fits b) where
  module _ (n : ℕ) (l : b < boxes) (c : n ≡ count (box_at m b)) where
    found : box_misfit number n fits b ≡ of_box number m count fits b
    found = ap (λ (i : ℕ). box_misfit number i fits b) c

    boxes_turn : none ≡ box_misfit number n fits b → BoxesFit m boxes number count fits (b + 1)
    boxes_turn e = record { few = p.few; whole = p.whole; passed = passed-turn boxes (of_box number m count fits) b p.passed l (e ∙ found) }

    boxes_stop : (r : Refusal) → some r ≡ box_misfit number n fits b → some r ≡ first_misfit number m count fits
    unfolding first_misfit box_misfit
    boxes_stop r e =
        passed_stop boxes (of_box number m count fits) b r p.passed l (e ∙ found) ∙ ap (λ (n : ℕ). first_below n (of_box number m count fits)) p.whole

  pub boxes_end : boxes ≤ b → none ≡ first_misfit number m count fits
  unfolding first_misfit box_misfit
  boxes_end l = passed_end boxes (of_box number m count fits) b p.passed l ∙ ap (λ (n : ℕ). first_below n (of_box number m count fits)) p.whole

module _ (image : List ℕ) (l : Layout) (f : blocks_fault image ≡ none) (h : FrameOf image l) where
  pub boxes_start : (number : ℕ) (count : Box → ℕ) (fits : ℕ → ℕ → Bool) → BoxesFit (model_of image) l.boxes number count fits 0
  boxes_start number count fits = record {
    few = (let e = h.boxes in let k = (right image f).head.boxes in omega arith);
    whole = h.boxes ∙ sym (model_count image);
    passed = passed_start l.boxes (of_box number (model_of image) count fits);
  }

-- ---- 6

pub record SitesPass (image : List ℕ) (boxes b used : ℕ) : Type 0 where
  pub boxes_fit : BoxesFit (model_of image) boxes 6 site_count (site_fits (model_of image)) b
  pub used_up : SetOf used (used_before (model_of image) b 0)

pub six_start : (image : List ℕ) (l : Layout) → blocks_fault image ≡ none → FrameOf image l → SitesPass image l.boxes 0 0
six_start image l f h = record {
  boxes_fit = boxes_start image l f h 6 site_count (site_fits (model_of image));
  used_up = used_none (model_of image);
}

module _ (image : List ℕ) (l : Layout) (b used : ℕ) (f : blocks_fault image ≡ none) (h : FrameOf image l) (p : SitesPass image l.boxes b used) (q : b < l.boxes) where
  pub six_turn : (s r : ℕ) → none ≡ box_misfit 6 (get_or l.each b nowhere).sites (site_fits (model_of image)) b
      → SetOf s (subject_in (block_of image (get_or l.each b nowhere).at) (get_or l.each b nowhere).sites) → ((m : ℕ) → has r m ≡ (has used m or has s m)) → SitesPass image l.boxes (b + 1) r
  unfolding used_before subject_in
  six_turn s r e t u =
      let m = model_of image in
      let k = (get_or l.each b nowhere).at in
      let n = (get_or l.each b nowhere).sites in
      let at = sites-at image l f h b q in
      let count = site-count image b k n at in
      record {
        boxes_fit = boxes_turn m l.boxes 6 site_count (site_fits m) b p.boxes_fit n q count e;
        used_up = record {
          at = λ x g.
              u x
              ∙ ap₂ ◌or◌ (p.used_up.at x g ∙ used_first m b x)
              (t.at x g
              ∙ any_cong n (λ j. (site_record (block_of image k) j).subject is x) (λ j. (site_at (box_at m b) j).subject is x)
              (λ j w. ap (λ (y : Site). y.subject is x) (site-at image b k n at j w)))
              ∙ used_next m b x n count;
        };
      }

  pub six_stop : (r : Refusal) → some r ≡ box_misfit 6 (get_or l.each b nowhere).sites (site_fits (model_of image)) b → some r ≡ sites_misfit (model_of image)
  six_stop r e =
      boxes_stop (model_of image) l.boxes 6 site_count (site_fits (model_of image)) b p.boxes_fit (get_or l.each b nowhere).sites q
      (site-count image b (get_or l.each b nowhere).at (get_or l.each b nowhere).sites (sites-at image l f h b q)) r e

-- ---- 7, 8 and 9, of the lines

module _ (image : List ℕ) (l : Layout) (b : ℕ) (f : blocks_fault image ≡ none) (h : FrameOf image l) (q : b < l.boxes) where
  lines_counted : (get_or l.each b nowhere).lines ≡ line_count (box_at (model_of image) b)
  lines_counted = line-count image b (get_or l.each b nowhere).at (get_or l.each b nowhere).lines (lines_at image l f h b q)

  module _ (number : ℕ) (fits : ℕ → ℕ → Bool) (p : BoxesFit (model_of image) l.boxes number line_count fits b) where
    pub lines_turn : none ≡ box_misfit number (get_or l.each b nowhere).lines fits b → BoxesFit (model_of image) l.boxes number line_count fits (b + 1)
    lines_turn e = boxes_turn (model_of image) l.boxes number line_count fits b p (get_or l.each b nowhere).lines q lines_counted e

    pub lines_stop : (r : Refusal) → some r ≡ box_misfit number (get_or l.each b nowhere).lines fits b → some r ≡ first_misfit number (model_of image) line_count fits
    lines_stop r e = boxes_stop (model_of image) l.boxes number line_count fits b p (get_or l.each b nowhere).lines q lines_counted r e

-- ---- 9

pub record ReachPass (image : List ℕ) (boxes b bound : ℕ) : Type 0 where
  pub boxes_fit : BoxesFit (model_of image) boxes 9 line_count (reach_fits (model_of image)) b
  pub bound_up : SetOf bound (bound_before (model_of image) b 0)

pub nine_start : (image : List ℕ) (l : Layout) → blocks_fault image ≡ none → FrameOf image l → ReachPass image l.boxes 0 0
nine_start image l f h = record {
  boxes_fit = boxes_start image l f h 9 line_count (reach_fits (model_of image));
  bound_up = bound_none (model_of image);
}

pub trees_fit : (image : List ℕ) (l : Layout) (b : ℕ) → blocks_fault image ≡ none → FrameOf image l → trees_misfit (model_of image) ≡ none → b < l.boxes
    → TreesFit image b (get_or l.each b nowhere).lines
unfolding first_misfit
trees_fit image l b f h t q =
    let fits = simp faults at t in
    record { fits = λ i z. fits b (in_model_lem image l f h b q) i (let k = lines_counted image l b f h q in omega arith) }

module _ (image : List ℕ) (l : Layout) (b bound : ℕ) (f : blocks_fault image ≡ none) (h : LayoutOf image l) (p : ReachPass image l.boxes b bound) (q : b < l.boxes) where
  pub nine_turn : (r : ℕ) → none ≡ box_misfit 9 (get_or l.each b nowhere).lines (reach_fits (model_of image)) b
      → ((m : ℕ) → has r m ≡ (has bound m or has (get_or l.each b nowhere).bound m)) → ReachPass image l.boxes (b + 1) r
  unfolding bound_before binds_in
  nine_turn r e u =
      let m = model_of image in
      record {
        boxes_fit = lines_turn image l b f h.frame q 9 (reach_fits m) p.boxes_fit e;
        bound_up = record {
          at = λ x g.
              u x ∙ ap₂ ◌or◌ (p.bound_up.at x g ∙ bound_first m b x) ((binds_in_lem image l f h b q).at x g) ∙ bound_next m b x (line_count (box_at m b)) refl;
        };
      }

-- ---- the whole model

pub all_parts : (m : Model) → model_fault m ≡ or_else (sites_misfit m) (or_else (lines_misfit m) (or_else (trees_misfit m) (reach_misfit m)))
unfolding model_fault
all_parts m = refl

pub ruleset passes = (rules, framed, site-there, site_few, lines_at, sites-at, free_in, kinds_in, free_or_unlisted_in, trees_fit, six_stop, lines_stop)

pub ruleset parts = (rules, framed, all_parts, else_first, else_next)
