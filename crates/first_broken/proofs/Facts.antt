-- What is known once neither image is refused: places in the images, and the bounds of the names. Assumes nothing.
use mathlib.Core.Path.{◌≡◌, sym, ap, subst, ◌∙◌}
use mathlib.Core.Bool.{Bool, true, false}
use mathlib.Core.List.{List}
use mathlib.Core.Logic.{◌≢◌}
use Prim.Native.Nat.{ℕ, ◌+◌, ◌*◌, ◌/◌, ◌%◌, ◌≤◌, ◌<◌}
use native.Mathlib.Omega.{arith}
use native.Mathlib.Decide.{ℕ_discrete}
use lib.Dec.{T}
use lib.ListN.{length}
use Rattle.definitions.specs.Bounded.{◌is◌, ◌below◌}
use Rattle.definitions.specs.Sets.{has}
use Rattle.definitions.specs.Words.{block_of, count_of}
use Rattle.definitions.specs.Model as paper
use Rattle.definitions.specs.Image.{site_record, line_record, name_count, boxes_of, kinds_of, sites_block, lines_of, box_of_image, model_of}
use Rattle.definitions.specs.Estimate.{estimate_of}
use Rattle.definitions.specs.ReadModel.{line_fits, type_fits, uses_name1, uses_name2}
use Rattle.definitions.proofs.Bounded.{tests, and_iff, below_iff, true_of, of_true, not-false}
use Rattle.definitions.proofs.Faults.{not_iff}
use Rattle.definitions.proofs.Sets.{for_each_iff, has-none}
use Rattle.definitions.proofs.Image.{model_count, model_box, box_sites, box_site, box_lines, box_line}
use Rattle.definitions.proofs.Valid.{Valid}
use Rattle.definitions.proofs.ReadModel.{Blocks, read_iff, valid_image, lines_there, lines_most, sites-there}
use Rattle.definitions.proofs.ReadEstimate.{EstimateFits, estimate_fits}
use Rattle.records.specs.declared.Site.{Site}
use Rattle.layouts.specs.declared.Layout.{Layout}
use Rattle.records.specs.Records.{site_in}
use Rattle.records.specs.Places.{LinesThere, LinesAt}
use Rattle.layouts.specs.LayoutOf.{OfKind, LayoutOf}
use Rattle.sets.specs.Names.{NamesOnly}
use Rattle.estimate.specs.Known.{BoxOfNames, EstimateOfNames}
use Rattle.clauses.specs.Known.{LineOfNames}
use Rattle.line_gather.specs.Gathered.{LinesOfNames}
use Rattle.first_broken.specs.Known.{Unrefused}

-- a line that fits names names of the list, or 0; its type is a set of names of the list, or none
line_fits_lem : (kinds : List ℕ) (l : paper.Line) → length kinds ≤ 60 → T (line_fits kinds l) → LineOfNames l
unfolding line_fits type_fits
line_fits_lem kinds l few t =
    let p = simp (tests, not_iff, for_each_iff) at t in
    record {
      first = pick (uses_name1 l.op) p.0.0.0.0.0.0.0.0.0.1 p.0.0.0.0.0.0.0.0.1;
      second = pick (uses_name2 l.op) p.0.0.0.0.0.0.0.1 p.0.0.0.0.0.0.1;
      type = typed (ℕ_discrete l.op paper.expose) (λ e. (p.0.1 e).1.0.1) p.1;
    }
  where
    pick : {n : ℕ} (b : Bool) → (T b → n < length kinds) → ((T b → ⊥) → n ≡ 0) → n < 60
    pick true f g = let h = f tt in omega arith
    pick false f g = let h = g (λ t. t) in omega arith

    typed : Dec (l.op ≡ paper.expose) → (l.op ≡ paper.expose → (n : ℕ) → n < 64 → T (has l.type n) → n < length kinds)
        → (l.op ≢ paper.expose → l.type ≡ 0) → NamesOnly l.type
    typed (yes e) f g = record { below = λ n h u. let k = f e n h u in omega arith }
    typed (no e) f g = record { below = λ n h u. absurd (not-false (ap (λ (x : ℕ). has x n) (g e) ∙ has-none n) u) }

module _ (model estimate : List ℕ) (u : Unrefused model estimate) where
  valid : Valid (model_of model)
  valid = valid_image model u.model

  blocks : Blocks model
  blocks = ((read_iff model).0 u.model).blocks

  fits : EstimateFits (name_count model) (boxes_of model) estimate
  fits = estimate_fits (name_count model) (boxes_of model) estimate u.estimate

  names_60 : name_count model ≤ 60
  names_60 = blocks.head.names

  boxes_8 : boxes_of model ≤ 8
  boxes_8 = blocks.head.boxes

  kinds_60 : length (model_of model).kinds ≤ 60
  kinds_60 = valid.names

  pub box_8 : (l : Layout) (b : ℕ) → LayoutOf model l → b < l.boxes → b < 8
  box_8 l b h i = omega (arith, boxes_8, h.frame.boxes)

  pub count_60 : (l : Layout) → LayoutOf model l → l.names ≤ 60
  count_60 l h = omega (arith, names_60, h.frame.names)

  -- the names of a kind
  pub kind_names : (k s : ℕ) → OfKind model k s → NamesOnly s
  kind_names k s f = record {
    below = λ n l t.
        let g = (and_iff (n below name_count model) (paper.kind_of_name (kinds_of model) n is k)).0 (of_true (sym (f n l) ∙ true_of (has s n) t)) in
        omega (arith, names_60, (below_iff n (name_count model)).0 g.0);
  }

  pub estimate_512 : 512 ≤ length estimate
  estimate_512 = omega (arith, fits.size)

  names_only : (s : ℕ) → ((a : ℕ) → T (has s a) → a < name_count model) → NamesOnly s
  names_only s f = record { below = λ a l t. omega (arith, f a t, names_60) }

  pub names_boxes : (boxes : ℕ) → boxes ≡ boxes_of model → EstimateOfNames estimate boxes
  names_boxes boxes e = rw e (record {
    there = omega (arith, fits.size);
    most = boxes_8;
    rho = λ n h. names_only ((estimate_of estimate).rho n) (fits.rho n h);
    shown = λ b h. names_only ((estimate_of estimate).shown b) (fits.shown b h);
  })

  module _ (b : ℕ) (inside : b < boxes_of model) where
    pub box_names : BoxOfNames estimate b
    box_names = record {
      there = omega (arith, fits.size);
      rho = λ n h. names_only ((estimate_of estimate).rho n) (fits.rho n h);
      shown = names_only ((estimate_of estimate).shown b) (fits.shown b inside);
    }

    pub eps_there : 512 * (2 + 2 * b) ≤ length estimate
    eps_there = omega (arith, fits.size)

    in_model_lem : b < paper.box_count (model_of model)
    in_model_lem = rw (model_count model) inside

    same_box : paper.box_at (model_of model) b ≡ box_of_image model b
    same_box = model_box model b inside

    module _ (k : ℕ) (at : k ≡ sites_block model b) where
      pub site-there : 512 * (k + 1) ≤ length model
      site-there = rw at (sites-there model blocks b inside)

      module _ (i : ℕ) where
        pub site-at : i < count_of (block_of model k) → paper.site_at (paper.box_at (model_of model) b) i ≡ site_record (block_of model k) i
        site-at h =
            ap (λ (x : paper.Box). paper.site_at x i) same_box ∙ box_site model b i (rw at at h) ∙ ap (λ (j : ℕ). site_record (block_of model j) i) (sym at)

        site_in_lem : i < count_of (block_of model k) → i < paper.site_count (paper.box_at (model_of model) b)
        site_in_lem h = rw (same_box, box_sites model b) (rw at at h)

        pub site_31 : i < count_of (block_of model k) → i < 31
        site_31 h = omega (arith, site_in_lem h, (valid.box b in_model_lem).most_sites)

        pub site_62 : (s : Site) → i < count_of (block_of model k) → site_in s ≡ site_record (block_of model k) i → s.subject.0 < 62
        site_62 s h e =
            let l : s.subject.0 < length (model_of model).kinds =
            subst (λ (x : paper.Site). x.subject < length (model_of model).kinds) (site-at h ∙ sym e) ((valid.box b in_model_lem).site i (site_in_lem h)).listed in
            omega (arith, kinds_60)

        line-at : i < lines_of model b → paper.line_at (paper.box_at (model_of model) b) i ≡ line_record (block_of model (k + 1 + i / 31)) (i % 31)
        line-at h =
            ap (λ (x : paper.Box). paper.line_at x i) same_box ∙ box_line model b i h
            ∙ ap (λ (j : ℕ). line_record (block_of model (j + 1 + i / 31)) (i % 31)) (sym at)

        line_in_lem : i < lines_of model b → i < paper.line_count (paper.box_at (model_of model) b)
        line_in_lem h = rw (same_box, box_lines model b) h

        line-there : i < lines_of model b → 512 * (k + 1 + i / 31 + 1) ≤ length model
        line-there h = rw at (lines_there model blocks b inside i h)

        record_names : i < lines_of model b → LineOfNames (line_record (block_of model (k + 1 + i / 31)) (i % 31))
        record_names h =
            subst LineOfNames (line-at h)
            (line_fits_lem (model_of model).kinds (paper.line_at (paper.box_at (model_of model) b) i) kinds_60
            (((read_iff model).0 u.model).model.lines b in_model_lem i (line_in_lem h)))

    -- the lines of the box
    module _ (k n : ℕ) (at : k ≡ sites_block model b) (en : n ≡ lines_of model b) where
      pub lines_whole : LinesThere model k n
      lines_whole = record { few = omega (arith, lines_most model blocks b inside, en); there = λ i h. line-there k at i (rw en at h) }

      pub lines_named : LinesOfNames model k n
      lines_named = record { there = lines_whole; each = λ i h. record_names k at i (rw en at h) }

      pub lines_at : LinesAt model b k n
      lines_at = record { inside = inside; at = at; lines = en; there = lines_whole }
