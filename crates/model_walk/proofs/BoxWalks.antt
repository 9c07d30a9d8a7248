-- Laws of the walk over all boxes: what holds after b boxes where no wrong digit was found. Assumes nothing.
use mathlib.Core.Path.{◌≡◌, refl, sym, ap, ap₂, ◌∙◌, subst}
use mathlib.Core.Bool.{Bool, true, false, not}
use mathlib.Core.List.{List, ◌++◌}
use mathlib.Core.Logic.{inl}
use mathlib.Core.Option.{none}
use Prim.Native.Nat.{ℕ, ◌+◌, ◌*◌, ◌≤◌, ◌<◌}
use native.Mathlib.Omega.{arith}
use borrow.Author.Rules.{rules}
use lib.Dec.{T, eqb}
use Rattle.std.specs.Prelude as code
use Rattle.std.specs.Prelude.{IfSome}
use Rattle.std.specs.Bool.{then_some}
use Rattle.std.proofs.lemmas.Bool.{eqb-true}
use lib.Bits.{bit_or}
use lib.ListN.{length, get_or, set, take}
use Rattle.definitions.specs.Bounded.{◌and◌, ◌or◌, ◌is◌, ◌implies◌, any_below}
use Rattle.definitions.specs.Sets.{has}
use Rattle.definitions.specs.Model.{Box, Model, line_at, box_at, site_count, line_count, kind_of_name, binds, binds_in, bound_above}
use Rattle.definitions.specs.Image.{model_of}
use Rattle.definitions.specs.ReadModel.{used_before, site_fits, uses, bound_before, reach_fits, blocks_fault}
use Rattle.definitions.proofs.Bounded.{and_iff, or_iff, implies_iff, all_iff}
use Rattle.definitions.proofs.Faults.{not_iff}
use Rattle.definitions.proofs.Image.{model_box}
use Rattle.definitions.proofs.ReadModel.{sites_most}
use Rattle.definitions.proofs.Valid.{fits_iff, binds_in_iff}
use Rattle.records.specs.NameSets.{SetOf, lacks}
use Rattle.records.specs.Places.{LinesThere, SitesAt, LinesAt}
use Rattle.records.proofs.PlaceLaws.{site-count, line-count}
use Rattle.box_runs.specs.Runs.{line_fit, tree_fit}
use Rattle.line_table.specs.Told.{Empty}
use Rattle.line_walk.specs.Told.{LinesTold}
use Rattle.line_walk.proofs.Walks.{one_more}
use Rattle.line_table.proofs.Digits.{empty_zero, empty_or_left, empty_or_right}
use Rattle.layouts.specs.declared.Layout.{Layout}
use Rattle.layouts.specs.declared.BoxPlace.{BoxPlace}
use Rattle.layouts.specs.LayoutOf.{nowhere, FrameOf}
use Rattle.layouts.proofs.LayoutLaws.{set_entry}
use Rattle.layouts.proofs.Before.{used_none, bound_none, bound_first, used_next, bound_next}
use Rattle.layouts.proofs.FrameLaws.{PlaceOf, place_sites, place_lines, inside, in_room, boxes_there, in_boxes, past_boxes, past_model, few_kinds, free_in, kinds_in}
use Rattle.layouts.proofs.BoundLaws.{bound_to, Binds, Placed, placed_start, placed_turn, placed_layout}
use Rattle.model_walk.specs.Sites.{SitesTold}
use Rattle.model_walk.specs.Boxes.{BoxesTold}

-- ---- what a box binds: what is bound up to its end, less what was bound before it

-- a name that a line binds for the first time is bound by no earlier box
bound_new : (m : Model) (b i n : ℕ) → n < 64 → T (reach_fits m b i) → T (binds (line_at (box_at m b) i) n) → T (any_below b (λ c. binds_in (box_at m c) n)) → ⊥
unfolding reach_fits bound_before
bound_new m b i n h t u a =
    let l = line_at (box_at m b) i in
    let before : ℕ → Bool = λ n. any_below b (λ c. binds_in (box_at m c) n) or any_below i (λ j. binds (line_at (box_at m b) j) n) in
    let one = (all_iff 64 (λ n. (uses l n implies kind_of_name m.kinds n is 0 or bound_above (box_at m b) i n) and (binds l n implies not (before n)))).0 t n h in
    (not_iff (before n)).0 ((implies_iff (binds l n) (not (before n))).0 ((and_iff _ (binds l n implies not (before n))).0 one).1 u)
    ((or_iff (any_below b (λ c. binds_in (box_at m c) n)) (any_below i (λ j. binds (line_at (box_at m b) j) n))).1 (inl a))

-- what is in either and not in the first is in the second
or_less : (a b : Bool) → (T b → T a → ⊥) → ((a or b) and not a) ≡ b
unfolding ◌or◌ ◌and◌
or_less true true f = absurd (f tt tt)
or_less true false f = refl
or_less false true f = refl
or_less false false f = refl

module _ (m : Model) (b n seen now rest r : ℕ) (rests : SetOf rest (lacks seen)) (less : (x : ℕ) → has r x ≡ (has now x and has rest x)) (count : n ≡ line_count (box_at m b)) (before : SetOf seen (bound_before m b 0)) (after : SetOf now (bound_before m b n))
    (reach : (i : ℕ) → i < n → T (reach_fits m b i)) where
  bound_here : (x : ℕ) → x < 64 → has r x ≡ binds_in (box_at m b) x
  unfolding lacks bound_before binds_in
  bound_here x h =
      let early = any_below b (λ c. binds_in (box_at m c) x) in
      let here = binds_in (box_at m b) x in
      less x
      ∙ ap₂ ◌and◌
      (after.at x h ∙ ap (λ (i : ℕ). early or any_below i (λ j. binds (line_at (box_at m b) j) x)) count)
      (rests.at x h ∙ ap not (before.at x h ∙ bound_first m b x))
      ∙ or_less early here
      (λ t a. let w = (binds_in_iff (box_at m b) x).0 t in bound_new m b w.0 x h (reach w.0 (omega (arith, w.1, count))) w.2 a)

-- ---- after b boxes

pub record BoxesRight (image : List ℕ) (b used seen : ℕ) (each : List BoxPlace) : Type 0 where
  pub sites : (c : ℕ) → c < b → (i : ℕ) → i < site_count (box_at (model_of image) c) → T (site_fits (model_of image) c i)
  pub lines : (c : ℕ) → c < b → (i : ℕ) → i < line_count (box_at (model_of image) c) → T (line_fit (model_of image) c i)
  pub trees : (c : ℕ) → c < b → (i : ℕ) → i < line_count (box_at (model_of image) c) → T (tree_fit (model_of image) c i)
  pub reaches : (c : ℕ) → c < b → (i : ℕ) → i < line_count (box_at (model_of image) c) → T (reach_fits (model_of image) c i)
  pub used_up : SetOf used (used_before (model_of image) b 0)
  pub bound_up : SetOf seen (bound_before (model_of image) b 0)
  pub binders : (c : ℕ) → c < b → Binds image c (get_or each c nowhere)

pub record BoxWalk (image : List ℕ) (n b used seen bad : ℕ) (each : List BoxPlace) : Type 0 where
  pub places : Placed image n each
  pub told : Empty bad → BoxesRight image b used seen each

module _ (image : List ℕ) (l : Layout) (f : blocks_fault image ≡ none) (h : FrameOf image l) where
  -- no box yet
  pub boxes_start : length l.each ≡ 8 → BoxWalk image l.boxes 0 0 0 0 (take l.boxes l.each)
  boxes_start e = record {
    places = placed_start image l f h e;
    told = λ _. record {
      sites = λ c l. absurd (omega arith);
      lines = λ c l. absurd (omega arith);
      trees = λ c l. absurd (omega arith);
      reaches = λ c l. absurd (omega arith);
      used_up = used_none (model_of image);
      bound_up = bound_none (model_of image);
      binders = λ c l. absurd (omega arith);
    };
  }

  -- a next box
  module _ (b : ℕ) (each : List BoxPlace) (p : Placed image l.boxes each) (w : b < length (take l.boxes l.each)) where
    q : b < l.boxes
    q = in_boxes image l f h b w

    here : PlaceOf image b (get_or each b nowhere)
    here = p.placed b (inside image l f h b q)

    sites_here : SitesAt image b (get_or each b nowhere).at (get_or each b nowhere).sites
    sites_here = place_sites image f b (inside image l f h b q) (get_or each b nowhere) here

    lines_here : LinesAt image b (get_or each b nowhere).at (get_or each b nowhere).lines
    lines_here = place_lines image f b (inside image l f h b q) (get_or each b nowhere) here

    pub site_there : 512 * ((get_or each b nowhere).at + 1) ≤ length image
    site_there = sites_here.there

    pub site_few : (get_or each b nowhere).sites ≤ 31
    site_few = omega (arith, sites_here.few)

    pub line_there : LinesThere image (get_or each b nowhere).at (get_or each b nowhere).lines
    line_there = lines_here.there

    pub block_few : (get_or each b nowhere).at < 100
    block_few = omega (arith, here.at, sites_most image b, in_room image l f h b q)

    pub boxes_turn : (used seen bad : ℕ) → BoxWalk image l.boxes b used seen bad each → (sb su wb ws rest r : ℕ) → SitesTold image (get_or each b nowhere).at (get_or each b nowhere).sites l.kinds.free used sb su
        → LinesTold image (get_or each b nowhere).at (get_or each b nowhere).lines l.kinds.listed l.kinds.restricted l.kinds.received l.kinds.exposed l.kinds.free seen wb ws
        → SetOf rest (lacks seen) → ((x : ℕ) → has r x ≡ (has ws x and has rest x)) → BoxWalk image l.boxes (b + 1) su ws (bit_or bad (bit_or sb wb)) (set each b (bound_to (get_or each b nowhere) r))
    boxes_turn used seen bad v sb su wb ws rest r s t rests less = record {
      places = placed_turn image l.boxes each p b r q;
      told = λ e.
          let m = model_of image in
          let at-sites = sites_here in
          let at_lines = lines_here in
          let frees = free_in image l f h in
          let two = empty_or_right bad (bit_or sb wb) e in
          let so = v.told (empty_or_left bad (bit_or sb wb) e) in
          let x = s.tells (empty_or_left sb wb two) b (record { at = at-sites; few = few_kinds image l f h; frees = frees; before = so.used_up }) in
          let y = t.tells (empty_or_right sb wb two) b (record { at = at_lines; kinds = kinds_in image l f h; free = frees; before = so.bound_up }) in
          let sites : (get_or each b nowhere).sites ≡ site_count (box_at m b) = site-count image b (get_or each b nowhere).at (get_or each b nowhere).sites at-sites in
          let lines : (get_or each b nowhere).lines ≡ line_count (box_at m b) = line-count image b (get_or each b nowhere).at (get_or each b nowhere).lines at_lines in
          record {
            sites = one_more (λ c. (i : ℕ) → i < site_count (box_at m c) → T (site_fits m c i)) b so.sites (λ i z. x.sites i (omega (arith, sites)));
            lines = one_more (λ c. (i : ℕ) → i < line_count (box_at m c) → T (line_fit m c i)) b so.lines (λ i z. y.lines i (omega (arith, lines)));
            trees = one_more (λ c. (i : ℕ) → i < line_count (box_at m c) → T (tree_fit m c i)) b so.trees (λ i z. y.trees i (omega (arith, lines)));
            reaches = one_more (λ c. (i : ℕ) → i < line_count (box_at m c) → T (reach_fits m c i)) b so.reaches (λ i z. y.reach i (omega (arith, lines)));
            used_up = record { at = λ n z. x.before.at n z ∙ used_next m b n (get_or each b nowhere).sites sites };
            bound_up = record { at = λ n z. y.before.at n z ∙ bound_next m b n (get_or each b nowhere).lines lines };
            binders = set_entry nowhere (Binds image) each b (bound_to (get_or each b nowhere) r) (omega (arith, q, p.long)) so.binders
                (λ n z. bound_here m b (get_or each b nowhere).lines seen ws rest r rests less lines so.bound_up y.before y.reach n z
                ∙ ap (λ (x : Box). binds_in x n) (model_box image b (inside image l f h b q)));
          };
    }

-- all boxes
pub boxes_end : (image : List ℕ) (l : Layout) → blocks_fault image ≡ none → FrameOf image l → (b used seen bad : ℕ) (each rest : List BoxPlace)
    → BoxWalk image l.boxes b used seen bad each → length l.each ≡ 8 → length (take l.boxes l.each) ≤ b → bad ≡ 0
    → BoxesTold image (record { names = l.names; boxes = l.boxes; each = each ++ rest; kinds = l.kinds })
boxes_end image l f h b used seen bad each rest p n x e =
    let q = past_boxes image l f h b n x in
    let r = p.told (empty_zero bad e) in
    let past = past_model image l f h b q in
    record {
      model = (fits_iff (model_of image)).1 (record {
        sites = λ c k. r.sites c (omega arith);
        lines = λ c k. r.lines c (omega arith);
        trees = λ c k. r.trees c (omega arith);
        reaches = λ c k. r.reaches c (omega arith);
      });
      layout = placed_layout image l each rest h p.places (λ c k. r.binders c (omega (arith, h.boxes)));
    }

-- what is told where a word is 0
pub told_if : (image : List ℕ) (bad : ℕ) (l : Layout) (r : code.Option Layout) → r ≡ then_some (eqb bad 0) l → (bad ≡ 0 → BoxesTold image l)
    → IfSome r (λ l. BoxesTold image l)
told_if image bad l r e f = subst (λ (r : code.Option Layout). IfSome r (λ l. BoxesTold image l)) (sym e) (pick (eqb bad 0) (λ q. f (eqb-true bad 0 q)))
  where
    pick : (t : Bool) → (t ≡ true → BoxesTold image l) → IfSome (then_some t l) (λ l. BoxesTold image l)
    pick true g = g refl
    pick false g = tt

pub ruleset box_walks = (rules, boxes_there, site_there, site_few, line_there, block_few, boxes_start, boxes_turn, boxes_end)
