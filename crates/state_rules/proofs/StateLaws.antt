-- Laws of a whole state, decided by tables made once. Assumes nothing.
use mathlib.Core.Path.{◌≡◌, sym, ap, ap₂, subst, ◌∙◌}
use mathlib.Core.Bool.{Bool, true, false}
use mathlib.Core.List.{List}
use mathlib.Core.Logic.{◌↔◌}
use mathlib.Core.Option.{none}
use Prim.Native.Nat.{ℕ, ◌+◌, ◌-◌, ◌*◌, ◌≤◌, ◌<◌, zero-le}
use native.Mathlib.Omega.{arith}
use lib.Dec.{T}
use lib.ListN.{length, get_or}
use Rattle.std.specs.Prelude.{MatchBool}
use Rattle.std.specs.List.{range_with_len, AllWithin, HoldsAt}
use Rattle.std.proofs.lemmas.List.FromFn.{length-range_with_len, get_or-range_with_len}
use Rattle.definitions.specs.Bounded.{◌and◌, ◌or◌, ◌is◌, ◌below◌, all_below}
use Rattle.definitions.specs.Sets.{has}
use Rattle.definitions.specs.Model.{Model, Line, line_count, binds, box_at, box_count, listed, kind_of_name}
use Rattle.definitions.specs.Image.{name_count, kinds_of, model_of}
use Rattle.definitions.specs.ReadModel.{read_model}
use Rattle.definitions.specs.Record.{stamp_limit, stamp, threads, thread, line, record_of, last_stamps}
use Rattle.definitions.specs.StateRules.{clear, record_fits, state_fits}
use Rattle.definitions.proofs.Bounded.{tests, is_iff, upto_iff, all_iff, true_of, of_true, false_of, not-false}
use Rattle.definitions.proofs.Loops.{fails, holds, passing_start, passing_turn, passing_stop, passing_end}
use Rattle.definitions.proofs.StateRules.{state_iff}
use Rattle.definitions.proofs.Sets.{and-or}
use Rattle.definitions.proofs.Slots.{slot_length}
use Rattle.definitions.proofs.Image.{model_kinds, model_names, model_count}
use Rattle.definitions.proofs.ReadModel.{read_iff, valid_image}
use Rattle.sets.proofs.Ranges.{Each, One, each_in, one_in}
use Rattle.records.specs.Places.{LinesThere, LinesAt}
use Rattle.records.proofs.PlaceLaws.{line-at, line-count}
use Rattle.box_runs.specs.Runs.{TreesFit}
use Rattle.box_reach.specs.Reach.{HandedDownEach}
use Rattle.box_reach.proofs.ReachLaws.{bound_above_lem, handed-bound}
use Rattle.layouts.specs.declared.Layout.{Layout}
use Rattle.layouts.specs.LayoutOf.{nowhere, LayoutOf}
use Rattle.model.proofs.Models.{unrefused_room, unrefused_lines}
use Rattle.held_limits.specs.declared.Limit.{Limit}
use Rattle.held_limits.specs.Limits.{LimitsOf, last_fits, StampsFit, LimitsFor}
use Rattle.box_records.specs.Rules.{clear_between, SubjectsOf, AboveEach, StandBelow, NamesAbove, DecidesRecord}
use Rattle.box_records.proofs.WordLaws.{between_iff, slots_clear, slots_each}
use Rattle.state_rules.specs.Records.{record_fits_at}

-- ---- what a model that is not refused and its layout give

module _ (image : List ℕ) (l : Layout) (e : read_model image ≡ none) (h : LayoutOf image l) where
  boxes_are : l.boxes ≡ box_count (model_of image)
  boxes_are = h.frame.boxes ∙ sym (model_count image)

  pub few_boxes : l.boxes ≤ 8
  few_boxes = omega (arith, boxes_are, (valid_image image e).most_boxes)

  pub few_names : l.names ≤ 60
  few_names = omega (arith, h.frame.names, (valid_image image e).names, ap length (model_kinds image), model_names image)

  -- the names of kind 0 or 3
  pub subjects_of : (s : ℕ) → ((n : ℕ) → has s n ≡ (has l.kinds.free n or has l.kinds.exposed n)) → SubjectsOf (model_of image) s
  subjects_of s f = record {
    at = λ n q.
        f n ∙ ap₂ ◌or◌ (h.frame.free n q) (h.frame.exposed n q) ∙ and-or (n below name_count image) (kind_of_name (kinds_of image) n is 0) (kind_of_name (kinds_of image) n is 3)
        ∙ ap (λ (c : ℕ). n below c and (kind_of_name (kinds_of image) n is 0 or kind_of_name (kinds_of image) n is 3)) (sym (model_names image))
        ∙ ap (λ (kinds : List ℕ). listed kinds n and (kind_of_name kinds n is 0 or kind_of_name kinds n is 3)) (sym (model_kinds image));
  }

  module _ (b : ℕ) (q : b < l.boxes) where
    at_box_lem : LinesAt image b (get_or l.each b nowhere).at (get_or l.each b nowhere).lines
    at_box_lem = unrefused_lines image l e h b q

    in_model_lem : b < box_count (model_of image)
    in_model_lem = omega (arith, boxes_are)

    trees : TreesFit image b (get_or l.each b nowhere).lines
    trees = record {
      fits = λ i k. ((read_iff image).0 e).model.trees b in_model_lem i (omega (arith, line-count image b (get_or l.each b nowhere).at (get_or l.each b nowhere).lines at_box_lem));
    }

    module _ (r : List ℕ) (c : ℕ) (used : StandBelow r (get_or l.each b nowhere).lines 16 c) where
      pub used_lines : LinesThere image (get_or l.each b nowhere).at c
      used_lines = record { few = omega (arith, used.few, at_box_lem.there.few); there = λ i k. at_box_lem.there.there i (omega (arith, used.few)) }

      module _ (up : List ℕ) (d : HandedDownEach image (get_or l.each b nowhere).at c up) where
        above_each : AboveEach (box_at (model_of image) b) (get_or l.each b nowhere).lines up r (threads r)
        above_each = record {
          each = λ t _ k. record {
            count = line-count image b (get_or l.each b nowhere).at (get_or l.each b nowhere).lines at_box_lem;
            at = λ q. bound_above_lem image b (get_or l.each b nowhere).at (get_or l.each b nowhere).lines at_box_lem trees c used.few up d (line (thread r t)) (omega (arith, used.each t k q)) (omega (arith, used.few, used.each t k q));
          };
        }

        -- what the lines hand down is bound by a line, and so listed
        pub names_above : NamesAbove (get_or l.each b nowhere).lines up
        names_above = record {
          few = at_box_lem.there.few;
          names = λ i k. record {
            below = λ n s t.
                let small : i < 124 = omega (arith, at_box_lem.there.few) in
                let x = handed-bound image (get_or l.each b nowhere).at c i n (of_true (sym ((d.at i small).at n s) ∙ true_of (has (get_or up i 0) n) t)) in
                let there : x.0 < (get_or l.each b nowhere).lines = omega (arith, x.1, used.few) in
                let counted : x.0 < line_count (box_at (model_of image) b) = omega (arith, there, line-count image b (get_or l.each b nowhere).at (get_or l.each b nowhere).lines at_box_lem) in
                let binds_it = subst (λ (y : Line). T (binds y n)) (line-at image b (get_or l.each b nowhere).at (get_or l.each b nowhere).lines at_box_lem x.0 there) x.2 in
                omega (arith, (valid_image image e).names, (((valid_image image e).box b in_model_lem).line x.0 counted).binds_listed n binds_it);
          };
        }

-- ---- the records of the model's boxes

module _ (st : List ℕ) (b : ℕ) (r : List ℕ) (z : r ≡ record_of st b) where
  pub record_stamp : (boxes : ℕ) → StampsFit st boxes → b < boxes → stamp r ≤ stamp_limit
  unfolding last_fits last_stamps
  record_stamp boxes f h = subst (λ (x : List ℕ). stamp x ≤ stamp_limit) (sym z) ((upto_iff (stamp (record_of st b)) stamp_limit).0 ((all_iff boxes (last_fits st)).0 (of_true f.stamps) b h))

  pub record_is : (image : List ℕ) (l : Layout) (limits : List Limit) (up : List ℕ) (c s : ℕ) (t : Bool) → read_model image ≡ none → LayoutOf image l → b < l.boxes
      → LimitsOf (model_of image) (last_stamps st) limits → ((n : ℕ) → has s n ≡ (has l.kinds.free n or has l.kinds.exposed n))
      → StandBelow r (get_or l.each b nowhere).lines 16 c → HandedDownEach image (get_or l.each b nowhere).at c up → DecidesRecord limits up (get_or l.each b nowhere).lines s r t
      → t ≡ record_fits_at (model_of image) st b
  unfolding record_fits_at
  record_is image l limits up c s t e h q k f u d w =
      w.decides (model_of image) (last_stamps st) (box_at (model_of image) b) k (above_each image l e h b q r c u up d) (subjects_of image l e h s f)
      ∙ ap (record_fits (model_of image) (last_stamps st) (box_at (model_of image) b)) z

-- ---- the records of the boxes that the model lacks

-- the test of a box's record has this answer
abbrev pub clear_is : List ℕ → Bool → ℕ → Type 0
clear_is st t b = t ≡ clear_between (record_of st b) 0 1139

module _ (st : List ℕ) (long : length st ≡ 9112) (boxes : ℕ) (few : boxes ≤ 8) where
  each_iff : T (clear_between st (1139 * boxes) 9112) ↔ ((b : ℕ) → b < 8 → boxes ≤ b → T (clear_between (record_of st b) 0 1139))
  unfolding clear
  each_iff = (
    λ t b h l. (between_iff (record_of st b) 0 1139).1 (λ i q g. (simp tests at (slots.0 (subst (λ (a : ℕ). T (clear_between st a 9112)) from t) b h l)).1 i q),
    λ f.
        subst (λ (a : ℕ). T (clear_between st a 9112)) (sym from) (slots.1
        (λ b h l. simp tests (slot_length 0 1139 8 st (omega (arith, long)) b h, λ i q. (between_iff (record_of st b) 0 1139).0 (f b h l) i q zero-le))),
  )
    where
      from : 1139 * boxes ≡ 0 + 1139 * boxes
      from = omega arith

      slots : T (clear_between st (0 + 1139 * boxes) 9112) ↔ ((b : ℕ) → b < 8 → boxes ≤ b → T (clear 1139 (record_of st b)))
      slots = slots_clear 0 1139 8 (omega arith) st (omega (arith, long)) boxes

  -- all these records are zero, as an iterator over their boxes says
  pub missing_all : (t : Bool) → MatchBool t (Each (clear_is st true) boxes (8 - boxes)) (One (clear_is st false) boxes (8 - boxes)) → t ≡ clear_between st (1139 * boxes) 9112
  missing_all true h =
      sym (true_of (clear_between st (1139 * boxes) 9112) (each_iff.1 (λ b q l. of_true (sym (each_in (clear_is st true) boxes (8 - boxes) h b l (omega (arith, l, q)))))))
  missing_all false h =
      let o = one_in (clear_is st false) boxes (8 - boxes) h in
      sym (false_of (clear_between st (1139 * boxes) 9112) (λ u. not-false (sym o.3) (each_iff.0 u o.0 (omega (arith, o.1, o.2)) o.1)))

-- ---- a state

module _ (m : Model) (st : List ℕ) where
  pub state_length_lem : (length st ≡ 9112 → ⊥) → false ≡ state_fits m st
  unfolding state_fits
  state_length_lem f = sym (false_of (state_fits m st) (λ t. f ((state_iff m st).0 t).size))

  -- each of the model's boxes has a record that fits, and the words of the others are zero
  state_words : (n : ℕ) → length st ≡ 9112 → n ≡ box_count m → n ≤ 8 → (all_below n (record_fits_at m st) and clear_between st (1139 * n) 9112) ≡ state_fits m st
  unfolding state_fits record_fits_at ◌and◌
  state_words n long e h =
      ap (λ (from : ℕ). all_below n (record_fits_at m st) and clear_between st from 9112) (let z : 1139 * n ≡ 0 + 1139 * n = omega arith in z)
      ∙ sym (slots_each 0 1139 8 (omega arith) st (omega arith) (record_fits_at m st) n h)
      ∙ ap (λ (c : ℕ). all_below 8 (λ b. elim (b below c) [ true ↦ record_fits_at m st b | false ↦ clear 1139 (record_of st b) ])) e
      ∙ ap (λ (t : Bool). t and all_below 8 (λ b. elim (b below box_count m) [ true ↦ record_fits_at m st b | false ↦ clear 1139 (record_of st b) ]))
      (sym (true_of (length st is 9112) ((is_iff (length st) 9112).1 long)))

module _ (image : List ℕ) (l : Layout) (e : read_model image ≡ none) (h : LayoutOf image l) (st : List ℕ) (t : Bool) where
  -- a last stamp above the limit
  pub state_stamps : t ≡ all_below l.boxes (last_fits st) → t ≡ false → false ≡ state_fits (model_of image) st
  unfolding last_fits last_stamps
  state_stamps q z = sym (false_of (state_fits (model_of image) st) (λ u. not-false (sym q ∙ z) ((all_iff l.boxes (last_fits st)).1
      (λ b k. (upto_iff (stamp (record_of st b)) stamp_limit).1
      (((state_iff (model_of image) st).0 u).live b (omega (arith, few_boxes image l e h)) (omega (arith, boxes_are image l e h))).stamp_fits))))

  module _ (long : length st ≡ 9112) (q : t ≡ all_below l.boxes (record_fits_at (model_of image) st)) where
    pub state_misfit : t ≡ false → false ≡ state_fits (model_of image) st
    unfolding ◌and◌
    state_misfit z =
        ap (λ (b : Bool). b and clear_between st (1139 * l.boxes) 9112) (sym z ∙ q) ∙ state_words (model_of image) st l.boxes long (boxes_are image l e h) (few_boxes image l e h)

    pub state_clear : (w : Bool) → t ≡ true → w ≡ clear_between st (1139 * l.boxes) 9112 → w ≡ state_fits (model_of image) st
    unfolding ◌and◌
    state_clear w z k = ap₂ ◌and◌ (sym z ∙ q) k ∙ state_words (model_of image) st l.boxes long (boxes_are image l e h) (few_boxes image l e h)

pub stamps_fit : (image : List ℕ) (l : Layout) (st : List ℕ) (t : Bool) → read_model image ≡ none → LayoutOf image l → length st ≡ 9112
    → t ≡ all_below l.boxes (last_fits st) → t ≡ true → StampsFit st l.boxes
stamps_fit image l st t e h long q z = record { long = long; most = few_boxes image l e h; stamps = sym q ∙ z }

pub limits_of : (image : List ℕ) (l : Layout) (st : List ℕ) (limits : List Limit) → LimitsFor l st limits → LayoutOf image l → LimitsOf (model_of image) (last_stamps st) limits
limits_of image l st limits k h = k.are image h

pub ruleset state_rules = (few_boxes, few_names, stamps_fit, unrefused_room, used_lines, names_above, record_stamp, record_is, passing_start, passing_turn, passing_stop, passing_end, state_length_lem, state_stamps, state_misfit, state_clear, limits_of)
