-- A move in a state: the records that it is made in are parts of the state, and what they become is what the move leaves. Assumes nothing.
use mathlib.Core.Path.{◌≡◌, refl, ap, ap₂, sym, ◌∙◌}
use mathlib.Core.Logic.{◌≢◌}
use mathlib.Core.Bool.{Bool}
use mathlib.Core.List.{List, ◌++◌}
use Prim.Native.Nat.{ℕ, ◌+◌, ◌*◌, ◌≤◌, ◌<◌}
use native.Mathlib.Omega.{arith}
use lib.ListN.{length, take, drop}
use Rattle.definitions.specs.Bounded.{◌and◌, ◌or◌, ◌is◌, ◌below◌}
use Rattle.definitions.specs.Model.{box_at, box_count, output, input}
use Rattle.definitions.specs.Image.{boxes_of, model_of}
use Rattle.definitions.specs.Record.{threads, put_thread, record_of, put_record}
use Rattle.definitions.specs.Moves.{Kind, inside, inter, unknown, kind_of_move, Move, Outcome, refused, made, need, on_made, thread_line, onward, onward_with, value2, inside_move, inside_act, inter_act, act_as, act}
use Rattle.definitions.specs.Calls.{outcome_number, outcome_words}
use Rattle.definitions.proofs.Bounded.{below_iff, true_of}
use Rattle.definitions.proofs.Image.{model_count}
use Rattle.definitions.proofs.ReadModel.{valid_image}
use Rattle.definitions.proofs.StateRules.{StateFits, state_iff}
use Rattle.definitions.proofs.Made.{refused-made, inside_act_lem, InterActMade, inter_act_lem, InterMade, inter-made}
use Rattle.definitions.proofs.MoveRefusals.{meets, met_as, met, refused_iff}
use Rattle.isolation.proofs.KeepState.{put_record_length, put_record_other, inside-size, inter-size, act_fits}
use Rattle.state.specs.declared.kinds.Kind as code
use Rattle.state.specs.declared.kinds.Kind.TheVariants.{Drop, Spread, New, Copy, Expose, Hide, Unhide, Intra, Inter}
use Rattle.state.specs.Kinds.{kind_number}
use Rattle.state.proofs.Parts.{first_words, back_first}
use Rattle.model.specs.declared.ReadModel.{ReadModel}
use Rattle.lookups.specs.Ready.{BoxReady, Ready}
use Rattle.lookups.specs.Inside.{inside_as, inside_outcome}
use Rattle.lookups.proofs.Ready.{read_boxes}
use Rattle.deciding.specs.declared.Blocked.{Blocked}
use Rattle.deciding.proofs.Decided.{blocked_not}
use Rattle.deciding.specs.Numbers.{blocked_number}
use Rattle.state.specs.Moves.{move_of}
use Rattle.deciding.proofs.States.{IsInter, not-inter, record_ready}
use Rattle.making.specs.Left.{IsMade}

-- the state, once the words of box b are back
abbrev back : ℕ → List ℕ → List ℕ → List ℕ
back b st r = take (1139 * b) st ++ (r ++ drop 1139 (drop (1139 * b) st))

-- what a split of the state at box b's place lends: the record, and the state once its words are back
pub lent_first : (st rest r : List ℕ) (b : ℕ) → rest ≡ drop (1139 * b) st → r ≡ take 1139 rest → r ≡ record_of st b
lent_first st rest r b e d = d ∙ ap (take 1139) e ∙ first_words st b

pub split_back : (st front rest : List ℕ) (b : ℕ) (r : List ℕ) → front ≡ take (1139 * b) st → rest ≡ drop (1139 * b) st
    → front ++ (r ++ drop 1139 rest) ≡ back b st r
split_back st front rest b r e d = ap₂ (λ (p q : List ℕ). p ++ (r ++ drop 1139 q)) e d

module _ {rm : ReadModel} {st : List ℕ} (k : Ready rm st) where
  fits : StateFits (model_of rm.image.now) st
  fits = (state_iff (model_of rm.image.now) st).0 k.fits

  -- a box of the model has its record in the state
  module _ (b : ℕ) (h : b < box_count (model_of rm.image.now)) where
    listed : b < boxes_of rm.image.now
    listed = rw (← model_count rm.image.now) h

    eight : b < 8
    eight = read_boxes rm.image.now b rm.read listed

    ready : (r : List ℕ) → r ≡ record_of st b → BoxReady rm b r
    ready r e = record_ready rm st k b (omega (arith, listed, rm.of.frame.boxes)) r e

-- ---- inter

module _ {rm : ReadModel} {st : List ℕ} (k : Ready rm st) (b t c u : ℕ) (m : IsMade (inter_act (model_of rm.image.now) st b t c u)) where
  all : InterActMade (model_of rm.image.now) st b t c u m.left
  all = inter_act_lem (model_of rm.image.now) st b t c u m.left m.is

  both : InterMade (model_of rm.image.now).kinds (box_at (model_of rm.image.now) b) (record_of st b) (box_at (model_of rm.image.now) c) (record_of st c) t u all.ends
  both = inter-made (model_of rm.image.now).kinds (box_at (model_of rm.image.now) b) (record_of st b) (box_at (model_of rm.image.now) c) (record_of st c) t u all.ends all.is_made

  pub inter_box : b < 8
  inter_box = eight k b all.box

  pub inter_box2 : c < 8
  inter_box2 = eight k c all.box2

  pub inter_long : length st ≡ 9112
  inter_long = (fits k).size

  pub inter_room : 1139 * (b + 1) ≤ length st
  inter_room = omega (arith, inter_box, inter_long)

  pub inter_room2 : 1139 * (c + 1) ≤ length st
  inter_room2 = omega (arith, inter_box2, inter_long)

  -- the output end, as it is read
  module _ (s : List ℕ) (e : s ≡ record_of st c) where
    pub sent_ready : BoxReady rm c s
    sent_ready = ready k c all.box2 s e

    pub sent_live : u < threads s
    sent_live = rw e all.live2

    pub sent_op : (thread_line (model_of rm.image.now).kinds (box_at (model_of rm.image.now) c) s u).op ≡ output
    sent_op = ap (λ (y : List ℕ). (thread_line (model_of rm.image.now).kinds (box_at (model_of rm.image.now) c) y u).op) e ∙ both.op_is2

  -- the input end, as it is lent
  module _ (r : List ℕ) (d : r ≡ record_of st b) where
    pub first_ready : BoxReady rm b r
    first_ready = ready k b all.box r d

    pub first_live : t < threads r
    first_live = rw d all.live

    pub first_op : (thread_line (model_of rm.image.now).kinds (box_at (model_of rm.image.now) b) r t).op ≡ input
    first_op = ap (λ (y : List ℕ). (thread_line (model_of rm.image.now).kinds (box_at (model_of rm.image.now) b) y t).op) d ∙ both.op_is

    module _ (s : List ℕ) (e : s ≡ record_of st c) (v : ℕ) (f : v ≡ value2 (model_of rm.image.now).kinds (box_at (model_of rm.image.now) c) s u) (r1 st1 : List ℕ)
        (g : r1 ≡ put_thread r t (onward_with (model_of rm.image.now).kinds (box_at (model_of rm.image.now) b) r t (thread_line (model_of rm.image.now).kinds (box_at (model_of rm.image.now) b) r t).name2 v)) (h : st1 ≡ back b st r1) where
      value : v ≡ value2 (model_of rm.image.now).kinds (box_at (model_of rm.image.now) c) (record_of st c) u
      value = f ∙ ap (λ (y : List ℕ). value2 (model_of rm.image.now).kinds (box_at (model_of rm.image.now) c) y u) e

      input-is : r1 ≡ all.ends.input
      input-is =
          g ∙ ap (λ (y : List ℕ). put_thread y t (onward_with (model_of rm.image.now).kinds (box_at (model_of rm.image.now) b) y t (thread_line (model_of rm.image.now).kinds (box_at (model_of rm.image.now) b) y t).name2 v)) d
          ∙ ap (λ (w : ℕ). put_thread (record_of st b) t (onward_with (model_of rm.image.now).kinds (box_at (model_of rm.image.now) b) (record_of st b) t (thread_line (model_of rm.image.now).kinds (box_at (model_of rm.image.now) b) (record_of st b) t).name2 w)) value
          ∙ sym both.input_leaves

      sizes : (length all.ends.input ≡ 1139) × (length all.ends.output ≡ 1139)
      sizes = inter-size (model_of rm.image.now) (valid_image rm.image.now rm.read) st (fits k) b t c u all.ends all.box all.box2 all.live all.live2 all.is_made

      long1 : length r1 ≡ 1139
      long1 = ap length input-is ∙ sizes.0

      first : st1 ≡ put_record st b r1
      first = h ∙ back_first st r1 b long1

      second_long : length st1 ≡ 9112
      second_long = ap length first ∙ put_record_length st inter_long b inter_box r1 long1

      pub second_room : 1139 * (c + 1) ≤ length st1
      second_room = omega (arith, inter_box2, second_long)

      same : record_of st1 c ≡ record_of st c
      same = ap (λ (y : List ℕ). record_of y c) first ∙ put_record_other st inter_long b inter_box r1 long1 c inter_box2 (λ z. all.differ (sym z))

      module _ (s1 : List ℕ) (i : s1 ≡ record_of st1 c) where
        pub second_ready : BoxReady rm c s1
        second_ready = ready k c all.box2 s1 (i ∙ same)

        pub second_live : u < threads s1
        second_live = rw (i ∙ same) all.live2

        pub second_op : (thread_line (model_of rm.image.now).kinds (box_at (model_of rm.image.now) c) s1 u).op ≡ output
        second_op = ap (λ (y : List ℕ). (thread_line (model_of rm.image.now).kinds (box_at (model_of rm.image.now) c) y u).op) (i ∙ same) ∙ both.op_is2

        module _ (r2 st2 : List ℕ) (j : r2 ≡ put_thread s1 u (onward (model_of rm.image.now).kinds (box_at (model_of rm.image.now) c) s1 u)) (q : st2 ≡ back c st1 r2) where
          output-is : r2 ≡ all.ends.output
          output-is = j ∙ ap (λ (y : List ℕ). put_thread y u (onward (model_of rm.image.now).kinds (box_at (model_of rm.image.now) c) y u)) (i ∙ same) ∙ sym both.output_leaves

          pub inter_left : inter_act (model_of rm.image.now) st b t c u ≡ made st2
          inter_left =
              m.is ∙ ap made (all.leaves
              ∙ ap (λ (y : List ℕ). put_record (put_record st b y) c all.ends.output) (sym input-is)
              ∙ ap (λ (y : List ℕ). put_record (put_record st b r1) c y) (sym output-is)
              ∙ ap (λ (y : List ℕ). put_record y c r2) (sym first)
              ∙ sym (q ∙ back_first st1 r2 c (ap length output-is ∙ sizes.1)))

-- ---- a move of each kind

module _ {rm : ReadModel} {st : List ℕ} (k : Ready rm st) (kind b t c u : ℕ) (m : IsMade (act (model_of rm.image.now) st (move_of kind b t c u))) where
  module _ (nine : kind ≡ 9) where
    as_inter : act (model_of rm.image.now) st (move_of kind b t c u) ≡ inter_act (model_of rm.image.now) st b t c u
    unfolding act act_as kind_of_move
    as_inter = ap (λ (n : ℕ). act_as (model_of rm.image.now) st (kind_of_move n) (move_of kind b t c u)) nine

    pub make_inter : IsMade (inter_act (model_of rm.image.now) st b t c u)
    make_inter = record { left = m.left; is = sym as_inter ∙ m.is }

    pub make_inter_left : (w : List ℕ) → inter_act (model_of rm.image.now) st b t c u ≡ made w → act (model_of rm.image.now) st (move_of kind b t c u) ≡ made w
    make_inter_left w e = as_inter ∙ e

  module _ (other : kind ≢ 9) where
    -- the move is one inside box b
    record InOneBox : Type 0 where
      box : b < box_count (model_of rm.image.now)
      new : List ℕ
      is_made : inside_outcome (model_of rm.image.now).kinds (box_at (model_of rm.image.now) b) (record_of st b) kind t u ≡ made new
      size : (r : List ℕ) → inside_outcome (model_of rm.image.now).kinds (box_at (model_of rm.image.now) b) (record_of st b) kind t u ≡ made r → length r ≡ 1139
      gives : (r : List ℕ) → inside_outcome (model_of rm.image.now).kinds (box_at (model_of rm.image.now) b) (record_of st b) kind t u ≡ made r → act (model_of rm.image.now) st (move_of kind b t c u) ≡ made (put_record st b r)

    kept : InOneBox
    unfolding act act_as inside_act inside_outcome
    kept = go (kind_of_move kind) refl (not-inter kind other)
      where
        go : (q : Kind) → kind_of_move kind ≡ q → (IsInter q → ⊥) → InOneBox
        go (inside i) e f =
            let a = inside_act_lem (model_of rm.image.now) st i b t u m.left (ap (λ (z : Kind). act_as (model_of rm.image.now) st z (move_of kind b t c u)) (sym e) ∙ m.is) in
            record {
              box = a.box;
              new = a.new;
              is_made = ap (λ (z : Kind). inside_as (model_of rm.image.now).kinds (box_at (model_of rm.image.now) b) (record_of st b) z t u) e ∙ a.is_made;
              size = λ r d.
                  inside-size (model_of rm.image.now) (valid_image rm.image.now rm.read) st (fits k) i b t u r a.box (ap (λ (z : Kind). inside_as (model_of rm.image.now).kinds (box_at (model_of rm.image.now) b) (record_of st b) z t u) (sym e) ∙ d);
              gives = λ r d. ap (λ (z : Kind). act_as (model_of rm.image.now) st z (move_of kind b t c u)) e ∙ needed a.box (ap (λ (z : Kind). inside_as (model_of rm.image.now).kinds (box_at (model_of rm.image.now) b) (record_of st b) z t u) (sym e) ∙ d);
            }
          where
            needed : {r : List ℕ} → b < box_count (model_of rm.image.now) → inside_move (model_of rm.image.now).kinds (box_at (model_of rm.image.now) b) (record_of st b) i t u ≡ made r → inside_act (model_of rm.image.now) st i b t u ≡ made (put_record st b r)
            needed h d =
                ap (λ (z : Bool). need z 12 (on_made (put_record st b) (inside_move (model_of rm.image.now).kinds (box_at (model_of rm.image.now) b) (record_of st b) i t u))) (true_of (b below box_count (model_of rm.image.now)) ((below_iff b (box_count (model_of rm.image.now))).1 h))
                ∙ ap (on_made (put_record st b)) d
        go inter e f = absurd (f tt)
        go unknown e f = absurd (refused-made (ap (λ (z : Kind). act_as (model_of rm.image.now) st z (move_of kind b t c u)) (sym e) ∙ m.is))

    pub make_box : b < 8
    make_box = eight k b kept.box

    pub make_room : 1139 * (b + 1) ≤ length st
    make_room = omega (arith, make_box, (fits k).size)

    module _ (r : List ℕ) (d : r ≡ record_of st b) where
      pub make_ready : BoxReady rm b r
      make_ready = ready k b kept.box r d

      pub make_inside : IsMade (inside_outcome (model_of rm.image.now).kinds (box_at (model_of rm.image.now) b) r kind t u)
      make_inside = record { left = kept.new; is = ap (λ (y : List ℕ). inside_outcome (model_of rm.image.now).kinds (box_at (model_of rm.image.now) b) y kind t u) d ∙ kept.is_made }

      pub make_left : (r1 w : List ℕ) → inside_outcome (model_of rm.image.now).kinds (box_at (model_of rm.image.now) b) r kind t u ≡ made r1 → w ≡ back b st r1
          → act (model_of rm.image.now) st (move_of kind b t c u) ≡ made w
      make_left r1 w e h =
          let q : inside_outcome (model_of rm.image.now).kinds (box_at (model_of rm.image.now) b) (record_of st b) kind t u ≡ made r1 =
          ap (λ (y : List ℕ). inside_outcome (model_of rm.image.now).kinds (box_at (model_of rm.image.now) b) y kind t u) (sym d) ∙ e in
          kept.gives r1 q ∙ ap made (sym (h ∙ back_first st r1 b (kept.size r1 q)))

-- a kind that is not inter has another number
pub other_number : (q : code.Kind) → (q ≡ Inter → ⊥) → kind_number q ≢ 9
other_number Drop h e = absurd (omega arith)
other_number Spread h e = absurd (omega arith)
other_number New h e = absurd (omega arith)
other_number Copy h e = absurd (omega arith)
other_number Expose h e = absurd (omega arith)
other_number Hide h e = absurd (omega arith)
other_number Unhide h e = absurd (omega arith)
other_number Intra h e = absurd (omega arith)
other_number Inter h e = h refl

-- ---- the answer of a move

-- no move is refused with 0
pub never_zero : (image st : List ℕ) (v : Move) → act (model_of image) st v ≡ refused 0 → ⊥
unfolding met met_as meets ◌is◌ ◌and◌ ◌or◌
never_zero image st v e = ((refused_iff (model_of image) st v 0).0 e).is_met

module _ {rm : ReadModel} {st : List ℕ} (k : Ready rm st) (v : Move) where
  pub turn-made : 0 ≡ outcome_number (act (model_of rm.image.now) st v) → IsMade (act (model_of rm.image.now) st v)
  turn-made e = go (act (model_of rm.image.now) st v) refl
    where
      go : (o : Outcome (List ℕ)) → act (model_of rm.image.now) st v ≡ o → IsMade (act (model_of rm.image.now) st v)
      go (refused i) q =
          let y : i ≡ 0 = sym (ap outcome_number q) ∙ sym e in
          absurd (never_zero rm.image.now st v (q ∙ ap refused y))
      go (made w) q = record { left = w; is = q }

  module _ (w : List ℕ) (q : act (model_of rm.image.now) st v ≡ made w) where
    pub turn-zero : 0 ≡ outcome_number (act (model_of rm.image.now) st v)
    turn-zero = sym (ap outcome_number q)

    pub turn_words : w ≡ outcome_words st (act (model_of rm.image.now) st v)
    turn_words = sym (ap (outcome_words st) q)

    pub turn_keeps : Ready rm w
    turn_keeps = record {
      fits = (state_iff (model_of rm.image.now) w).1 (act_fits (model_of rm.image.now) (valid_image rm.image.now rm.read) st (fits k) v w q);
    }

-- a move that is refused leaves the words as they are
pub turn-refused : (o : Outcome (List ℕ)) (st : List ℕ) (e : Blocked) → blocked_number e ≡ outcome_number o → st ≡ outcome_words st o
turn-refused (refused i) st e q = refl
turn-refused (made w) st e q = absurd (blocked_not e (sym q))

-- a move of an unknown kind is not made
pub kind_known : (image st : List ℕ) (v : Move) → IsMade (act (model_of image) st v) → kind_of_move v.kind ≡ unknown → ⊥
unfolding act act_as
kind_known image st v m e = refused-made (ap (λ (q : Kind). act_as (model_of image) st q v) (sym e) ∙ m.is)
