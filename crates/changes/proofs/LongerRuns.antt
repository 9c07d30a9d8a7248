-- What change request 11 says of the old limit and the new one, and that no held name needs more than 32 bits. Assumes nothing.
use mathlib.Core.Path.{◌≡◌, refl, sym, ap, ap₂, subst, ◌∙◌}
use mathlib.Core.Bool.{Bool, true, false, not}
use mathlib.Core.List.{List, [], ◌∷◌}
use mathlib.Core.Logic.{◌≢◌, ⊎_elim}
use mathlib.Core.Option.{Option, none, some}
use Prim.Native.Nat.{ℕ, zero, suc, ◌+◌, ◌*◌, ◌≤◌, ◌<◌}
use native.Mathlib.Omega.{arith}
use native.Mathlib.Decide.{ℕ_discrete, dec_lt}
use lib.Dec.{T}
use lib.ListN.{length, get_or-eq_default}
use Rattle.definitions.specs.Bounded.{◌and◌, ◌or◌, ◌is◌, ◌isnt◌, ◌below◌, some_if, or_else}
use Rattle.definitions.specs.Slots.{word, slot}
use Rattle.definitions.specs.Answer.{Refusal, unplaced}
use Rattle.definitions.specs.Model.{Box, Model, box_at, box_count, kind_of_name, bound_above, restriction, expose as op_expose}
use Rattle.definitions.specs.Image.{model_of}
use Rattle.definitions.specs.ReadModel.{read_model}
use Rattle.definitions.specs.Record.{held, held_number, held_stamp, stamp_limit, record_length, stamp, threads, sites, thread, subject, type_word, line, binding, state_length, record_of, last_stamps, put_record}
use Rattle.definitions.specs.StateRules.{clear, site_words_fit, thread_words_fit, record_fits, state_fits}
use Rattle.definitions.specs.Moves.{Inside, drop, spread, new, copy, expose, hide, unhide, intra, Kind, inside, inter, unknown, kind_of_move, Move, Outcome, refused, made, need, on_made, thread_line, at_line, new_move, expose_move, inside_move, inside_act, act_as, act}
use Rattle.definitions.specs.Calls.{StepResult, written, outcome_number, outcome_words, outcome_refusal, moves_refusal, state_refusal, step, MovesResult, steps, act_all, RunResult, run_refusal, run}
use Rattle.definitions.proofs.Bounded.{and_iff, is_iff, below_iff, upto_iff, all_iff, true_of, of_true, decide}
use Rattle.definitions.proofs.Slots.{word_slot, word-zeros}
use Rattle.definitions.proofs.Arrays.{Array}
use Rattle.definitions.proofs.StateRules.{clear_iff, HeldFits, SiteFits, thread_iff, site_iff, RecordFits, StateFits, state_iff}
use Rattle.definitions.proofs.Calls.{step_iff}
use Rattle.definitions.proofs.Made.{refused-made}
use Rattle.definitions.proofs.MoveRefusals.{meets, met_as, met, refused_iff}
use Rattle.definitions.proofs.ReadModel.{valid_image}
use Rattle.isolation.proofs.KeepState.{act_fits}
use Rattle.isolation.proofs.Follow.{outcome_good}
use Rattle.changes.specs.LongerRuns.{old_stamp_limit, record_fits_to, state_fits_to, new_move_to, expose_move_to, inside_move_to, inside_act_to, act_as_to, act_to, moves_refusal_to, step_to, act_all_to, run_to, AsDefined, OldStates, HeldUpTo, largest_held, Room, LongerRuns}

-- ---- results by their parts

abbrev step_of : List ℕ → Option Refusal → Outcome (List ℕ) → StepResult
step_of words r o = record { answer = or_else r (outcome_refusal o); words = written r (outcome_words words o) words }

abbrev run_of : List ℕ → List ℕ → Option Refusal → MovesResult → RunResult
run_of words answers r all = record { answer = r; words = written r all.words words; answers = written r all.answers answers }

abbrev acts_of : Outcome (List ℕ) → MovesResult → MovesResult
acts_of o rest = record { answers = outcome_number o ∷ rest.answers; words = rest.words }

abbrev refusal_of : Option Refusal → Bool → Bool → Option Refusal
refusal_of model wrong fits = or_else model (or_else (some_if wrong (unplaced 10)) (some_if (not fits) (unplaced 11)))

none-some : {A : Type 0} {a : A} → ◌≡◌ {A = Option A} none (some a) → ⊥
none-some {A} e = subst (λ (o : Option A). code o) e tt
  where
    code : Option A → Type 0
    code none = Unit
    code (some a) = ⊥

-- ---- with the new limit, what the definitions say

rules_as : (m : Model) (st : List ℕ) → state_fits_to stamp_limit m st ≡ state_fits m st
unfolding state_fits_to record_fits_to state_fits record_fits
rules_as m st = refl

moves_as : (m : Model) (st : List ℕ) (v : Move) → act_to stamp_limit m st v ≡ act m st v
unfolding act_to act act_as_to act_as inside_act_to inside_act inside_move_to inside_move new_move_to new_move expose_move_to expose_move
moves_as m st v = go (kind_of_move v.kind)
  where
    go : (k : Kind) → act_as_to stamp_limit m st k v ≡ act_as m st k v
    go (inside drop) = refl
    go (inside spread) = refl
    go (inside new) = refl
    go (inside copy) = refl
    go (inside expose) = refl
    go (inside hide) = refl
    go (inside unhide) = refl
    go (inside intra) = refl
    go inter = refl
    go unknown = refl

refusal_as : (image words : List ℕ) (wrong : Bool) → moves_refusal_to stamp_limit image words wrong ≡ moves_refusal image words wrong
unfolding moves_refusal_to moves_refusal
refusal_as image words wrong = ap (refusal_of (read_model image) wrong) (rules_as (model_of image) words)

step_as : (image words : List ℕ) (v : Move) → step_to stamp_limit image words v ≡ step image words v
unfolding step_to step state_refusal
step_as image words v = ap₂ (step_of words) (refusal_as image words (length words isnt state_length)) (moves_as (model_of image) words v)

-- a move that is answered alike, and those after it
acts_same : (f g : List ℕ → MovesResult) (words : List ℕ) (o p : Outcome (List ℕ)) → o ≡ p → f (outcome_words words p) ≡ g (outcome_words words p)
    → acts_of o (f (outcome_words words o)) ≡ acts_of p (g (outcome_words words p))
acts_same f g words o p e d = ap (λ (x : Outcome (List ℕ)). acts_of x (f (outcome_words words x))) e ∙ ap (acts_of p) d

all_as : (m : Model) (words : List ℕ) (vs : List Move) → act_all_to stamp_limit m words vs ≡ act_all m words vs
unfolding act_all_to act_all
all_as m words [] = refl
all_as m words (v ∷ vs) =
    acts_same (λ w. act_all_to stamp_limit m w vs) (λ w. act_all m w vs) words _ _ (moves_as m words v) (all_as m (outcome_words words (act m words v)) vs)

run_as : (image words : List ℕ) (vs : List Move) (answers : List ℕ) → run_to stamp_limit image words vs answers ≡ run image words vs answers
unfolding run_to run run_refusal
run_as image words vs answers = ap₂ (run_of words answers) (refusal_as image words _) (all_as (model_of image) words vs)

as_defined_lem : AsDefined
as_defined_lem = record { rules = rules_as; moves = moves_as; step_calls = step_as; run_calls = run_as }

-- ---- a limit and a larger one

module _ (k l : ℕ) (more : k < l) where
  record_more : (m : Model) (last : ℕ → ℕ) (x : Box) (r : List ℕ) → T (record_fits_to k m last x r) → T (record_fits_to l m last x r)
  unfolding record_fits_to
  record_more m last x r t =
      let u = simp and_iff at t in
      let h : stamp r ≤ k = (upto_iff (stamp r) k).0 u.0.0.0.1 in
      simp and_iff ((((u.0.0.0.0, (upto_iff (stamp r) l).1 (omega arith)), u.0.0.1), u.0.1), u.1)

  state_more : (m : Model) (st : List ℕ) → T (state_fits_to k m st) → T (state_fits_to l m st)
  unfolding state_fits_to
  state_more m st t =
      let u = simp and_iff at t in
      simp and_iff (u.0, (all_iff 8 _).1 (λ b h. at b (b below box_count m) ((all_iff 8 _).0 u.1 b h)))
    where
      at : (b : ℕ) (c : Bool)
          → T (elim c [ true ↦ record_fits_to k m (last_stamps st) (box_at m b) (record_of st b) | false ↦ clear record_length (record_of st b) ])
          → T (elim c [ true ↦ record_fits_to l m (last_stamps st) (box_at m b) (record_of st b) | false ↦ clear record_length (record_of st b) ])
      at b true t = record_more m (last_stamps st) (box_at m b) (record_of st b) t
      at b false t = t

  -- the refusal before a first move stays unless it was 11
  refusal_more : (image words : List ℕ) (wrong : Bool) → moves_refusal_to k image words wrong ≢ some (unplaced 11)
      → moves_refusal_to l image words wrong ≡ moves_refusal_to k image words wrong
  unfolding moves_refusal_to
  refusal_more image words wrong = go (read_model image) wrong (state_fits_to k (model_of image) words) (state_more (model_of image) words)
    where
      go : (a : Option Refusal) (w c : Bool) → (T c → T (state_fits_to l (model_of image) words)) → refusal_of a w c ≢ some (unplaced 11)
          → refusal_of a w (state_fits_to l (model_of image) words) ≡ refusal_of a w c
      go (some r) w c f n = refl
      go none true c f n = refl
      go none false true f n = ap (refusal_of none false) (true_of (state_fits_to l (model_of image) words) (f tt))
      go none false false f n = absurd (n refl)

  -- the last stamp is below the limit, or the answer was 20
  stamp_more : (s : ℕ) (o : Outcome (List ℕ)) → need (s below k) 20 o ≢ refused 20 → need (s below l) 20 o ≡ need (s below k) 20 o
  stamp_more s o = go (s below k) refl
    where
      go : (b : Bool) → (s below k) ≡ b → need b 20 o ≢ refused 20 → need (s below l) 20 o ≡ need b 20 o
      go true e n =
          let h : s < k = (below_iff s k).0 (of_true e) in
          ap (λ (c : Bool). need c 20 o) (true_of (s below l) ((below_iff s l).1 (omega arith)))
      go false e n = absurd (n refl)

  -- a test before it, and the edit behind it
  need_more : (b : Bool) (n : ℕ) (o p : Outcome (List ℕ)) → (p ≢ refused 20 → o ≡ p) → need b n p ≢ refused 20 → need b n o ≡ need b n p
  need_more true n o p f h = f h
  need_more false n o p f h = refl

  made_more : (f : List ℕ → List ℕ) (o p : Outcome (List ℕ)) → (p ≢ refused 20 → o ≡ p) → on_made f p ≢ refused 20 → on_made f o ≡ on_made f p
  made_more f o p g h = ap (on_made f) (g (λ e. h (ap (on_made f) e)))

  inside_more : (kinds : List ℕ) (x : Box) (r : List ℕ) (i : Inside) (t u : ℕ) → inside_move_to k kinds x r i t u ≢ refused 20
      → inside_move_to l kinds x r i t u ≡ inside_move_to k kinds x r i t u
  unfolding inside_move_to new_move_to expose_move_to at_line
  inside_more kinds x r drop t u n = refl
  inside_more kinds x r spread t u n = refl
  inside_more kinds x r new t u n =
      need_more (t below threads r) 12 _ _ (need_more ((thread_line kinds x r t).op is restriction) 14 _ _ (stamp_more (stamp r) _)) n
  inside_more kinds x r copy t u n = refl
  inside_more kinds x r expose t u n =
      need_more (t below threads r) 12 _ _ (need_more ((thread_line kinds x r t).op is op_expose) 14 _ _
      (need_more (sites r below 16) 19 _ _ (stamp_more (stamp r) _))) n
  inside_more kinds x r hide t u n = refl
  inside_more kinds x r unhide t u n = refl
  inside_more kinds x r intra t u n = refl

  act_more : (m : Model) (st : List ℕ) (v : Move) → act_to k m st v ≢ refused 20 → act_to l m st v ≡ act_to k m st v
  unfolding act_to act_as_to inside_act_to
  act_more m st v = go (kind_of_move v.kind)
    where
      go : (i : Kind) → act_as_to k m st i v ≢ refused 20 → act_as_to l m st i v ≡ act_as_to k m st i v
      go (inside i) n =
          need_more (v.box below box_count m) 12 _ _
          (made_more (put_record st v.box) _ _ (inside_more m.kinds (box_at m v.box) (record_of st v.box) i v.thread v.thread2)) n
      go inter n = refl
      go unknown n = refl

  step_more : (image words : List ℕ) (v : Move) → (step_to k image words v).answer ≢ some (unplaced 11)
      → (step_to k image words v).answer ≢ some (unplaced 20) → step_to l image words v ≡ step_to k image words v
  unfolding step_to
  step_more image words v = go (moves_refusal_to k image words wrong) (refusal_more image words wrong)
    where
      wrong : Bool
      wrong = length words isnt state_length

      old : Outcome (List ℕ)
      old = act_to k (model_of image) words v

      now : Outcome (List ℕ)
      now = act_to l (model_of image) words v

      go : (r : Option Refusal) → (r ≢ some (unplaced 11) → moves_refusal_to l image words wrong ≡ r)
          → or_else r (outcome_refusal old) ≢ some (unplaced 11) → or_else r (outcome_refusal old) ≢ some (unplaced 20)
          → step_of words (moves_refusal_to l image words wrong) now ≡ step_of words r old
      go none f a b = ap₂ (step_of words) (f (λ e. none-some e)) (act_more (model_of image) words v (λ e. b (ap outcome_refusal e)))
      go (some r) f a b = ap (λ (x : Option Refusal). step_of words x now) (f a)

  all_more : (m : Model) (vs : List Move) (words : List ℕ) → ((i : ℕ) → word (act_all_to k m words vs).answers i ≢ 20)
      → act_all_to l m words vs ≡ act_all_to k m words vs
  unfolding act_all_to
  all_more m [] words n = refl
  all_more m (v ∷ vs) words n =
      acts_same (λ w. act_all_to l m w vs) (λ w. act_all_to k m w vs) words _ _ (act_more m words v (λ e. n zero (ap outcome_number e)))
      (all_more m vs (outcome_words words (act_to k m words v)) (λ i. n (suc i)))

  run_more : (image words : List ℕ) (vs : List Move) (answers : List ℕ) → (run_to k image words vs answers).answer ≢ some (unplaced 11)
      → ((run_to k image words vs answers).answer ≡ none → (i : ℕ) → word (run_to k image words vs answers).answers i ≢ 20)
      → run_to l image words vs answers ≡ run_to k image words vs answers
  unfolding run_to
  run_more image words vs answers = go (moves_refusal_to k image words wrong) (refusal_more image words wrong)
    where
      wrong : Bool
      wrong = length words isnt state_length or length answers isnt length vs

      old : MovesResult
      old = act_all_to k (model_of image) words vs

      now : MovesResult
      now = act_all_to l (model_of image) words vs

      go : (r : Option Refusal) → (r ≢ some (unplaced 11) → moves_refusal_to l image words wrong ≡ r)
          → r ≢ some (unplaced 11) → (r ≡ none → (i : ℕ) → word (written r old.answers answers) i ≢ 20)
          → run_of words answers (moves_refusal_to l image words wrong) now ≡ run_of words answers r old
      go none f a b = ap₂ (run_of words answers) (f a) (all_more (model_of image) vs words (b refl))
      go (some r) f a b = ap (λ (x : Option Refusal). run_of words answers x now) (f a)

-- ---- an old answer 20, in an old state

-- the last stamp of each box is at most the limit
last_low : (limit : ℕ) (m : Model) (st : List ℕ) → T (state_fits_to limit m st) → (b : ℕ) → stamp (record_of st b) ≤ limit
unfolding state_fits_to record_fits_to
last_low limit m st t b = pick (dec_lt b 8)
  where
    zero_low : stamp (record_of st b) ≡ 0 → stamp (record_of st b) ≤ limit
    zero_low e = omega arith

    at : (c : Bool)
        → T (elim c [ true ↦ record_fits_to limit m (last_stamps st) (box_at m b) (record_of st b) | false ↦ clear record_length (record_of st b) ])
        → stamp (record_of st b) ≤ limit
    at true q = let u = simp and_iff at q in (upto_iff (stamp (record_of st b)) limit).0 u.0.0.0.1
    at false q = zero_low (ap stamp ((clear_iff record_length (record_of st b)).0 q) ∙ word-zeros 1139 0)

    pick : Dec (b < 8) → stamp (record_of st b) ≤ limit
    pick (yes h) = at (b below box_count m) ((all_iff 8 _).0 ((and_iff _ _).0 t).1 b h)
    pick (no h) =
        let size : length st ≡ 9112 = (is_iff (length st) state_length).0 ((and_iff _ _).0 t).0 in
        zero_low (word_slot 0 1139 st b 0 (omega arith) ∙ get_or-eq_default st 0 (omega arith))

-- the move is made
abbrev Made : Outcome (List ℕ) → Type 0
Made o = (w : List ℕ) × (o ≡ made w)

-- past a test whose number is not 20, the edit behind, and the test of the stamp
need_left : (b : Bool) (n : ℕ) (o p : Outcome (List ℕ)) → n ≢ 20 → (o ≡ refused 20 → Made p) → need b n o ≡ refused 20 → Made (need b n p)
need_left true n o p h f e = f e
need_left false n o p h f e = absurd (h (ap outcome_number e))

made_left : (f : List ℕ → List ℕ) (o p : Outcome (List ℕ)) → (o ≡ refused 20 → Made p) → on_made f o ≡ refused 20 → Made (on_made f p)
made_left f (refused n) p g e = let x = g (ap refused (ap outcome_number e)) in (f x.0, ap (on_made f) x.1)
made_left f (made a) p g e = absurd (refused-made (sym e))

stamp_left : (s l : ℕ) (w : List ℕ) → s < l → Made (need (s below l) 20 (made w))
stamp_left s l w h = (w, ap (λ (c : Bool). need c 20 (made w)) (true_of (s below l) ((below_iff s l).1 h)))

-- new and expose: the other tests were passed, and the stamp is below the larger limit
module _ (k l : ℕ) (kinds : List ℕ) (x : Box) (r : List ℕ) (t : ℕ) (low : stamp r < l) where
  new_left : new_move_to k kinds x r t ≡ refused 20 → Made (new_move_to l kinds x r t)
  unfolding new_move_to at_line
  new_left =
      need_left (t below threads r) 12 _ _ (λ z. omega (arith, z))
      (need_left ((thread_line kinds x r t).op is restriction) 14 _ _ (λ z. omega (arith, z)) (λ _. stamp_left (stamp r) l _ low))

  expose_left : expose_move_to k kinds x r t ≡ refused 20 → Made (expose_move_to l kinds x r t)
  unfolding expose_move_to at_line
  expose_left =
      need_left (t below threads r) 12 _ _ (λ z. omega (arith, z))
      (need_left ((thread_line kinds x r t).op is op_expose) 14 _ _ (λ z. omega (arith, z))
      (need_left (sites r below 16) 19 _ _ (λ z. omega (arith, z)) (λ _. stamp_left (stamp r) l _ low)))

module _ (m : Model) (st : List ℕ) (v : Move) where
  -- a move that meets no 20 is not answered 20
  unmet : (k : Kind) → kind_of_move v.kind ≡ k → (T (met_as m st v k 20) → ⊥) → act_as m st k v ≡ refused 20 → ⊥
  unfolding act met
  unmet k e f q =
      f (subst (λ (i : Kind). T (met_as m st v i 20)) e ((refused_iff m st v 20).0 (ap (λ (i : Kind). act_as m st i v) e ∙ q)).is_met)

  inside_left : (i : Inside)
      → (inside_move_to old_stamp_limit m.kinds (box_at m v.box) (record_of st v.box) i v.thread v.thread2 ≡ refused 20
      → Made (inside_move_to stamp_limit m.kinds (box_at m v.box) (record_of st v.box) i v.thread v.thread2))
      → act_as_to old_stamp_limit m st (inside i) v ≡ refused 20 → Made (act_as_to stamp_limit m st (inside i) v)
  unfolding act_as_to inside_act_to
  inside_left i f = need_left (v.box below box_count m) 12 _ _ (λ z. omega (arith, z)) (made_left (put_record st v.box) _ _ f)

  left_as : (k : Kind) → kind_of_move v.kind ≡ k → stamp (record_of st v.box) < stamp_limit → act_as_to old_stamp_limit m st k v ≡ refused 20 → Made (act_as_to stamp_limit m st k v)
  unfolding act_as_to inside_act_to inside_move_to act_as inside_act met_as meets ◌and◌ ◌or◌ ◌is◌
  left_as (inside new) e h q = inside_left new (new_left old_stamp_limit stamp_limit _ _ _ v.thread h) q
  left_as (inside expose) e h q = inside_left expose (expose_left old_stamp_limit stamp_limit _ _ _ v.thread h) q
  left_as (inside drop) e h q = absurd (unmet (inside drop) e (λ t. t) q)
  left_as (inside spread) e h q = absurd (unmet (inside spread) e (λ t. t) q)
  left_as (inside copy) e h q = absurd (unmet (inside copy) e (λ t. t) q)
  left_as (inside hide) e h q = absurd (unmet (inside hide) e (λ t. t) q)
  left_as (inside unhide) e h q = absurd (unmet (inside unhide) e (λ t. t) q)
  left_as (inside intra) e h q = absurd (unmet (inside intra) e (λ t. t) q)
  left_as inter e h q = absurd (unmet inter e (λ t. t) q)
  left_as unknown e h q = absurd (unmet unknown e (λ t. t) q)

  unspent : T (state_fits_to old_stamp_limit m st) → act_to old_stamp_limit m st v ≡ refused 20 → Made (act m st v)
  unfolding act_to
  unspent t q =
      let h = last_low old_stamp_limit m st t v.box in
      let x = left_as (kind_of_move v.kind) refl (omega arith) q in
      (x.0, sym (moves_as m st v) ∙ x.1)

old_states_lem : OldStates
old_states_lem = record {
  obeys = λ m st t. subst T (rules_as m st) (state_more old_stamp_limit stamp_limit wider m st t);
  answers = λ m st v n. sym (moves_as m st v) ∙ act_more old_stamp_limit stamp_limit wider m st v n;
  unspent = unspent;
  step_calls = λ image words v a b. sym (step_as image words v) ∙ step_more old_stamp_limit stamp_limit wider image words v a b;
  run_calls = λ image words vs answers a b. sym (run_as image words vs answers) ∙ run_more old_stamp_limit stamp_limit wider image words vs answers a b;
}
  where
    wider : old_stamp_limit < stamp_limit
    wider = omega arith

-- ---- 32 bits

-- a held name in order, where the model lists at most 60 names and no stamp is above the limit
held_low : (m : Model) (last : ℕ → ℕ) → length m.kinds ≤ 60 → ((b : ℕ) → last b ≤ stamp_limit) → (v : ℕ) → HeldFits m last v → v ≤ largest_held
unfolding held_number held_stamp
held_low m last few low v h = pick (ℕ_discrete (kind_of_name m.kinds (held_number v)) 0)
  where
    pick : Dec (kind_of_name m.kinds (held_number v) ≡ 0) → v ≤ largest_held
    pick (yes e) = omega (arith, h.free e, h.listed)
    pick (no f) = let x = h.made f in omega (arith, x.3, low x.0, h.listed)

-- word j of every slot of an array, if it is so of those in use
slot_low : (w n j c : ℕ) (ok : List ℕ → Bool) (f : ℕ → List ℕ) → Array w 16 ok c f → ((x : List ℕ) → T (ok x) → word x j ≤ n)
    → (i : ℕ) → i < 16 → word (f i) j ≤ n
slot_low w n j c ok f k p i h = pick (dec_lt i c)
  where
    pick : Dec (i < c) → word (f i) j ≤ n
    pick (yes l) = p (f i) (k.live i l)
    pick (no l) = let e : word (f i) j ≡ 0 = ap (λ (x : List ℕ). word x j) (k.dead i h (omega arith)) ∙ word-zeros w j in omega arith

module _ (m : Model) (few : length m.kinds ≤ 60) (st : List ℕ) (fits : StateFits m st) where
  stamps_low : (b : ℕ) → last_stamps st b ≤ stamp_limit
  unfolding last_stamps
  stamps_low = last_low stamp_limit m st (subst T (sym (rules_as m st)) ((state_iff m st).1 fits))

  low : (v : ℕ) → HeldFits m (last_stamps st) v → v ≤ largest_held
  low = held_low m (last_stamps st) few stamps_low

  -- a word of a box's slot: of a box that the model has, or zero
  box_low : (base w i j b : ℕ) → j < w → b < 8
      → (RecordFits m (last_stamps st) (box_at m b) (record_of st b) → word (slot base w (record_of st b) i) j ≤ largest_held)
      → word (slot base w (record_of st b) i) j ≤ largest_held
  box_low base w i j b l h p = pick (dec_lt b (box_count m))
    where
      pick : Dec (b < box_count m) → word (slot base w (record_of st b) i) j ≤ largest_held
      pick (yes q) = p (fits.live b h q)
      pick (no q) =
          let e : word (slot base w (record_of st b) i) j ≡ 0 =
          word_slot base w (record_of st b) i j l ∙ ap (λ (r : List ℕ). word r (base + w * i + j)) (fits.dead b h (omega arith)) ∙ word-zeros 1139 _ in
          omega arith

  thread_low : (x : Box) (k : ℕ) → k < 60 → (y : List ℕ) → T (thread_words_fit m (last_stamps st) x y) → binding y k ≤ largest_held
  thread_low x k h y t =
      let f = (thread_iff m (last_stamps st) x y).0 t in
      ⊎_elim (λ a. low (binding y k) (f.bound k h a)) (λ a. let e = f.unbound k h a in omega arith) (decide (bound_above x (line y) k))

  site_low : (x : List ℕ) → T (site_words_fit m (last_stamps st) x) → (subject x ≤ largest_held) × ((j : ℕ) → j < 8 → type_word x j ≤ largest_held)
  site_low x t =
      let f = (site_iff m (last_stamps st) x).0 t in
      (low (subject x) f.subject_fits, λ j h. pick j h f (ℕ_discrete (type_word x j) 0))
    where
      pick : (j : ℕ) → j < 8 → SiteFits m (last_stamps st) x → Dec (type_word x j ≡ 0) → type_word x j ≤ largest_held
      pick j h f (yes e) = omega arith
      pick j h f (no e) = low (type_word x j) (f.type_fits j h e)

  held_up_to : HeldUpTo largest_held st
  unfolding held
  held_up_to = record {
    bindings = λ b t k hb ht hk. box_low 163 61 t (1 + k) b (omega arith) hb (λ r. slot_low 61 _ (1 + k) _ _ _ r.threads_fit (thread_low (box_at m b) k hk) t ht);
    subjects = λ b i hb hi. box_low 3 10 i 0 b (omega arith) hb (λ r. slot_low 10 _ 0 _ _ _ r.sites_fit (λ x t. (site_low x t).0) i hi);
    types = λ b i j hb hi hj. box_low 3 10 i (2 + j) b (omega arith) hb (λ r. slot_low 10 _ (2 + j) _ _ _ r.sites_fit (λ x t. (site_low x t).1 j hj) i hi);
    next = λ b k hb hk l. omega arith;
  }

-- a step keeps the state rules
step_fits : (image words : List ℕ) → read_model image ≡ none → StateFits (model_of image) words → (v : Move) → StateFits (model_of image) (step image words v).words
unfolding step
step_fits image words read fits v =
    let passed = (step_iff image words).1 (read, (fits.size, (state_iff (model_of image) words).1 fits)) in
    let after = outcome_good (model_of image) (StateFits (model_of image)) words fits v (act_fits (model_of image) (valid_image image read) words fits v) in
    subst (λ (r : Option Refusal). StateFits (model_of image) (written r (outcome_words words (act (model_of image) words v)) words)) (sym passed) after

steps_fit : (image words : List ℕ) → read_model image ≡ none → StateFits (model_of image) words → (vs : List Move) → StateFits (model_of image) (steps image words vs).words
unfolding steps
steps_fit image words read fits [] = fits
steps_fit image words read fits (v ∷ vs) = steps_fit image (step image words v).words read (step_fits image words read fits v) vs

room : Room
unfolding held
room = record {
  largest = refl;
  fits = omega arith;
  states = λ image words e vs.
      let p = (step_iff image words).0 e in
      held_up_to (model_of image) (valid_image image p.0).names _ (steps_fit image words p.0 ((state_iff (model_of image) words).0 p.1.1) vs);
}

pub longer_runs : LongerRuns
longer_runs = record { as_defined = as_defined_lem; old_states = old_states_lem; room = room }
