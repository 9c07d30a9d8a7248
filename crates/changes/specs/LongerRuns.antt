-- Change request 11, longer runs: the state rules, the moves, step and run with any number as the largest stamp, what the request says of
-- the old limit and the new one, and that no held name needs more than 32 bits. Assumes nothing.
use Rattle.std.specs.Prelude.{◌≡◌, Bool, true, false, not, List, [], ◌∷◌, ◌≢◌, ℕ, ◌+◌, ◌^◌, ◌≤◌, ◌<◌, T, length}
use Rattle.std.proofs.Math.Option.{Option, none, some}
use Rattle.definitions.specs.Bounded.{◌and◌, ◌or◌, ◌implies◌, ◌is◌, ◌isnt◌, ◌below◌, ◌upto◌, all_below, some_if, or_else}
use Rattle.definitions.specs.Limits.{name_limit, box_limit, slot_limit, type_limit}
use Rattle.definitions.specs.Slots.{word}
use Rattle.definitions.specs.Answer.{Refusal, unplaced}
use Rattle.definitions.specs.Model.{Box, Model, box_at, box_count, restriction, expose as op_expose}
use Rattle.definitions.specs.Image.{model_of}
use Rattle.definitions.specs.ReadModel.{read_model}
use Rattle.definitions.specs.Record.{held, stamp_limit, site_width, thread_width, record_length, stamp, threads, sites, site, thread, subject, type_word, binding, state_length, record_of, last_stamps, set_stamp, put_thread, push_site, put_record}
use Rattle.definitions.specs.StateRules.{clear, slots_fit, site_words_fit, thread_words_fit, state_fits}
use Rattle.definitions.specs.Start.{type_words}
use Rattle.definitions.specs.Moves.{Inside, drop, spread, new, copy, expose, hide, unhide, intra, Kind, inside, inter, unknown, kind_of_move, Move, Outcome, refused, made, need, on_made, thread_line, value_in, onward_with, at_line, inside_move, inter_act, act}
use Rattle.definitions.specs.Calls.{StepResult, written, outcome_number, outcome_words, outcome_refusal, state_refusal, step, MovesResult, steps, RunResult, run}

-- the largest stamp before the request
abbrev pub old_stamp_limit : ℕ
old_stamp_limit = 65535

-- ---- as in the definitions, with `limit` for the largest stamp

module _ (limit : ℕ) where
  -- the state rules
  unfoldable pub record_fits_to : Model → (ℕ → ℕ) → Box → List ℕ → Bool
  record_fits_to m last x r =
      length r is record_length and stamp r upto limit
      and slots_fit thread_width (thread_words_fit m last x) (threads r) (thread r)
      and slots_fit site_width (site_words_fit m last) (sites r) (site r)
      and all_below slot_limit (λ i. all_below i (λ j. i below sites r implies subject (site r j) isnt subject (site r i)))

  unfoldable pub state_fits_to : Model → List ℕ → Bool
  state_fits_to m st =
      length st is state_length
      and all_below box_limit (λ b. elim (b below box_count m) [
        | true ↦ record_fits_to m (last_stamps st) (box_at m b) (record_of st b)
        | false ↦ clear record_length (record_of st b)
      ])

  -- the two moves that use a stamp, and with them all moves
  module _ (kinds : List ℕ) (x : Box) (r : List ℕ) where
    unfoldable pub new_move_to : ℕ → Outcome (List ℕ)
    new_move_to t =
        let n = (thread_line kinds x r t).name1 in
        let s = stamp r + 1 in
        at_line kinds x r t restriction (need (stamp r below limit) 20
        (made (put_thread (set_stamp r s) t (onward_with kinds x r t n (held n s)))))

    unfoldable pub expose_move_to : ℕ → Outcome (List ℕ)
    expose_move_to t =
        let n = (thread_line kinds x r t).name1 in
        let s = stamp r + 1 in
        at_line kinds x r t op_expose (need (sites r below slot_limit) 19 (need (stamp r below limit) 20
        (made (push_site (put_thread (set_stamp r s) t (onward_with kinds x r t n (held n s)))
        (held n s ∷ 0 ∷ type_words (value_in kinds (thread r t)) (thread_line kinds x r t).type)))))

    unfoldable pub inside_move_to : Inside → ℕ → ℕ → Outcome (List ℕ)
    inside_move_to drop t u = inside_move kinds x r drop t u
    inside_move_to spread t u = inside_move kinds x r spread t u
    inside_move_to new t u = new_move_to t
    inside_move_to copy t u = inside_move kinds x r copy t u
    inside_move_to expose t u = expose_move_to t
    inside_move_to hide t u = inside_move kinds x r hide t u
    inside_move_to unhide t u = inside_move kinds x r unhide t u
    inside_move_to intra t u = inside_move kinds x r intra t u

  module _ (m : Model) (st : List ℕ) where
    unfoldable pub inside_act_to : Inside → ℕ → ℕ → ℕ → Outcome (List ℕ)
    inside_act_to k b t u =
        need (b below box_count m) 12 (on_made (put_record st b) (inside_move_to m.kinds (box_at m b) (record_of st b) k t u))

    unfoldable pub act_as_to : Kind → Move → Outcome (List ℕ)
    act_as_to (inside k) v = inside_act_to k v.box v.thread v.thread2
    act_as_to inter v = inter_act m st v.box v.thread v.box2 v.thread2
    act_as_to unknown v = refused 12

    unfoldable pub act_to : Move → Outcome (List ℕ)
    act_to v = act_as_to (kind_of_move v.kind) v

  -- the calls
  unfoldable pub moves_refusal_to : List ℕ → List ℕ → Bool → Option Refusal
  moves_refusal_to image words wrong =
      or_else (read_model image) (or_else (some_if wrong (unplaced 10)) (some_if (not (state_fits_to (model_of image) words)) (unplaced 11)))

  unfoldable pub step_to : List ℕ → List ℕ → Move → StepResult
  step_to image words v =
      let refusal = moves_refusal_to image words (length words isnt state_length) in
      let outcome = act_to (model_of image) words v in
      record { answer = or_else refusal (outcome_refusal outcome); words = written refusal (outcome_words words outcome) words }

  unfoldable pub act_all_to : Model → List ℕ → List Move → MovesResult
  act_all_to m words [] = record { answers = []; words = words }
  act_all_to m words (v ∷ vs) =
      let outcome = act_to m words v in
      let rest = act_all_to m (outcome_words words outcome) vs in
      record { answers = outcome_number outcome ∷ rest.answers; words = rest.words }

  unfoldable pub run_to : List ℕ → List ℕ → List Move → List ℕ → RunResult
  run_to image words moves answers =
      let refusal = moves_refusal_to image words (length words isnt state_length or length answers isnt length moves) in
      let all = act_all_to (model_of image) words moves in
      record { answer = refusal; words = written refusal all.words words; answers = written refusal all.answers answers }

-- ---- what the request says

-- with the new limit all this is what the definitions say, so the old is the definitions' own but for the limit
pub record AsDefined : Type 0 where
  pub rules : (m : Model) (st : List ℕ) → state_fits_to stamp_limit m st ≡ state_fits m st
  pub moves : (m : Model) (st : List ℕ) (v : Move) → act_to stamp_limit m st v ≡ act m st v
  pub step_calls : (image words : List ℕ) (v : Move) → step_to stamp_limit image words v ≡ step image words v
  pub run_calls : (image words : List ℕ) (vs : List Move) (answers : List ℕ) → run_to stamp_limit image words vs answers ≡ run image words vs answers

-- each old state is a state with the same meaning
pub record OldStates : Type 0 where
  -- words that obey the old state rules obey the new ones
  pub obeys : (m : Model) (st : List ℕ) → T (state_fits_to old_stamp_limit m st) → T (state_fits m st)
  -- a move's answer, and the words where it is made, are the old ones unless the old answer was 20: in any words
  pub answers : (m : Model) (st : List ℕ) (v : Move) → act_to old_stamp_limit m st v ≢ refused 20 → act m st v ≡ act_to old_stamp_limit m st v
  -- and where it was 20, in an old state, the move is made now
  pub unspent : (m : Model) (st : List ℕ) (v : Move) → T (state_fits_to old_stamp_limit m st) → act_to old_stamp_limit m st v ≡ refused 20
      → (w : List ℕ) × (act m st v ≡ made w)
  -- a step, on any image and any words, does what it did unless its old answer was 11 or 20
  pub step_calls : (image words : List ℕ) (v : Move) → (step_to old_stamp_limit image words v).answer ≢ some (unplaced 11)
      → (step_to old_stamp_limit image words v).answer ≢ some (unplaced 20) → step image words v ≡ step_to old_stamp_limit image words v
  -- a run does what it did unless its old answer was 11 or, where it was not refused, one of its moves was answered 20
  pub run_calls : (image words : List ℕ) (vs : List Move) (answers : List ℕ) → (run_to old_stamp_limit image words vs answers).answer ≢ some (unplaced 11)
      → ((run_to old_stamp_limit image words vs answers).answer ≡ none → (i : ℕ) → word (run_to old_stamp_limit image words vs answers).answers i ≢ 20)
      → run image words vs answers ≡ run_to old_stamp_limit image words vs answers

-- the held names of a state, and those that a move would make in it, are at most n
pub record HeldUpTo (n : ℕ) (st : List ℕ) : Type 0 where
  pub bindings : (b t k : ℕ) → b < box_limit → t < slot_limit → k < name_limit → binding (thread (record_of st b) t) k ≤ n
  pub subjects : (b i : ℕ) → b < box_limit → i < slot_limit → subject (site (record_of st b) i) ≤ n
  pub types : (b i j : ℕ) → b < box_limit → i < slot_limit → j < type_limit → type_word (site (record_of st b) i) j ≤ n
  pub next : (b k : ℕ) → b < box_limit → k < name_limit → stamp (record_of st b) < stamp_limit → held k (stamp (record_of st b) + 1) ≤ n

-- no held name overflows 32 bits: neither in words that a step takes for a state, nor after any steps from there
abbrev pub largest_held : ℕ
largest_held = 4294967292

pub record Room : Type 0 where
  pub largest : largest_held ≡ held 59 stamp_limit
  pub fits : largest_held < 2 ^ 32
  pub states : (image words : List ℕ) → state_refusal image words ≡ none → (vs : List Move) → HeldUpTo largest_held (steps image words vs).words

pub record LongerRuns : Type 0 where
  pub as_defined : AsDefined
  pub old_states : OldStates
  pub room : Room
