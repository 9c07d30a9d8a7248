-- What is true in every state that is reached from a start by any moves: the state rules; that an accepted estimate covers it (subject
-- reduction); that no inter move that names a shut-off box is made. And a run is the list of its step calls. Assumes nothing.
use mathlib.Core.Path.{◌≡◌, refl, ap, subst, sym, ◌∙◌}
use mathlib.Core.Logic.{◌⊎◌, inl, inr, ◌≢◌, ⊎_elim}
use mathlib.Core.Bool.{true, not}
use mathlib.Core.List.{List, [], ◌∷◌}
use mathlib.Core.Option.{Option, none, some}
use Prim.Native.Nat.{ℕ}
use native.Mathlib.Omega.{arith}
use lib.Dec.{T}
use Rattle.definitions.specs.Bounded.{◌is◌}
use Rattle.definitions.specs.Answer.{Refusal}
use Rattle.definitions.specs.Model.{Model}
use Rattle.definitions.specs.Image.{model_of}
use Rattle.definitions.specs.ReadModel.{read_model}
use Rattle.definitions.specs.Estimate.{estimate_of}
use Rattle.definitions.specs.Clauses.{accepted, check}
use Rattle.definitions.specs.ShutOff.{is_shut_off, question}
use Rattle.definitions.specs.Start.{start_state}
use Rattle.definitions.specs.Moves.{Kind, inter, kind_of_move, Move, Outcome, refused, made, inter_act, act_as, act}
use Rattle.definitions.specs.Calls.{start, outcome_words, outcome_refusal, state_refusal, step, MovesResult, steps, act_all, run}
use Rattle.isolation.specs.Group.{names_as, names, only}
use Rattle.definitions.proofs.Bounded.{right_none, or_iff, is_iff, true_of, false_of}
use Rattle.definitions.proofs.ReadModel.{valid_image}
use Rattle.definitions.proofs.StateRules.{StateFits, state_iff}
use Rattle.definitions.proofs.Calls.{run_iff}
use Rattle.definitions.proofs.Made.{inter_act_lem}
use Rattle.isolation.proofs.KeepState.{act_fits}
use Rattle.isolation.proofs.StartFits.{start_fits}
use Rattle.isolation.specs.Covers.{Covers}
use Rattle.definitions.proofs.Clauses.{broken_iff}
use Rattle.isolation.proofs.Shut.{inter-refused}
use Rattle.isolation.proofs.Follow.{outcome_good}
use Rattle.isolation.proofs.Rule3.{question_yes, check-accepted, start_words, start_read, run_words, steps_are_moves, Good, good_start, good_next, image_shut}

-- a property that a made move keeps is there after any list of moves
moves_keep : (m : Model) (P : List ℕ → Type 0) → ((st : List ℕ) → P st → (v : Move) (w : List ℕ) → act m st v ≡ made w → P w)
    → (vs : List Move) (st : List ℕ) → P st → P (act_all m st vs).words
unfolding act_all
moves_keep m P next [] st p = p
moves_keep m P next (v ∷ vs) st p = moves_keep m P next vs (outcome_words st (act m st v)) (outcome_good m P st p v (next st p v))

-- a step that refuses nothing made its move
outcome_made : (o : Outcome (List ℕ)) → outcome_refusal o ≡ none → (w : List ℕ) × (o ≡ made w)
outcome_made (refused n) e = absurd (subst (λ (r : Option Refusal). code r) e tt)
  where
    code : Option Refusal → Type 0
    code none = ⊥
    code (some r) = Unit
outcome_made (made w) e = (w, refl)

step-made : (model st : List ℕ) (v : Move) → (step model st v).answer ≡ none → (w : List ℕ) × (act (model_of model) st v ≡ made w)
unfolding step
step-made model st v e = outcome_made (act (model_of model) st v) (right_none (state_refusal model st) (outcome_refusal (act (model_of model) st v)) e)

act_inter : (m : Model) (st : List ℕ) (v : Move) → kind_of_move v.kind ≡ inter → (w : List ℕ) → act m st v ≡ made w
    → inter_act m st v.box v.thread v.box2 v.thread2 ≡ made w
unfolding act act_as
act_inter m st v k w e = sym (ap (λ (x : Kind). act_as m st x v) k) ∙ e

names_inter : (v : Move) (h : ℕ) → kind_of_move v.kind ≡ inter → T (names (only h) v) → (v.box ≡ h) ⊎ (v.box2 ≡ h)
unfolding names names_as only
names_inter v h k t =
    ⊎_elim (λ a. inl ((is_iff v.box h).0 a)) (λ a. inr ((is_iff v.box2 h).0 a))
    ((or_iff (v.box is h) (v.box2 is h)).0 (subst T (ap (λ (x : Kind). names_as (only h) x v) k) t))

-- of two boxes that differ, one of which is h, exactly one is h
one_side : (h b c : ℕ) → b ≢ c → (b ≡ h) ⊎ (c ≡ h) → only h b ≡ not (only h c)
unfolding only
one_side h b c n (inl e) = true_of (b is h) ((is_iff b h).1 e) ∙ ap not (sym (false_of (c is h) (λ t. let q = (is_iff c h).0 t in n (omega arith))))
one_side h b c n (inr e) = false_of (b is h) (λ t. let q = (is_iff b h).0 t in n (omega arith)) ∙ ap not (sym (true_of (c is h) ((is_iff c h).1 e)))

-- what a run that is not refused says of the model and of the words it was lent
run_state : (model words : List ℕ) (vs : List Move) (answers : List ℕ) → (run model words vs answers).answer ≡ none
    → (read_model model ≡ none) × StateFits (model_of model) words
unfolding run
run_state model words vs answers e =
    let p = (run_iff model words vs answers).0 e in
    (p.0, (state_iff (model_of model) words).0 p.1.1)

-- ---- from a start that is not refused

module _ (model words : List ℕ) (started : (start model words).answer ≡ none) (vs : List Move) where
  after_is : (steps model (start model words).words vs).words ≡ (act_all (model_of model) (start_state (model_of model)) vs).words
  after_is =
      rw (start_words model words started)
      (ap (λ (r : MovesResult). r.words) (steps_are_moves model (start_read model words started) _ (start_fits (model_of model) (valid_image model (start_read model words started))) vs))

  -- every state so reached obeys the state rules
  pub reached_fits : StateFits (model_of model) (steps model (start model words).words vs).words
  reached_fits =
      let valid = valid_image model (start_read model words started) in
      rw after_is (moves_keep (model_of model) (StateFits (model_of model)) (act_fits (model_of model) valid) vs (start_state (model_of model)) (start_fits (model_of model) valid))

  -- subject reduction: an accepted estimate covers every state so reached
  pub subject_reduction : (estimate : List ℕ) → check model estimate ≡ accepted → Covers (model_of model) (estimate_of estimate) (steps model (start model words).words vs).words
  subject_reduction estimate ok =
      let c = check-accepted model estimate ok in
      let valid = valid_image model c.model_read in
      let meets = (broken_iff (model_of model) (estimate_of estimate)).0 c.clauses in
      rw after_is
      (moves_keep (model_of model) (Good (model_of model) (estimate_of estimate)) (good_next (model_of model) valid (estimate_of estimate) meets) vs
      (start_state (model_of model)) (good_start (model_of model) valid (estimate_of estimate) meets)).covered

  -- no inter move that names a box shown shut off is ever made
  pub inter_never_made : (estimate : List ℕ) (h : ℕ) → question model estimate h ≡ is_shut_off true → (v : Move) → kind_of_move v.kind ≡ inter → T (names (only h) v)
      → (step model (steps model (start model words).words vs).words v).answer ≢ none
  inter_never_made estimate h shut v k named answer =
      let y = question_yes model estimate h shut in
      let w = step-made model (steps model (start model words).words vs).words v answer in
      let z = act_inter (model_of model) (steps model (start model words).words vs).words v k w.0 w.1 in
      let i = inter_act_lem (model_of model) (steps model (start model words).words vs).words v.box v.thread v.box2 v.thread2 w.0 z in
      inter-refused (model_of model) (estimate_of estimate) (only h) (image_shut model estimate h y)
      (steps model (start model words).words vs).words (subject_reduction estimate y.accepts.verdict)
      v.box v.thread v.box2 v.thread2 w.0 (one_side h v.box v.box2 i.differ (names_inter v h k named)) z

-- a run that is not refused is the list of its step calls: the same answers, and the same words at the end
pub run-is-steps : (model words : List ℕ) (vs : List Move) (answers : List ℕ) → (run model words vs answers).answer ≡ none
    → ((run model words vs answers).answers ≡ (steps model words vs).answers) × ((run model words vs answers).words ≡ (steps model words vs).words)
run-is-steps model words vs answers e =
    let r = run_words model words vs answers e in
    let k = run_state model words vs answers e in
    let s = steps_are_moves model k.0 words k.1 vs in
    (r.1 ∙ ap (λ (x : MovesResult). x.answers) (sym s), r.0 ∙ ap (λ (x : MovesResult). x.words) (sym s))
