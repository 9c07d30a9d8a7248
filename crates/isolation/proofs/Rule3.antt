-- Rule 3, entire: from the question's yes to equal answers and equal records. Assumes nothing.
use mathlib.Core.Path.{◌≡◌, refl, ap, ap₂, subst, sym, ◌∙◌}
use mathlib.Core.Bool.{Bool, true, false}
use mathlib.Core.List.{List, [], ◌∷◌}
use mathlib.Core.Option.{Option, none, some}
use Prim.Native.Nat.{ℕ, ◌<◌}
use native.Mathlib.Omega.{arith}
use native.Mathlib.Decide.{dec_lt}
use lib.Dec.{T}
use lib.ListN.{length}
use Rattle.definitions.specs.Bounded.{◌isnt◌, ◌below◌, some_if, or_else}
use Rattle.definitions.specs.Answer.{Refusal, unplaced, answer_number}
use Rattle.definitions.specs.Model.{Model, box_count}
use Rattle.definitions.specs.Image.{name_count, boxes_of, model_of}
use Rattle.definitions.specs.ReadModel.{read_model}
use Rattle.definitions.specs.Estimate.{Estimate, estimate_of}
use Rattle.definitions.specs.ReadEstimate.{read_estimate}
use Rattle.definitions.specs.Clauses.{Broken, first_broken, Verdict, accepted, breaks, refused_model, refused_estimate, verdict_of, after_estimate, after_model, check}
use Rattle.definitions.specs.ShutOff.{shut_off, Reply, not_accepted, nobody, is_shut_off, reply, question}
use Rattle.definitions.specs.Record.{state_length, record_of}
use Rattle.definitions.specs.StateRules.{state_fits}
use Rattle.definitions.specs.Start.{start_record, start_state}
use Rattle.definitions.specs.Moves.{Move, Outcome, refused, made, act}
use Rattle.definitions.specs.Calls.{written, start_refusal, start, outcome_number, outcome_words, outcome_refusal, state_refusal, step, MovesResult, steps, act_all, run}
use Rattle.isolation.specs.Group.{only, struck, answers_left, EqualOutside}
use Rattle.definitions.proofs.Bounded.{tests, left_none, of_true}
use Rattle.definitions.proofs.Valid.{Valid}
use Rattle.definitions.proofs.Image.{model_count}
use Rattle.definitions.proofs.ReadModel.{valid_image}
use Rattle.definitions.proofs.StateRules.{StateFits, state_iff}
use Rattle.definitions.proofs.Calls.{step_iff}
use Rattle.isolation.proofs.KeepState.{act_fits, inside-size, inter-size}
use Rattle.definitions.proofs.Start.{start_record_lem, start_lacking}
use Rattle.isolation.proofs.StartFits.{start_fits}
use Rattle.isolation.specs.Covers.{Covers}
use Rattle.definitions.proofs.Clauses.{AllClauses, broken_iff}
use Rattle.isolation.proofs.CoverStart.{start_covered}
use Rattle.isolation.proofs.Covered.{act_covered}
use Rattle.isolation.proofs.Shut.{GroupShut, shut_group, inter-same_side}
use Rattle.isolation.specs.Rule3.{Setting, Same, ran, Rule3, Rule3Run}
use Rattle.isolation.proofs.Follow.{SameOutside, Reached, outcome_good, struck_alike}

-- ---- what an acceptance and a yes say

pub record CheckAccepted (model estimate : List ℕ) : Type 0 where
  pub verdict : check model estimate ≡ accepted
  pub model_read : read_model model ≡ none
  pub estimate_read : read_estimate (name_count model) (boxes_of model) estimate ≡ none
  pub clauses : first_broken (model_of model) (estimate_of estimate) ≡ none

is-accepted : Verdict → Type 0
is-accepted accepted = Unit
is-accepted (breaks x) = ⊥
is-accepted (refused_model x) = ⊥
is-accepted (refused_estimate x) = ⊥

pub check-accepted : (model estimate : List ℕ) → check model estimate ≡ accepted → CheckAccepted model estimate
unfolding check is-accepted
check-accepted model estimate e =
    go (read_model model) refl (read_estimate (name_count model) (boxes_of model) estimate) refl (first_broken (model_of model) (estimate_of estimate)) refl
    (subst is-accepted (sym e) tt)
  where
    go : (a : Option Refusal) → read_model model ≡ a → (b : Option Refusal) → read_estimate (name_count model) (boxes_of model) estimate ≡ b
        → (c : Option Broken) → first_broken (model_of model) (estimate_of estimate) ≡ c
        → is-accepted (after_model a (after_estimate b (verdict_of c))) → CheckAccepted model estimate
    go none ea none eb none ec z = record { verdict = e; model_read = ea; estimate_read = eb; clauses = ec }
    go none ea none eb (some x) ec z = absurd z
    go none ea (some r) eb c ec z = absurd z
    go (some r) ea b eb c ec z = absurd z

pub record Yes (model estimate : List ℕ) (h : ℕ) : Type 0 where
  pub accepts : CheckAccepted model estimate
  pub box : h < boxes_of model
  pub shut : T (shut_off (estimate_of estimate) (boxes_of model) h)

is_answer : Reply → Type 0
is_answer (not_accepted v) = ⊥
is_answer (nobody r) = ⊥
is_answer (is_shut_off b) = T b

pub question_yes : (model estimate : List ℕ) (h : ℕ) → question model estimate h ≡ is_shut_off true → Yes model estimate h
unfolding question is_answer
question_yes model estimate h e =
    go (check model estimate) refl (h below boxes_of model) refl (subst is_answer (sym e) tt)
  where
    s : Bool
    s = shut_off (estimate_of estimate) (boxes_of model) h

    go : (v : Verdict) → check model estimate ≡ v → (d : Bool) → (h below boxes_of model) ≡ d
        → is_answer (reply v (elim d [ true ↦ is_shut_off s | false ↦ nobody (unplaced 12) ])) → Yes model estimate h
    go accepted ev true ed z = record { accepts = check-accepted model estimate ev; box = simp tests at (of_true ed); shut = z }
    go accepted ev false ed z = absurd z
    go (breaks x) ev d ed z = absurd z
    go (refused_model x) ev d ed z = absurd z
    go (refused_estimate x) ev d ed z = absurd z

-- ---- a list of steps is the moves made one after the other

step_number : (o : Outcome (List ℕ)) → answer_number (outcome_refusal o) ≡ outcome_number o
step_number (refused n) = refl
step_number (made w) = refl

module _ (image : List ℕ) (read : read_model image ≡ none) (Good : List ℕ → Type 0)
    (size : (st : List ℕ) → Good st → length st ≡ state_length) (fits : (st : List ℕ) → Good st → T (state_fits (model_of image) st))
    (next : (st : List ℕ) → Good st → (v : Move) (w : List ℕ) → act (model_of image) st v ≡ made w → Good w) where
  no_refusal : (st : List ℕ) → Good st → state_refusal image st ≡ none
  no_refusal st g = (step_iff image st).1 (read, (size st g, fits st g))

  step_act : (st : List ℕ) → Good st → (v : Move)
      → (answer_number (step image st v).answer ≡ outcome_number (act (model_of image) st v)) × ((step image st v).words ≡ outcome_words st (act (model_of image) st v))
  unfolding step
  step_act st g v =
      let o = act (model_of image) st v in
      let e = no_refusal st g in (
        ap (λ (r : Option Refusal). answer_number (or_else r (outcome_refusal o))) e ∙ step_number o,
        ap (λ (r : Option Refusal). written r (outcome_words st o) st) e,
      )

  pub steps_acts : (vs : List Move) (st : List ℕ) → Good st → steps image st vs ≡ act_all (model_of image) st vs
  unfolding steps act_all
  steps_acts [] st g = refl
  steps_acts (v ∷ vs) st g =
      let a = step_act st g v in
      let rest = ap (λ (w : List ℕ). steps image w vs) a.1 ∙ steps_acts vs (outcome_words st (act (model_of image) st v)) (outcome_good (model_of image) Good st g v (next st g v)) in
      ap₂ (λ (n : ℕ) (r : MovesResult). let z : MovesResult = record { answers = n ∷ r.answers; words = r.words } in z) a.0 rest

-- ---- two lists that are equal once struck, each in its model, from states that are the same outside

record SameFor (group : ℕ → Bool) (vs₁ vs₂ : List Move) (ran₁ ran₂ : MovesResult) : Type 0 where
  answers : answers_left group vs₁ ran₁.answers ≡ answers_left group vs₂ ran₂.answers
  records : SameOutside group ran₁.words ran₂.words

lists_alike : (group : ℕ → Bool) (m₁ m₂ : Model) (Good₁ Good₂ : List ℕ → Type 0) → EqualOutside group m₁ m₂ → EqualOutside group m₂ m₂
    → Reached group m₁ Good₁ → Reached group m₂ Good₂ → (st₁ st₂ : List ℕ) → Good₁ st₁ → Good₂ st₂ → SameOutside group st₁ st₂
    → (vs₁ vs₂ : List Move) → struck group vs₁ ≡ struck group vs₂ → SameFor group vs₁ vs₂ (act_all m₁ st₁ vs₁) (act_all m₂ st₂ vs₂)
lists_alike group m₁ m₂ Good₁ Good₂ k k₂ r₁ r₂ st₁ st₂ g₁ g₂ same vs₁ vs₂ e =
    let a = struck_alike group m₁ m₂ k Good₁ Good₂ r₁ r₂ vs₁ st₁ st₂ g₁ g₂ same in
    let b = struck_alike group m₂ m₂ k₂ Good₂ Good₂ r₂ r₂ vs₂ st₂ st₂ g₂ g₂ (λ _ _ _. refl) in
    let q : act_all m₂ st₂ (struck group vs₁) ≡ act_all m₂ st₂ (struck group vs₂) = ap (act_all m₂ st₂) e in
    record {
      answers = a.answers ∙ ap (λ (r : MovesResult). r.answers) q ∙ sym b.answers;
      records = λ c l o. a.words c l o ∙ ap (λ (r : MovesResult). record_of r.words c) q ∙ sym (b.words c l o);
    }

-- what a start that is not refused says of the model, and leaves
pub start_read : (image words : List ℕ) → (start image words).answer ≡ none → read_model image ≡ none
unfolding start start_refusal
start_read image words e = left_none (read_model image) (some_if (length words isnt state_length) (unplaced 10)) e

pub start_words : (image words : List ℕ) → (start image words).answer ≡ none → (start image words).words ≡ start_state (model_of image)
unfolding start
start_words image words e = ap (λ (r : Option Refusal). written r (start_state (model_of image)) words) e

-- what a run that is not refused leaves
pub run_words : (image words : List ℕ) (vs : List Move) (answers : List ℕ) → (run image words vs answers).answer ≡ none
    → ((run image words vs answers).words ≡ (act_all (model_of image) words vs).words) × ((run image words vs answers).answers ≡ (act_all (model_of image) words vs).answers)
unfolding run
run_words image words vs answers e =
    let all = act_all (model_of image) words vs in
    (ap (λ (r : Option Refusal). written r all.words words) e, ap (λ (r : Option Refusal). written r all.answers answers) e)

-- ---- the states that are reached from a start

-- a state that obeys the state rules and that the estimate covers
pub record Good (m : Model) (e : Estimate) (st : List ℕ) : Type 0 where
  pub fits : StateFits m st
  pub covered : Covers m e st

module _ (m : Model) (valid : Valid m) (e : Estimate) (meets : AllClauses m e) where
  pub good_start : Good m e (start_state m)
  good_start = record { fits = start_fits m valid; covered = start_covered m valid e meets }

  pub good_next : (st : List ℕ) → Good m e st → (v : Move) (w : List ℕ) → act m st v ≡ made w → Good m e w
  good_next st g v w z =
      record { fits = act_fits m valid st g.fits v w z; covered = act_covered m valid e meets st g.fits g.covered v w z }

  -- where no box of the group is linked to a box outside it
  pub good_reached : (group : ℕ → Bool) → GroupShut e (box_count m) group → Reached group m (Good m e)
  good_reached group shut = record {
    most = valid.most_boxes;
    size = λ st g. g.fits.size;
    inside_size = λ st g. inside-size m valid st g.fits;
    inter_size = λ st g. inter-size m valid st g.fits;
    apart = λ st g. inter-same_side m e group shut st g.covered;
    next = good_next;
  }

-- two models that are equal outside start with the same records outside
start-same : (group : ℕ → Bool) (m₁ m₂ : Model) → Valid m₁ → EqualOutside group m₁ m₂ → SameOutside group (start_state m₁) (start_state m₂)
start-same group m₁ m₂ valid k b l o = pick (dec_lt b (box_count m₁))
  where
    pick : Dec (b < box_count m₁) → record_of (start_state m₁) b ≡ record_of (start_state m₂) b
    pick (yes i) =
        start_record_lem m₁ b l i ∙ ap start_record (k.others b i o) ∙ sym (start_record_lem m₂ b l (omega (arith, k.count)))
    pick (no i) = start_lacking m₁ b l (omega arith) ∙ sym (start_lacking m₂ b l (omega (arith, k.count)))

-- in a model that is not refused, from a state that obeys the state rules, a list of step calls makes its moves one after the other:
-- no step refuses the model, the length or the state
pub steps_are_moves : (model : List ℕ) → read_model model ≡ none → (st : List ℕ) → StateFits (model_of model) st → (vs : List Move)
    → steps model st vs ≡ act_all (model_of model) st vs
steps_are_moves model read st fits vs =
    steps_acts model read (StateFits (model_of model)) (λ w k. k.size) (λ w k. (state_iff (model_of model) w).1 k)
    (act_fits (model_of model) (valid_image model read)) vs st fits

-- ---- an image whose estimate is accepted

module _ (model estimate : List ℕ) (h : ℕ) (yes : Yes model estimate h) where
  pub image_valid : Valid (model_of model)
  image_valid = valid_image model yes.accepts.model_read

  pub image_accepted : AllClauses (model_of model) (estimate_of estimate)
  image_accepted = (broken_iff (model_of model) (estimate_of estimate)).0 yes.accepts.clauses

  pub image_shut : GroupShut (estimate_of estimate) (box_count (model_of model)) (only h)
  image_shut = rw (model_count model) (shut_group (estimate_of estimate) (boxes_of model) h yes.shut)

  pub image_reached : Reached (only h) (model_of model) (Good (model_of model) (estimate_of estimate))
  image_reached = good_reached (model_of model) image_valid (estimate_of estimate) image_accepted (only h) image_shut

  pub image_start : Good (model_of model) (estimate_of estimate) (start_state (model_of model))
  image_start = good_start (model_of model) image_valid (estimate_of estimate) image_accepted

-- ---- rule 3

module _ (model₁ model₂ estimate₁ estimate₂ : List ℕ) (h : ℕ) (words₁ words₂ : List ℕ) (moves₁ moves₂ : List Move)
    (s : Setting model₁ model₂ estimate₁ estimate₂ h words₁ words₂ moves₁ moves₂) where
  yes₁ : Yes model₁ estimate₁ h
  yes₁ = question_yes model₁ estimate₁ h s.shut₁

  yes₂ : Yes model₂ estimate₂ h
  yes₂ = question_yes model₂ estimate₂ h s.shut₂

  makes_same : Same h moves₁ moves₂ (act_all (model_of model₁) (start_state (model_of model₁)) moves₁) (act_all (model_of model₂) (start_state (model_of model₂)) moves₂)
  makes_same =
      let k =
      lists_alike (only h) (model_of model₁) (model_of model₂) _ _ s.equal_outside (record { kinds = refl; count = refl; others = λ _ _ _. refl })
      (image_reached model₁ estimate₁ h yes₁) (image_reached model₂ estimate₂ h yes₂) (start_state (model_of model₁)) (start_state (model_of model₂))
      (image_start model₁ estimate₁ h yes₁) (image_start model₂ estimate₂ h yes₂)
      (start-same (only h) (model_of model₁) (model_of model₂) (image_valid model₁ estimate₁ h yes₁) s.equal_outside) moves₁ moves₂ s.moves in
      record { answers = k.answers; records = k.records }

  steps-same : Same h moves₁ moves₂ (steps model₁ (start model₁ words₁).words moves₁) (steps model₂ (start model₂ words₂).words moves₂)
  steps-same =
      rw (
        start_words model₁ words₁ s.started₁,
        start_words model₂ words₂ s.started₂,
        steps_are_moves model₁ yes₁.accepts.model_read _ (image_start model₁ estimate₁ h yes₁).fits moves₁,
        steps_are_moves model₂ yes₂.accepts.model_read _ (image_start model₂ estimate₂ h yes₂).fits moves₂,
      )
      makes_same

  runs_same : (answers₁ answers₂ : List ℕ)
      → (run model₁ (start model₁ words₁).words moves₁ answers₁).answer ≡ none → (run model₂ (start model₂ words₂).words moves₂ answers₂).answer ≡ none
      → Same h moves₁ moves₂ (ran (run model₁ (start model₁ words₁).words moves₁ answers₁)) (ran (run model₂ (start model₂ words₂).words moves₂ answers₂))
  runs_same answers₁ answers₂ e₁ e₂ =
      let r₁ = run_words model₁ (start model₁ words₁).words moves₁ answers₁ e₁ in
      let r₂ = run_words model₂ (start model₂ words₂).words moves₂ answers₂ e₂ in
      rw (r₁.0, r₁.1, r₂.0, r₂.1, start_words model₁ words₁ s.started₁, start_words model₂ words₂ s.started₂) makes_same

-- The theorem.
pub rule3 : Rule3
unfolding Rule3
rule3 = steps-same

pub rule3-run : Rule3Run
unfolding Rule3Run
rule3-run model₁ model₂ estimate₁ estimate₂ h words₁ words₂ moves₁ moves₂ answers₁ answers₂ s =
    runs_same model₁ model₂ estimate₁ estimate₂ h words₁ words₂ moves₁ moves₂ s answers₁ answers₂
