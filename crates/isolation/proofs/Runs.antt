-- A run from a start is never refused, each answer belongs to its own step, and rule 3 entire. Assumes nothing.
use mathlib.Core.Path.{◌≡◌, refl, ap, ◌∙◌}
use mathlib.Core.List.{List, [], ◌∷◌, ◌++◌}
use mathlib.Core.Option.{none}
use Prim.Native.Nat.{ℕ}
use lib.ListN.{length}
use Rattle.definitions.specs.Answer.{answer_number}
use Rattle.definitions.specs.Image.{model_of}
use Rattle.definitions.specs.ReadModel.{read_model}
use Rattle.definitions.specs.Start.{start_state}
use Rattle.definitions.specs.Moves.{Move}
use Rattle.definitions.specs.Calls.{step, steps, run}
use Rattle.definitions.proofs.ReadModel.{valid_image}
use Rattle.definitions.proofs.StateRules.{StateFits, state_iff}
use Rattle.definitions.proofs.Calls.{run_iff}
use Rattle.isolation.specs.Rule3.{ran}
use Rattle.isolation.specs.Runs.{NeverRefused, OwnStep, OwnSteps, Entire}
use Rattle.isolation.proofs.StartFits.{start_fits}
use Rattle.isolation.proofs.Rule3.{start_read, start_words, rule3, rule3-run}
use Rattle.isolation.proofs.Reached.{run-is-steps}

-- a model that is read, words that obey the state rules, and as many answers as moves: none of the run's tests fails
run_unrefused : (model words : List ℕ) (moves : List Move) (answers : List ℕ) → read_model model ≡ none → StateFits (model_of model) words
    → length answers ≡ length moves → (run model words moves answers).answer ≡ none
unfolding run
run_unrefused model words moves answers read fits l =
    (run_iff model words moves answers).1 (read, ((fits.size, l), (state_iff (model_of model) words).1 fits))

-- a start that is not refused has read its model, and the words that it wrote obey the state rules
pub never_refused_lem : NeverRefused
unfolding NeverRefused
never_refused_lem model words moves answers started l =
    let read = start_read model words started in
    rw (start_words model words started)
    (run_unrefused model (start_state (model_of model)) moves answers read (start_fits (model_of model) (valid_image model read)) l)

-- by the definition of steps, one move after the other
own_step : (model words : List ℕ) (before : List Move) (v : Move) (after : List Move)
    → OwnStep model words before v after (steps model words (before ++ (v ∷ after)))
unfolding steps
own_step model words [] v after = record { answers = refl; words = refl }
own_step model words (x ∷ before) v after =
    let first = step model words x in
    let rest = own_step model first.words before v after in
    record { answers = ap (λ (l : List ℕ). answer_number first.answer ∷ l) rest.answers; words = rest.words }

-- a run that is not refused is the list of its step calls
pub own_steps_lem : OwnSteps
own_steps_lem = record { in_steps = own_step; in_run = in_run_lem }
  where
    in_run_lem : (model words : List ℕ) (before : List Move) (v : Move) (after : List Move) (answers : List ℕ)
        → (run model words (before ++ (v ∷ after)) answers).answer ≡ none
        → OwnStep model words before v after (ran (run model words (before ++ (v ∷ after)) answers))
    in_run_lem model words before v after answers e =
        let r = run-is-steps model words (before ++ (v ∷ after)) answers e in
        let k = own_step model words before v after in
        record { answers = r.0 ∙ k.answers; words = r.1 ∙ k.words }

pub entire : Entire
entire = record { over_steps = rule3; over_runs = rule3-run; never_refused = never_refused_lem; own_steps = own_steps_lem }
