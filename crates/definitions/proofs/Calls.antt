-- When step and run are not refused before a first move; lists of step calls and runs give one answer a move. Assumes nothing.
use mathlib.Core.Path.{◌≡◌, refl, ap, ◌∙◌}
use mathlib.Core.Bool.{Bool}
use mathlib.Core.Logic.{◌↔◌}
use mathlib.Core.List.{List, [], ◌∷◌}
use mathlib.Core.Option.{Option, none}
use Prim.Native.Nat.{ℕ, suc}
use lib.Dec.{T}
use lib.ListN.{length}
use Rattle.definitions.specs.Answer.{Refusal, unplaced}
use Rattle.definitions.specs.Model.{Model}
use Rattle.definitions.specs.Image.{model_of}
use Rattle.definitions.specs.ReadModel.{read_model}
use Rattle.definitions.specs.Record.{state_length}
use Rattle.definitions.specs.StateRules.{state_fits}
use Rattle.definitions.specs.Moves.{Move, act}
use Rattle.definitions.specs.Calls.{written, outcome_words, moves_refusal, state_refusal, step, steps, act_all, run_refusal, run}
use Rattle.definitions.proofs.Bounded.{fault_none, none_fault}
use Rattle.definitions.proofs.Faults.{faults}

-- not refused before a first move: exactly when the model is not refused, the lengths are right and the state rules hold. The same of a
-- step, and of a run
pub moves_iff : (image words : List ℕ) (wrong : Bool)
    → (moves_refusal image words wrong ≡ none) ↔ ((read_model image ≡ none) × ((T wrong → ⊥) × T (state_fits (model_of image) words)))
unfolding moves_refusal
moves_iff image words wrong = (
  λ e. let p = simp faults at e in (p.0, (fault_none wrong (unplaced 10) p.1.0, p.1.1)),
  λ p. simp faults (p.0, (none_fault wrong (unplaced 10) p.1.0, p.1.1)),
)

pub step_iff : (image words : List ℕ)
    → (state_refusal image words ≡ none) ↔ ((read_model image ≡ none) × ((length words ≡ state_length) × T (state_fits (model_of image) words)))
unfolding state_refusal moves_refusal
step_iff image words = (λ e. simp faults at e, λ p. simp faults p)

pub run_iff : (image words : List ℕ) (moves : List Move) (answers : List ℕ)
    → (run_refusal image words moves answers ≡ none)
    ↔ ((read_model image ≡ none) × (((length words ≡ state_length) × (length answers ≡ length moves)) × T (state_fits (model_of image) words)))
unfolding run_refusal moves_refusal
run_iff image words moves answers = (λ e. simp faults at e, λ p. simp faults p)

pub steps_answers : (image words : List ℕ) (vs : List Move) → length (steps image words vs).answers ≡ length vs
unfolding steps
steps_answers image words [] = refl
steps_answers image words (v ∷ vs) = ap suc (steps_answers image (step image words v).words vs)

pub act_all_answers : (m : Model) (words : List ℕ) (vs : List Move) → length (act_all m words vs).answers ≡ length vs
unfolding act_all
act_all_answers m words [] = refl
act_all_answers m words (v ∷ vs) = ap suc (act_all_answers m (outcome_words words (act m words v)) vs)

-- a run that is refused leaves the answer list as it was; any other writes one answer a move
pub run_answers : (image words : List ℕ) (vs : List Move) (answers : List ℕ) → (run image words vs answers).answer ≡ none
    → length (run image words vs answers).answers ≡ length vs
unfolding run
run_answers image words vs answers e =
    ap (λ (r : Option Refusal). length (written r (act_all (model_of image) words vs).answers answers)) e ∙ act_all_answers (model_of image) words vs
