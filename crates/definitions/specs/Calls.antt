-- Start, step and run as calls on any image, any lent words and any moves: the answer, and the words of each lent buffer after it. A
-- refusal writes nothing. Assumes nothing.
use Rattle.std.specs.Prelude.{Bool, not, List, [], ◌∷◌, ℕ, length}
use Rattle.std.proofs.Math.Option.{Option, none, some}
use Rattle.definitions.specs.Bounded.{◌or◌, ◌isnt◌, some_if, or_else}
use Rattle.definitions.specs.Answer.{Refusal, unplaced, answer_number}
use Rattle.definitions.specs.Model.{Model}
use Rattle.definitions.specs.Image.{model_of}
use Rattle.definitions.specs.ReadModel.{read_model}
use Rattle.definitions.specs.Record.{state_length}
use Rattle.definitions.specs.StateRules.{state_fits}
use Rattle.definitions.specs.Start.{start_state}
use Rattle.definitions.specs.Moves.{Move, Outcome, refused, made, act}

-- what a call answers, and the words of the lent state after it
pub record StepResult : Type 0 where
  pub answer : Option Refusal
  pub words : List ℕ

-- the words where there is no refusal, and the old words where there is one
abbrev pub written : Option Refusal → List ℕ → List ℕ → List ℕ
written none new old = new
written (some r) new old = old

-- start: refused for the model, then with 10
unfoldable pub start_refusal : List ℕ → List ℕ → Option Refusal
start_refusal image words = or_else (read_model image) (some_if (length words isnt state_length) (unplaced 10))

unfoldable pub start : List ℕ → List ℕ → StepResult
start image words =
    let refusal = start_refusal image words in
    record { answer = refusal; words = written refusal (start_state (model_of image)) words }

-- a move made in a state, or refused: its number, and the words after it
abbrev pub outcome_number : {A : Type 0} → Outcome A → ℕ
outcome_number (refused n) = n
outcome_number (made w) = 0

abbrev pub outcome_words : List ℕ → Outcome (List ℕ) → List ℕ
outcome_words old (refused n) = old
outcome_words old (made w) = w

abbrev pub outcome_refusal : Outcome (List ℕ) → Option Refusal
outcome_refusal (refused n) = some (unplaced n)
outcome_refusal (made w) = none

-- the refusals before a first move: the model's; 10 where a lent list has the wrong length; 11 where the words break a state rule
unfoldable pub moves_refusal : List ℕ → List ℕ → Bool → Option Refusal
moves_refusal image words wrong =
    or_else (read_model image) (or_else (some_if wrong (unplaced 10)) (some_if (not (state_fits (model_of image) words)) (unplaced 11)))

-- step: refused before its move with 10 for the state's length, and else with the move's own 12 to 20
unfoldable pub state_refusal : List ℕ → List ℕ → Option Refusal
state_refusal image words = moves_refusal image words (length words isnt state_length)

unfoldable pub step : List ℕ → List ℕ → Move → StepResult
step image words v =
    let refusal = state_refusal image words in
    let outcome = act (model_of image) words v in
    record { answer = or_else refusal (outcome_refusal outcome); words = written refusal (outcome_words words outcome) words }

-- a list of step calls, one a move: each gets what the last left. The answers as numbers, and the words at the end
pub record MovesResult : Type 0 where
  pub answers : List ℕ
  pub words : List ℕ

unfoldable pub steps : List ℕ → List ℕ → List Move → MovesResult
steps image words [] = record { answers = []; words = words }
steps image words (v ∷ vs) =
    let first = step image words v in
    let rest = steps image first.words vs in
    record { answers = answer_number first.answer ∷ rest.answers; words = rest.words }

-- the moves of a run, each in turn; refused ones are passed over
unfoldable pub act_all : Model → List ℕ → List Move → MovesResult
act_all m words [] = record { answers = []; words = words }
act_all m words (v ∷ vs) =
    let outcome = act m words v in
    let rest = act_all m (outcome_words words outcome) vs in
    record { answers = outcome_number outcome ∷ rest.answers; words = rest.words }

-- run: the answer of the call, and the words of the lent state and of the lent answer list after it
pub record RunResult : Type 0 where
  pub answer : Option Refusal
  pub words : List ℕ
  pub answers : List ℕ

-- run: refused before its first move with 10 for the state's length or the answer list's
unfoldable pub run_refusal : List ℕ → List ℕ → List Move → List ℕ → Option Refusal
run_refusal image words moves answers = moves_refusal image words (length words isnt state_length or length answers isnt length moves)

-- a run that is not refused is the list of its step calls (crate isolation, proofs/Reached, run-is-steps)
unfoldable pub run : List ℕ → List ℕ → List Move → List ℕ → RunResult
run image words moves answers =
    let refusal = run_refusal image words moves answers in
    let all = act_all (model_of image) words moves in
    record { answer = refusal; words = written refusal all.words words; answers = written refusal all.answers answers }
