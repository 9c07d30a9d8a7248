-- What keeps rule 3 from being empty: a run from a start is never refused, and each answer belongs to its own step. Rule 3 and these, as
-- one record. Assumes nothing.
use Rattle.std.specs.Prelude.{◌≡◌, List, ◌∷◌, ◌++◌, ℕ, length}
use Rattle.std.proofs.Math.Option.{none}
use Rattle.definitions.specs.Answer.{answer_number}
use Rattle.definitions.specs.Moves.{Move}
use Rattle.definitions.specs.Calls.{start, step, MovesResult, steps, run}
use Rattle.isolation.specs.Rule3.{ran, Rule3, Rule3Run}

-- a run from a start, with as many answers as moves, is not refused, whatever the model, the lent words and the moves
unfoldable pub NeverRefused : Type 0
NeverRefused =
    (model words : List ℕ) (moves : List Move) (answers : List ℕ) → (start model words).answer ≡ none → length answers ≡ length moves
    → (run model (start model words).words moves answers).answer ≡ none

-- what a list of moves leaves, seen at one move of it: the moves before it are steps by themselves, then comes one step call on the words
-- that they left, and the moves after it go on from the words of that call
pub record OwnStep (model lent : List ℕ) (before : List Move) (v : Move) (after : List Move) (all : MovesResult) : Type 0 where
  pub answers : all.answers
      ≡ (steps model lent before).answers ++ (answer_number (step model (steps model lent before).words v).answer
      ∷ (steps model (step model (steps model lent before).words v).words after).answers)
  pub words : all.words ≡ (steps model (step model (steps model lent before).words v).words after).words

-- each answer belongs to its own step: in a list of step calls, whatever the model and the words; and in a run that is not refused
pub record OwnSteps : Type 0 where
  pub in_steps : (model words : List ℕ) (before : List Move) (v : Move) (after : List Move)
      → OwnStep model words before v after (steps model words (before ++ (v ∷ after)))
  pub in_run : (model words : List ℕ) (before : List Move) (v : Move) (after : List Move) (answers : List ℕ)
      → (run model words (before ++ (v ∷ after)) answers).answer ≡ none
      → OwnStep model words before v after (ran (run model words (before ++ (v ∷ after)) answers))

-- rule 3 over step calls and over runs, entire, with what keeps it from being empty
pub record Entire : Type 0 where
  pub over_steps : Rule3
  pub over_runs : Rule3Run
  pub never_refused : NeverRefused
  pub own_steps : OwnSteps
