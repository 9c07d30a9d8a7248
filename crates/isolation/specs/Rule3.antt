-- Rule 3: a box shown shut off cannot be told apart. The statement, over the calls on images. Assumes nothing.
use Rattle.std.specs.Prelude.{◌≡◌, true, false, List, ℕ, ◌<◌}
use Rattle.std.proofs.Math.Option.{none}
use Rattle.definitions.specs.Limits.{box_limit}
use Rattle.definitions.specs.Image.{model_of}
use Rattle.definitions.specs.ShutOff.{question, is_shut_off}
use Rattle.definitions.specs.Record.{record_of}
use Rattle.definitions.specs.Moves.{Move}
use Rattle.definitions.specs.Calls.{start, MovesResult, steps, RunResult, run}
use Rattle.isolation.specs.Group.{only, struck, answers_left, EqualOutside}

-- two models with their estimates, a box h, the lent words of two starts, and two lists of moves, all as they come
module _ (model₁ model₂ estimate₁ estimate₂ : List ℕ) (h : ℕ) (words₁ words₂ : List ℕ) (moves₁ moves₂ : List Move) where
  pub record Setting : Type 0 where
    -- "the first gets what a start, not refused, wrote"
    pub started₁ : (start model₁ words₁).answer ≡ none
    pub started₂ : (start model₂ words₂).answer ≡ none
    -- "Name lists are equal in count and kinds; contents are a box's site and line records in order, and the box set apart may have
    -- equal ones too"
    pub equal_outside : EqualOutside (only h) (model_of model₁) (model_of model₂)
    -- "It is shown shut off when the question says yes": each model by an estimate of its own
    pub shut₁ : question model₁ estimate₁ h ≡ is_shut_off true
    pub shut₂ : question model₂ estimate₂ h ≡ is_shut_off true
    -- "Moves are equal in all five numbers; kinds 1 to 8 name one box, 9 two, unknown ones none": equal once those that name h are
    -- struck out
    pub moves : struck (only h) moves₁ ≡ struck (only h) moves₂

-- what nobody outside can tell: "An answer is 0 or the refusal's number, a record all 1,139 words"
pub record Same (h : ℕ) (moves₁ moves₂ : List Move) (ran₁ ran₂ : MovesResult) : Type 0 where
  -- the moves left get the same answers in the same order
  pub answers : answers_left (only h) moves₁ ran₁.answers ≡ answers_left (only h) moves₂ ran₂.answers
  -- and every other box's record is the same, word for word
  pub records : (b : ℕ) → b < box_limit → only h b ≡ false → record_of ran₁.words b ≡ record_of ran₂.words b

-- "Each list is of step calls, one a move: the first gets what a start wrote, each other what the last left, refused or not"
unfoldable pub Rule3 : Type 0
Rule3 =
    (model₁ model₂ estimate₁ estimate₂ : List ℕ) (h : ℕ) (words₁ words₂ : List ℕ) (moves₁ moves₂ : List Move)
    → Setting model₁ model₂ estimate₁ estimate₂ h words₁ words₂ moves₁ moves₂
    → Same h moves₁ moves₂ (steps model₁ (start model₁ words₁).words moves₁) (steps model₂ (start model₂ words₂).words moves₂)

-- what a run leaves: its answers, and the words at the end
abbrev pub ran : RunResult → MovesResult
ran r = record { answers = r.answers; words = r.words }

-- the same for a run over each list, into any lent answer lists, where neither run is refused (none is, from a start: specs/Runs)
unfoldable pub Rule3Run : Type 0
Rule3Run =
    (model₁ model₂ estimate₁ estimate₂ : List ℕ) (h : ℕ) (words₁ words₂ : List ℕ) (moves₁ moves₂ : List Move) (answers₁ answers₂ : List ℕ)
    → Setting model₁ model₂ estimate₁ estimate₂ h words₁ words₂ moves₁ moves₂
    → (run model₁ (start model₁ words₁).words moves₁ answers₁).answer ≡ none
    → (run model₂ (start model₂ words₂).words moves₂ answers₂).answer ≡ none
    → Same h moves₁ moves₂ (ran (run model₁ (start model₁ words₁).words moves₁ answers₁)) (ran (run model₂ (start model₂ words₂).words moves₂ answers₂))
