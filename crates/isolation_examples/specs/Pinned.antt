-- What the contracts pin (document 01, c), on the images of K and E; and the claims over runs, applied to the two fillings. Assumes nothing.
use Rattle.std.specs.Prelude.{◌≡◌, false, ◌≢◌, List, ℕ, T, length}
use Rattle.std.proofs.Math.Option.{none}
use Rattle.definitions.specs.Answer.{answer_number}
use Rattle.definitions.specs.Estimate.{estimate_of}
use Rattle.definitions.specs.Clauses.{check, accepted}
use Rattle.definitions.specs.ShutOff.{linked, question, is_shut_off}
use Rattle.definitions.specs.Record.{state_length}
use Rattle.definitions.specs.Calls.{start, step, run}
use Rattle.definitions.specs.Starred.{spread_of}
use Rattle.isolation.specs.Rule3.{Same, ran}
use Rattle.isolation.specs.Runs.{OwnSteps}
use Rattle.image_examples.specs.Images.{image_k, image_e}
use Rattle.isolation_examples.specs.Example.{quiet_image, busy_image, quiet_moves, busy_moves}

-- the spread of thread 0 of box 0, from the start of K into these words: it is made, and changes them
pub record SpreadChanges (words : List ℕ) : Type 0 where
  pub answer : answer_number (step image_k (start image_k words).words (spread_of 0 0)).answer ≡ 0
  pub changes : (step image_k (start image_k words).words (spread_of 0 0)).words ≢ (start image_k words).words

-- the four facts by which rule 2 excludes what would satisfy rule 3 and do nothing
pub record Pinned : Type 0 where
  -- "a checker that turns down all estimates": E is accepted
  pub accepts : check image_k image_e ≡ accepted
  -- "a shut-off call that says yes each time": E links box 1 to box 0, and the question says no
  pub links : T (linked (estimate_of image_e) 1 0)
  pub says_no : question image_k image_e 1 ≡ is_shut_off false
  -- "a stepper that makes no move": the spread changes K
  pub spread : (words : List ℕ) → length words ≡ state_length → SpreadChanges words
  -- "a run that makes its whole list at the first move and then pretends": each answer belongs to its own step
  pub own : OwnSteps

-- the runs over the two lists, one in each filling of the box that is shut off: neither is refused, and outside they are the same
pub record RunsAlike (words₁ words₂ answers₁ answers₂ : List ℕ) : Type 0 where
  pub quiet-run : (run quiet_image (start quiet_image words₁).words quiet_moves answers₁).answer ≡ none
  pub busy-run : (run busy_image (start busy_image words₂).words busy_moves answers₂).answer ≡ none
  pub same : Same 2 quiet_moves busy_moves (ran (run quiet_image (start quiet_image words₁).words quiet_moves answers₁))
      (ran (run busy_image (start busy_image words₂).words busy_moves answers₂))

unfoldable pub RunsApplied : Type 0
RunsApplied =
    (words₁ words₂ answers₁ answers₂ : List ℕ) → length words₁ ≡ state_length → length words₂ ≡ state_length
    → length answers₁ ≡ length quiet_moves → length answers₂ ≡ length busy_moves → RunsAlike words₁ words₂ answers₁ answers₂
