-- Rule 3 is not empty: two fillings of a shut-off box to which it applies. And it is false without its hypothesis: a box that is not
-- shut off, filled in two ways, leaves two records outside. Assumes nothing.
use mathlib.Core.Path.{◌≡◌, refl, ap, ap₂, subst, sym, ◌∙◌}
use mathlib.Core.Bool.{false}
use mathlib.Core.List.{List, [], ◌∷◌}
use mathlib.Core.Option.{none}
use Prim.Native.Nat.{ℕ, zero, suc, ◌<◌}
use native.Mathlib.Omega.{arith}
use lib.Dec.{T}
use lib.ListN.{length}
use Rattle.definitions.specs.Bounded.{◌isnt◌, or_else}
use Rattle.definitions.specs.Answer.{unplaced}
use Rattle.definitions.specs.Model.{Model, box_at}
use Rattle.definitions.specs.Image.{model_of}
use Rattle.definitions.specs.ReadModel.{read_model}
use Rattle.definitions.specs.Clauses.{check, verdict_of, accepted}
use Rattle.definitions.specs.Record.{state_length, record_of, thread, binding, last_stamps}
use Rattle.definitions.specs.Start.{start_state}
use Rattle.definitions.specs.Moves.{Move}
use Rattle.definitions.specs.Calls.{start_refusal, start, MovesResult, steps, act_all}
use Rattle.definitions.specs.Bounded.{◌is◌}
use Rattle.isolation.specs.Group.{only, EqualOutside}
use Rattle.image_examples.specs.Images.{image_k, image_e}
use Rattle.image_examples.proofs.Images.{images_agree}
use Rattle.definitions.proofs.Bounded.{none_fault, isnt_iff}
use Rattle.definitions.proofs.ReadModel.{valid_image}
use Rattle.isolation.specs.Rule3.{Setting, Same}
use Rattle.isolation.proofs.Rule3.{check-accepted, question_yes, start_words, steps_are_moves}
use Rattle.isolation.proofs.StartFits.{start_fits}
use Rattle.isolation_examples.specs.Example.{quiet, busy, filled, quiet_image, busy_image, quiet_estimate, busy_estimate, quiet_moves, busy_moves, sending, sending_image, sending_estimate, meeting}
use Rattle.isolation_examples.proofs.Computed.{quiet_yes, busy_yes, quiet_model, busy_model, quiet_acts, busy_acts, struck_same, E_unbroken, sending_K, sending-accepted, sending_model, sending_acts}

-- ---- rule 3 applies to the two fillings, whatever words are lent

-- a start of a model that is not refused, into words of the right length, is not refused
pub started : (image words : List ℕ) → read_model image ≡ none → length words ≡ state_length → (start image words).answer ≡ none
unfolding start start_refusal
started image words e l =
    ap₂ or_else e (none_fault (length words isnt state_length) (unplaced 10) (λ t. (isnt_iff (length words) state_length).0 t l))

fillings_equal : EqualOutside (only 2) (filled quiet) (filled busy)
unfolding filled box_at only ◌is◌
fillings_equal = record { kinds = refl; count = refl; others = at }
  where
    at : (b : ℕ) → b < 3 → only 2 b ≡ false → box_at (filled quiet) b ≡ box_at (filled busy) b
    at zero l n = refl
    at (suc zero) l n = refl
    at (suc (suc zero)) l n = absurd (subst T n tt)
    at (suc (suc (suc b))) l n = absurd (omega arith)

-- every hypothesis of rule 3 is met
pub setting : (words₁ words₂ : List ℕ) → length words₁ ≡ state_length → length words₂ ≡ state_length
    → Setting quiet_image busy_image quiet_estimate busy_estimate 2 words₁ words₂ quiet_moves busy_moves
setting words₁ words₂ l₁ l₂ = record {
  started₁ = started quiet_image words₁ (question_yes quiet_image quiet_estimate 2 quiet_yes).accepts.model_read l₁;
  started₂ = started busy_image words₂ (question_yes busy_image busy_estimate 2 busy_yes).accepts.model_read l₂;
  equal_outside = rw (quiet_model, busy_model) fillings_equal;
  shut₁ = quiet_yes;
  shut₂ = busy_yes;
  moves = struck_same;
}

-- from a start, the steps are the moves made in the model of the image
pub steps_from : (image words : List ℕ) (m : Model) → read_model image ≡ none → length words ≡ state_length → model_of image ≡ m → (vs : List Move)
    → steps image (start image words).words vs ≡ act_all m (start_state m) vs
steps_from image words m e l q vs =
    ap (λ (w : List ℕ). steps image w vs) (start_words image words (started image words e l))
    ∙ steps_are_moves image e (start_state (model_of image)) (start_fits (model_of image) (valid_image image e)) vs ∙ ap (λ (k : Model). act_all k (start_state k) vs) q

-- all moves are made in both lists, an inter move between boxes 0 and 1 among them; and box 2 makes a name in the one and none in the other
pub communicate : (words : List ℕ) → length words ≡ state_length
    → ((steps quiet_image (start quiet_image words).words quiet_moves).answers ≡ 0 ∷ 0 ∷ 0 ∷ [])
    × ((steps busy_image (start busy_image words).words busy_moves).answers ≡ 0 ∷ 0 ∷ 0 ∷ 0 ∷ [])
    × (last_stamps (steps quiet_image (start quiet_image words).words quiet_moves).words 2 ≡ 0)
    × (last_stamps (steps busy_image (start busy_image words).words busy_moves).words 2 ≡ 1)
communicate words l =
    let q = steps_from quiet_image words (filled quiet) (question_yes quiet_image quiet_estimate 2 quiet_yes).accepts.model_read l quiet_model quiet_moves in
    let b = steps_from busy_image words (filled busy) (question_yes busy_image busy_estimate 2 busy_yes).accepts.model_read l busy_model busy_moves in
    (rw q quiet_acts.0, rw b busy_acts.0, rw q quiet_acts.1, rw b busy_acts.1)

-- ---- without "shut off" the conclusion fails: box 1 of K, sending v or sending c, each accepted with an estimate of its own

sending_equal : EqualOutside (only 1) (sending 4) (sending 5)
unfolding sending box_at only ◌is◌
sending_equal = record { kinds = refl; count = refl; others = at }
  where
    at : (b : ℕ) → b < 2 → only 1 b ≡ false → box_at (sending 4) b ≡ box_at (sending 5) b
    at zero l n = refl
    at (suc zero) l n = absurd (subst T n tt)
    at (suc (suc b)) l n = absurd (omega arith)

-- K and E: the checker's answer on the images is that of the clauses, and no clause is broken
pub accepts_E : check image_k image_e ≡ accepted
accepts_E = images_agree.2 ∙ ap verdict_of E_unbroken

accepts_sending : check (sending_image 4) (sending_estimate 4) ≡ accepted
accepts_sending = ap₂ check sending_K.1 sending_K.2 ∙ accepts_E

model_sending : model_of (sending_image 4) ≡ sending 4
model_sending = ap model_of sending_K.1 ∙ images_agree.0 ∙ sym sending_K.0

pub only-not_shut : (check (sending_image 4) (sending_estimate 4) ≡ accepted) × (check (sending_image 5) (sending_estimate 5) ≡ accepted)
    × EqualOutside (only 1) (model_of (sending_image 4)) (model_of (sending_image 5))
only-not_shut = (accepts_sending, sending-accepted, rw (model_sending, sending_model) sending_equal)

pub told_apart : (words₁ words₂ : List ℕ) → length words₁ ≡ state_length → length words₂ ≡ state_length
    → Same 1 meeting meeting (steps (sending_image 4) (start (sending_image 4) words₁).words meeting) (steps (sending_image 5) (start (sending_image 5) words₂).words meeting)
    → ⊥
unfolding only ◌is◌
told_apart words₁ words₂ l₁ l₂ same =
    let a = steps_from (sending_image 4) words₁ (sending 4) (check-accepted (sending_image 4) (sending_estimate 4) accepts_sending).model_read l₁ model_sending meeting in
    let b = steps_from (sending_image 5) words₂ (sending 5) (check-accepted (sending_image 5) (sending_estimate 5) sending-accepted).model_read l₂ sending_model meeting in
    let r = same.records 0 (omega arith) refl in
    let z : ◌≡◌ {A = ℕ} 5 6 =
    sym sending_acts.0 ∙ ap (λ (x : MovesResult). binding (thread (record_of x.words 0) 0) 2) (sym a)
    ∙ ap (λ (y : List ℕ). binding (thread y 0) 2) r
    ∙ ap (λ (x : MovesResult). binding (thread (record_of x.words 0) 0) 2) b ∙ sending_acts.1 in
    omega arith
