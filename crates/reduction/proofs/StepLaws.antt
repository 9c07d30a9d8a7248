-- The refusals before a first move, and one move. Assumes nothing.
use mathlib.Core.Path.{◌≡◌, refl, sym, ap, ◌∙◌}
use mathlib.Core.Bool.{Bool, true, false, not}
use mathlib.Core.List.{List}
use mathlib.Core.Option.{Option, none, some}
use Prim.Native.Nat.{ℕ}
use borrow.Author.Rules.{rules}
use lib.Dec.{eqb}
use lib.ListN.{length}
use Rattle.definitions.specs.Bounded.{◌isnt◌, some_if, or_else}
use Rattle.definitions.specs.Answer.{Refusal, refusal, unplaced}
use Rattle.definitions.specs.Image.{model_of}
use Rattle.definitions.specs.ReadModel.{read_model}
use Rattle.definitions.specs.StateRules.{state_fits}
use Rattle.definitions.specs.Moves.{Move, Outcome, refused, made, act}
use Rattle.definitions.specs.Calls.{written, outcome_number, outcome_words, outcome_refusal, moves_refusal, state_refusal, step}
use Rattle.definitions.proofs.Bounded.{of_true}
use Rattle.model.specs.declared.ReadModel.{ReadModel}
use Rattle.lookups.specs.Ready.{Ready}
use Rattle.deciding.specs.declared.Blocked.{Blocked}
use Rattle.deciding.specs.Numbers.{blocked_number}
use Rattle.deciding.proofs.Decided.{blocked_not}
use Rattle.turns.proofs.Acts.{never_zero}

-- ---- the refusals before a first move, in order

module _ (image words : List ℕ) (wrong : Bool) where
  pub early_model : (r : Refusal) → read_model image ≡ some r → some r ≡ moves_refusal image words wrong
  unfolding moves_refusal
  early_model r e = sym (ap (λ (o : Option Refusal). or_else o (or_else (some_if wrong (unplaced 10)) (some_if (not (state_fits (model_of image) words)) (unplaced 11)))) e)

  module _ (m : read_model image ≡ none) where
    pub early_room : (r : Refusal) → some_if wrong (refusal 10 0 0) ≡ some r → some r ≡ moves_refusal image words wrong
    unfolding moves_refusal
    early_room r e =
        sym (ap (λ (o : Option Refusal). or_else o (or_else (some_if wrong (unplaced 10)) (some_if (not (state_fits (model_of image) words)) (unplaced 11)))) m
        ∙ ap (λ (o : Option Refusal). or_else o (some_if (not (state_fits (model_of image) words)) (unplaced 11))) e)

    module _ (w : some_if wrong (refusal 10 0 0) ≡ none) (i : List ℕ) (e : i ≡ image) (b : Bool) (f : b ≡ state_fits (model_of i) words) where
      late : moves_refusal image words wrong ≡ some_if (not b) (refusal 11 0 0)
      unfolding moves_refusal
      late =
          ap (λ (p : Option Refusal). or_else p (or_else (some_if wrong (unplaced 10)) (some_if (not (state_fits (model_of image) words)) (unplaced 11)))) m
          ∙ ap (λ (p : Option Refusal). or_else p (some_if (not (state_fits (model_of image) words)) (unplaced 11))) w
          ∙ ap (λ (l : List ℕ). some_if (not (state_fits (model_of l) words)) (unplaced 11)) (sym e)
          ∙ ap (λ (t : Bool). some_if (not t) (unplaced 11)) (sym f)

      pub late_spoilt : (r : Refusal) → some_if (not b) (refusal 11 0 0) ≡ some r → some r ≡ moves_refusal image words wrong
      late_spoilt r d = sym (late ∙ d)

      pub late_none : some_if (not b) (refusal 11 0 0) ≡ none → none ≡ moves_refusal image words wrong
      late_none d = sym (late ∙ d)

-- no refusal: the words obey the state rules
pub ready_words : (m : ReadModel) (words : List ℕ) (b : Bool) → b ≡ state_fits (model_of m.image.now) words → some_if (not b) (refusal 11 0 0) ≡ none
    → Ready m words
ready_words m words true f d = record { fits = of_true (sym f) }
ready_words m words false f d = absurd (some-none d)
  where
    some-none : {A : Type 0} {a : A} → some a ≡ none → ⊥
    some-none e = cc

-- ---- one move

module _ (image words : List ℕ) (v : Move) where
  abbrev outcome : Outcome (List ℕ)
  outcome = act (model_of image) words v

  module _ (r : Refusal) (e : some r ≡ moves_refusal image words (not (eqb (length words) 9112))) where
    early : state_refusal image words ≡ some r
    unfolding state_refusal ◌isnt◌
    early = sym e

    pub step_refused : some r ≡ (step image words v).answer
    unfolding step
    step_refused = sym (ap (λ (o : Option Refusal). or_else o (outcome_refusal outcome)) early)

    pub step_kept : words ≡ (step image words v).words
    unfolding step
    step_kept = sym (ap (λ (o : Option Refusal). written o (outcome_words words outcome) words) early)

  -- the move as it is made, of the model as it is read
  module _ (e : none ≡ moves_refusal image words (not (eqb (length words) 9112))) (i : List ℕ) (d : i ≡ image) (t : Move) (q : t ≡ v) where
    none-refused : state_refusal image words ≡ none
    unfolding state_refusal ◌isnt◌
    none-refused = sym e

    same : act (model_of i) words t ≡ outcome
    same = ap (λ (l : List ℕ). act (model_of l) words t) d ∙ ap (act (model_of image) words) q

    -- the answer of the move: made, or its number
    pub step_made : 0 ≡ outcome_number (act (model_of i) words t) → none ≡ (step image words v).answer
    unfolding step
    step_made m = go outcome refl ∙ ap (λ (o : Option Refusal). or_else o (outcome_refusal outcome)) (sym none-refused)
      where
        go : (o : Outcome (List ℕ)) → outcome ≡ o → none ≡ outcome_refusal outcome
        go (refused n) z = absurd (never_zero image words v (z ∙ ap refused (sym (m ∙ ap outcome_number (same ∙ z)))))
        go (made w) z = sym (ap outcome_refusal z)

    pub step_blocked : (b : Blocked) → blocked_number b ≡ outcome_number (act (model_of i) words t) → some (refusal (blocked_number b) 0 0) ≡ (step image words v).answer
    unfolding step
    step_blocked b m = go outcome refl ∙ ap (λ (o : Option Refusal). or_else o (outcome_refusal outcome)) (sym none-refused)
      where
        go : (o : Outcome (List ℕ)) → outcome ≡ o → some (refusal (blocked_number b) 0 0) ≡ outcome_refusal outcome
        go (refused n) z = ap (λ (k : ℕ). some (unplaced k)) (m ∙ ap outcome_number (same ∙ z)) ∙ sym (ap outcome_refusal z)
        go (made w) z = absurd (blocked_not b (sym (m ∙ ap outcome_number (same ∙ z))))

    pub step_words : (w : List ℕ) → w ≡ outcome_words words (act (model_of i) words t) → w ≡ (step image words v).words
    unfolding step
    step_words w g = g ∙ ap (outcome_words words) same ∙ ap (λ (o : Option Refusal). written o (outcome_words words outcome) words) (sym none-refused)

pub ruleset refusals = (rules, early_model, early_room, late_spoilt, late_none, ready_words)

pub ruleset steps = (rules, step_refused, step_kept, step_made, step_blocked, step_words)
