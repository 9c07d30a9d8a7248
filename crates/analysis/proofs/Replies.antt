-- Laws of the verdict and of the reply. Assumes nothing.
use mathlib.Core.Path.{◌≡◌, refl, sym, ap, ap₂, ◌∙◌}
use mathlib.Core.Bool.{Bool, true, false, false≢true}
use mathlib.Core.List.{List}
use mathlib.Core.Option.{Option, none, some}
use Prim.Native.Nat.{ℕ, ◌≤◌, ◌<◌}
use native.Mathlib.Omega.{arith}
use borrow.Author.Rules.{rules}
use Rattle.std.specs.Prelude.{Result, Ok, Err, MatchResult}
use Rattle.std.specs.Result.{is_ok}
use Rattle.definitions.specs.Bounded.{◌below◌}
use Rattle.definitions.specs.Answer as paper
use Rattle.definitions.specs.Image.{name_count, boxes_of, model_of}
use Rattle.definitions.specs.ReadModel.{read_model}
use Rattle.definitions.specs.Estimate.{estimate_of}
use Rattle.definitions.specs.ReadEstimate.{read_estimate}
use Rattle.definitions.specs.Clauses as cl
use Rattle.definitions.specs.ShutOff as shut
use Rattle.definitions.proofs.Bounded.{below_iff, true_of, false_of}
use Rattle.refusals.specs.declared.Refusal.{Refusal}
use Rattle.refusals.specs.Answers.{refusal_in}
use Rattle.record_clauses.specs.Found.{broken_in}
use Rattle.analysis.specs.declared.NotAccepted.{NotAccepted}
use Rattle.analysis.specs.declared.NotAccepted.TheVariants.{RefusedModel, RefusedEstimate, Breaks}
use Rattle.analysis.specs.Answers.{not_accepted_in}
use Rattle.layouts.specs.declared.Layout.{Layout}
use Rattle.layouts.specs.LayoutOf.{LayoutOf}
use Rattle.estimate.specs.Known.{EstimateOfNames}
use Rattle.first_broken.specs.Known.{Unrefused}
use Rattle.first_broken.proofs.Facts.{names_boxes}

-- ---- reading both: the model is refused, or the estimate is, by the counts of the layout, or neither

module _ (model estimate : List ℕ) where
  pub model_refused : (r : paper.Refusal) (v : cl.Verdict) → read_model model ≡ some r → cl.refused_model r ≡ cl.after_reading model estimate v
  model_refused r v e = sym (ap (λ (o : Option paper.Refusal). cl.after_model o (cl.after_estimate (read_estimate (name_count model) (boxes_of model) estimate) v)) e)

  module _ (l : Layout) (h : LayoutOf model l) where
    counted : read_estimate l.names l.boxes estimate ≡ read_estimate (name_count model) (boxes_of model) estimate
    counted = ap₂ (λ (n b : ℕ). read_estimate n b estimate) h.frame.names h.frame.boxes

    module _ (m : read_model model ≡ none) where
      after : (v : cl.Verdict) → cl.after_reading model estimate v ≡ cl.after_estimate (read_estimate l.names l.boxes estimate) v
      after v =
          ap (λ (o : Option paper.Refusal). cl.after_model o (cl.after_estimate (read_estimate (name_count model) (boxes_of model) estimate) v)) m
          ∙ ap (λ (o : Option paper.Refusal). cl.after_estimate o v) (sym counted)

      pub estimate_refused : (r : paper.Refusal) (v : cl.Verdict) → read_estimate l.names l.boxes estimate ≡ some r → cl.refused_estimate r ≡ cl.after_reading model estimate v
      estimate_refused r v e = sym (after v ∙ ap (λ (o : Option paper.Refusal). cl.after_estimate o v) e)

      module _ (e : read_estimate l.names l.boxes estimate ≡ none) where
        pub both_unrefused : Unrefused model estimate
        both_unrefused = record { model = m; estimate = sym counted ∙ e }

        pub both_read : (v : cl.Verdict) → v ≡ cl.after_reading model estimate v
        both_read v = sym (after v ∙ ap (λ (o : Option paper.Refusal). cl.after_estimate o v) e)

  -- a verdict of reading both that is not accepted is the checker's
  pub refused_alike : (v : cl.Verdict) → v ≡ cl.read_both model estimate → (v ≡ cl.accepted → ⊥) → v ≡ cl.check model estimate
  unfolding cl.read_both cl.check
  refused_alike v e f = go (read_model model) refl (read_estimate (name_count model) (boxes_of model) estimate) refl
    where
      w : cl.Verdict
      w = cl.verdict_of (cl.first_broken (model_of model) (estimate_of estimate))

      go : (a : Option paper.Refusal) → read_model model ≡ a → (b : Option paper.Refusal) → read_estimate (name_count model) (boxes_of model) estimate ≡ b
          → v ≡ cl.after_reading model estimate w
      go (some r) ea b eb = e ∙ sym (model_refused r cl.accepted ea) ∙ model_refused r w ea
      go none ea (some r) eb =
          e ∙ ap₂ (λ (a b : Option paper.Refusal). cl.after_model a (cl.after_estimate b cl.accepted)) ea eb
          ∙ sym (ap₂ (λ (a b : Option paper.Refusal). cl.after_model a (cl.after_estimate b w)) ea eb)
      go none ea none eb = absurd (f (e ∙ ap₂ (λ (a b : Option paper.Refusal). cl.after_model a (cl.after_estimate b cl.accepted)) ea eb))

  -- neither is refused: the clauses decide
  pub unrefused_check : Unrefused model estimate → cl.verdict_of (cl.first_broken (model_of model) (estimate_of estimate)) ≡ cl.check model estimate
  unfolding cl.check
  unrefused_check u =
      sym (ap₂ (λ (a b : Option paper.Refusal). cl.after_model a (cl.after_estimate b (cl.verdict_of (cl.first_broken (model_of model) (estimate_of estimate))))) u.model u.estimate)

-- what an error was made of, and what is no error
pub made_of : {A : Type 0} (w : Result A Refusal) (P : A → Type 0) (Q : Refusal → Type 0) → false ≡ is_ok w → MatchResult w P Q → (r : Refusal) × (w ≡ Err r) × Q r
made_of (Ok x) P Q e m = absurd (false≢true e)
made_of (Err r) P Q e m = (r, refl, m)

abbrev IsOk : {A : Type 0} → A → A → Type 0
IsOk {A} y x = let u : Result A NotAccepted = Ok y in let v : Result A NotAccepted = Ok x in u ≡ v

pub left_ok : {A : Type 0} (w : Result A Refusal) (y : A) (Q : Refusal → Type 0) → true ≡ is_ok w
    → MatchResult w (IsOk y) Q → w ≡ Ok y
left_ok (Ok x) y Q e m = cc m
left_ok (Err r) y Q e m = absurd (false≢true (sym e))

-- ---- the reply

pub reply_as : (model estimate : List ℕ) (n : ℕ) (w : cl.Verdict) → w ≡ cl.check model estimate
    → shut.reply w (shut.box_reply model estimate n) ≡ shut.question model estimate n
unfolding shut.question
reply_as model estimate n w e = ap (λ (x : cl.Verdict). shut.reply x (shut.box_reply model estimate n)) e

pub reply_not : (model estimate : List ℕ) (n : ℕ) (e : NotAccepted) → not_accepted_in e ≡ cl.check model estimate
    → shut.not_accepted (not_accepted_in e) ≡ shut.question model estimate n
reply_not model estimate n (RefusedModel r) q = reply_as model estimate n (cl.refused_model (refusal_in r)) q
reply_not model estimate n (RefusedEstimate r) q = reply_as model estimate n (cl.refused_estimate (refusal_in r)) q
reply_not model estimate n (Breaks x) q = reply_as model estimate n (cl.breaks (broken_in x)) q

pub reply_accepted : (model estimate : List ℕ) (n : ℕ) (r : shut.Reply) → cl.accepted ≡ cl.check model estimate → r ≡ shut.box_reply model estimate n
    → r ≡ shut.question model estimate n
reply_accepted model estimate n r e q = q ∙ reply_as model estimate n cl.accepted e

module _ (model estimate : List ℕ) (n boxes : ℕ) (h : boxes ≡ boxes_of model) where
  is_below : (b : Bool) → (n below boxes) ≡ b
      → shut.box_reply model estimate n ≡ elim b as (λ _. shut.Reply) [ true ↦ shut.is_shut_off (shut.shut_off (estimate_of estimate) (boxes_of model) n) | false ↦ shut.nobody (paper.unplaced 12) ]
  is_below b e =
      ap (λ (c : Bool). elim c as (λ _. shut.Reply) [ true ↦ shut.is_shut_off (shut.shut_off (estimate_of estimate) (boxes_of model) n) | false ↦ shut.nobody (paper.unplaced 12) ])
      (ap (λ (k : ℕ). n below k) (sym h) ∙ e)

  pub reply_nobody : boxes ≤ n → shut.nobody (paper.unplaced 12) ≡ shut.box_reply model estimate n
  reply_nobody k = sym (is_below false (false_of (n below boxes) (λ t. let q = (below_iff n boxes).0 t in absurd (omega arith))))

  pub reply_is : (b : Bool) → n < boxes → b ≡ shut.shut_off (estimate_of estimate) boxes n → shut.is_shut_off b ≡ shut.box_reply model estimate n
  reply_is b k q =
      ap shut.is_shut_off (q ∙ ap (λ (c : ℕ). shut.shut_off (estimate_of estimate) c n) h)
      ∙ sym (is_below true (true_of (n below boxes) ((below_iff n boxes).1 k)))

-- an estimate that is read by the counts of a model's layout
pub read_names : (model estimate : List ℕ) (l : Layout) → LayoutOf model l → read_model model ≡ none → read_estimate l.names l.boxes estimate ≡ none
    → EstimateOfNames estimate l.boxes
read_names model estimate l h m e = names_boxes model estimate (both_unrefused model estimate l h m e) l.boxes h.frame.boxes

pub layout_boxes : (model : List ℕ) (l : Layout) → LayoutOf model l → l.boxes ≡ boxes_of model
layout_boxes model l h = h.frame.boxes

pub ruleset verdicts = (rules, model_refused, estimate_refused, both_unrefused, both_read, read_names, refused_alike, unrefused_check)

pub ruleset box_replies = (rules, layout_boxes, reply_nobody, reply_is)

pub ruleset replies = (rules, reply_as, reply_accepted)
