-- What the contracts pin, and the claims over runs applied to the two fillings. Assumes nothing.
use mathlib.Core.Path.{◌≡◌, ap, sym, ◌∙◌}
use mathlib.Core.Bool.{false}
use mathlib.Core.Logic.{◌≢◌}
use mathlib.Core.List.{List, [], ◌∷◌}
use mathlib.Core.Option.{none}
use Prim.Native.Nat.{ℕ}
use native.Mathlib.Omega.{arith}
use lib.ListN.{length, get_or}
use Rattle.definitions.specs.ReadModel.{read_model}
use Rattle.definitions.specs.Clauses.{Verdict}
use Rattle.definitions.specs.ShutOff.{question, is_shut_off, reply, box_reply}
use Rattle.definitions.specs.Record.{state_length, record_of, threads}
use Rattle.definitions.specs.Start.{start_state}
use Rattle.definitions.specs.Calls.{start, step, MovesResult, steps, act_all}
use Rattle.definitions.specs.Starred.{K, spread_of}
use Rattle.image_examples.specs.Images.{image_k, image_e}
use Rattle.image_examples.proofs.Images.{images_agree}
use Rattle.isolation.proofs.Rule3.{check-accepted, start_words, rule3-run}
use Rattle.isolation.specs.Rule3.{Rule3Run}
use Rattle.isolation.specs.Runs.{NeverRefused}
use Rattle.isolation.proofs.Runs.{never_refused_lem, own_steps_lem}
use Rattle.isolation_examples.specs.Example.{quiet_image, busy_image, quiet_estimate, busy_estimate, quiet_moves, busy_moves}
use Rattle.isolation_examples.specs.Pinned.{SpreadChanges, Pinned, RunsApplied}
use Rattle.isolation_examples.proofs.Computed.{E_links, spread_acts}
use Rattle.isolation_examples.proofs.Example.{started, steps_from, setting, accepts_E}

says_no : question image_k image_e 1 ≡ is_shut_off false
unfolding question
says_no = ap (λ (v : Verdict). reply v (box_reply image_k image_e 1)) accepts_E ∙ E_links.1

-- one step from the start of K is the move made in K; it leaves two threads in box 0, where there was one
spread_changes : (words : List ℕ) → length words ≡ state_length → SpreadChanges words
unfolding steps
spread_changes words l = record { answer = ap (λ (x : MovesResult). get_or x.answers 0 1) made ∙ ap (λ (k : List ℕ). get_or k 0 1) spread_acts.0; changes = changes }
  where
    read : read_model image_k ≡ none
    read = (check-accepted image_k image_e accepts_E).model_read

    made : steps image_k (start image_k words).words (spread_of 0 0 ∷ []) ≡ act_all K (start_state K) (spread_of 0 0 ∷ [])
    made = steps_from image_k words K read l images_agree.0 (spread_of 0 0 ∷ [])

    changes : (step image_k (start image_k words).words (spread_of 0 0)).words ≢ (start image_k words).words
    changes e =
        let w = start_words image_k words (started image_k words read l) ∙ ap start_state images_agree.0 in
        let z : ◌≡◌ {A = ℕ} 2 1 =
        sym spread_acts.1 ∙ ap (λ (x : MovesResult). threads (record_of x.words 0)) (sym made)
        ∙ ap (λ (x : List ℕ). threads (record_of x 0)) (e ∙ w) ∙ spread_acts.2 in
        omega arith

pub pinned : Pinned
pinned = record { accepts = accepts_E; links = E_links.0; says_no = says_no; spread = spread_changes; own = own_steps_lem }

-- the fillings are a setting of rule 3, and both runs are from a start
pub runs_applied : RunsApplied
unfolding RunsApplied NeverRefused Rule3Run
runs_applied words₁ words₂ answers₁ answers₂ l₁ l₂ n₁ n₂ =
    let s = setting words₁ words₂ l₁ l₂ in
    let q = never_refused_lem quiet_image words₁ quiet_moves answers₁ s.started₁ n₁ in
    let b = never_refused_lem busy_image words₂ busy_moves answers₂ s.started₂ n₂ in
    record {
      quiet-run = q;
      busy-run = b;
      same = rule3-run quiet_image busy_image quiet_estimate busy_estimate 2 words₁ words₂ quiet_moves busy_moves answers₁ answers₂ s q b;
    }
