-- Laws of a box record, decided by tables. Assumes nothing.
use mathlib.Core.Path.{◌≡◌, sym, ap, ap₂, ◌∙◌}
use mathlib.Core.Bool.{Bool, true, false}
use mathlib.Core.List.{List}
use Prim.Native.Nat.{ℕ, ◌≤◌}
use lib.ListN.{length}
use Rattle.definitions.specs.Bounded.{◌and◌}
use Rattle.definitions.specs.Model.{Box, Model}
use Rattle.definitions.specs.Record.{stamp_limit, stamp}
use Rattle.definitions.specs.StateRules.{record_fits}
use Rattle.definitions.proofs.Bounded.{and_iff, is_iff, upto_iff, same_test}
use Rattle.held_limits.specs.declared.Limit.{Limit}
use Rattle.box_records.specs.Rules.{site_slots_fit, DecidesSiteSlots, thread_slots_fit, DecidesThreadSlots, DecidesRecord}

-- a record of the right length, whose last stamp is at most the limit, fits where its sites and threads do
record_words_lem : (m : Model) (last : ℕ → ℕ) (x : Box) (r : List ℕ) → length r ≡ 1139 → stamp r ≤ stamp_limit
    → (site_slots_fit m last r and thread_slots_fit m last x r) ≡ record_fits m last x r
unfolding site_slots_fit thread_slots_fit record_fits
record_words_lem m last x r long h =
    same_test (site_slots_fit m last r and thread_slots_fit m last x r) (record_fits m last x r)
    (λ t. let u = simp and_iff at t in simp and_iff (((((is_iff (length r) 1139).1 long, (upto_iff (stamp r) stamp_limit).1 h), u.1), u.0.0), u.0.1))
    (λ t. let u = simp and_iff at t in simp and_iff ((u.0.1, u.1), u.0.0.1))

module _ (limits : List Limit) (up : List ℕ) (lines s : ℕ) (r : List ℕ) (long : length r ≡ 1139) (h : stamp r ≤ stamp_limit) (t : Bool) (d : DecidesSiteSlots limits s r t) where
  pub record_sites : t ≡ false → DecidesRecord limits up lines s r t
  unfolding ◌and◌
  record_sites z = record {
    decides = λ m last x l a o. z ∙ ap (λ (b : Bool). b and thread_slots_fit m last x r) (sym z ∙ d.decides m last l o) ∙ record_words_lem m last x r long h;
  }

  pub record_threads : (w : Bool) → t ≡ true → DecidesThreadSlots limits up lines r w → DecidesRecord limits up lines s r w
  unfolding ◌and◌
  record_threads w z k = record {
    decides = λ m last x l a o. ap₂ ◌and◌ (sym z ∙ d.decides m last l o) (k.decides m last x l a) ∙ record_words_lem m last x r long h;
  }

pub ruleset record_rules = (record_sites, record_threads)
