-- What is used and bound before a record, from box to box. Assumes nothing.
use mathlib.Core.Path.{◌≡◌, sym, ap, ap₂, ◌∙◌}
use mathlib.Core.Bool.{Bool, false}
use Prim.Native.Nat.{ℕ, ◌+◌}
use Rattle.definitions.specs.Bounded.{◌or◌, ◌is◌, any_below}
use Rattle.definitions.specs.Model.{Model, site_at, line_at, box_at, site_count, line_count, binds, binds_in}
use Rattle.definitions.specs.ReadModel.{used_before, bound_before}
use Rattle.definitions.proofs.Sets.{has-none, or-false}
use Rattle.records.specs.NameSets.{SetOf}
use Rattle.box_runs.proofs.Runs.{any_more, any_zero}

-- before the first record nothing is
pub used_none : (m : Model) → SetOf 0 (used_before m 0 0)
unfolding used_before
used_none m = record { at = λ n l. has-none n ∙ sym (ap₂ ◌or◌ (any_zero _) (any_zero _) ∙ or-false false) }

pub bound_none : (m : Model) → SetOf 0 (bound_before m 0 0)
unfolding bound_before
bound_none m = record { at = λ n l. has-none n ∙ sym (ap₂ ◌or◌ (any_zero _) (any_zero _) ∙ or-false false) }

module _ (m : Model) (b x : ℕ) where
  -- before the records of a box: what is in the boxes before it
  pub used_first : used_before m b 0 x ≡ any_below b (λ c. any_below (site_count (box_at m c)) (λ j. (site_at (box_at m c) j).subject is x))
  unfolding used_before
  used_first =
      let early = any_below b (λ c. any_below (site_count (box_at m c)) (λ j. (site_at (box_at m c) j).subject is x)) in
      ap (λ (t : Bool). early or t) (any_zero _) ∙ or-false early

  pub bound_first : bound_before m b 0 x ≡ any_below b (λ c. binds_in (box_at m c) x)
  unfolding bound_before
  bound_first = let early = any_below b (λ c. binds_in (box_at m c) x) in ap (λ (t : Bool). early or t) (any_zero _) ∙ or-false early

module _ (m : Model) (b x : ℕ) where
  -- from the end of a box to the start of the next
  pub used_next : (n : ℕ) → n ≡ site_count (box_at m b) → used_before m b n x ≡ used_before m (b + 1) 0 x
  unfolding used_before
  used_next n e =
      let box : ℕ → Bool = λ c. any_below (site_count (box_at m c)) (λ j. (site_at (box_at m c) j).subject is x) in
      ap (λ (i : ℕ). any_below b box or any_below i (λ j. (site_at (box_at m b) j).subject is x)) e ∙ sym (any_more b box) ∙ sym (used_first m (b + 1) x)

  pub bound_next : (n : ℕ) → n ≡ line_count (box_at m b) → bound_before m b n x ≡ bound_before m (b + 1) 0 x
  unfolding bound_before binds_in
  bound_next n e =
      let box : ℕ → Bool = λ c. binds_in (box_at m c) x in
      ap (λ (i : ℕ). any_below b box or any_below i (λ j. binds (line_at (box_at m b) j) x)) e ∙ sym (any_more b box) ∙ sym (bound_first m (b + 1) x)
