-- When a box is shut off; the question, and the refused block. Assumes nothing.
use Rattle.std.specs.Prelude.{Bool, true, false, not, List, [], ℕ}
use Rattle.definitions.specs.Bounded.{◌and◌, ◌implies◌, ◌isnt◌, ◌below◌, ◌upto◌, all_below}
use Rattle.definitions.specs.Sets.{for_some, meets}
use Rattle.definitions.specs.Words.{block_of}
use Rattle.definitions.specs.Answer.{Refusal, unplaced}
use Rattle.definitions.specs.Image.{boxes_of}
use Rattle.definitions.specs.Estimate.{Estimate, estimate_of}
use Rattle.definitions.specs.Clauses.{Verdict, accepted, breaks, refused_model, refused_estimate, read_both, check}

-- boxes h and k share a type name: some a in shown(h) and c in shown(k) with eps(h,a) and eps(k,c) sharing a name
unfoldable pub linked : Estimate → ℕ → ℕ → Bool
linked e h k = for_some (e.shown h) (λ a. for_some (e.shown k) (λ c. meets (e.eps h a) (e.eps k c)))

-- box h is shut off: it is linked to no other box
unfoldable pub shut_off : Estimate → ℕ → ℕ → Bool
shut_off e boxes h = all_below boxes (λ k. k isnt h implies not (linked e h k))

-- the question's answer: not accepted, with the checker's verdict; no such box (12); yes or no
pub data Reply : Type 0 where
  not_accepted : Verdict → Reply
  nobody : Refusal → Reply
  is_shut_off : Bool → Reply

abbrev pub reply : Verdict → Reply → Reply
reply accepted r = r
reply (breaks x) r = not_accepted (breaks x)
reply (refused_model x) r = not_accepted (refused_model x)
reply (refused_estimate x) r = not_accepted (refused_estimate x)

-- the answer for box h where the estimate is accepted
abbrev pub box_reply : List ℕ → List ℕ → ℕ → Reply
box_reply model estimate h =
    elim (h below boxes_of model) [ true ↦ is_shut_off (shut_off (estimate_of estimate) (boxes_of model) h) | false ↦ nobody (unplaced 12) ]

unfoldable pub question : List ℕ → List ℕ → ℕ → Reply
question model estimate h = reply (check model estimate) (box_reply model estimate h)

-- the refused block as a part of the image it stands in: for refusals 2 to 5 the block, otherwise nothing
unfoldable pub refused_part : List ℕ → Refusal → List ℕ
refused_part image r = elim (2 upto r.number and r.number upto 5) [ true ↦ block_of image r.place | false ↦ [] ]

abbrev pub refused_in : List ℕ → List ℕ → Verdict → List ℕ
refused_in model estimate accepted = []
refused_in model estimate (breaks x) = []
refused_in model estimate (refused_model r) = refused_part model r
refused_in model estimate (refused_estimate r) = refused_part estimate r

unfoldable pub refused_block : List ℕ → List ℕ → List ℕ
refused_block model estimate = refused_in model estimate (read_both model estimate)
