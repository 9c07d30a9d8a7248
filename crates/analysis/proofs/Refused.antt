-- Laws of the refused block: its bytes, and where it stands. Assumes nothing.
use mathlib.Core.Path.{◌≡◌, refl, sym, ap, subst, ◌∙◌}
use mathlib.Core.Bool.{Bool, true, false}
use mathlib.Core.List.{List, []}
use mathlib.Core.Option.{Option, none, some}
use Prim.Native.Nat.{ℕ, ◌+◌, ◌-◌, ◌*◌, ◌≤◌, ◌<◌}
use native.Mathlib.Omega.{arith}
use borrow.Author.Rules.{rules}
use denote.Ref.{Bor}
use lib.ListN.{length, take, drop, length-take, length-drop}
use Rattle.definitions.specs.Bounded.{◌and◌, ◌upto◌}
use Rattle.definitions.specs.Words.{block_of}
use Rattle.definitions.specs.Answer as paper
use Rattle.definitions.specs.Image.{name_count, boxes_of}
use Rattle.definitions.specs.ReadModel.{read_model}
use Rattle.definitions.specs.ReadEstimate.{read_estimate}
use Rattle.definitions.specs.Clauses as cl
use Rattle.definitions.specs.ShutOff as shut
use Rattle.definitions.proofs.Bounded.{and_iff, upto_iff, true_of, false_of}
use Rattle.refusals.specs.declared.Refusal.{Refusal}
use Rattle.refusals.specs.Answers.{refusal_in}
use Rattle.record_clauses.specs.declared.Broken.{Broken}
use Rattle.analysis.specs.declared.NotAccepted.{NotAccepted}
use Rattle.analysis.specs.declared.NotAccepted.TheVariants.{Breaks, RefusedModel, RefusedEstimate}
use Rattle.analysis.specs.Answers.{not_accepted_in}
use Rattle.analysis.specs.Known.{BlockThere, RefusedThere}
use Rattle.analysis.specs.Places.{At, Stands, RefusedStands}
use Rattle.analysis.proofs.There.{model_there, estimate-there}

pub whole_is : (image r : List ℕ) (k : ℕ) → r ≡ take (512 * k + 512 - 512 * k) (drop (512 * k) image) → r ≡ block_of image k
unfolding block_of
whole_is image r k e = e ∙ ap (λ (n : ℕ). take n (drop (512 * k) image)) (let z : 512 * k + 512 - 512 * k ≡ 512 = omega arith in z)

module _ (image r : List ℕ) (n k s : ℕ) where
  is_in : (x : Bool) → (2 upto n and n upto 5) ≡ x → shut.refused_part image (paper.refusal n k s) ≡ elim x [ true ↦ block_of image k | false ↦ [] ]
  unfolding shut.refused_part
  is_in x e = ap (λ (y : Bool). elim y as (λ _. List ℕ) [ true ↦ block_of image k | false ↦ [] ]) e

  pub part-below : n < 2 → r ≡ [] → r ≡ shut.refused_part image (paper.refusal n k s)
  part-below h q =
      q ∙ sym (is_in false (false_of (2 upto n and n upto 5) (λ t. let l = (upto_iff 2 n).0 ((and_iff (2 upto n) (n upto 5)).0 t).0 in absurd (omega arith))))

  pub part_above : 5 < n → r ≡ [] → r ≡ shut.refused_part image (paper.refusal n k s)
  part_above h q =
      q ∙ sym (is_in false (false_of (2 upto n and n upto 5) (λ t. let l = (upto_iff n 5).0 ((and_iff (2 upto n) (n upto 5)).0 t).1 in absurd (omega arith))))

  pub part_in : 2 ≤ n → n ≤ 5 → r ≡ block_of image k → r ≡ shut.refused_part image (paper.refusal n k s)
  part_in h l q =
      q ∙ sym (is_in true (true_of (2 upto n and n upto 5) ((and_iff (2 upto n) (n upto 5)).1 ((upto_iff 2 n).1 h, (upto_iff n 5).1 l))))

-- where it stands
module _ (model image r : Bor (List ℕ)) (k : ℕ) where
  pub empty_stands : r.now ≡ [] → At r model 0 → Stands model image r k
  empty_stands q a = record { empty = λ _. a; block = λ f. absurd (f q) }

  pub block_stands : 512 * (k + 1) ≤ length image.now → r.now ≡ block_of image.now k → At r image (512 * k) → Stands model image r k
  unfolding block_of
  block_stands h q a = record {
    empty = λ z. absurd (let n : length (take 512 (drop (512 * k) image.now)) ≡ 0 = ap length (sym q ∙ z) in omega (arith, n, length-take 512 (drop (512 * k) image.now), length-drop (512 * k) image.now));
    block = λ _. a;
  }

pub if_there : (image : List ℕ) (n k : ℕ) → BlockThere image n k → 2 ≤ n → n ≤ 5 → 512 * (k + 1) ≤ length image
if_there image n k w l h = w.there l h

-- the bytes where the estimate is not accepted
module _ (model estimate p : List ℕ) (e : NotAccepted) where
  pub part-breaks : (x : Broken) → e ≡ Breaks x → p ≡ [] → p ≡ shut.refused_in model estimate (not_accepted_in e)
  part-breaks x q z = z ∙ sym (ap (λ (w : NotAccepted). shut.refused_in model estimate (not_accepted_in w)) q)

  module _ (x : Refusal) where
    pub part_model : e ≡ RefusedModel x → p ≡ shut.refused_part model (refusal_in x) → p ≡ shut.refused_in model estimate (not_accepted_in e)
    unfolding shut.refused_part
    part_model q z = z ∙ sym (ap (λ (w : NotAccepted). shut.refused_in model estimate (not_accepted_in w)) q)

    pub part-estimate : e ≡ RefusedEstimate x → p ≡ shut.refused_part estimate (refusal_in x)
        → p ≡ shut.refused_in model estimate (not_accepted_in e)
    unfolding shut.refused_part
    part-estimate q z = z ∙ sym (ap (λ (w : NotAccepted). shut.refused_in model estimate (not_accepted_in w)) q)

-- and where they stand
module _ (model estimate r : Bor (List ℕ)) where
  pub stands_accepted : At r model 0 → RefusedStands model estimate cl.accepted r
  unfolding RefusedStands
  stands_accepted a = a

  module _ (e : NotAccepted) where
    as_verdict : (w : NotAccepted) → e ≡ w → RefusedStands model estimate (not_accepted_in w) r → RefusedStands model estimate (not_accepted_in e) r
    as_verdict w q s = subst (λ (x : NotAccepted). RefusedStands model estimate (not_accepted_in x) r) (sym q) s

    pub stands_breaks : (x : Broken) → e ≡ Breaks x → At r model 0 → RefusedStands model estimate (not_accepted_in e) r
    unfolding RefusedStands
    stands_breaks x q a = as_verdict (Breaks x) q a

    pub stands_model : (x : Refusal) → e ≡ RefusedModel x → Stands model model r x.place → RefusedStands model estimate (not_accepted_in e) r
    unfolding RefusedStands
    stands_model x q s = as_verdict (RefusedModel x) q s

    pub stands_estimate : (x : Refusal) → e ≡ RefusedEstimate x → Stands model estimate r x.place → RefusedStands model estimate (not_accepted_in e) r
    unfolding RefusedStands
    stands_estimate x q s = as_verdict (RefusedEstimate x) q s

module _ (model estimate : List ℕ) (e : NotAccepted) (w : RefusedThere model estimate (not_accepted_in e)) (r : Refusal) where
  pub if_model : e ≡ RefusedModel r → BlockThere model r.number r.place
  if_model q = w.in_model (refusal_in r) (ap not_accepted_in q)

  pub if_estimate : e ≡ RefusedEstimate r → BlockThere estimate r.number r.place
  if_estimate q = w.in_estimate (refusal_in r) (ap not_accepted_in q)

-- who is refused, by the verdict
from_model : (a b : Option paper.Refusal) (r : paper.Refusal) → cl.after_model a (cl.after_estimate b cl.accepted) ≡ cl.refused_model r → a ≡ some r
from_model (some x) b r e = cc
from_model none (some x) r e = cc
from_model none none r e = cc

from_estimate : (a b : Option paper.Refusal) (r : paper.Refusal) → cl.after_model a (cl.after_estimate b cl.accepted) ≡ cl.refused_estimate r → b ≡ some r
from_estimate (some x) b r e = cc
from_estimate none (some x) r e = cc
from_estimate none none r e = cc

pub there-both : (model estimate : List ℕ) (v : cl.Verdict) → v ≡ cl.read_both model estimate → RefusedThere model estimate v
unfolding cl.read_both
there-both model estimate v ev =
    let a = read_model model in
    let b = read_estimate (name_count model) (boxes_of model) estimate in
    record {
      in_model = λ r e. record { there = model_there model r (from_model a b r (sym ev ∙ e)) };
      in_estimate = λ r e. record { there = estimate-there estimate (name_count model) (boxes_of model) r (from_estimate a b r (sym ev ∙ e)) };
    }

-- the refused block of a refusal 2 to 5 has 512 bytes
module _ (r : paper.Refusal) (l : 2 ≤ r.number) (h : r.number ≤ 5) where
  part_bytes : (image : List ℕ) → 512 * (r.place + 1) ≤ length image → length (shut.refused_part image r) ≡ 512
  unfolding shut.refused_part block_of
  part_bytes image t =
      ap (λ (b : Bool). length {A = ℕ} (elim b as (λ _. List ℕ) [ true ↦ block_of image r.place | false ↦ [] ]))
      (true_of (2 upto r.number and r.number upto 5) ((and_iff (2 upto r.number) (r.number upto 5)).1 ((upto_iff 2 r.number).1 l, (upto_iff r.number 5).1 h)))
      ∙ omega (arith, length-take 512 (drop (512 * r.place) image), length-drop (512 * r.place) image)

  module _ (model estimate : List ℕ) where
    pub model_bytes : cl.read_both model estimate ≡ cl.refused_model r → length (shut.refused_block model estimate) ≡ 512
    unfolding shut.refused_block
    model_bytes e =
        ap (λ (v : cl.Verdict). length (shut.refused_in model estimate v)) e
        ∙ part_bytes model (((there-both model estimate (cl.read_both model estimate) refl).in_model r e).there l h)

    pub estimate-bytes : cl.read_both model estimate ≡ cl.refused_estimate r → length (shut.refused_block model estimate) ≡ 512
    unfolding shut.refused_block
    estimate-bytes e =
        ap (λ (v : cl.Verdict). length (shut.refused_in model estimate v)) e
        ∙ part_bytes estimate (((there-both model estimate (cl.read_both model estimate) refl).in_estimate r e).there l h)

-- a verdict of reading both
pub part-is : (model estimate p : List ℕ) (v : cl.Verdict) → v ≡ cl.read_both model estimate → p ≡ shut.refused_in model estimate v → p ≡ shut.refused_block model estimate
unfolding shut.refused_block
part-is model estimate p v ev e = e ∙ ap (shut.refused_in model estimate) ev

pub stands_is : (model estimate r : Bor (List ℕ)) (v : cl.Verdict) → v ≡ cl.read_both model.now estimate.now → RefusedStands model estimate v r
    → RefusedStands model estimate (cl.read_both model.now estimate.now) r
stands_is model estimate r v ev s = subst (λ (w : cl.Verdict). RefusedStands model estimate w r) ev s

pub ruleset blocks = (rules, whole_is, empty_stands, block_stands, part-below, part_above, part_in, if_there)

pub ruleset parts = (rules, part-breaks, part_model, part-estimate, stands_accepted, stands_breaks, stands_model, stands_estimate, if_model, if_estimate, there-both, part-is, stands_is)
