-- Where the refused block stands: in the model's slice or in the estimate's. Assumes nothing.
use Rattle.std.specs.Prelude.{◌≡◌, List, [], ℕ, ◌+◌, ◌*◌}
use Rattle.std.specs.Borrow.{Bor}
use Rattle.definitions.specs.Clauses.{Verdict, accepted, breaks, refused_model, refused_estimate}

-- a part stands in an image from byte n on: the same allocation, and the offset
abbrev pub At : Bor (List ℕ) → Bor (List ℕ) → ℕ → Type 0
At part image n = (part.ref_ptr.0 ≡ image.ref_ptr.0) × (part.ref_ptr.1 ≡ image.ref_ptr.1 + n)

-- a part that is block k of an image stands at 512 times k; an empty part is the model's
pub record Stands (model image part : Bor (List ℕ)) (k : ℕ) : Type 0 where
  pub empty : part.now ≡ [] → At part model 0
  pub block : (part.now ≡ [] → ⊥) → At part image (512 * k)

-- by the verdict: a refusal's first place is its block
unfoldable pub RefusedStands : Bor (List ℕ) → Bor (List ℕ) → Verdict → Bor (List ℕ) → Type 0
RefusedStands model estimate accepted part = At part model 0
RefusedStands model estimate (breaks x) part = At part model 0
RefusedStands model estimate (refused_model r) part = Stands model model part r.place
RefusedStands model estimate (refused_estimate r) part = Stands model estimate part r.place
