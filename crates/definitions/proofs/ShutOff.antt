-- When a box is shut off, as a statement about members; the test says the same. Assumes nothing.
use mathlib.Core.Logic.{◌↔◌, ◌≢◌}
use Prim.Native.Nat.{ℕ, ◌<◌}
use lib.Dec.{T}
use Rattle.definitions.specs.Estimate.{Estimate}
use Rattle.definitions.specs.ShutOff.{linked, shut_off}
use Rattle.definitions.proofs.Clauses.{Some, Share, sets}

module _ (e : Estimate) where
  -- some a in shown(h) and c in shown(k) with eps(h,a) and eps(k,c) sharing a name
  abbrev pub Linked : ℕ → ℕ → Type 0
  Linked h k = Some (e.shown h) (λ a. Some (e.shown k) (λ c. Share (e.eps h a) (e.eps k c)))

  pub linked_iff : (h k : ℕ) → T (linked e h k) ↔ Linked h k
  unfolding linked
  linked_iff h k = (λ t. simp sets at t, λ l. simp sets l)

  -- the two ends of a link may be named either way round
  pub linked_sym : (h k : ℕ) → Linked h k → Linked k h
  linked_sym h k (a, p, q, (c, r, s, (n, t, u, v))) = (c, r, s, (a, p, q, (n, t, v, u)))

  -- no other box k is linked to box h
  abbrev pub ShutOff : ℕ → ℕ → Type 0
  ShutOff boxes h = (k : ℕ) → k < boxes → k ≢ h → Linked h k → ⊥

  pub shut_iff : (boxes h : ℕ) → T (shut_off e boxes h) ↔ ShutOff boxes h
  unfolding shut_off
  shut_iff boxes h = (λ t. simp (sets, linked_iff) at t, λ f. simp (sets, linked_iff) f)
