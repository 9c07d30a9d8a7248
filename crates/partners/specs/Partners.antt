-- The parts of clause 6, from the inside. Assumes nothing.
use Rattle.std.proofs.Math.Option.{Option}
use Rattle.std.specs.Prelude.{ℕ}
use Rattle.definitions.specs.Bounded.{◌isnt◌, when, first_below}
use Rattle.definitions.specs.Sets.{first_short, missing, meets}
use Rattle.definitions.specs.Estimate.{Estimate}

module _ (e : Estimate) where
  -- kap(k,c) within q, where the type x shares a name with eps(k,c)
  unfoldable pub fitting : ℕ → ℕ → ℕ → ℕ → Option ℕ
  fitting x q k c = when (meets x (e.eps k c)) (missing (e.kap k c) q)

  -- for each c in shown(k), where k is not b
  unfoldable pub of_box : ℕ → ℕ → ℕ → ℕ → Option ℕ
  of_box b x q k = when (k isnt b) (first_short (e.shown k) (fitting x q k))

  -- for each box k, with the type of name a of box b
  unfoldable pub of_boxes : ℕ → ℕ → ℕ → ℕ → Option ℕ
  of_boxes boxes b q a = first_below boxes (of_box b (e.eps b a) q)
