-- What clauses 4, 5 and 6 ask of a line's second name, gathered into one set for its channel; and all that boxes may send. Assumes nothing.
use Rattle.std.specs.Prelude.{◌≡◌, Bool, List, ℕ, ◌<◌, length, get_or}
use Rattle.definitions.specs.Bounded.{◌and◌, ◌implies◌, ◌isnt◌, all_below}
use Rattle.definitions.specs.Sets.{has, for_each, within, meets}
use Rattle.definitions.specs.Estimate.{Estimate, estimate_of}
use Rattle.links.specs.Types.{Types}
use Rattle.sharing.specs.declared.Gathered.{Gathered}
use Rattle.sharing.specs.declared.BoxSets.{BoxSets}

-- w is the least set that passes a test: a set passes exactly when w is within it
pub record Least (w : ℕ) (p : ℕ → Bool) : Type 0 where
  pub same : (q : ℕ) → within w q ≡ p q

-- w is the greatest set that passes a test: a set passes exactly when it is within w
pub record Most (w : ℕ) (p : ℕ → Bool) : Type 0 where
  pub same : (q : ℕ) → within q w ≡ p q

-- v is w joined with the least set that passes a test
pub record Joined (v w : ℕ) (p : ℕ → Bool) : Type 0 where
  pub same : (q : ℕ) → within v q ≡ (within w q and p q)

-- the sets of a box that sends nothing and has no types
abbrev pub no_sets : BoxSets
no_sets = record { sends = 0; types = 0 }

module _ (e : Estimate) where
  -- what box k may send on its name c is in q; and so on each name of s
  unfoldable pub sent_in : ℕ → ℕ → ℕ → Bool
  sent_in k c q = within (e.kap k c) q

  unfoldable pub all_sent_in : ℕ → ℕ → ℕ → Bool
  all_sent_in k s q = for_each s (λ c. sent_in k c q)

  -- all that box k may send on its shown names, where it is not box b; and so for every box
  unfoldable pub sent_by_other : ℕ → ℕ → ℕ → Bool
  sent_by_other b k q = k isnt b implies all_sent_in k (e.shown k) q

  unfoldable pub sent_by_others : ℕ → ℕ → ℕ → Bool
  sent_by_others boxes b q = all_below boxes (λ k. sent_by_other b k q)

  -- the same where the type x shares a name with eps(k,c)
  unfoldable pub shared_in : ℕ → ℕ → ℕ → ℕ → Bool
  shared_in x k c q = meets x (e.eps k c) implies sent_in k c q

  unfoldable pub all_shared_in : ℕ → ℕ → ℕ → ℕ → Bool
  all_shared_in x k s q = for_each s (λ c. shared_in x k c q)

  unfoldable pub shared_by_other : ℕ → ℕ → ℕ → ℕ → Bool
  shared_by_other b x k q = k isnt b implies all_shared_in x k (e.shown k) q

  unfoldable pub shared_by_others : ℕ → ℕ → ℕ → ℕ → Bool
  shared_by_others boxes b x q = all_below boxes (λ k. shared_by_other b x k q)

  -- what clause 6 asks of q at name a of box b
  unfoldable pub shared_at : ℕ → ℕ → ℕ → ℕ → Bool
  shared_at boxes b a q = has (e.shown b) a implies shared_by_others boxes b (e.eps b a) q

  -- the same at each name of s: what clause 6 asks of q at an input whose rho(p) is s
  unfoldable pub shared_on : ℕ → ℕ → ℕ → ℕ → Bool
  shared_on boxes b s q = for_each s (λ a. shared_at boxes b a q)

  -- what is in q may be sent by box b on each name of s: what clause 4 asks of q at an output whose rho(p) is s
  unfoldable pub may_send : ℕ → ℕ → ℕ → Bool
  may_send b s q = for_each s (λ a. within q (e.kap b a))

-- the sets of one box
pub record SetsOf (image : List ℕ) (k : ℕ) (x : BoxSets) : Type 0 where
  pub sends : Least x.sends (all_sent_in (estimate_of image) k ((estimate_of image).shown k))
  pub types : Types (estimate_of image) k ((estimate_of image).shown k) x.types

-- a table of all that each box may send on its shown names
pub record Sends (image : List ℕ) (boxes : ℕ) (t : List BoxSets) : Type 0 where
  pub size : length t ≡ 8
  pub each : (k : ℕ) → k < boxes → Least (get_or t k no_sets).sends (all_sent_in (estimate_of image) k ((estimate_of image).shown k))

-- a table of the union of each box's types on its shown names
pub record TypeTable (e : Estimate) (boxes : ℕ) (t : List BoxSets) : Type 0 where
  pub size : length t ≡ 8
  pub each : (k : ℕ) → k < boxes → Types e k (e.shown k) (get_or t k no_sets).types

-- what clauses 4, 5 and 6 ask, for the sets that it is gathered for
pub record GatheredOf (e : Estimate) (boxes b : ℕ) (g : Gathered) : Type 0 where
  pub most : Most g.most (may_send e b g.out)
  pub all : Least g.all (all_sent_in e b g.on)
  pub asks : Least g.asks (shared_by_others e boxes b g.types)

-- it is gathered for no names, in any box of any estimate
pub record NothingGathered (g : Gathered) : Type 0 where
  pub each : (e : Estimate) (boxes b : ℕ) → GatheredOf e boxes b g
