-- What is found at the names and at a line, for each model that has them. Assumes nothing.
use Rattle.std.specs.Prelude.{◌≡◌, ℕ, ◌≤◌, ◌<◌, length}
use Rattle.std.proofs.Math.Option.{Option}
use Rattle.definitions.specs.Bounded.{first_below}
use Rattle.definitions.specs.Sets.{has, within}
use Rattle.definitions.specs.Model.{Line, Model, box_at, line_at, box_count, is_free, output, input}
use Rattle.definitions.specs.Estimate.{Estimate}
use Rattle.definitions.specs.Clauses.{Broken, clause4, clause5, clause6, name_broken, line_broken}
use Rattle.sharing.specs.declared.Gathered.{Gathered}
use Rattle.clauses.specs.Known.{MetWhere}

-- r is what clause 1 finds, in each model of which a set has the free names
pub record NamesFound (e : Estimate) (free : ℕ) (r : Option Broken) : Type 0 where
  pub same : (m : Model) → length m.kinds ≤ 64 → ((n : ℕ) → n < 64 → has free n ≡ is_free m.kinds n) → r ≡ first_below (length m.kinds) (name_broken m e)

-- what is gathered may show that clauses 4, 5 and 6 are met at line l of box b
pub record ShowsMet (e : Estimate) (boxes b : ℕ) (l : Line) (g : Gathered) : Type 0 where
  pub four : l.op ≡ output → MetWhere (within (e.rho l.name2) g.most) (clause4 e b l)
  pub five : l.op ≡ input → MetWhere (within g.all (e.rho l.name2)) (clause5 e b l)
  pub six : l.op ≡ input → MetWhere (within g.asks (e.rho l.name2)) (clause6 e boxes b l)

-- r is what is found at line i of box b, in each model of so many boxes where that line is l
pub record LineFound (e : Estimate) (boxes b i : ℕ) (l : Line) (r : Option Broken) : Type 0 where
  pub same : (m : Model) → line_at (box_at m b) i ≡ l → box_count m ≡ boxes → r ≡ line_broken m e b i
