-- Types and sites of few names, all in the list. Assumes nothing.
use Rattle.std.specs.Prelude.{ℕ, ◌≤◌, ◌<◌}
use Rattle.definitions.specs.Limits.{name_limit, type_limit}
use Rattle.definitions.specs.Sets.{size}
use Rattle.definitions.specs.Model.{Site}
use Rattle.sets.specs.Names.{NamesOnly}

-- a type of at most 8 names, each below 60
pub record TypeOfNames (type : ℕ) : Type 0 where
  pub few : size type ≤ type_limit
  pub names : NamesOnly type

-- a site whose subject is below 60, of such a type
pub record SiteOfNames (s : Site) : Type 0 where
  pub subject : s.subject < name_limit
  pub type : TypeOfNames s.type
