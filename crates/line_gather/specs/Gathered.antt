-- What one walk over a box's lines gathers. Assumes nothing.
use Rattle.std.specs.Prelude.{◌≡◌, List, ◌⊎◌, ℕ, ◌+◌, ◌%◌, ◌≤◌, ◌<◌, T, get_or, set}
use Rattle.definitions.specs.Bounded.{◌or◌, ◌is◌, any_below}
use Rattle.definitions.specs.Sets.{has, within}
use Rattle.definitions.specs.Model.{Line, output, input, expose}
use Rattle.definitions.specs.Estimate.{estimate_of}
use Rattle.records.specs.Places.{LinesThere, line_record_at}
use Rattle.sets.specs.Names.{NamesOnly}
use Rattle.clauses.specs.Known.{LineOfNames}

-- the image has n lines after block k, each with names below 60
pub record LinesOfNames (model : List ℕ) (k n : ℕ) : Type 0 where
  pub there : LinesThere model k n
  pub each : (i : ℕ) → i < n → LineOfNames (line_record_at model k i)

-- ---- one line put into what is gathered

-- its first name, into the set of its operation
pub record NamePut (old : List ℕ) (l : Line) (new : List ℕ) : Type 0 where
  pub value : ℕ
  pub put : new ≡ set old (l.op % 16) value
  pub members : (m : ℕ) → m < 64 → has value m ≡ (has (get_or old (l.op % 16) 0) m or l.name1 is m)

-- what it sends, into the set of its channel, where it is an output
pub record SentPut (old : List ℕ) (l : Line) (q : ℕ) (new : List ℕ) : Type 0 where
  pub value : ℕ
  pub put : new ≡ set old l.name1 value
  pub keeps : T (within (get_or old l.name1 0) value)
  pub sends : l.op ≡ output → T (within q value)

-- its number at place c of a list, which has one more for an input and an expose
pub record ListPut (old : List ℕ) (c i : ℕ) (l : Line) (new : List ℕ) (r : ℕ) : Type 0 where
  pub put : new ≡ set old c i
  pub least : c ≤ r
  pub most : r ≤ c + 1
  pub more : (l.op ≡ input) ⊎ (l.op ≡ expose) → r ≡ c + 1

-- ---- what is gathered of the first n lines after block k

-- ops: for each operation the first names of its lines; sent: for each name what outputs on it send; listed: the inputs and exposes, c of them
pub record Gathers (model estimate : List ℕ) (k n : ℕ) (ops sent listed : List ℕ) (c : ℕ) : Type 0 where
  pub few : c ≤ n
  pub names : (o : ℕ) → o < 16 → NamesOnly (get_or ops o 0)
  pub named : (j : ℕ) → j < n → T (has (get_or ops ((line_record_at model k j).op % 16) 0) (line_record_at model k j).name1)
  pub sends : (j : ℕ) → j < n → (line_record_at model k j).op ≡ output
      → T (within ((estimate_of estimate).rho (line_record_at model k j).name2) (get_or sent (line_record_at model k j).name1 0))
  pub lists : (j : ℕ) → j < n → ((line_record_at model k j).op ≡ input) ⊎ ((line_record_at model k j).op ≡ expose)
      → T (any_below c (λ m. get_or listed m 0 is j))
  pub inside : (m : ℕ) → m < c → get_or listed m 0 < n
