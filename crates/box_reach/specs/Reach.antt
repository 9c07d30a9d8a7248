-- What the lines of a box hand down to each line, and the list that it is gathered in. Assumes nothing.
use Rattle.std.specs.Prelude.{◌≡◌, Bool, true, false, List, ℕ, zero, suc, ◌<◌, T, length, get_or}
use Rattle.definitions.specs.Bounded.{◌or◌, ◌is◌, ◌isnt◌}
use Rattle.definitions.specs.Model.{Line, has_child, binds}
use Rattle.records.specs.NameSets.{SetOf}
use Rattle.records.specs.Places.{line_record_at}

-- a list with v at place c where t is met
pub record SetAt (old : List ℕ) (c v : ℕ) (t : Bool) (new : List ℕ) : Type 0 where
  pub long : length new ≡ length old
  pub stored : T t → c < 124 → get_or new c 0 ≡ v
  pub kept : (d : ℕ) → (T t → c ≡ d → ⊥) → get_or new d 0 ≡ get_or old d 0

-- a list with v at the places of a line's children
pub record SetAtChildren (old : List ℕ) (l : Line) (v : ℕ) (new : List ℕ) : Type 0 where
  pub between : List ℕ
  pub first : SetAt old l.child1 v (l.op isnt 0) between
  pub second : SetAt between l.child2 v (l.op is 1) new

-- the first n lines after block k hand name m down to line c: the last of them that has c as a child does, where it binds m or the lines
-- before it hand m down to it
unfoldable pub handed_down : List ℕ → ℕ → ℕ → ℕ → ℕ → Bool
handed_down image k zero c m = false
handed_down image k (suc i) c m =
    let l = line_record_at image k i in
    elim (has_child l c) [ true ↦ binds l m or handed_down image k i i m | false ↦ handed_down image k i c m ]

-- entry c is the set of the names that n lines hand down to line c
pub record HandedDownEach (image : List ℕ) (k n : ℕ) (up : List ℕ) : Type 0 where
  pub long : length up ≡ 124
  pub at : (c : ℕ) → c < 124 → SetOf (get_or up c 0) (handed_down image k n c)
