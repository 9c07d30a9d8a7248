-- Sets of the lines of a box, in one word of 128 digits. Assumes nothing.
use Rattle.std.specs.Prelude.{◌≡◌, Bool, ℕ, ◌<◌}
use Rattle.definitions.specs.Bounded.{◌or◌, ◌is◌}
use Rattle.definitions.specs.Sets.{has}
use Rattle.definitions.specs.Model.{Line, has_child}
use Rattle.record_rules.specs.declared.line_sets.LineSet.{LineSet}

-- a set of lines with line c put in; with a line's children
unfoldable pub insert_line : ℕ → ℕ → ℕ → Bool
insert_line s c d = has s d or c is d

unfoldable pub insert_children : ℕ → Line → ℕ → Bool
insert_children s l d = has s d or has_child l d

-- k is the set of the lines below 128 that pass a test
pub record LineSetOf (k : LineSet) (p : ℕ → Bool) : Type 0 where
  pub at : (c : ℕ) → c < 128 → has k.0 c ≡ p c
