-- Threads of a record that are not in use, and a held name put into the words of a type. Assumes nothing.
use Rattle.std.specs.Prelude.{◌≡◌, true, false, List, [], ◌∷◌, ℕ, ◌≤◌, ◌<◌}
use Rattle.definitions.specs.Bounded.{◌is◌, ◌below◌}
use Rattle.definitions.specs.Limits.{slot_limit}
use Rattle.definitions.specs.Slots.{zeros}
use Rattle.definitions.specs.Record.{thread_width, threads, thread}

-- the threads past the last are zero
pub record DeadThreads (r : List ℕ) : Type 0 where
  pub most : threads r ≤ slot_limit
  pub dead : (i : ℕ) → i < slot_limit → threads r ≤ i → thread r i ≡ zeros thread_width

-- v put into words that are ascending, without repeats, and zero past the last: what is above it moves up by one
unfoldable pub inserted : ℕ → List ℕ → List ℕ
inserted v [] = []
inserted v (y ∷ ys) =
    elim (y is v) [
      | true ↦ y ∷ ys
      | false ↦ elim (y is 0) [ true ↦ v ∷ ys | false ↦ elim (v below y) [ true ↦ v ∷ inserted y ys | false ↦ y ∷ inserted v ys ] ]
    ]
