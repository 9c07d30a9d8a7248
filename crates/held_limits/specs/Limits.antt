-- The held names that are in order, by a table: for each name's number the least and the largest. Assumes nothing.
use Rattle.std.specs.Prelude.{◌≡◌, ℕ, ◌+◌, ◌%◌, ◌≤◌, Bool, true, false, List, length, get_or}
use Rattle.std.proofs.Math.Option.{none, some}
use Rattle.definitions.specs.Bounded.{◌and◌, ◌upto◌, all_below}
use Rattle.definitions.specs.Limits.{box_limit}
use Rattle.definitions.specs.Sets.{has}
use Rattle.definitions.specs.Model.{Model}
use Rattle.definitions.specs.Image.{model_of}
use Rattle.definitions.specs.Record.{held, stamp_limit, state_length, last_stamps}
use Rattle.definitions.specs.StateRules.{held_fits}
use Rattle.layouts.specs.declared.BoxPlace.{BoxPlace}
use Rattle.layouts.specs.declared.Layout.{Layout}
use Rattle.layouts.specs.LayoutOf.{LayoutOf}
use Rattle.layouts.specs.Owners.{first_binder}
use Rattle.held_limits.specs.declared.Limit.{Limit}

-- the entry of a held name: its number; of none, 63, which is no name's number
unfoldable pub entry_of : ℕ → ℕ
entry_of v = (v + 63) % 64

-- past the table's end, nothing
abbrev pub past : Limit
past = record { low = 0; high = 0 }

-- v lies within the limits of its entry
unfoldable pub in_limits : List Limit → ℕ → Bool
in_limits limits v = (get_or limits (entry_of v) past).low upto v and v upto (get_or limits (entry_of v) past).high

-- a held name lies within its limits exactly when it is in order: in model m, where `last` gives each box's last stamp
pub record LimitsOf (m : Model) (last : ℕ → ℕ) (limits : List Limit) : Type 0 where
  pub same : (v : ℕ) → in_limits limits v ≡ held_fits m last v

-- the least held name of number n: a free name holds itself with stamp 0, and a made one has stamp 1 at least
unfoldable pub least_held : ℕ → ℕ → ℕ
least_held free n = elim (has free n) [ true ↦ held n 0 | false ↦ held n 1 ]

-- the largest held name of number n, or 0 where no such held name is in order
unfoldable pub largest_made : List BoxPlace → ℕ → (ℕ → ℕ) → ℕ → ℕ
largest_made each boxes last n = elim (first_binder each boxes n) [ none ↦ 0 | some b ↦ held n (last b) ]

unfoldable pub largest_held : Layout → (ℕ → ℕ) → ℕ → ℕ
largest_held l last n =
    elim (has l.kinds.free n) [
      | true ↦ held n 0
      | false ↦ elim (has l.kinds.received n) [ true ↦ 0 | false ↦ largest_made l.each l.boxes last n ]
    ]

-- the last stamp of box b is at most the limit
unfoldable pub last_fits : List ℕ → ℕ → Bool
last_fits st b = last_stamps st b upto stamp_limit

-- a state, and so many boxes, whose last stamps are at most the limit
pub record StampsFit (st : List ℕ) (boxes : ℕ) : Type 0 where
  pub long : length st ≡ state_length
  pub most : boxes ≤ box_limit
  pub stamps : all_below boxes (last_fits st) ≡ true

-- the limits for a layout's model, whatever image the layout is of
pub record LimitsFor (l : Layout) (st : List ℕ) (limits : List Limit) : Type 0 where
  pub are : (image : List ℕ) → LayoutOf image l → LimitsOf (model_of image) (last_stamps st) limits
