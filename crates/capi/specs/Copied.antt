-- A part copied to the front of a lent buffer, and the answer. Assumes nothing.
use Rattle.std.specs.Prelude.{true, false, List, ◌++◌, ℕ, length, drop}
use Rattle.std.proofs.Math.Option.{Option, none, some}
use Rattle.definitions.specs.Bounded.{◌upto◌}
use Rattle.packing.specs.Packed.{pack}

-- a number, or 0 where there is none
abbrev pub or_zero : Option ℕ → ℕ
or_zero none = 0
or_zero (some n) = n

-- where the part is longer than the buffer, the buffer is untouched
unfoldable pub copied : List ℕ → List ℕ → List ℕ
copied part buffer = elim (length part upto length buffer) [ true ↦ part ++ drop (length part) buffer | false ↦ buffer ]

-- 0 and how many bytes were copied, or 7: no room
unfoldable pub pack_copied : List ℕ → List ℕ → ℕ
pack_copied part buffer = elim (length part upto length buffer) [ true ↦ pack 0 0 (length part) 0 | false ↦ 7 ]
