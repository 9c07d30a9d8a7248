-- The tests of a line by tables: by operation, the digits of its first word that are zero, the names that may not stand first and second, what it uses
-- (first and second), what it binds (first and second), and its children (first and second). A table is 16 words; nine tables stand one after the
-- other. Assumes nothing.
use Rattle.std.specs.Prelude.{List, [], ◌∷◌, ℕ, ◌+◌, ◌-◌, ◌*◌, ◌%◌, ◌^◌, get_or}
use Rattle.line_table.specs.declared.Part.{Part}
use Rattle.line_table.specs.declared.Part.TheVariants.{Zero, DeniedFirst, DeniedSecond, UsedFirst, UsedSecond, BoundFirst, BoundSecond, ChildFirst, ChildSecond}

-- all digits; the highest, which marks a line as some line's child
abbrev pub full : ℕ
full = 0xffffffffffffffff

abbrev pub mark : ℕ
mark = 0x8000000000000000

-- a: the listed names; r, c and e: the restricted, received and exposed ones; f: the free ones
abbrev pub op_table : ℕ → ℕ → ℕ → ℕ → ℕ → List ℕ
op_table a r c e f =
    0xffffffffffc0c0f0 ∷ 0xff80ff80ffc0c0f0 ∷ 0xffffff80ffc0c0f0 ∷ 0xffffff80ffc0c0f0 ∷ 0xffffff80ffc0c0f0 ∷ 0xffffff80ffc0c0f0 ∷ 0xffffff80ffc0c0f0 ∷ 0xffffff80ffc0c0f0 ∷ 0xffffff80ffc0c0f0 ∷ full ∷ full ∷ full ∷ full ∷ full ∷ full ∷ full
    ∷ 0xfffffffffffffffe ∷ 0xfffffffffffffffe ∷ 0xfffffffffffffffe ∷ (2 ^ 64 - 1 - r) ∷ (2 ^ 64 - 1 - a) ∷ (2 ^ 64 - 1 - a) ∷ (2 ^ 64 - 1 - e) ∷ (2 ^ 64 - 1 - a) ∷ (2 ^ 64 - 1 - a) ∷ full ∷ full ∷ full ∷ full ∷ full ∷ full ∷ full
    ∷ 0xfffffffffffffffe ∷ 0xfffffffffffffffe ∷ 0xfffffffffffffffe ∷ 0xfffffffffffffffe ∷ (2 ^ 64 - 1 - a) ∷ (2 ^ 64 - 1 - c) ∷ 0xfffffffffffffffe ∷ 0xfffffffffffffffe ∷ 0xfffffffffffffffe ∷ full ∷ full ∷ full ∷ full ∷ full ∷ full ∷ full
    ∷ 0 ∷ 0 ∷ 0 ∷ 0 ∷ (2 ^ 64 - 1 - f) ∷ (2 ^ 64 - 1 - f) ∷ 0 ∷ (2 ^ 64 - 1 - f) ∷ (2 ^ 64 - 1 - f) ∷ 0 ∷ 0 ∷ 0 ∷ 0 ∷ 0 ∷ 0 ∷ 0
    ∷ 0 ∷ 0 ∷ 0 ∷ 0 ∷ (2 ^ 64 - 1 - f) ∷ 0 ∷ 0 ∷ 0 ∷ 0 ∷ 0 ∷ 0 ∷ 0 ∷ 0 ∷ 0 ∷ 0 ∷ 0
    ∷ 0 ∷ 0 ∷ 0 ∷ full ∷ 0 ∷ 0 ∷ full ∷ 0 ∷ 0 ∷ 0 ∷ 0 ∷ 0 ∷ 0 ∷ 0 ∷ 0 ∷ 0
    ∷ 0 ∷ 0 ∷ 0 ∷ 0 ∷ 0 ∷ full ∷ 0 ∷ 0 ∷ 0 ∷ 0 ∷ 0 ∷ 0 ∷ 0 ∷ 0 ∷ 0 ∷ 0
    ∷ 0 ∷ mark ∷ mark ∷ mark ∷ mark ∷ mark ∷ mark ∷ mark ∷ mark ∷ 0 ∷ 0 ∷ 0 ∷ 0 ∷ 0 ∷ 0 ∷ 0
    ∷ 0 ∷ mark ∷ 0 ∷ 0 ∷ 0 ∷ 0 ∷ 0 ∷ 0 ∷ 0 ∷ 0 ∷ 0 ∷ 0 ∷ 0 ∷ 0 ∷ 0 ∷ 0
    ∷ []

-- the number of a table
abbrev pub part_number : Part → ℕ
part_number Zero = 0
part_number DeniedFirst = 1
part_number DeniedSecond = 2
part_number UsedFirst = 3
part_number UsedSecond = 4
part_number BoundFirst = 5
part_number BoundSecond = 6
part_number ChildFirst = 7
part_number ChildSecond = 8

-- the word of table c for the operation of a line's first word w
unfoldable pub row : List ℕ → ℕ → ℕ → ℕ
row t c w = get_or t (16 * c + w % 16) 0
