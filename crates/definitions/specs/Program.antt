-- The line that the checking program writes, as bytes. Assumes nothing.
use Rattle.std.specs.Prelude.{true, false, List, [], ◌∷◌, ◌++◌, ℕ, zero, suc, ◌+◌, ◌/◌, ◌%◌}
use Prim.Native.Char.{code}
use Prim.Native.String.{String, [] as []ˢ, ◌∷◌ as ◌∷ˢ◌}
use Rattle.definitions.specs.Bounded.{◌below◌}
use Rattle.definitions.specs.Clauses.{Verdict, accepted, breaks, refused_model, refused_estimate}

-- the bytes of a text in ASCII: the code of each character
unfoldable pub bytes_of : String → List ℕ
bytes_of []ˢ = []
bytes_of (c ∷ˢ s) = code c ∷ bytes_of s

-- a digit's byte
abbrev pub digit : ℕ → ℕ
digit n = code "0" + n

-- a number in decimal, of at most so many digits
unfoldable pub decimal_in : ℕ → ℕ → List ℕ
decimal_in zero n = []
decimal_in (suc most) n = elim (n below 10) [ true ↦ digit n ∷ [] | false ↦ decimal_in most (n / 10) ++ (digit (n % 10) ∷ []) ]

-- a number of 64 bits has at most 20 digits
abbrev pub decimal : ℕ → List ℕ
decimal n = decimal_in 20 n

-- three numbers with single spaces between, and a newline
unfoldable pub three_numbers : ℕ → ℕ → ℕ → List ℕ
three_numbers a b c = decimal a ++ bytes_of " " ++ decimal b ++ bytes_of " " ++ decimal c ++ bytes_of "\n"

-- one number more, before the three
unfoldable pub four_numbers : ℕ → ℕ → ℕ → ℕ → List ℕ
four_numbers a b c d = decimal a ++ bytes_of " " ++ three_numbers b c d

-- accepted; clause with its number, box, record and the name that is missing; refused with the image, the number and both places
unfoldable pub verdict_line : Verdict → List ℕ
verdict_line accepted = bytes_of "accepted\n"
verdict_line (breaks b) = bytes_of "clause " ++ four_numbers b.clause b.box b.place b.name
verdict_line (refused_model r) = bytes_of "refused model " ++ three_numbers r.number r.place r.second
verdict_line (refused_estimate r) = bytes_of "refused estimate " ++ three_numbers r.number r.place r.second
