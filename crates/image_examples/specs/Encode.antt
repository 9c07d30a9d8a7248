-- The images of a model and of an estimate, built from the data. Assumes nothing.
use Rattle.std.specs.Prelude.{true, false, List, [], ◌∷◌, ◌++◌, ℕ, zero, suc, ◌+◌, ◌*◌, ◌/◌, ◌%◌, ◌^◌, length, take, drop}
use Rattle.definitions.specs.Bounded.{◌below◌, tabulate, flat}
use Rattle.definitions.specs.Check.{check_of}
use Rattle.definitions.specs.Slots.{zeros}
use Rattle.definitions.specs.Model.{Site, Line, Box, Model, box_count}
use Rattle.definitions.specs.Estimate.{Estimate}

-- a number as so many bytes, the lowest first
unfoldable pub bytes : ℕ → ℕ → List ℕ
bytes zero w = []
bytes (suc n) w = w % 256 ∷ bytes n (w / 256)

unfoldable pub word_bytes : List ℕ → List ℕ
word_bytes [] = []
word_bytes (w ∷ ws) = bytes 8 w ++ word_bytes ws

-- a block: its heading, 62 words, and its check
unfoldable pub encode_block : ℕ → ℕ → ℕ → ℕ → List ℕ → List ℕ
encode_block number kind box count words =
    let body = bytes 2 number ++ kind ∷ box ∷ bytes 2 count ++ 0 ∷ 0 ∷ word_bytes (take 62 (words ++ zeros 62)) in
    body ++ bytes 8 (check_of body)

unfoldable pub site_words : List Site → List ℕ
site_words [] = []
site_words (s ∷ ss) = (s.subject + 2 ^ 8 * s.flag + 2 ^ 16 * s.spare) ∷ s.type ∷ site_words ss

unfoldable pub line_words : List Line → List ℕ
line_words [] = []
line_words (l ∷ ls) =
    (l.op + 2 ^ 8 * l.name1 + 2 ^ 16 * l.name2 + 2 ^ 24 * l.spare + 2 ^ 32 * l.child1 + 2 ^ 48 * l.child2) ∷ l.type ∷ line_words ls

-- a box's lines in at most so many blocks, the first of number k: 31 to a block, and a block with fewer, or the last, ends the box
unfoldable pub encode_lines : ℕ → ℕ → ℕ → List Line → List (List ℕ)
encode_lines zero k b ls = []
encode_lines (suc most) k b ls =
    let block = encode_block k 3 b (length (take 31 ls)) (line_words (take 31 ls)) in
    elim (length ls below 31) [ true ↦ block ∷ [] | false ↦ block ∷ encode_lines most (k + 1) b (drop 31 ls) ]

unfoldable pub encode_box : ℕ → ℕ → Box → List (List ℕ)
encode_box k b x = encode_block k 2 b (length x.sites) (site_words x.sites) ∷ encode_lines 4 (k + 1) b x.lines

unfoldable pub encode_boxes : ℕ → ℕ → List Box → List (List ℕ)
encode_boxes k b [] = []
encode_boxes k b (x ∷ xs) = let blocks = encode_box k b x in blocks ++ encode_boxes (k + length blocks) (b + 1) xs

unfoldable pub join_blocks : List (List ℕ) → List ℕ
join_blocks [] = []
join_blocks (x ∷ xs) = x ++ join_blocks xs

unfoldable pub encode_model : Model → List ℕ
encode_model m =
    join_blocks (encode_block 0 1 0 0 (length m.kinds ∷ box_count m ∷ m.kinds) ∷ encode_boxes 1 0 m.boxes)

-- the image of an estimate for so many names and boxes
unfoldable pub encode_estimate : ℕ → ℕ → Estimate → List ℕ
encode_estimate names boxes e =
    encode_block 0 4 0 0 (tabulate names e.rho)
    ++ flat boxes (λ b.
    encode_block (1 + 2 * b) 5 b 0 (take 60 (tabulate names (e.eps b) ++ zeros 60) ++ e.shown b ∷ e.hidden b ∷ [])
    ++ encode_block (2 + 2 * b) 6 b 0 (tabulate names (e.kap b)))
