-- The number with which a move is refused, or 0, in the pieces that are decided one after the other. Assumes nothing.
use Rattle.std.specs.Prelude.{Result, Ok, Err, Bool, true, false, not, List, [], ℕ}
use Rattle.definitions.specs.Bounded.{◌and◌, ◌is◌, ◌isnt◌, ◌below◌}
use Rattle.definitions.specs.Model.{Box, kind_of_name}
use Rattle.definitions.specs.Record.{held_number, threads, site}
use Rattle.definitions.specs.Moves.{Outcome, made, need, site_with, found, at, types_share, value1, at_line, inter_move}
use Rattle.definitions.specs.Calls.{outcome_number}
use Rattle.deciding.specs.declared.Blocked.{Blocked}
use Rattle.deciding.specs.declared.Blocked.TheVariants.{Nobody, WithSelf, WrongLine, Channel, NoSite, Unfit, Private, Full, Spent}

-- the paper's number of why a move is refused, and 0 for an answer that it is allowed
abbrev pub blocked_number : Blocked → ℕ
blocked_number Nobody = 12
blocked_number WithSelf = 13
blocked_number WrongLine = 14
blocked_number Channel = 15
blocked_number NoSite = 16
blocked_number Unfit = 17
blocked_number Private = 18
blocked_number Full = 19
blocked_number Spent = 20

abbrev pub blocked_in : {A : Type 0} → Result A Blocked → ℕ
blocked_in (Ok _) = 0
blocked_in (Err n) = blocked_number n

-- 0 where a test passes, and else a number
abbrev pub unless : Bool → ℕ → ℕ
unless true n = 0
unless false n = n

-- all tests are passed: what the move would leave does not matter here
abbrev pub passed : Outcome (List ℕ)
passed = made []

-- 12 no such thread, 14 not at the line that the move needs
unfoldable pub line_number : List ℕ → Box → List ℕ → ℕ → ℕ → ℕ
line_number kinds x r t op = outcome_number (at_line kinds x r t op passed)

-- hide and unhide: the line, then 16 no such site
unfoldable pub turn_number : List ℕ → Box → List ℕ → ℕ → ℕ → ℕ → ℕ
turn_number kinds x r op before t = outcome_number (at_line kinds x r t op (need (found (site_with r (value1 kinds x r t) before)) 16 passed))

-- inter: the held name that is sent is of kind 1
unfoldable pub is_private : List ℕ → ℕ → Bool
is_private kinds sent = kind_of_name kinds (held_number sent) is 1

-- inter: the channels v and w, and the records that they are of; 16 no site, 17 unfit
unfoldable pub site_tests : List ℕ → List ℕ → ℕ → ℕ → Outcome (List ℕ)
site_tests r s v w =
    let i = site_with r v 0 in
    let j = site_with s w 0 in
    need (found i and found j) 16 (need (types_share (site r (at i)) (site s (at j))) 17 passed)

-- inter, once both threads are at their lines: 18 private, and then the sites
unfoldable pub channels_number : List ℕ → List ℕ → List ℕ → ℕ → ℕ → ℕ → ℕ
channels_number kinds r s v w sent = outcome_number (need (not (is_private kinds sent)) 18 (site_tests r s v w))

-- inter between box b with contents x and record r and box c with contents y and record s, which are both there
unfoldable pub inter_number : List ℕ → Box → List ℕ → Box → List ℕ → ℕ → ℕ → ℕ → ℕ → ℕ
inter_number kinds x r y s b t c u =
    outcome_number (need (t below threads r and u below threads s) 12 (need (b isnt c) 13 (inter_move kinds x r y s t u)))
