-- The state that a start writes. Assumes nothing.
use Rattle.std.specs.Prelude.{true, false, List, [], ◌∷◌, ◌++◌, map, ℕ, ◌*◌, take}
use Rattle.definitions.specs.Bounded.{◌is◌, ◌below◌, flat}
use Rattle.definitions.specs.Limits.{box_limit, slot_limit, type_limit}
use Rattle.definitions.specs.Sets.{members}
use Rattle.definitions.specs.Slots.{zeros}
use Rattle.definitions.specs.Model.{Site, Box, Model, site_at, box_at, site_count, box_count}
use Rattle.definitions.specs.Record.{held, site_width, thread_width, record_length}

-- v put into an ascending list without repeats
unfoldable pub insert : ℕ → List ℕ → List ℕ
insert v [] = v ∷ []
insert v (x ∷ xs) = elim (v below x) [ true ↦ v ∷ x ∷ xs | false ↦ elim (v is x) [ true ↦ x ∷ xs | false ↦ x ∷ insert v xs ] ]

unfoldable pub ascending : List ℕ → List ℕ
ascending [] = []
ascending (v ∷ vs) = insert v (ascending vs)

-- a type as 8 words: the held names of its names, ascending without repeats
unfoldable pub type_words : (ℕ → ℕ) → ℕ → List ℕ
type_words hold type = take type_limit (ascending (map hold (members type)) ++ zeros type_limit)

-- a free name holds itself, with stamp 0
abbrev pub free_held : ℕ → ℕ
free_held n = held n 0

unfoldable pub start_site : Site → List ℕ
start_site s = free_held s.subject ∷ s.flag ∷ type_words free_held s.type

-- stamp 0, one thread, at line 0 and with no binding; the box's sites in order
unfoldable pub start_record : Box → List ℕ
start_record x =
    (0 ∷ 1 ∷ site_count x ∷ [])
    ++ flat slot_limit (λ i. elim (i below site_count x) [ true ↦ start_site (site_at x i) | false ↦ zeros site_width ])
    ++ zeros (thread_width * slot_limit)

unfoldable pub start_state : Model → List ℕ
start_state m = flat box_limit (λ b. elim (b below box_count m) [ true ↦ start_record (box_at m b) | false ↦ zeros record_length ])
