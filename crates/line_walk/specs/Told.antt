-- What a step of the walk tells: where its wrong digits are none, each test passed; and the places written. Assumes nothing.
use Rattle.std.specs.Prelude.{◌≡◌, List, ◌≢◌, ℕ, ◌+◌, ◌-◌, ◌/◌, ◌%◌, ◌^◌, ◌≤◌, ◌<◌, T, length, get_or, set}
use Rattle.std.specs.Int.Bits.{bit_and, bit_or}
use Rattle.definitions.specs.Sets.{has}
use Rattle.definitions.specs.Model.{is_free}
use Rattle.definitions.specs.Image.{model_of}
use Rattle.definitions.specs.ReadModel.{type_fits, bound_before, reach_fits}
use Rattle.records.specs.NameSets.{SetOf}
use Rattle.records.specs.Places.{LinesAt}
use Rattle.record_rules.specs.Rules.{KindsIn}
use Rattle.box_runs.specs.Runs.{line_fit, tree_fit}
use Rattle.line_table.specs.Told.{Empty}
use Rattle.line_table.specs.Table.{mark, row}
use Rattle.line_table.specs.LineWords.{wrong, bound, used}

-- the places of a line's children, by its first word
abbrev pub child1_of : ℕ → ℕ
child1_of w = w / 2 ^ 32 % 128

abbrev pub child2_of : ℕ → ℕ
child2_of w = w / 2 ^ 48 % 128

-- what is handed down by line i, and the places after it
abbrev pub handed : List ℕ → List ℕ → ℕ → ℕ → ℕ
handed t up w i = bit_or (bound t w) (get_or up i 0)

abbrev pub after : List ℕ → List ℕ → ℕ → ℕ → List ℕ
after t up w i = set (set up (child1_of w) (handed t up w i)) (child2_of w) (handed t up w i)

-- a line by itself, where v stands at its place
pub record Own (t : List ℕ) (a rest w type v seen : ℕ) : Type 0 where
  pub line : Empty (wrong t w)
  pub none : w % 16 ≢ 6 → Empty type
  pub typed : w % 16 ≡ 6 → T (type_fits (has a) (w / 2 ^ 8 % 256) type)
  pub reach : Empty (bit_and (used t rest w type) (2 ^ 64 - 1 - v))
  pub once : Empty (bit_and seen (bound t w))
  pub visit : Empty (bit_and (2 ^ 64 - 1 - v) mark)

-- what its wrong digits r tell
pub record OwnTold (t : List ℕ) (a rest w type v seen r : ℕ) : Type 0 where
  pub tells : Empty r → Own t a rest w type v seen
  pub word : v < 2 ^ 64
  pub first : w < 2 ^ 64
  pub second : type < 2 ^ 64

-- its children, handed a word
pub record Children (t : List ℕ) (w here : ℕ) (up : List ℕ) : Type 0 where
  pub first : Empty (bit_and (get_or up (child1_of w) 0) (row t 7 w))
  pub second : Empty (bit_and (get_or (set up (child1_of w) here) (child2_of w) 0) (row t 8 w))

-- what their wrong digits r tell, and the places written
pub record ChildrenTold (t : List ℕ) (w here : ℕ) (up : List ℕ) (r : ℕ) (new : List ℕ) : Type 0 where
  pub tells : Empty r → Children t w here up
  pub put : new ≡ set (set up (child1_of w) here) (child2_of w) here

-- line i, with its children
pub record Stepped (t : List ℕ) (a rest w type i : ℕ) (up : List ℕ) (seen r : ℕ) (new : List ℕ) : Type 0 where
  pub own : Empty r → Own t a rest w type (get_or up i 0) seen
  pub children : Empty r → Children t w (handed t up w i) up
  pub put : new ≡ after t up w i
  pub word : get_or up i 0 < 2 ^ 64
  pub first : w < 2 ^ 64
  pub second : type < 2 ^ 64

-- ---- the walk

-- a box of an image with its names by kind, and what earlier boxes bind
pub record LinesGiven (image : List ℕ) (b k n a r c e f start : ℕ) : Type 0 where
  pub at : LinesAt image b k n
  pub kinds : KindsIn (model_of image).kinds a r c e
  pub free : SetOf f (is_free (model_of image).kinds)
  pub before : SetOf start (bound_before (model_of image) b 0)

-- each of its lines fits by itself, in its tree, and where its names reach; seen: what is bound up to its end
pub record LinesRight (image : List ℕ) (b n seen : ℕ) : Type 0 where
  pub lines : (i : ℕ) → i < n → T (line_fit (model_of image) b i)
  pub trees : (i : ℕ) → i < n → T (tree_fit (model_of image) b i)
  pub reach : (i : ℕ) → i < n → T (reach_fits (model_of image) b i)
  pub before : SetOf seen (bound_before (model_of image) b n)

-- the one-sided promise
pub record LinesTold (image : List ℕ) (k n a r c e f start bad seen : ℕ) : Type 0 where
  pub tells : Empty bad → (b : ℕ) → LinesGiven image b k n a r c e f start → LinesRight image b n seen

-- places of n lines, none of them marked but the first
pub record Fresh (n : ℕ) (up : List ℕ) : Type 0 where
  pub long : length up ≡ 128
  pub root : get_or up 0 0 ≡ mark
  pub lines : (c : ℕ) → 0 < c → c < n → get_or up c 0 ≡ 0
  pub rest : (c : ℕ) → n ≤ c → c < 128 → get_or up c 0 ≡ mark

-- the place of a next line
pub record Next (at left at' left' : ℕ) : Type 0 where
  pub same : left ≢ 1 → (at' ≡ at + 16) × (left' ≡ left - 1)
  pub other : left ≡ 1 → (at' ≡ at + 32) × (left' ≡ 31)
