-- The parts of the state rules of a box record, and what it is to decide one by tables: in every model, with every box's last stamps, for
-- which the tables are those of the held names in order, of a site's subjects, and of the names bound strictly above each line. Assumes
-- nothing.
use Rattle.std.specs.Prelude.{◌≡◌, Bool, true, false, List, ℕ, zero, suc, ◌+◌, ◌≤◌, ◌<◌, get_or}
use Rattle.definitions.specs.Bounded.{◌and◌, ◌or◌, ◌implies◌, ◌is◌, ◌isnt◌, ◌below◌, ◌upto◌, all_below}
use Rattle.definitions.specs.Limits.{slot_limit}
use Rattle.definitions.specs.Sets.{has, for_each}
use Rattle.definitions.specs.Slots.{word}
use Rattle.definitions.specs.Model.{Box, Model, line_count, listed, kind_of_name, bound_above}
use Rattle.definitions.specs.Record.{site_width, thread_width, sites, threads, site, thread, line, subject, binding}
use Rattle.definitions.specs.StateRules.{slots_fit, held_fits, type_words_fit, site_words_fit, thread_words_fit, record_fits}
use Rattle.sets.specs.Names.{NamesOnly}
use Rattle.records.specs.NameSets.{SetOf}
use Rattle.held_limits.specs.declared.Limit.{Limit}
use Rattle.held_limits.specs.Limits.{LimitsOf}

-- ---- words

-- words `from` up to `to` of a list are zero
unfoldable pub clear_between : List ℕ → ℕ → ℕ → Bool
clear_between r from to = all_below to (λ i. from upto i implies word r i is 0)

-- how many numbers below n pass a test
unfoldable pub count_below : ℕ → (ℕ → Bool) → ℕ
count_below zero p = 0
count_below (suc n) p = count_below n p + elim (p n) [ true ↦ 1 | false ↦ 0 ]

-- ---- types and sites

-- v may stand behind `before` in a type: it is none, or a held name in order and larger than the one before, which is there
unfoldable pub follows : Model → (ℕ → ℕ) → ℕ → ℕ → Bool
follows m last before v = v is 0 or (held_fits m last v and before isnt 0 and before below v)

pub record DecidesFollows (limits : List Limit) (before v : ℕ) (r : Bool) : Type 0 where
  pub decides : (m : Model) (last : ℕ → ℕ) → LimitsOf m last limits → r ≡ follows m last before v

pub record DecidesType (limits : List Limit) (x : List ℕ) (r : Bool) : Type 0 where
  pub decides : (m : Model) (last : ℕ → ℕ) → LimitsOf m last limits → r ≡ type_words_fit m last x

-- s is the set of the names that a site may offer: those of kind 0 or 3
pub record SubjectsOf (m : Model) (s : ℕ) : Type 0 where
  pub at : (n : ℕ) → n < 64 → has s n ≡ (listed m.kinds n and (kind_of_name m.kinds n is 0 or kind_of_name m.kinds n is 3))

pub record DecidesSite (limits : List Limit) (s : ℕ) (x : List ℕ) (r : Bool) : Type 0 where
  pub decides : (m : Model) (last : ℕ → ℕ) → LimitsOf m last limits → SubjectsOf m s → r ≡ site_words_fit m last x

-- sites i and j of a record differ in their subjects; site i in its subject from each site before it
unfoldable pub subjects_differ : List ℕ → ℕ → ℕ → Bool
subjects_differ r i j = subject (site r j) isnt subject (site r i)

unfoldable pub new_subject : List ℕ → ℕ → Bool
new_subject r i = all_below i (subjects_differ r i)

unfoldable pub site_fits_at : Model → (ℕ → ℕ) → List ℕ → ℕ → Bool
site_fits_at m last r i = site_words_fit m last (site r i) and new_subject r i

pub record DecidesSites (limits : List Limit) (s : ℕ) (r : List ℕ) (n : ℕ) (t : Bool) : Type 0 where
  pub decides : (m : Model) (last : ℕ → ℕ) → LimitsOf m last limits → SubjectsOf m s → t ≡ all_below n (site_fits_at m last r)

-- the sites of a record, and the words of those that it lacks
unfoldable pub site_slots_fit : Model → (ℕ → ℕ) → List ℕ → Bool
site_slots_fit m last r =
    slots_fit site_width (site_words_fit m last) (sites r) (site r)
    and all_below slot_limit (λ i. all_below i (λ j. i below sites r implies subject (site r j) isnt subject (site r i)))

pub record DecidesSiteSlots (limits : List Limit) (s : ℕ) (r : List ℕ) (t : Bool) : Type 0 where
  pub decides : (m : Model) (last : ℕ → ℕ) → LimitsOf m last limits → SubjectsOf m s → t ≡ site_slots_fit m last r

-- ---- threads

-- name n has a binding in thread y; the binding is in order
unfoldable pub has_binding : List ℕ → ℕ → Bool
has_binding y n = binding y n isnt 0

unfoldable pub binding_fits : Model → (ℕ → ℕ) → List ℕ → ℕ → Bool
binding_fits m last y n = held_fits m last (binding y n)

pub record DecidesBindings (limits : List Limit) (y : List ℕ) (s : ℕ) (r : Bool) : Type 0 where
  pub decides : (m : Model) (last : ℕ → ℕ) → LimitsOf m last limits → r ≡ for_each s (binding_fits m last y)

-- the entry of the line at which thread y stands, where box x of so many lines has it, is the set of the names bound strictly above it
pub record AboveOf (x : Box) (lines : ℕ) (up y : List ℕ) : Type 0 where
  pub count : lines ≡ line_count x
  pub at : line y < lines → SetOf (get_or up (line y) 0) (bound_above x (line y))

-- so are those of the first n threads of a record
pub record AboveEach (x : Box) (lines : ℕ) (up r : List ℕ) (n : ℕ) : Type 0 where
  pub each : (t : ℕ) → t < n → t < slot_limit → AboveOf x lines up (thread r t)

-- n is at most `lines`, at least u, and above line l where l is below `lines`
pub record Covering (lines u l n : ℕ) : Type 0 where
  pub few : n ≤ lines
  pub most : u ≤ n
  pub here : l < lines → l < n

-- of the first t thread slots of a record, each that stands below line `lines` stands below line n
pub record StandBelow (r : List ℕ) (lines t n : ℕ) : Type 0 where
  pub few : n ≤ lines
  pub each : (i : ℕ) → i < t → line (thread r i) < lines → line (thread r i) < n

-- the entries of so many lines are there, and are sets of names below 60
pub record NamesAbove (lines : ℕ) (up : List ℕ) : Type 0 where
  pub few : lines ≤ 124
  pub names : (l : ℕ) → l < lines → NamesOnly (get_or up l 0)

pub record DecidesThread (limits : List Limit) (up : List ℕ) (lines : ℕ) (y : List ℕ) (r : Bool) : Type 0 where
  pub decides : (m : Model) (last : ℕ → ℕ) (x : Box) → LimitsOf m last limits → AboveOf x lines up y → r ≡ thread_words_fit m last x y

unfoldable pub thread_fits_at : Model → (ℕ → ℕ) → Box → List ℕ → ℕ → Bool
thread_fits_at m last x r t = thread_words_fit m last x (thread r t)

pub record DecidesThreads (limits : List Limit) (up : List ℕ) (lines : ℕ) (r : List ℕ) (n : ℕ) (t : Bool) : Type 0 where
  pub decides : (m : Model) (last : ℕ → ℕ) (x : Box) → LimitsOf m last limits → AboveEach x lines up r n
      → t ≡ all_below n (thread_fits_at m last x r)

-- the threads of a record, and the words of those that it lacks
unfoldable pub thread_slots_fit : Model → (ℕ → ℕ) → Box → List ℕ → Bool
thread_slots_fit m last x r = slots_fit thread_width (thread_words_fit m last x) (threads r) (thread r)

pub record DecidesThreadSlots (limits : List Limit) (up : List ℕ) (lines : ℕ) (r : List ℕ) (t : Bool) : Type 0 where
  pub decides : (m : Model) (last : ℕ → ℕ) (x : Box) → LimitsOf m last limits → AboveEach x lines up r (threads r)
      → t ≡ thread_slots_fit m last x r

-- ---- records

pub record DecidesRecord (limits : List Limit) (up : List ℕ) (lines s : ℕ) (r : List ℕ) (t : Bool) : Type 0 where
  pub decides : (m : Model) (last : ℕ → ℕ) (x : Box) → LimitsOf m last limits → AboveEach x lines up r (threads r) → SubjectsOf m s
      → t ≡ record_fits m last x r
