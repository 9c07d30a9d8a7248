-- The state rules: for one record, given every box's last stamp; and for a whole state. Assumes nothing.
use Rattle.std.specs.Prelude.{Bool, true, false, List, ℕ, ◌+◌, length}
use Rattle.std.proofs.Math.Option.{none, some}
use Rattle.definitions.specs.Bounded.{◌and◌, ◌or◌, ◌implies◌, ◌is◌, ◌isnt◌, ◌below◌, ◌upto◌, all_below}
use Rattle.definitions.specs.Limits.{name_limit, box_limit, slot_limit, type_limit}
use Rattle.definitions.specs.Slots.{word}
use Rattle.definitions.specs.Model.{Box, Model, box_at, line_count, box_count, listed, kind_of_name, bound_above, owner}
use Rattle.definitions.specs.Record.{site_width, thread_width, record_length, held_number, held_stamp, stamp_limit, stamp, threads, sites, site, thread, subject, flag, type_word, line, binding, state_length, record_of, last_stamps}

-- so many words, all zero
unfoldable pub clear : ℕ → List ℕ → Bool
clear n x = length x is n and all_below n (λ i. word x i is 0)

-- of 16 slots of w words the first n pass a test, and the others are zero
unfoldable pub slots_fit : ℕ → (List ℕ → Bool) → ℕ → (ℕ → List ℕ) → Bool
slots_fit w ok n f = n upto slot_limit and all_below slot_limit (λ i. elim (i below n) [ true ↦ ok (f i) | false ↦ clear w (f i) ])

module _ (m : Model) (last : ℕ → ℕ) where
  -- the stamp of a name made in some box: 1 up to the last stamp of the box whose lines bind the name
  unfoldable pub stamp_fits : ℕ → ℕ → Bool
  stamp_fits n s = elim (owner m n) [ none ↦ false | some b ↦ 1 upto s and s upto last b ]

  -- a held name is listed, not of kind 2, and has stamp 0 if free
  unfoldable pub held_fits : ℕ → Bool
  held_fits v =
      let n = held_number v in
      let k = kind_of_name m.kinds n in
      v isnt 0 and listed m.kinds n and k isnt 2 and elim (k is 0) [ true ↦ held_stamp v is 0 | false ↦ stamp_fits n (held_stamp v) ]

  -- a type holds 1 to 8 held names, ascending, in its first words
  unfoldable pub type_words_fit : List ℕ → Bool
  type_words_fit x =
      type_word x 0 isnt 0 and all_below type_limit (λ i. type_word x i isnt 0 implies held_fits (type_word x i))
      and all_below 7 (λ i. type_word x (i + 1) isnt 0 implies (type_word x i isnt 0 and type_word x i below type_word x (i + 1)))

  -- a site: its subject of kind 0 or 3; 0 shown or 1 hidden; its type
  unfoldable pub site_words_fit : List ℕ → Bool
  site_words_fit x =
      length x is site_width and held_fits (subject x)
      and (kind_of_name m.kinds (held_number (subject x)) is 0 or kind_of_name m.kinds (held_number (subject x)) is 3)
      and flag x upto 1 and type_words_fit x

  -- a thread of box x: its line exists; a binding stands exactly for the names bound strictly above that line
  unfoldable pub thread_words_fit : Box → List ℕ → Bool
  thread_words_fit x y =
      length y is thread_width and line y below line_count x
      and all_below name_limit (λ n. elim (bound_above x (line y) n) [ true ↦ held_fits (binding y n) | false ↦ binding y n is 0 ])

  -- the record of box x
  unfoldable pub record_fits : Box → List ℕ → Bool
  record_fits x r =
      length r is record_length and stamp r upto stamp_limit
      and slots_fit thread_width (thread_words_fit x) (threads r) (thread r)
      and slots_fit site_width site_words_fit (sites r) (site r)
      and all_below slot_limit (λ i. all_below i (λ j. i below sites r implies subject (site r j) isnt subject (site r i)))

-- the state's length is right and each record fits; the records of boxes that the model lacks are zero
unfoldable pub state_fits : Model → List ℕ → Bool
state_fits m st =
    length st is state_length
    and all_below box_limit (λ b. elim (b below box_count m) [
      | true ↦ record_fits m (last_stamps st) (box_at m b) (record_of st b)
      | false ↦ clear record_length (record_of st b)
    ])
