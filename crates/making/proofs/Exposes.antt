-- A site written behind the others: its type's held names, its subject, the count. Assumes nothing.
use mathlib.Core.Path.{◌≡◌, ap, sym, ◌∙◌}
use mathlib.Core.Logic.{◌⊎◌, inl, inr, ◌≢◌}
use mathlib.Core.List.{List, ◌∷◌, ◌++◌, map}
use Prim.Native.Nat.{ℕ, zero, suc, ◌+◌, ◌*◌, ◌^◌, ◌≤◌, ◌<◌}
use native.Mathlib.Nat.{le_of_suc-le-suc}
use native.Mathlib.Omega.{arith}
use borrow.Author.Rules.{rules}
use lib.Dec.{T}
use lib.ListN.{length, take, set, length-set}
use lib.Seq.{get_or-set_same, get_or-set_other}
use Rattle.definitions.specs.Bounded.{◌isnt◌}
use Rattle.definitions.specs.Sets.{has, members}
use Rattle.definitions.specs.Slots.{word, zeros, part, put, slot, put_slot, push_slot}
use Rattle.definitions.specs.Image.{name_count, model_of}
use Rattle.definitions.specs.Record.{sites, thread, push_site}
use Rattle.definitions.specs.Start.{ascending, type_words}
use Rattle.definitions.specs.Moves.{value_in}
use Rattle.definitions.proofs.Bounded.{and_iff}
use Rattle.definitions.proofs.Slots.{length-zeros, word-zeros, take-zeros, length-put, word-put-before, word-put-after, word-put_in, part-is, part-put-same, part-put_other, put_is, put-part, put-put, word_slot, slot_set_other}
use Rattle.definitions.proofs.TypeWords.{all_map, ascending_all, ascending_ascends, members_all, length-type_words}
use Rattle.sets.specs.Lowest.{lowest_of, WithoutLowest}
use Rattle.sets.proofs.Members.{members-none, members-first}
use Rattle.sets.proofs.Walk.{lowest_in, lowest-below}
use Rattle.state.specs.Edits.{inserted}
use Rattle.state.proofs.Inserts.{inserted_padded}
use Rattle.making.specs.Exposed.{NamesHeld, TypeRoom, SiteRoom}

-- ---- the words of a type, one name after the other

pub type_none : (hold : ℕ → ℕ) (s : ℕ) → s ≡ 0 → type_words hold s ≡ zeros 8
unfolding type_words ascending
type_none hold s z = ap (λ (l : List ℕ). take 8 (ascending (map hold l) ++ zeros 8)) (members-none s z) ∙ take-zeros 8 8 (omega arith)

pub type_more : (hold : ℕ → ℕ) (s t n : ℕ) → s < 2 ^ 64 → (s ≡ 0 → ⊥) → n ≡ lowest_of s → WithoutLowest s t
    → ((i : ℕ) → i < 64 → T (has s i) → hold i ≢ 0) → inserted (hold n) (type_words hold t) ≡ type_words hold s
unfolding type_words ascending members
type_more hold s t n fit some e r given =
    inserted_padded (hold n) (given n (lowest-below s n fit some e) (lowest_in s n fit some e)) (ascending (map hold (members t)))
    (ascending_all (λ y. y ≢ 0) (map hold (members t)) (all_map (λ y. y ≢ 0) hold (members t) (members_all (λ i. hold i ≢ 0) t 64 (λ i h u. given i h (within i u)))))
    (ascending_ascends (map hold (members t))) 8 8 (omega arith)
    ∙ ap (λ (l : List ℕ). take 8 (ascending (map hold l) ++ zeros 8)) (sym (members-first s t n fit some e r))
  where
    within : (i : ℕ) → T (has t i) → T (has s i)
    within i u = ((and_iff (has s i) (lowest_of s isnt i)).0 (rw (r.members i) at u)).0

-- ---- the words of a type in a record

module _ {image r : List ℕ} {t names at : ℕ} (k : NamesHeld image r t names) (room : TypeRoom r at) where
  hold : ℕ → ℕ
  hold = value_in (model_of image).kinds (thread r t)

  pub typed_none : names ≡ 0 → r ≡ put r at (type_words (value_in (model_of image).kinds (thread r t)) names)
  typed_none z =
      sym (ap (put r at) (type_none (value_in (model_of image).kinds (thread r t)) names z ∙ sym room.clear)
      ∙ put-part r at 8 (omega (arith, k.long, room.before)))

  pub typed_place : at + 8 ≤ 1139
  typed_place = omega (arith, room.before)

  module _ (fit : names < 2 ^ 64) (some : 0 < names) (n rest : ℕ) (w : WithoutLowest names rest) where
    within : (i : ℕ) → T (has rest i) → T (has names i)
    within i u = ((and_iff (has names i) (lowest_of names isnt i)).0 (rw (w.members i) at u)).0

    pub typed_rest : NamesHeld image r t rest
    typed_rest = record {
      read = k.read;
      long = k.long;
      slot = k.slot;
      listed = λ i h u. k.listed i h (within i u);
      given = λ i h u. k.given i h (within i u);
    }

    module _ (r1 : List ℕ) (f : r1 ≡ put r at (type_words (value_in (model_of image).kinds (thread r t)) rest)) where
      x : List ℕ
      x = type_words (value_in (model_of image).kinds (thread r t)) rest

      eight : length x ≡ 8
      unfolding x
      eight = length-type_words (value_in (model_of image).kinds (thread r t)) rest

      same-thread : thread r1 t ≡ thread r t
      unfolding x slot
      same-thread =
          ap (λ (y : List ℕ). thread y t) f
          ∙ part-put_other r at x (163 + 61 * t) 61 (omega (arith, eight, k.long, room.before)) (omega (arith, k.long, k.slot)) (inr (omega (arith, eight, room.before)))

      module _ (e : n ≡ lowest_of names) where
        pub typed_listed : n < name_count image
        typed_listed = k.listed n (lowest-below names n fit (λ z. omega arith) e) (lowest_in names n fit (λ z. omega arith) e)

        pub typed_left : (v : ℕ) → v ≡ value_in (model_of image).kinds (thread r1 t) n → (r2 : List ℕ) → r2 ≡ put r1 at (inserted v (part r1 at 8))
            → r2 ≡ put r at (type_words (value_in (model_of image).kinds (thread r t)) names)
        unfolding x
        typed_left v g r2 p =
            let value : v ≡ value_in (model_of image).kinds (thread r t) n = g ∙ ap (λ (y : List ℕ). value_in (model_of image).kinds y n) same-thread in
            let words : part r1 at 8 ≡ x = ap (λ (y : List ℕ). part y at 8) f ∙ part-put-same r at x 8 eight (omega (arith, k.long, room.before)) in
            let whole = type_more (value_in (model_of image).kinds (thread r t)) names rest n fit (λ z. omega arith) e w k.given in
            p ∙ ap (λ (y : List ℕ). put r1 at (inserted v y)) words ∙ ap (λ (i : ℕ). put r1 at (inserted i x)) value
            ∙ ap (put r1 at) whole ∙ ap (λ (y : List ℕ). put y at (type_words (value_in (model_of image).kinds (thread r t)) names)) f
            ∙ put-put r at x (type_words (value_in (model_of image).kinds (thread r t)) names)
            (eight ∙ sym (length-type_words (value_in (model_of image).kinds (thread r t)) names))
            (omega (arith, length-type_words (value_in (model_of image).kinds (thread r t)) names, k.long, room.before))

pub ruleset types = (rules, typed_none, typed_place, typed_rest, typed_listed, typed_left)

-- ---- a site behind the others

module _ {image r : List ℕ} {t names : ℕ} (k : NamesHeld image r t names) (room : SiteRoom r) (n v : ℕ) (e : n ≡ sites r) where
  off : ℕ
  off = 3 + 10 * n

  inside : off + 10 ≤ 163
  unfolding off
  inside = omega (arith, room.room)

  -- the words of the site are zero
  none : (j : ℕ) → j < 10 → word r (3 + 10 * n + j) ≡ 0
  none j h =
      ap (λ (i : ℕ). word r (3 + 10 * i + j)) e ∙ sym (word_slot 3 10 r (sites r) j h) ∙ ap (λ (y : List ℕ). word y j) room.clear ∙ word-zeros 10 j

  size : length (set r (3 + 10 * n) v) ≡ 1139
  size = length-set r (3 + 10 * n) v ∙ k.long

  same_thread1 : thread (set r (3 + 10 * n) v) t ≡ thread r t
  same_thread1 = slot_set_other 163 61 16 r (omega (arith, k.long)) (3 + 10 * n) v (inl (omega (arith, room.room))) t k.slot

  pub site_names : NamesHeld image (set r (3 + 10 * n) v) t names
  site_names = record {
    read = k.read;
    long = size;
    slot = k.slot;
    listed = k.listed;
    given = λ i h u. rw same_thread1 (k.given i h u);
  }

  pub site-room : TypeRoom (set r (3 + 10 * n) v) (3 + 10 * n + 2)
  site-room = record {
    before = omega (arith, room.room);
    clear = part-is (set r (3 + 10 * n) v) (3 + 10 * n + 2) 8 (zeros 8) (omega (arith, size, room.room)) (length-zeros 8)
        (λ j h. get_or-set_other r (3 + 10 * n) (3 + 10 * n + 2 + j) v 0 (omega arith)
        ∙ ap (word r) (let z : 3 + 10 * n + 2 + j ≡ 3 + 10 * n + (2 + j) = omega arith in z) ∙ none (2 + j) (omega arith) ∙ sym (word-zeros 8 j));
  }

  module _ (r2 : List ℕ) (f : r2 ≡ put (set r (3 + 10 * n) v) (3 + 10 * n + 2) (type_words (value_in (model_of image).kinds (thread (set r (3 + 10 * n) v) t)) names)) where
    w : List ℕ
    w = type_words (value_in (model_of image).kinds (thread r t)) names

    eight_w : length w ≡ 8
    unfolding w
    eight_w = length-type_words (value_in (model_of image).kinds (thread r t)) names

    r1 : List ℕ
    r1 = set r (3 + 10 * n) v

    typed : r2 ≡ put r1 (3 + 10 * n + 2) w
    unfolding w r1
    typed = f ∙ ap (λ (y : List ℕ). put r1 (3 + 10 * n + 2) (type_words (value_in (model_of image).kinds y) names)) same_thread1

    fits : 3 + 10 * n + 2 + length w ≤ length r1
    unfolding r1
    fits = omega (arith, eight_w, size, room.room)

    written : put r1 (3 + 10 * n + 2) w ≡ put r (3 + 10 * n) (v ∷ 0 ∷ w)
    unfolding r1
    written =
        put_is r (put r1 (3 + 10 * n + 2) w) (3 + 10 * n) (v ∷ 0 ∷ w) (omega (arith, eight_w, k.long, room.room))
        (length-put r1 (3 + 10 * n + 2) w fits ∙ size ∙ sym k.long) words other
      where
        other : (i : ℕ) → (i < 3 + 10 * n) ⊎ (3 + 10 * n + length (v ∷ 0 ∷ w) ≤ i) → word (put r1 (3 + 10 * n + 2) w) i ≡ word r i
        other i (inl h) = word-put-before r1 (3 + 10 * n + 2) w fits i (omega arith) ∙ get_or-set_other r (3 + 10 * n) i v 0 (omega arith)
        other i (inr h) = word-put-after r1 (3 + 10 * n + 2) w fits i (omega arith) ∙ get_or-set_other r (3 + 10 * n) i v 0 (omega arith)

        words : (j : ℕ) → j < length (v ∷ 0 ∷ w) → word (put r1 (3 + 10 * n + 2) w) (3 + 10 * n + j) ≡ word (v ∷ 0 ∷ w) j
        words zero h =
            word-put-before r1 (3 + 10 * n + 2) w fits (3 + 10 * n + 0) (omega arith)
            ∙ ap (λ (i : ℕ). word (set r (3 + 10 * n) v) i) (let z : 3 + 10 * n + 0 ≡ 3 + 10 * n = omega arith in z)
            ∙ get_or-set_same r (3 + 10 * n) v 0 (omega (arith, k.long, room.room))
        words (suc zero) h =
            word-put-before r1 (3 + 10 * n + 2) w fits (3 + 10 * n + 1) (omega arith)
            ∙ get_or-set_other r (3 + 10 * n) (3 + 10 * n + 1) v 0 (omega arith) ∙ none 1 (omega arith)
        words (suc (suc j)) h =
            ap (word (put r1 (3 + 10 * n + 2) w)) (let z : 3 + 10 * n + suc (suc j) ≡ 3 + 10 * n + 2 + j = omega arith in z)
            ∙ word-put_in r1 (3 + 10 * n + 2) w fits j (le_of_suc-le-suc (le_of_suc-le-suc h))

    pub site_left : set r2 2 (n + 1) ≡ push_site r (v ∷ 0 ∷ type_words (value_in (model_of image).kinds (thread r t)) names)
    unfolding push_slot put_slot w
    site_left = ap (λ (y : List ℕ). set y 2 (n + 1)) (typed ∙ written) ∙ ap (λ (i : ℕ). set (put r (3 + 10 * i) (v ∷ 0 ∷ w)) 2 (i + 1)) e

pub ruleset exposed = (rules, site_names, site-room, site_left)
