-- Words of a record by their places: a word of a site or of a thread is a word of the record. Assumes nothing.
use mathlib.Core.Path.{◌≡◌, refl, ap, sym, ◌∙◌}
use mathlib.Core.List.{List}
use Prim.Native.Nat.{ℕ, ◌+◌, ◌-◌, ◌*◌, ◌%◌, ◌<◌}
use native.Mathlib.Omega.{arith}
use borrow.Author.Rules.{rules}
use lib.Dec.{leb, ltb}
use lib.ListN.{length, take, drop, length-drop}
use Rattle.std.specs.Array.{IsFirstChunk}
use Rattle.std.proofs.lemmas.List.{take_all}
use Rattle.definitions.specs.Bounded.{◌below◌, ◌upto◌}
use Rattle.definitions.specs.Slots.{word, slot}
use Rattle.definitions.specs.Record.{held, held_number, stamp_limit, thread, site, line, binding, subject, flag, type_word, record_of}
use Rattle.definitions.proofs.Slots.{word_slot}
use Rattle.state.proofs.Parts.{lent_slot, first_words}

-- word j of slot i, by the place as the code has it: with j = 0 left out, or not
module _ (base w : ℕ) where
  pub word_at : (r : List ℕ) (i j k : ℕ) → k ≡ base + w * i + j → j < w → word r k ≡ word (slot base w r i) j
  word_at r i j k e h = ap (word r) e ∙ sym (word_slot base w r i j h)

-- the line of thread t, and what name n is bound to in it
pub thread-line : (r : List ℕ) (t v : ℕ) → v ≡ word r (163 + 61 * t) → v ≡ line (thread r t)
thread-line r t v e = e ∙ word_at 163 61 r t 0 (163 + 61 * t) (omega arith) (omega arith)

pub thread-binding : (r : List ℕ) (t n : ℕ) → n < 60 → word r (163 + 61 * t + (1 + n)) ≡ binding (thread r t) n
thread-binding r t n h = word_at 163 61 r t (1 + n) (163 + 61 * t + (1 + n)) (omega arith) (omega arith)

-- the subject of site i, its flag, and word j of its type
pub site-subject : (r : List ℕ) (i : ℕ) → word r (3 + 10 * i) ≡ subject (site r i)
site-subject r i = word_at 3 10 r i 0 (3 + 10 * i) (omega arith) (omega arith)

pub site-flag : (r : List ℕ) (i : ℕ) → word r (3 + 10 * i + 1) ≡ flag (site r i)
site-flag r i = word_at 3 10 r i 1 (3 + 10 * i + 1) (omega arith) (omega arith)

pub site_type : (r : List ℕ) (i j : ℕ) → j < 8 → word r (3 + 10 * i + (2 + j)) ≡ type_word (site r i) j
site_type r i j h = word_at 3 10 r i (2 + j) (3 + 10 * i + (2 + j)) (omega arith) (omega arith)

-- the record of box b: a part that is lent; the first words of what follows its place
pub record_part : (st : List ℕ) (b : ℕ) → take (1139 * b + 1139 - 1139 * b) (drop (1139 * b) st) ≡ record_of st b
record_part st b = lent_slot 0 1139 st b (1139 * b) (omega arith)

pub record_chunk : (st r : List ℕ) (b : ℕ) → IsFirstChunk (take (length st - 1139 * b) (drop (1139 * b) st)) r 1139 → r ≡ record_of st b
record_chunk st r b k =
    k.same ∙ ap (take 1139) (take_all (length st - 1139 * b) (drop (1139 * b) st) (simp length-drop (omega arith))) ∙ first_words st b

-- held names
pub held-is : (n s : ℕ) → 1 + n + 64 * s ≡ held n s
unfolding held
held-is n s = refl

pub number_of_none : (v : ℕ) → v ≡ 0 → 0 ≡ held_number v
unfolding held_number
number_of_none v e = rw e

pub number_of : (v : ℕ) → (v - 1) % 64 ≡ held_number v
unfolding held_number
number_of v = refl

-- the largest stamp
pub stamp-upto : (s : ℕ) → leb s stamp_limit ≡ (s upto stamp_limit)
unfolding ◌upto◌
stamp-upto s = refl

pub stamp-below : (s : ℕ) → ltb s stamp_limit ≡ (s below stamp_limit)
unfolding ◌below◌
stamp-below s = refl

pub ruleset words = (rules, stamp-upto, stamp-below, thread-line, thread-binding, site-subject, site-flag, site_type, record_part, held-is, number_of_none, number_of)
