-- The tests of a run, and the moves that numbers are. Assumes nothing.
use mathlib.Core.Path.{◌≡◌, refl, sym, ap, ◌∙◌}
use mathlib.Core.Bool.{not, ◌||◌}
use mathlib.Core.List.{List, []}
use mathlib.Core.Option.{Option}
use Prim.Native.Nat.{ℕ, zero, suc, ◌+◌, ◌*◌, ◌/◌, ◌<◌}
use native.Mathlib.Omega.{arith}
use borrow.Author.Rules.{rules}
use lib.Dec.{eqb}
use lib.ListN.{length, get_or, drop, length-map}
use Rattle.std.specs.Prelude.{map}
use Rattle.std.specs.Simd.{first_chunks}
use Rattle.std.proofs.lemmas.List.{get_or-take, get_or-drop, get_or-map, ext_get_or}
use Rattle.definitions.specs.Slots.{word}
use Rattle.state.specs.declared.moves.Move as code
use Rattle.state.specs.Moves.{five_in, move_of, move_in}
use Rattle.definitions.specs.Bounded.{◌or◌, ◌isnt◌}
use Rattle.definitions.specs.Answer.{Refusal}
use Rattle.definitions.specs.Calls.{moves_refusal}
use Rattle.definitions.proofs.Bounded.{or_is, length-tabulate, get_d_tabulate}
use Rattle.runs.specs.Moves.{move_at, moves_of, moves_in}
use Rattle.runs.proofs.Fold.{no_move}

-- the tests before a first move, as the code writes them
pub tests : (image words : List ℕ) (moves answers : ℕ) (o : Option Refusal)
    → o ≡ moves_refusal image words (not (eqb (length words) 9112) || not (eqb answers moves))
    → o ≡ moves_refusal image words (length words isnt 9112 or answers isnt moves)
unfolding ◌isnt◌
tests image words moves answers o e = e ∙ ap (moves_refusal image words) (or_is (not (eqb (length words) 9112)) (not (eqb answers moves)))

-- ---- the moves that numbers are

length-chunks : (k : ℕ) (xs : List ℕ) → length (first_chunks 5 k xs) ≡ k
length-chunks zero xs = refl
length-chunks (suc k) xs = ap (λ (n : ℕ). suc n) (length-chunks k (drop 5 xs))

-- number j of the i-th five
chunk-word : (k : ℕ) (xs : List ℕ) (i j : ℕ) → i < k → j < 5 → get_or (get_or (first_chunks 5 k xs) i []) j 0 ≡ word xs (5 * i + j)
chunk-word zero xs i j h l = absurd (omega arith)
chunk-word (suc k) xs zero j h l = get_or-take 5 xs j 0 l ∙ ap (word xs) (let z : j ≡ 5 * 0 + j = omega arith in z)
chunk-word (suc k) xs (suc i) j h l =
    chunk-word k (drop 5 xs) i j (omega arith) l ∙ get_or-drop 5 xs (5 * i + j) 0
    ∙ ap (word xs) (let z : 5 + (5 * i + j) ≡ 5 * suc i + j = omega arith in z)

-- a move that is in no list
none-listed : code.Move
none-listed = record { kind = 0; boxno = 0; thread = 0; boxno2 = 0; thread2 = 0 }

module _ (numbers : List ℕ) where
  abbrev pub fives : List (List ℕ)
  fives = first_chunks 5 (length numbers / 5) numbers

  listed-count : length (moves_in (moves_of numbers)) ≡ length numbers / 5
  unfolding moves_of
  listed-count = length-map (moves_of numbers) move_in ∙ length-tabulate (length numbers / 5) (move_at numbers)

  fives-count : length (map five_in fives) ≡ length numbers / 5
  fives-count = length-map fives five_in ∙ length-chunks (length numbers / 5) numbers

  each-five : (i : ℕ) → i < length numbers / 5 → five_in (get_or fives i []) ≡ move_in (move_at numbers i)
  unfolding move_at
  each-five i h =
      let w = chunk-word (length numbers / 5) numbers i in
      let first : 5 * i + 0 ≡ 5 * i = omega arith in
      let a = w 0 h (omega arith) ∙ ap (word numbers) first in
      let b = w 1 h (omega arith) in
      let c = w 2 h (omega arith) in
      let d = w 3 h (omega arith) in
      let e = w 4 h (omega arith) in
      λ j. move_of (a j) (b j) (c j) (d j) (e j)

  pub numbers_moves : map five_in fives ≡ moves_in (moves_of numbers)
  unfolding moves_of
  numbers_moves =
      ext_get_or no_move (map five_in fives) (moves_in (moves_of numbers)) (fives-count ∙ sym listed-count)
      (λ i h.
      let l : i < length numbers / 5 = rw fives-count at h in
      get_or-map five_in fives i [] no_move (omega (arith, l, length-chunks (length numbers / 5) numbers))
      ∙ each-five i l
      ∙ sym (get_or-map move_in (moves_of numbers) i none-listed no_move (omega (arith, l, length-tabulate (length numbers / 5) (move_at numbers)))
      ∙ ap move_in (get_d_tabulate (length numbers / 5) (move_at numbers) none-listed i l)))

pub ruleset numbers = (rules, numbers_moves)
