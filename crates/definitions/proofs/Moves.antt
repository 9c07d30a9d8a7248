-- What sharing a held name means, and whose counter a stamp is from. Assumes nothing.
use mathlib.Core.Path.{◌≡◌, ap, ◌∙◌}
use mathlib.Core.Logic.{◌↔◌, ◌≢◌}
use mathlib.Core.List.{List}
use Prim.Native.Nat.{ℕ, ◌+◌, ◌*◌, ◌<◌}
use native.Mathlib.Omega.{arith}
use lib.Dec.{T}
use Rattle.definitions.specs.Bounded.{◌and◌, ◌is◌, ◌isnt◌, any_below}
use Rattle.definitions.specs.Slots.{word}
use Rattle.definitions.specs.Record.{type_word, last_stamps}
use Rattle.definitions.specs.Moves.{types_share}
use Rattle.definitions.proofs.Bounded.{and_iff, is_iff, isnt_iff, any_iff}
use Rattle.definitions.proofs.Slots.{word_slot}

-- two types share a held name, number and stamp, and not only a name's number
pub share_iff : (x y : List ℕ) → T (types_share x y) ↔ ((i : ℕ) × (i < 8) × (type_word x i ≢ 0) × ((j : ℕ) × (j < 8) × (type_word x i ≡ type_word y j)))
unfolding types_share
share_iff x y = (
  λ t.
      let u = (any_iff 8 (λ i. type_word x i isnt 0 and any_below 8 (λ j. type_word x i is type_word y j))).0 t in
      let a = (and_iff (type_word x u.0 isnt 0) (any_below 8 (λ j. type_word x u.0 is type_word y j))).0 u.2 in
      let v = (any_iff 8 (λ j. type_word x u.0 is type_word y j)).0 a.1 in
      (u.0, u.1, (isnt_iff (type_word x u.0) 0).0 a.0, (v.0, v.1, (is_iff (type_word x u.0) (type_word y v.0)).0 v.2)),
  λ u.
      (any_iff 8 (λ i. type_word x i isnt 0 and any_below 8 (λ j. type_word x i is type_word y j))).1 (
        u.0,
        u.1,
        (and_iff (type_word x u.0 isnt 0) (any_below 8 (λ j. type_word x u.0 is type_word y j))).1 (
          (isnt_iff (type_word x u.0) 0).1 u.2,
          (any_iff 8 (λ j. type_word x u.0 is type_word y j)).1 (u.3.0, u.3.1, (is_iff (type_word x u.0) (type_word y u.3.0)).1 u.3.2),
        ),
      ),
)

-- each box has a counter of its own: word 0 of its own record
pub last_own : (st : List ℕ) (b : ℕ) → last_stamps st b ≡ word st (1139 * b)
unfolding last_stamps
last_own st b = word_slot 0 1139 st b 0 (omega arith) ∙ ap (word st) (let z : 0 + 1139 * b + 0 ≡ 1139 * b = omega arith in z)
