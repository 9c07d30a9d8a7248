-- Laws of the tables, each by computation over the sixteen operations. Assumes nothing.
use mathlib.Core.Path.{◌≡◌, refl}
use mathlib.Core.Bool.{Bool}
use mathlib.Core.Logic.{◌≢◌}
use Prim.Native.Nat.{ℕ, zero, suc, ◌+◌, ◌*◌, ◌≤◌, ◌<◌}
use native.Mathlib.Omega.{arith}
use lib.Dec.{T}
use lib.ListN.{get_or}
use Rattle.definitions.specs.Bounded.{◌and◌, ◌isnt◌, ◌implies◌, all_below}
use Rattle.definitions.specs.Sets.{has}
use Rattle.line_table.specs.Table.{op_table}

-- what is shown of each of sixteen operations
pub below16 : (P : ℕ → Type 0) → P 0 → P 1 → P 2 → P 3 → P 4 → P 5 → P 6 → P 7 → P 8 → P 9 → P 10 → P 11 → P 12 → P 13 → P 14 → P 15 → (o : ℕ) → o < 16 → P o
below16 P p0 p1 p2 p3 p4 p5 p6 p7 p8 p9 p10 p11 p12 p13 p14 p15 zero l = p0
below16 P p0 p1 p2 p3 p4 p5 p6 p7 p8 p9 p10 p11 p12 p13 p14 p15 (suc zero) l = p1
below16 P p0 p1 p2 p3 p4 p5 p6 p7 p8 p9 p10 p11 p12 p13 p14 p15 (suc (suc zero)) l = p2
below16 P p0 p1 p2 p3 p4 p5 p6 p7 p8 p9 p10 p11 p12 p13 p14 p15 (suc (suc (suc zero))) l = p3
below16 P p0 p1 p2 p3 p4 p5 p6 p7 p8 p9 p10 p11 p12 p13 p14 p15 (suc (suc (suc (suc zero)))) l = p4
below16 P p0 p1 p2 p3 p4 p5 p6 p7 p8 p9 p10 p11 p12 p13 p14 p15 (suc (suc (suc (suc (suc zero))))) l = p5
below16 P p0 p1 p2 p3 p4 p5 p6 p7 p8 p9 p10 p11 p12 p13 p14 p15 (suc (suc (suc (suc (suc (suc zero)))))) l = p6
below16 P p0 p1 p2 p3 p4 p5 p6 p7 p8 p9 p10 p11 p12 p13 p14 p15 (suc (suc (suc (suc (suc (suc (suc zero))))))) l = p7
below16 P p0 p1 p2 p3 p4 p5 p6 p7 p8 p9 p10 p11 p12 p13 p14 p15 (suc (suc (suc (suc (suc (suc (suc (suc zero)))))))) l = p8
below16 P p0 p1 p2 p3 p4 p5 p6 p7 p8 p9 p10 p11 p12 p13 p14 p15 (suc (suc (suc (suc (suc (suc (suc (suc (suc zero))))))))) l = p9
below16 P p0 p1 p2 p3 p4 p5 p6 p7 p8 p9 p10 p11 p12 p13 p14 p15 (suc (suc (suc (suc (suc (suc (suc (suc (suc (suc zero)))))))))) l = p10
below16 P p0 p1 p2 p3 p4 p5 p6 p7 p8 p9 p10 p11 p12 p13 p14 p15 (suc (suc (suc (suc (suc (suc (suc (suc (suc (suc (suc zero))))))))))) l = p11
below16 P p0 p1 p2 p3 p4 p5 p6 p7 p8 p9 p10 p11 p12 p13 p14 p15 (suc (suc (suc (suc (suc (suc (suc (suc (suc (suc (suc (suc zero)))))))))))) l = p12
below16 P p0 p1 p2 p3 p4 p5 p6 p7 p8 p9 p10 p11 p12 p13 p14 p15 (suc (suc (suc (suc (suc (suc (suc (suc (suc (suc (suc (suc (suc zero))))))))))))) l = p13
below16 P p0 p1 p2 p3 p4 p5 p6 p7 p8 p9 p10 p11 p12 p13 p14 p15 (suc (suc (suc (suc (suc (suc (suc (suc (suc (suc (suc (suc (suc (suc zero)))))))))))))) l = p14
below16 P p0 p1 p2 p3 p4 p5 p6 p7 p8 p9 p10 p11 p12 p13 p14 p15 (suc (suc (suc (suc (suc (suc (suc (suc (suc (suc (suc (suc (suc (suc (suc zero))))))))))))))) l = p15
below16 P p0 p1 p2 p3 p4 p5 p6 p7 p8 p9 p10 p11 p12 p13 p14 p15 (suc (suc (suc (suc (suc (suc (suc (suc (suc (suc (suc (suc (suc (suc (suc (suc o)))))))))))))))) l = absurd (omega arith)

-- digits that are zero in every line: the operation is below 16, names below 64, the spare byte zero, children below 128
unfoldable pub base : ℕ → Bool
base z =
    all_below 4 (λ j. has z (4 + j)) and all_below 2 (λ j. has z (14 + j)) and all_below 2 (λ j. has z (22 + j)) and all_below 8 (λ j. has z (24 + j))
    and all_below 9 (λ j. has z (39 + j)) and all_below 9 (λ j. has z (55 + j))

module _ (a r c e f : ℕ) where
  abbrev at : ℕ → ℕ → ℕ
  at k o = get_or (op_table a r c e f) (16 * k + o) 0

  -- the digits that are zero: of a known operation; of an unknown one, all; the first child of nil; the second child of all but parallel
  pub z_known : (o : ℕ) → o < 16 → o ≤ 8 → T (base (at 0 o))
  unfolding base all_below has ◌and◌
  z_known = below16 (λ o. o ≤ 8 → T (base (at 0 o))) (λ _. tt) (λ _. tt) (λ _. tt) (λ _. tt) (λ _. tt) (λ _. tt) (λ _. tt) (λ _. tt) (λ _. tt) (λ h. absurd (omega arith)) (λ h. absurd (omega arith)) (λ h. absurd (omega arith)) (λ h. absurd (omega arith)) (λ h. absurd (omega arith)) (λ h. absurd (omega arith)) (λ h. absurd (omega arith))

  pub z_none : (o : ℕ) → o < 16 → 8 < o → T (all_below 64 (λ j. has (at 0 o) (0 + j)))
  unfolding all_below has ◌and◌
  z_none = below16 (λ o. 8 < o → T (all_below 64 (λ j. has (at 0 o) (0 + j)))) (λ h. absurd (omega arith)) (λ h. absurd (omega arith)) (λ h. absurd (omega arith)) (λ h. absurd (omega arith)) (λ h. absurd (omega arith)) (λ h. absurd (omega arith)) (λ h. absurd (omega arith)) (λ h. absurd (omega arith)) (λ h. absurd (omega arith)) (λ _. tt) (λ _. tt) (λ _. tt) (λ _. tt) (λ _. tt) (λ _. tt) (λ _. tt)

  pub z_nil : (o : ℕ) → o < 16 → o ≡ 0 → T (all_below 16 (λ j. has (at 0 o) (32 + j)))
  unfolding all_below has ◌and◌
  z_nil = below16 (λ o. o ≡ 0 → T (all_below 16 (λ j. has (at 0 o) (32 + j)))) (λ _. tt) (λ h. absurd (omega arith)) (λ h. absurd (omega arith)) (λ h. absurd (omega arith)) (λ h. absurd (omega arith)) (λ h. absurd (omega arith)) (λ h. absurd (omega arith)) (λ h. absurd (omega arith)) (λ h. absurd (omega arith)) (λ h. absurd (omega arith)) (λ h. absurd (omega arith)) (λ h. absurd (omega arith)) (λ h. absurd (omega arith)) (λ h. absurd (omega arith)) (λ h. absurd (omega arith)) (λ h. absurd (omega arith))

  pub z_second : (o : ℕ) → o < 16 → o ≢ 1 → T (all_below 16 (λ j. has (at 0 o) (48 + j)))
  unfolding all_below has ◌and◌
  z_second = below16 (λ o. o ≢ 1 → T (all_below 16 (λ j. has (at 0 o) (48 + j)))) (λ _. tt) (λ h. absurd (h refl)) (λ _. tt) (λ _. tt) (λ _. tt) (λ _. tt) (λ _. tt) (λ _. tt) (λ _. tt) (λ _. tt) (λ _. tt) (λ _. tt) (λ _. tt) (λ _. tt) (λ _. tt) (λ _. tt)

  -- names: a first name that is not used is 0, and so a second one
  pub first-none : (o : ℕ) → o < 16 → o < 3 → T (all_below 64 (λ j. j isnt 0 implies has (at 1 o) j))
  unfolding all_below has ◌and◌ ◌implies◌ ◌isnt◌
  first-none = below16 (λ o. o < 3 → T (all_below 64 (λ j. j isnt 0 implies has (at 1 o) j))) (λ _. tt) (λ _. tt) (λ _. tt) (λ h. absurd (omega arith)) (λ h. absurd (omega arith)) (λ h. absurd (omega arith)) (λ h. absurd (omega arith)) (λ h. absurd (omega arith)) (λ h. absurd (omega arith)) (λ h. absurd (omega arith)) (λ h. absurd (omega arith)) (λ h. absurd (omega arith)) (λ h. absurd (omega arith)) (λ h. absurd (omega arith)) (λ h. absurd (omega arith)) (λ h. absurd (omega arith))

  pub second_none : (o : ℕ) → o < 16 → o ≢ 4 → o ≢ 5 → T (all_below 64 (λ j. j isnt 0 implies has (at 2 o) j))
  unfolding all_below has ◌and◌ ◌implies◌ ◌isnt◌
  second_none = below16 (λ o. o ≢ 4 → o ≢ 5 → T (all_below 64 (λ j. j isnt 0 implies has (at 2 o) j))) (λ h k. tt) (λ h k. tt) (λ h k. tt) (λ h k. tt) (λ h k. absurd (h refl)) (λ h k. absurd (k refl)) (λ h k. tt) (λ h k. tt) (λ h k. tt) (λ h k. tt) (λ h k. tt) (λ h k. tt) (λ h k. tt) (λ h k. tt) (λ h k. tt) (λ h k. tt)
