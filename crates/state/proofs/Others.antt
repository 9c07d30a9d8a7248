-- Numbers that are no move's kind. Assumes nothing.
use mathlib.Core.Path.{◌≡◌, refl}
use mathlib.Core.Logic.{◌≢◌}
use Prim.Native.Nat.{ℕ, zero, suc}
use Rattle.definitions.specs.Moves.{kind_of_move, unknown}

pub kind_of_other : (n : ℕ) → n ≢ 1 → n ≢ 2 → n ≢ 3 → n ≢ 4 → n ≢ 5 → n ≢ 6 → n ≢ 7 → n ≢ 8 → n ≢ 9 → kind_of_move n ≡ unknown
unfolding kind_of_move
kind_of_other zero a b c d e f g h i = refl
kind_of_other (suc zero) a b c d e f g h i = absurd (a refl)
kind_of_other (suc (suc zero)) a b c d e f g h i = absurd (b refl)
kind_of_other (suc (suc (suc zero))) a b c d e f g h i = absurd (c refl)
kind_of_other (suc (suc (suc (suc zero)))) a b c d e f g h i = absurd (d refl)
kind_of_other (suc (suc (suc (suc (suc zero))))) a b c d e f g h i = absurd (e refl)
kind_of_other (suc (suc (suc (suc (suc (suc zero)))))) a b c d e f g h i = absurd (f refl)
kind_of_other (suc (suc (suc (suc (suc (suc (suc zero))))))) a b c d e f g h i = absurd (g refl)
kind_of_other (suc (suc (suc (suc (suc (suc (suc (suc zero)))))))) a b c d e f g h i = absurd (h refl)
kind_of_other (suc (suc (suc (suc (suc (suc (suc (suc (suc zero))))))))) a b c d e f g h i = absurd (i refl)
kind_of_other (suc (suc (suc (suc (suc (suc (suc (suc (suc (suc n)))))))))) a b c d e f g h i = refl
