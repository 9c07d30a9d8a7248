-- A move inside a box by the number of its kind. Assumes nothing.
use mathlib.Core.Path.{◌≡◌, ap}
use mathlib.Core.List.{List}
use Prim.Native.Nat.{ℕ}
use Rattle.definitions.specs.Model.{Box, hide, unhide}
use Rattle.definitions.specs.Moves.{Kind, unknown, kind_of_move, refused, drop_move, spread_move, new_move, copy_move, expose_move, turn_move, intra_move, inside_move}
use Rattle.lookups.specs.Inside.{inside_as, inside_outcome}

module _ (kinds : List ℕ) (x : Box) (r : List ℕ) (kind t u : ℕ) where
  like : (k : ℕ) → kind ≡ k → inside_outcome kinds x r kind t u ≡ inside_outcome kinds x r k t u
  like k e = ap (λ (n : ℕ). inside_outcome kinds x r n t u) e

  pub is-drop : kind ≡ 1 → inside_outcome kinds x r kind t u ≡ drop_move kinds x r t
  unfolding inside_outcome kind_of_move inside_move
  is-drop e = like 1 e

  pub is-spread : kind ≡ 2 → inside_outcome kinds x r kind t u ≡ spread_move kinds x r t
  unfolding inside_outcome kind_of_move inside_move
  is-spread e = like 2 e

  pub is_new : kind ≡ 3 → inside_outcome kinds x r kind t u ≡ new_move kinds x r t
  unfolding inside_outcome kind_of_move inside_move
  is_new e = like 3 e

  pub is_copy : kind ≡ 4 → inside_outcome kinds x r kind t u ≡ copy_move kinds x r t
  unfolding inside_outcome kind_of_move inside_move
  is_copy e = like 4 e

  pub is-expose : kind ≡ 5 → inside_outcome kinds x r kind t u ≡ expose_move kinds x r t
  unfolding inside_outcome kind_of_move inside_move
  is-expose e = like 5 e

  pub is-hide : kind ≡ 6 → inside_outcome kinds x r kind t u ≡ turn_move kinds x r hide 0 1 t
  unfolding inside_outcome kind_of_move inside_move
  is-hide e = like 6 e

  pub is-unhide : kind ≡ 7 → inside_outcome kinds x r kind t u ≡ turn_move kinds x r unhide 1 0 t
  unfolding inside_outcome kind_of_move inside_move
  is-unhide e = like 7 e

  pub is_intra : kind ≡ 8 → inside_outcome kinds x r kind t u ≡ intra_move kinds x r t u
  unfolding inside_outcome kind_of_move inside_move
  is_intra e = like 8 e

  -- inter, and a number that is no kind
  pub is_inter : kind ≡ 9 → inside_outcome kinds x r kind t u ≡ refused 12
  unfolding inside_outcome kind_of_move
  is_inter e = like 9 e

  pub is-unknown : kind_of_move kind ≡ unknown → inside_outcome kinds x r kind t u ≡ refused 12
  unfolding inside_outcome
  is-unknown e = ap (λ (k : Kind). inside_as kinds x r k t u) e
