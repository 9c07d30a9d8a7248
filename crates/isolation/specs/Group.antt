-- A group of boxes set apart: the moves that name none of it, the answers to those, and models that differ in it alone. Assumes nothing.
use Rattle.std.specs.Prelude.{◌≡◌, Bool, true, false, List, [], ◌∷◌, ℕ, ◌<◌}
use Rattle.definitions.specs.Bounded.{◌or◌, ◌is◌}
use Rattle.definitions.specs.Model.{Model, box_at, box_count}
use Rattle.definitions.specs.Moves.{Kind, inside, inter, unknown, kind_of_move, Move}

-- the group of box h alone
unfoldable pub only : ℕ → ℕ → Bool
only h b = b is h

module _ (group : ℕ → Bool) where
  -- a move names the boxes that its kind uses: kinds 1 to 8 one, 9 two, unknown ones none. It names a box of the group
  unfoldable pub names_as : Kind → Move → Bool
  names_as (inside k) v = group v.box
  names_as inter v = group v.box or group v.box2
  names_as unknown v = false

  unfoldable pub names : Move → Bool
  names v = names_as (kind_of_move v.kind) v

  -- the moves left once those that name a box of the group are struck out
  unfoldable pub struck : List Move → List Move
  struck [] = []
  struck (v ∷ vs) = elim (names v) [ true ↦ struck vs | false ↦ v ∷ struck vs ]

  -- the answers to the moves left, in order
  unfoldable pub answers_left : List Move → List ℕ → List ℕ
  answers_left [] answers = []
  answers_left (v ∷ vs) [] = []
  answers_left (v ∷ vs) (a ∷ answers) = elim (names v) [ true ↦ answers_left vs answers | false ↦ a ∷ answers_left vs answers ]

  -- two models with the same name list (count and kinds), the same number of boxes, and the same contents in every box outside
  pub record EqualOutside (m₁ m₂ : Model) : Type 0 where
    pub kinds : m₁.kinds ≡ m₂.kinds
    pub count : box_count m₁ ≡ box_count m₂
    pub others : (b : ℕ) → b < box_count m₁ → group b ≡ false → box_at m₁ b ≡ box_at m₂ b
