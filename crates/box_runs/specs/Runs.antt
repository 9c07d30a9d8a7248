-- What a run over the records of a box gathers and shows. Assumes nothing.
use Rattle.std.specs.Prelude.{Bool, not, List, ℕ, ◌<◌, T}
use Rattle.std.proofs.Math.Option.{Option}
use Rattle.definitions.specs.Bounded.{◌is◌, any_below, some_if, first_below}
use Rattle.definitions.specs.Answer.{Refusal, refusal}
use Rattle.definitions.specs.Model.{Model, line_at, box_at, has_child, binds}
use Rattle.definitions.specs.Image.{site_record, model_of}
use Rattle.definitions.specs.ReadModel.{line_fits, tree_fits}
use Rattle.records.specs.Places.{line_record_at}

-- the first of n records of box b at which a test fails
unfoldable pub box_misfit : ℕ → ℕ → (ℕ → ℕ → Bool) → ℕ → Option Refusal
box_misfit number n fits b = first_below n (λ i. some_if (not (fits b i)) (refusal number b i))

-- the tests of 7 and 8 by box and line
abbrev pub line_fit : Model → ℕ → ℕ → Bool
line_fit m b i = line_fits m.kinds (line_at (box_at m b) i)

abbrev pub tree_fit : Model → ℕ → ℕ → Bool
tree_fit m b i = tree_fits (box_at m b) i

-- each line of box b fits its tree
pub record TreesFit (image : List ℕ) (b n : ℕ) : Type 0 where
  pub fits : (i : ℕ) → i < n → T (tree_fits (box_at (model_of image) b) i)

-- some site has subject s; some line binds m; some line has line c as a child
unfoldable pub subject_in : List ℕ → ℕ → ℕ → Bool
subject_in block n s = any_below n (λ j. (site_record block j).subject is s)

unfoldable pub bound_in : List ℕ → ℕ → ℕ → ℕ → Bool
bound_in image k n m = any_below n (λ i. binds (line_record_at image k i) m)

unfoldable pub child_in : List ℕ → ℕ → ℕ → ℕ → Bool
child_in image k n c = any_below n (λ i. has_child (line_record_at image k i) c)
