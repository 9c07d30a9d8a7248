-- What the code's answers say: a block's heading, what is read of a block that an image has whole, and a union of words. Assumes nothing.
use Rattle.std.specs.Prelude.{◌≡◌, ℕ, ◌+◌, ◌*◌, true, false, List, length}
use Rattle.std.proofs.Math.Option.{Option, none, some}
use Rattle.definitions.specs.Bounded.{◌and◌, ◌upto◌, any_below}
use Rattle.definitions.specs.Sets.{has}
use Rattle.definitions.specs.Words.{block_of, number_of, kind_of_block, box_of, count_of, spare_of}
use Rattle.blocks.specs.declared.inside.Heading.{Heading}
use Rattle.blocks.specs.declared.inside.BlockKind.{BlockKind}
use Rattle.blocks.specs.declared.inside.BlockKind.TheVariants.{Head, Sites, Lines, Rho, Eps, Kap}

-- a block's heading; its box is the struct's place
abbrev pub heading_of : List ℕ → Heading
heading_of block =
    record { number = number_of block; kind = kind_of_block block; place = box_of block; count = count_of block; spare = spare_of block }

-- the paper's number of a kind of blocks
abbrev pub kind_number : BlockKind → ℕ
kind_number Head = 1
kind_number Sites = 2
kind_number Lines = 3
kind_number Rho = 4
kind_number Eps = 5
kind_number Kap = 6

-- f of block k, where the image has it whole
unfoldable pub of_block {ℓ} : {A : Type ℓ} → List ℕ → ℕ → (List ℕ → A) → Option A
of_block image k f = elim (512 * (k + 1) upto length image) [ true ↦ some (f (block_of image k)) | false ↦ none ]

-- w is the union of the sets f i for i from one number up to another
pub record UnionOver (f : ℕ → ℕ) (from to w : ℕ) : Type 0 where
  pub members : (m : ℕ) → has w m ≡ any_below to (λ i. from upto i and has (f i) m)
