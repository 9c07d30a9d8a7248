-- The first fault of a block that the image has whole, test by test. Assumes nothing.
use mathlib.Core.Path.{◌≡◌}
use mathlib.Core.Bool.{Bool, false, not}
use mathlib.Core.List.{List}
use mathlib.Core.Option.{Option}
use Prim.Native.Nat.{ℕ, ◌+◌, ◌*◌, ◌≤◌}
use native.Mathlib.Omega.{arith}
use lib.ListN.{length}
use Rattle.definitions.specs.Bounded.{◌is◌, ◌isnt◌, ◌below◌, some_if, or_else}
use Rattle.definitions.specs.Words.{block_of}
use Rattle.definitions.specs.Check.{check_of, stored_check}
use Rattle.definitions.specs.Answer.{Refusal, refusal}
use Rattle.definitions.specs.ReadModel.{heading_fits, block_fault}
use Rattle.definitions.proofs.Bounded.{below_iff, false_of}

-- the five tests of block k in their order: missing, check, heading, count, stray
unfoldable pub in_order : ℕ → Bool → Bool → Bool → Bool → Bool → Option Refusal
in_order k missing check heading count clear =
    or_else (some_if missing (refusal 1 k 0)) (or_else (some_if (not check) (refusal 2 k 0)) (or_else (some_if (not heading) (refusal 3 k 0))
    (or_else (some_if (not count) (refusal 4 k 0)) (some_if (not clear) (refusal 5 k 0)))))

-- the tests of a block's check and of its heading
abbrev pub check_fits : List ℕ → Bool
check_fits block = check_of block is stored_check block

pub block_is : (image : List ℕ) (k asked box : ℕ) (counts clear : List ℕ → Bool) (c h n z : Bool) → 512 * (k + 1) ≤ length image
    → check_fits (block_of image k) ≡ c → heading_fits k asked box (block_of image k) ≡ h → counts (block_of image k) ≡ n
    → clear (block_of image k) ≡ z → block_fault image k asked box counts clear ≡ in_order k false c h n z
unfolding block_fault in_order ◌is◌ ◌isnt◌
block_is image k asked box counts clear c h n z there ec eh en ez =
    let e : length image below 512 * (k + 1) ≡ false =
    false_of (length image below 512 * (k + 1)) (λ t. let l = (below_iff (length image) (512 * (k + 1))).0 t in omega arith) in
    λ i. in_order k (e i) (ec i) (eh i) (en i) (ez i)
