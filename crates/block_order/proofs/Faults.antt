-- Laws of refusals 1 to 5 in the order of the blocks: the length, a box, the boxes. Assumes nothing.
use mathlib.Core.Path.{◌≡◌, refl, sym, ap, ◌∙◌}
use mathlib.Core.Bool.{Bool, not, ◌||◌}
use mathlib.Core.List.{List}
use mathlib.Core.Option.{none, some}
use Prim.Native.Nat.{ℕ, ◌+◌, ◌*◌, ◌%◌, ◌≤◌, ◌<◌}
use native.Mathlib.Omega.{arith}
use lib.Dec.{eqb, ltb}
use lib.ListN.{length}
use Rattle.definitions.specs.Bounded.{◌or◌, ◌isnt◌, ◌below◌, some_if, or_else, first_below}
use Rattle.definitions.specs.Words.{block_of, count_of, data_word}
use Rattle.definitions.specs.Answer.{Refusal, refusal}
use Rattle.definitions.specs.Image.{boxes_of, line_blocks, sites_block}
use Rattle.definitions.specs.ReadModel.{head_fault, sites_fault, lines_fault, box_fault, left_over_fault, length_fault, blocks_fault}
use Rattle.definitions.proofs.Bounded.{or_is}
use Rattle.definitions.proofs.Loops.{Passed}
use Rattle.definitions.proofs.ReadModel.{head_iff, most_blocks, sites-next, sites-first, blocks_1, blocks_2, blocks_3, blocks_4, count-missing}
use Rattle.refusals.proofs.Answers.{answers, run_stop}
use Rattle.block_order.specs.BlockOrder.{lines_faults, boxes_fault}

-- ---- the length

pub length-order : (image : List ℕ) → length_fault image
    ≡ some_if (not (eqb (length image % 512) 0) || ltb (length image) 512 || ltb 20992 (length image)) (refusal 1 0 0)
unfolding length_fault ◌isnt◌ ◌below◌
length-order image =
    let n = length image in
    ap (λ (t : Bool). some_if t (refusal 1 0 0))
    (sym (or_is (not (eqb (n % 512) 0) || ltb n 512) (ltb 20992 n) ∙ ap (λ (t : Bool). t or ltb 20992 n) (or_is (not (eqb (n % 512) 0)) (ltb n 512))))

-- ---- the count of a block

pub count_none : (image : List ℕ) (k : ℕ) → length image % 512 ≡ 0 → length image < 512 * (k + 1) → 0 ≡ count_of (block_of image k)
count_none image k z h = count-missing image k z (λ l. absurd (omega arith))

-- ---- a box

pub few_blocks : (image : List ℕ) (k n : ℕ) → n ≡ line_blocks 4 image k → n ≤ 4
few_blocks image k n e = let h = most_blocks 4 image k in omega arith

pub lines_order : (image : List ℕ) (b k : ℕ) → lines_faults image b k ≡ first_below (line_blocks 4 image k) (λ j. lines_fault image (k + j) b j)
unfolding lines_faults
lines_order image b k = refl

pub lines_stop : (image : List ℕ) (b k n j : ℕ) (a : Refusal) → Passed n (λ j. lines_fault image (k + j) b j) j → j < n → n ≡ line_blocks 4 image k
    → lines_fault image (k + j) b j ≡ some a → lines_faults image b k ≡ some a
unfolding lines_faults
lines_stop image b k n j a p l e q =
    ap (λ (i : ℕ). first_below i (λ j. lines_fault image (k + j) b j)) (sym e) ∙ run_stop n (λ j. lines_fault image (k + j) b j) j p l a q

pub box_order : (image : List ℕ) (b : ℕ) → box_fault image b
    ≡ or_else (sites_fault image (sites_block image b) b) (lines_faults image b (sites_block image b + 1))
unfolding box_fault lines_faults
box_order image b = refl

-- ---- the boxes

pub next_sites : (image : List ℕ) (b k n : ℕ) → k ≡ sites_block image b → n ≡ line_blocks 4 image (k + 1) → k + (1 + n) ≡ sites_block image (b + 1)
next_sites image b k n e q = (let h : k + (1 + n) ≡ k + 1 + n = omega arith in h) ∙ sites-next image b k n e q

pub boxes_order : (image : List ℕ) (n : ℕ) → boxes_fault image n ≡ or_else (first_below n (box_fault image)) (left_over_fault image (sites_block image n))
unfolding boxes_fault
boxes_order image n = refl

-- ---- the image

module _ (image : List ℕ) where
  pub image_order : blocks_fault image ≡ or_else (head_fault image) (boxes_fault image (data_word (block_of image 0) 1))
  unfolding blocks_fault boxes_fault boxes_of
  image_order = refl

  pub head_there : none ≡ head_fault image → 512 ≤ length image
  head_there e = ((head_iff image).0 (sym e)).headed.there

  pub head_few_boxes : none ≡ head_fault image → data_word (block_of image 0) 1 ≤ 8
  unfolding boxes_of
  head_few_boxes e = ((head_iff image).0 (sym e)).boxes

pub ruleset order = (answers, blocks_1, blocks_2, blocks_3, blocks_4, length-order, count_none, few_blocks, lines_order, lines_stop, box_order, sites-first, next_sites, boxes_order, image_order, head_there, head_few_boxes)
