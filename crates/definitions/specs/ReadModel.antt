-- The first refusal of a model image: 1 for the whole length; then block by block 1 (missing), 2, 3, 4, 5; then over the whole
-- model 6, 7, 8, 9, boxes and records ascending. Assumes nothing.
use Rattle.std.specs.Prelude.{Bool, true, false, not, List, ℕ, ◌+◌, ◌*◌, ◌%◌, length}
use Rattle.std.proofs.Math.Option.{Option, none, some}
use Rattle.definitions.specs.Bounded.{◌and◌, ◌or◌, ◌implies◌, ◌is◌, ◌isnt◌, ◌below◌, ◌upto◌, all_below, any_below, some_if, or_else, first_below}
use Rattle.definitions.specs.Limits.{name_limit, box_limit, slot_limit, type_limit, block_words, block_lines, line_block_limit}
use Rattle.definitions.specs.Sets.{has, for_each, size}
use Rattle.definitions.specs.Words.{block_of, number_of, kind_of_block, box_of, count_of, spare_of, data_word}
use Rattle.definitions.specs.Check.{check_of, stored_check}
use Rattle.definitions.specs.Answer.{Refusal, refusal}
use Rattle.definitions.specs.Model.{Line, Box, Model, site_at, line_at, box_at, site_count, line_count, box_count, listed, kind_of_name, is_free, nil, parallel, restriction, output, input, expose, hide, unhide, has_child, binds, binds_in, bound_above}
use Rattle.definitions.specs.Image.{boxes_of, line_blocks, sites_block, model_of}

-- ---- 1 to 5: the blocks

-- the heading is that of block k, of a kind and a box, and bytes 6 and 7 are zero
abbrev pub heading_fits : ℕ → ℕ → ℕ → List ℕ → Bool
heading_fits k asked box block = number_of block is k and kind_of_block block is asked and box_of block is box and spare_of block is 0

-- block k, where the order asks for a kind and a box, and its counts and its words past them are tested: 1 missing, 2 check,
-- 3 heading, 4 count, 5 stray
unfoldable pub block_fault : List ℕ → ℕ → ℕ → ℕ → (List ℕ → Bool) → (List ℕ → Bool) → Option Refusal
block_fault image k asked box counts clear =
    let block = block_of image k in
    or_else (some_if (length image below 512 * (k + 1)) (refusal 1 k 0))
    (or_else (some_if (check_of block isnt stored_check block) (refusal 2 k 0))
    (or_else (some_if (not (heading_fits k asked box block)) (refusal 3 k 0))
    (or_else (some_if (not (counts block)) (refusal 4 k 0))
    (some_if (not (clear block)) (refusal 5 k 0)))))

-- words n to 61 are zero
unfoldable pub clear_from : ℕ → List ℕ → Bool
clear_from n block = all_below block_words (λ i. n upto i implies data_word block i is 0)

-- the head: record count 0, at most 60 names and 8 boxes, kinds at most 3
unfoldable pub head_counts : List ℕ → Bool
head_counts block =
    count_of block is 0 and data_word block 0 upto name_limit and data_word block 1 upto box_limit
    and all_below name_limit (λ n. n below data_word block 0 implies data_word block (2 + n) upto 3)

unfoldable pub head_fault : List ℕ → Option Refusal
head_fault image = block_fault image 0 1 0 head_counts (λ block. clear_from (2 + data_word block 0) block)

-- a box's sites: 1 to 16 records of two words
unfoldable pub sites_fault : List ℕ → ℕ → ℕ → Option Refusal
sites_fault image k b =
    block_fault image k 2 b (λ block. 1 upto count_of block and count_of block upto slot_limit) (λ block. clear_from (2 * count_of block) block)

-- block j of a box's lines: 1 to 31 records, or none after the first block
unfoldable pub lines_fault : List ℕ → ℕ → ℕ → ℕ → Option Refusal
lines_fault image k b j =
    block_fault image k 3 b (λ block. (j is 0 implies 1 upto count_of block) and count_of block upto block_lines)
    (λ block. clear_from (2 * count_of block) block)

unfoldable pub box_fault : List ℕ → ℕ → Option Refusal
box_fault image b =
    let k = sites_block image b in
    or_else (sites_fault image k b) (first_below (line_blocks line_block_limit image (k + 1)) (λ j. lines_fault image (k + 1 + j) b j))

-- a block left over, after the last box: its check, and then its heading, which the order does not ask for
unfoldable pub left_over_fault : List ℕ → ℕ → Option Refusal
left_over_fault image k =
    let block = block_of image k in
    elim (512 * k below length image) [
      | true ↦ or_else (some_if (check_of block isnt stored_check block) (refusal 2 k 0)) (some (refusal 3 k 0))
      | false ↦ none
    ]

-- not a multiple of 512, below 512, above the largest model's 41 blocks
unfoldable pub length_fault : List ℕ → Option Refusal
length_fault image = some_if (length image % 512 isnt 0 or length image below 512 or 20992 below length image) (refusal 1 0 0)

unfoldable pub blocks_fault : List ℕ → Option Refusal
blocks_fault image =
    or_else (head_fault image) (or_else (first_below (boxes_of image) (box_fault image)) (left_over_fault image (sites_block image (boxes_of image))))

-- ---- 6 to 9: the model

-- a type has 1 to 8 names, each of which passes a test, and lacks the name that it is the type of
unfoldable pub type_fits : (ℕ → Bool) → ℕ → ℕ → Bool
type_fits ok subject type = 1 upto size type and size type upto type_limit and for_each type ok and not (has type subject)

-- an earlier site of any box has the subject s
unfoldable pub used_before : Model → ℕ → ℕ → ℕ → Bool
used_before m b i s =
    any_below b (λ c. let x = box_at m c in any_below (site_count x) (λ j. (site_at x j).subject is s))
    or any_below i (λ j. (site_at (box_at m b) j).subject is s)

-- 6 site
unfoldable pub site_fits : Model → ℕ → ℕ → Bool
site_fits m b i =
    let s = site_at (box_at m b) i in
    is_free m.kinds s.subject and not (used_before m b i s.subject) and s.flag upto 1 and s.spare is 0
    and type_fits (is_free m.kinds) s.subject s.type

-- the operations that use a first name, a second name, a first child; parallel alone uses a second child, and expose alone a type
unfoldable pub uses_name1 : ℕ → Bool
uses_name1 op = restriction upto op

unfoldable pub uses_name2 : ℕ → Bool
uses_name2 op = op is output or op is input

unfoldable pub uses_child1 : ℕ → Bool
uses_child1 op = op isnt nil

-- 7 line: a known operation; each name in the list, and of the kind that is bound there; each field that is not used zero
unfoldable pub line_fits : List ℕ → Line → Bool
line_fits kinds l =
    l.op upto 8 and l.spare is 0
    and (uses_name1 l.op implies listed kinds l.name1) and (not (uses_name1 l.op) implies l.name1 is 0)
    and (uses_name2 l.op implies listed kinds l.name2) and (not (uses_name2 l.op) implies l.name2 is 0)
    and (not (uses_child1 l.op) implies l.child1 is 0) and (l.op isnt parallel implies l.child2 is 0)
    and (l.op is restriction implies kind_of_name kinds l.name1 is 1) and (l.op is input implies kind_of_name kinds l.name2 is 2)
    and (l.op is expose implies kind_of_name kinds l.name1 is 3 and type_fits (listed kinds) l.name1 l.type)
    and (l.op isnt expose implies l.type is 0)

-- 8 tree: each child comes after its line, is there, and is no child of a lower line nor named twice; each line but 0 is a child
unfoldable pub child_fits : Box → ℕ → ℕ → Bool
child_fits x i c = i below c and c below line_count x and not (any_below i (λ j. has_child (line_at x j) c))

unfoldable pub tree_fits : Box → ℕ → Bool
tree_fits x i =
    let l = line_at x i in
    (l.op isnt nil implies child_fits x i l.child1)
    and (l.op is parallel implies child_fits x i l.child2 and l.child1 isnt l.child2)
    and (i isnt 0 implies any_below (line_count x) (λ j. has_child (line_at x j) i))

-- line l uses name n: an output both names, an input, a hide and an unhide the first, an expose those of its type
unfoldable pub uses : Line → ℕ → Bool
uses l n =
    ((l.op is output or l.op is input or l.op is hide or l.op is unhide) and l.name1 is n)
    or (l.op is output and l.name2 is n) or (l.op is expose and has l.type n)

-- an earlier line of any box binds n
unfoldable pub bound_before : Model → ℕ → ℕ → ℕ → Bool
bound_before m b i n = any_below b (λ c. binds_in (box_at m c) n) or any_below i (λ j. binds (line_at (box_at m b) j) n)

-- 9 reach: each name that is used is free or bound strictly above; each name that is bound is bound for the first time
unfoldable pub reach_fits : Model → ℕ → ℕ → Bool
reach_fits m b i =
    let l = line_at (box_at m b) i in
    all_below 64 (λ n.
    (uses l n implies kind_of_name m.kinds n is 0 or bound_above (box_at m b) i n)
    and (binds l n implies not (bound_before m b i n)))

-- the first box and record at which a test fails
unfoldable pub first_misfit : ℕ → Model → (Box → ℕ) → (ℕ → ℕ → Bool) → Option Refusal
first_misfit number m count fits =
    first_below (box_count m) (λ b. first_below (count (box_at m b)) (λ i. some_if (not (fits b i)) (refusal number b i)))

unfoldable pub model_fault : Model → Option Refusal
model_fault m =
    or_else (first_misfit 6 m site_count (site_fits m))
    (or_else (first_misfit 7 m line_count (λ b i. line_fits m.kinds (line_at (box_at m b) i)))
    (or_else (first_misfit 8 m line_count (λ b i. tree_fits (box_at m b) i))
    (first_misfit 9 m line_count (reach_fits m))))

-- ---- the first refusal of a model image, or none

unfoldable pub read_model : List ℕ → Option Refusal
read_model image = or_else (length_fault image) (or_else (blocks_fault image) (model_fault (model_of image)))
