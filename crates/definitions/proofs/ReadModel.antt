-- When a model image is not refused: exactly when its length, each block in the order asked for, and each record of its model fit;
-- and then its model is valid. Assumes nothing.
use mathlib.Core.Path.{◌≡◌, refl, sym, ap, ◌∙◌}
use mathlib.Core.Bool.{Bool, true, false}
use mathlib.Core.List.{List}
use mathlib.Core.Logic.{◌↔◌}
use mathlib.Core.Option.{Option, none, some}
use Prim.Native.Nat.{ℕ, zero, suc, ◌+◌, ◌-◌, ◌*◌, ◌/◌, ◌%◌, ◌≤◌, ◌<◌}
use native.Mathlib.Nat.{le_refl, le_antisymm, not-suc-le-zero, add-zero}
use native.Mathlib.Numerals.{add-one}
use native.Mathlib.Omega.{arith}
use native.Mathlib.Decide.{dec_lt, ℕ_discrete}
use lib.Dec.{T, lit<, lit≤}
use lib.ListN.{length, get_or-eq_default}
use Rattle.definitions.specs.Bounded.{◌isnt◌, ◌below◌, some_if, or_else}
use Rattle.definitions.specs.Words.{byte_at, block_of, number_of, kind_of_block, box_of, count_of, spare_of, data_word}
use Rattle.definitions.specs.Check.{check_of, stored_check}
use Rattle.definitions.specs.Answer.{Refusal, refusal}
use Rattle.definitions.specs.Model.{kind_of_name}
use Rattle.definitions.specs.Image.{name_count, boxes_of, kinds_of, line_blocks, sites_block, lines_of, box_of_image, model_of}
use Rattle.definitions.specs.ReadModel.{block_fault, clear_from, head_counts, head_fault, sites_fault, lines_fault, box_fault, left_over_fault, length_fault, blocks_fault, read_model}
use Rattle.definitions.proofs.Bounded.{tests, below_iff, right_none, fault_none, not-false, true_of, false_of}
use Rattle.definitions.proofs.Faults.{faults}
use Rattle.definitions.proofs.Valid.{Counts, Fits, fits_iff, Valid, valid_of}
use Rattle.definitions.proofs.Words.{byte_at_block}
use Rattle.definitions.proofs.Image.{model_count, model_box, model_kinds, model_names, model_kind, kind_past, box_sites, box_lines}

-- ---- one block

-- block k is there, its check is right, and its heading is what the order asks for
pub record Headed (image : List ℕ) (k asked b : ℕ) : Type 0 where
  pub there : 512 * (k + 1) ≤ length image
  pub checked : check_of (block_of image k) ≡ stored_check (block_of image k)
  pub number : number_of (block_of image k) ≡ k
  pub kind : kind_of_block (block_of image k) ≡ asked
  pub box : box_of (block_of image k) ≡ b
  pub spare : spare_of (block_of image k) ≡ 0

-- words n to 61 are zero
abbrev pub Clear : ℕ → List ℕ → Type 0
Clear n block = (i : ℕ) → i < 62 → n ≤ i → data_word block i ≡ 0

pub clear_iff : (n : ℕ) (block : List ℕ) → T (clear_from n block) ↔ Clear n block
unfolding clear_from
clear_iff n block = (λ t. simp tests at t, λ f. simp tests f)

pub block_iff : (image : List ℕ) (k asked box : ℕ) (counts clear : List ℕ → Bool) → (block_fault image k asked box counts clear ≡ none)
    ↔ (Headed image k asked box × T (counts (block_of image k)) × T (clear (block_of image k)))
unfolding block_fault
block_iff image k asked box counts clear = (
  λ e. let p = simp (faults, tests) at e in (
    record {
      there = p.0;
      checked = p.1.0;
      number = p.1.1.0.0.0.0;
      kind = p.1.1.0.0.0.1;
      box = p.1.1.0.0.1;
      spare = p.1.1.0.1;
    },
    p.1.1.1.0,
    p.1.1.1.1,
  ),
  λ p. let h = p.0 in
      simp (faults, tests) (h.there, (h.checked, ((((h.number, h.kind), h.box), h.spare), (p.1, p.2)))),
)

-- ---- the head, a box's sites, a block of its lines

pub record HeadFits (image : List ℕ) : Type 0 where
  pub headed : Headed image 0 1 0
  pub count : count_of (block_of image 0) ≡ 0
  pub names : name_count image ≤ 60
  pub boxes : boxes_of image ≤ 8
  pub kinds : (n : ℕ) → n < name_count image → data_word (block_of image 0) (2 + n) ≤ 3
  pub clear : Clear (2 + name_count image) (block_of image 0)

pub record SitesFit (image : List ℕ) (k b : ℕ) : Type 0 where
  pub headed : Headed image k 2 b
  pub some : 1 ≤ count_of (block_of image k)
  pub most : count_of (block_of image k) ≤ 16
  pub clear : Clear (2 * count_of (block_of image k)) (block_of image k)

pub record LinesFit (image : List ℕ) (k b j : ℕ) : Type 0 where
  pub headed : Headed image k 3 b
  pub some : j ≡ 0 → 1 ≤ count_of (block_of image k)
  pub most : count_of (block_of image k) ≤ 31
  pub clear : Clear (2 * count_of (block_of image k)) (block_of image k)

pub head_iff : (image : List ℕ) → (head_fault image ≡ none) ↔ HeadFits image
unfolding head_fault head_counts name_count boxes_of
head_iff image = (
  λ e. let p = simp (block_iff, clear_iff, tests) at e in
      record {
        headed = p.0;
        count = p.1.0.0.0;
        names = p.1.0.0.1;
        boxes = p.1.0.1;
        kinds = λ n h. let few = p.1.0.0.1 in p.1.1 n (omega arith) h;
        clear = p.2;
      },
  λ f. simp (block_iff, clear_iff, tests) (f.headed, (((f.count, f.names), f.boxes), λ n h. f.kinds n), f.clear),
)

pub sites_iff : (image : List ℕ) (k b : ℕ) → (sites_fault image k b ≡ none) ↔ SitesFit image k b
unfolding sites_fault
sites_iff image k b = (
  λ e. let p = simp (block_iff, clear_iff, tests) at e in record { headed = p.0; some = p.1.0; most = p.1.1; clear = p.2 },
  λ f. simp (block_iff, clear_iff, tests) (f.headed, (f.some, f.most), f.clear),
)

pub lines_iff : (image : List ℕ) (k b j : ℕ) → (lines_fault image k b j ≡ none) ↔ LinesFit image k b j
unfolding lines_fault
lines_iff image k b j = (
  λ e. let p = simp (block_iff, clear_iff, tests) at e in record { headed = p.0; some = p.1.0; most = p.1.1; clear = p.2 },
  λ f. simp (block_iff, clear_iff, tests) (f.headed, (f.some, f.most), f.clear),
)

-- ---- the whole image

-- a box's blocks: its sites, then its lines
pub record BoxFits (image : List ℕ) (b : ℕ) : Type 0 where
  pub sites : SitesFit image (sites_block image b) b
  pub lines : (j : ℕ) → j < line_blocks 4 image (sites_block image b + 1) → LinesFit image (sites_block image b + 1 + j) b j

pub box_iff : (image : List ℕ) (b : ℕ) → (box_fault image b ≡ none) ↔ BoxFits image b
unfolding box_fault
box_iff image b = (
  λ e. let p = simp (faults, sites_iff, lines_iff) at e in record { sites = p.0; lines = p.1 },
  λ f. simp (faults, sites_iff, lines_iff) (f.sites, f.lines),
)

-- nothing is left over
pub left_iff : (image : List ℕ) (k : ℕ) → (left_over_fault image k ≡ none) ↔ (length image ≤ 512 * k)
unfolding left_over_fault
left_iff image k =
    let p = go (512 * k below length image) (some_if (check_of (block_of image k) isnt stored_check (block_of image k)) (refusal 2 k 0)) in (
      λ e. let f : 512 * k < length image → ⊥ = λ h. p.0 e ((below_iff (512 * k) (length image)).1 h) in omega arith,
      λ h. p.1 (λ t. absurd (omega (arith, (below_iff (512 * k) (length image)).0 t))),
    )
  where
    go : (b : Bool) (o : Option Refusal)
        → (◌≡◌ {A = Option Refusal} (elim b [ true ↦ or_else o (some (refusal 3 k 0)) | false ↦ none ]) none) ↔ (T b → ⊥)
    go true o = (λ e t. fault_none true (refusal 3 k 0) (right_none o (some (refusal 3 k 0)) e) tt, λ f. absurd (f tt))
    go false o = (λ e t. t, λ f. refl)

-- a multiple of 512, from 512 to 20,992
pub record LengthFits (image : List ℕ) : Type 0 where
  pub blocks : length image % 512 ≡ 0
  pub some : 512 ≤ length image
  pub most : length image ≤ 20992

pub length_iff : (image : List ℕ) → (length_fault image ≡ none) ↔ LengthFits image
unfolding length_fault
length_iff image = (
  λ e. let p = simp faults at e in record { blocks = p.0.0; some = p.0.1; most = p.1 },
  λ f. simp faults ((f.blocks, f.some), f.most),
)

-- the head; each box; no more
pub record Blocks (image : List ℕ) : Type 0 where
  pub head : HeadFits image
  pub box : (b : ℕ) → b < boxes_of image → BoxFits image b
  pub no_more : length image ≤ 512 * sites_block image (boxes_of image)

pub blocks_iff : (image : List ℕ) → (blocks_fault image ≡ none) ↔ Blocks image
unfolding blocks_fault
blocks_iff image = (
  λ e. let p = simp (faults, head_iff, box_iff, left_iff) at e in record { head = p.0; box = p.1.0; no_more = p.1.1 },
  λ f. simp (faults, head_iff, box_iff, left_iff) (f.head, (f.box, f.no_more)),
)

-- a model image that is not refused
pub record Readable (image : List ℕ) : Type 0 where
  pub length : LengthFits image
  pub blocks : Blocks image
  pub model : Fits (model_of image)

pub read_iff : (image : List ℕ) → (read_model image ≡ none) ↔ Readable image
unfolding read_model
read_iff image = (
  λ e. let p = simp (faults, length_iff, blocks_iff, fits_iff) at e in record { length = p.0; blocks = p.1.0; model = p.1.1 },
  λ f. simp (faults, length_iff, blocks_iff, fits_iff) (f.length, (f.blocks, f.model)),
)

-- ---- the blocks of a box's lines

-- one at least, so many at most; each but the last is full
pub some_block : (most : ℕ) (image : List ℕ) (k : ℕ) → 1 ≤ line_blocks (suc most) image k
unfolding line_blocks
some_block most image k = go (count_of (block_of image k) below 31)
  where
    go : (b : Bool) → 1 ≤ elim b [ true ↦ 1 | false ↦ 1 + line_blocks most image (k + 1) ]
    go true = lit≤ tt
    go false = omega arith

pub most_blocks : (most : ℕ) (image : List ℕ) (k : ℕ) → line_blocks most image k ≤ most
unfolding line_blocks
most_blocks zero image k = lit≤ tt
most_blocks (suc most) image k = go (count_of (block_of image k) below 31) (most_blocks most image (k + 1))
  where
    go : (b : Bool) → line_blocks most image (k + 1) ≤ most → elim b [ true ↦ 1 | false ↦ 1 + line_blocks most image (k + 1) ] ≤ suc most
    go true h = omega arith
    go false h = omega arith

pub full_block : (most : ℕ) (image : List ℕ) (k j : ℕ) → j + 1 < line_blocks most image k → 31 ≤ count_of (block_of image (k + j))
unfolding line_blocks
full_block zero image k j h = absurd (not-suc-le-zero h)
full_block (suc most) image k j h = go (count_of (block_of image k) below 31) refl j h (full_block most image (k + 1))
  where
    go : (b : Bool) → (count_of (block_of image k) below 31) ≡ b → (j : ℕ)
        → j + 1 < elim b as (λ _. ℕ) [ true ↦ 1 | false ↦ 1 + line_blocks most image (k + 1) ]
        → ((j : ℕ) → j + 1 < line_blocks most image (k + 1) → 31 ≤ count_of (block_of image (k + 1 + j))) → 31 ≤ count_of (block_of image (k + j))
    go true e j h rest = absurd (omega arith)
    go false e zero h rest =
        let f : count_of (block_of image k) < 31 → ⊥ = λ q. not-false e ((below_iff (count_of (block_of image k)) 31).1 q) in
        rw (add-zero k) (omega arith)
    go false e (suc j) h rest =
        let q : k + 1 + j ≡ k + suc j = omega arith in
        rw q at (rest j (omega arith))

-- ---- what the blocks say of the model

module _ (image : List ℕ) (f : Blocks image) where
  -- the image is its blocks, and nothing is left over
  pub whole : length image ≡ 512 * sites_block image (boxes_of image)
  unfolding sites_block
  whole = le_antisymm f.no_more (go (boxes_of image) f.box)
    where
      go : (n : ℕ) → ((b : ℕ) → b < n → BoxFits image b) → 512 * sites_block image n ≤ length image
      go zero box = f.head.headed.there
      go (suc b) box =
          let n = line_blocks 4 image (sites_block image b + 1) in
          let some : 1 ≤ n = some_block 3 image (sites_block image b + 1) in
          let last = ((box b (le_refl (suc b))).lines (n - 1) (omega arith)).headed.there in
          omega arith

  -- a box has 1 to 124 lines
  pub lines_some : (b : ℕ) → b < boxes_of image → 1 ≤ lines_of image b
  unfolding lines_of
  lines_some b h = pick (line_blocks 4 image (k + 1)) (some_block 3 image (k + 1)) (ℕ_discrete (line_blocks 4 image (k + 1)) 1)
    where
      k : ℕ
      k = sites_block image b

      first : 1 ≤ count_of (block_of image (k + 1 + 0))
      first = ((f.box b h).lines 0 (some_block 3 image (k + 1))).some refl

      pick : (n : ℕ) → 1 ≤ n → Dec (n ≡ 1) → 1 ≤ 31 * (n - 1) + count_of (block_of image (k + n))
      pick n q (yes e) = let z : k + 1 + 0 ≡ k + n = omega arith in omega (arith, rw z at first)
      pick n q (no e) = omega arith

  pub lines_most : (b : ℕ) → b < boxes_of image → lines_of image b ≤ 124
  unfolding lines_of
  lines_most b h =
      let k = sites_block image b in
      let n = line_blocks 4 image (k + 1) in
      let some : 1 ≤ n = some_block 3 image (k + 1) in
      let most : n ≤ 4 = most_blocks 4 image (k + 1) in
      let e : k + 1 + (n - 1) ≡ k + n = omega arith in
      let last : count_of (block_of image (k + n)) ≤ 31 = rw e at ((f.box b h).lines (n - 1) (omega arith)).most in
      omega arith

  -- the counts and the kinds are within their limits
  pub counts : (b : ℕ) → b < boxes_of image → Counts (box_of_image image b)
  counts b h = record {
    some_site = rw (box_sites image b) (f.box b h).sites.some;
    most_sites = rw (box_sites image b) (f.box b h).sites.most;
    some_line = rw (box_lines image b) (lines_some b h);
    most_lines = rw (box_lines image b) (lines_most b h);
  }

  pub kinds_fit_lem : (n : ℕ) → kind_of_name (kinds_of image) n ≤ 3
  kinds_fit_lem n = pick (dec_lt n (name_count image))
    where
      pick : Dec (n < name_count image) → kind_of_name (kinds_of image) n ≤ 3
      pick (yes h) = rw (model_kind image n h) (f.head.kinds n h)
      pick (no h) = omega (arith, kind_past image n (omega arith))

-- ---- the model of an image that is not refused is valid

pub valid_image : (image : List ℕ) → read_model image ≡ none → Valid (model_of image)
valid_image image e =
    let r = (read_iff image).0 e in
    let f = r.blocks in
    valid_of (model_of image) ((fits_iff (model_of image)).1 r.model)
    (rw (model_kinds image, model_names image) f.head.names)
    (λ n. rw (model_kinds image) (kinds_fit_lem image f n))
    (rw (model_count image) f.head.boxes)
    (λ b h. let k = rw (model_count image) at h in rw (model_box image b k) (counts image f b k))

-- ---- the blocks of an image

pub sites_most : (image : List ℕ) (b : ℕ) → sites_block image b ≤ 1 + 5 * b
unfolding sites_block
sites_most image zero = lit≤ tt
sites_most image (suc b) =
    let k = sites_block image b in
    let h : k ≤ 1 + 5 * b = sites_most image b in
    let l : line_blocks 4 image (k + 1) ≤ 4 = most_blocks 4 image (k + 1) in
    omega arith

pub sites-next : (image : List ℕ) (b k n : ℕ) → k ≡ sites_block image b → n ≡ line_blocks 4 image (k + 1) → k + 1 + n ≡ sites_block image (b + 1)
unfolding sites_block
sites-next image b k n e q =
    ap (λ (i : ℕ). k + 1 + i) q ∙ ap (λ (i : ℕ). i + 1 + line_blocks 4 image (i + 1)) e ∙ ap (sites_block image) (sym (add-one b))

pub sites-first : (image : List ℕ) → 1 ≡ sites_block image 0
unfolding sites_block
sites-first image = refl

-- how many blocks a box's lines take: the first of four with fewer than 31 ends the box
module _ (image : List ℕ) (k : ℕ) where
  blocks_stop : (most : ℕ) → count_of (block_of image k) < 31 → 1 ≡ line_blocks (suc most) image k
  unfolding line_blocks
  blocks_stop most h =
      sym
      (ap (λ (b : Bool). elim b as (λ _. ℕ) [ true ↦ 1 | false ↦ 1 + line_blocks most image (k + 1) ])
      (true_of (count_of (block_of image k) below 31) ((below_iff (count_of (block_of image k)) 31).1 h)))

  blocks_more : (most : ℕ) → 31 ≤ count_of (block_of image k) → 1 + line_blocks most image (k + 1) ≡ line_blocks (suc most) image k
  unfolding line_blocks
  blocks_more most h =
      sym
      (ap (λ (b : Bool). elim b as (λ _. ℕ) [ true ↦ 1 | false ↦ 1 + line_blocks most image (k + 1) ])
      (false_of (count_of (block_of image k) below 31) (λ t. let l = (below_iff (count_of (block_of image k)) 31).0 t in omega arith)))

blocks_last : (image : List ℕ) (k : ℕ) → 1 ≡ line_blocks 1 image k
unfolding line_blocks
blocks_last image k = go (count_of (block_of image k) below 31)
  where
    go : (b : Bool) → ◌≡◌ {A = ℕ} 1 (elim b as (λ _. ℕ) [ true ↦ 1 | false ↦ 1 + line_blocks 0 image (k + 1) ])
    go true = refl
    go false = refl

module _ (image : List ℕ) (k a : ℕ) (first : a ≡ count_of (block_of image k)) where
  pub blocks_1 : a < 31 → 1 ≡ line_blocks 4 image k
  blocks_1 h = blocks_stop image k 3 (omega arith)

  module _ (b : ℕ) (second : b ≡ count_of (block_of image (k + 1))) where
    pub blocks_2 : 31 ≤ a → b < 31 → 2 ≡ line_blocks 4 image k
    blocks_2 h l = ap (λ (n : ℕ). 1 + n) (blocks_stop image (k + 1) 2 (omega arith)) ∙ blocks_more image k 3 (omega arith)

    module _ (c : ℕ) (third : c ≡ count_of (block_of image (k + 2))) where
      third_at : c ≡ count_of (block_of image (k + 1 + 1))
      third_at = third ∙ ap (λ (i : ℕ). count_of (block_of image i)) (let e : k + 2 ≡ k + 1 + 1 = omega arith in e)

      pub blocks_3 : 31 ≤ a → 31 ≤ b → c < 31 → 3 ≡ line_blocks 4 image k
      blocks_3 h l m =
          ap (λ (n : ℕ). 1 + n)
          (ap (λ (n : ℕ). 1 + n) (blocks_stop image (k + 1 + 1) 1 (omega (arith, third_at))) ∙ blocks_more image (k + 1) 2 (omega arith))
          ∙ blocks_more image k 3 (omega arith)

      pub blocks_4 : 31 ≤ a → 31 ≤ b → 31 ≤ c → 4 ≡ line_blocks 4 image k
      blocks_4 h l m =
          ap (λ (n : ℕ). 1 + n)
          (ap (λ (n : ℕ). 1 + n)
          (ap (λ (n : ℕ). 1 + n) (blocks_last image (k + 1 + 1 + 1)) ∙ blocks_more image (k + 1 + 1) 1 (omega (arith, third_at)))
          ∙ blocks_more image (k + 1) 2 (omega arith))
          ∙ blocks_more image k 3 (omega arith)

byte_past : (s : List ℕ) (at : ℕ) → length s ≤ at → byte_at s at ≡ 0
unfolding byte_at
byte_past s at h = get_or-eq_default s 0 h

-- a block that the image lacks counts nothing, where the image is whole blocks
pub count-missing : (image : List ℕ) (k : ℕ) → length image % 512 ≡ 0 → (512 * (k + 1) ≤ length image → ⊥) → 0 ≡ count_of (block_of image k)
unfolding count_of
count-missing image k e f =
    let past : (i : ℕ) → i < 512 → byte_at (block_of image k) i ≡ 0 =
    λ i h. byte_at_block image k i h ∙ byte_past image (512 * k + i) (omega arith) in
    omega (arith, past 4 (lit< tt), past 5 (lit< tt))

-- a box's lines stand in blocks that the image has; its sites too
module _ (image : List ℕ) (f : Blocks image) (b : ℕ) (h : b < boxes_of image) where
  pub lines_there : (i : ℕ) → i < lines_of image b → 512 * (sites_block image b + 1 + i / 31 + 1) ≤ length image
  unfolding lines_of
  lines_there i l =
      let k = sites_block image b in
      let n = line_blocks 4 image (k + 1) in
      let some : 1 ≤ n = some_block 3 image (k + 1) in
      let e : k + 1 + (n - 1) ≡ k + n = omega arith in
      let last : count_of (block_of image (k + n)) ≤ 31 = rw e at ((f.box b h).lines (n - 1) (omega arith)).most in
      ((f.box b h).lines (i / 31) (omega arith)).headed.there

  pub sites-there : 512 * (sites_block image b + 1) ≤ length image
  sites-there = (f.box b h).sites.headed.there
