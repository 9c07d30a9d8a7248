-- An estimate image is not refused exactly when its length is right and each of its blocks fits; and then its sets are of the model's
-- names. Assumes nothing.
use mathlib.Core.Path.{◌≡◌, ap, ◌∙◌}
use mathlib.Core.Logic.{◌↔◌, ◌≢◌, ⊎_elim}
use mathlib.Core.Bool.{Bool}
use mathlib.Core.List.{List}
use mathlib.Core.Option.{none}
use Prim.Native.Nat.{ℕ, ◌+◌, ◌*◌, ◌/◌, ◌^◌, ◌<◌, ◌≤◌}
use native.Mathlib.Omega.{arith}
use lib.Dec.{T}
use lib.ListN.{length}
use Rattle.definitions.specs.Bounded.{◌and◌, ◌is◌, ◌below◌, ◌upto◌}
use Rattle.definitions.specs.Limits.{name_limit, shown_word}
use Rattle.definitions.specs.Sets.{has, no_bit_past}
use Rattle.definitions.specs.Words.{block_of, count_of, data_word}
use Rattle.definitions.specs.Estimate.{eps_block, kap_block, estimate_of}
use Rattle.definitions.specs.ReadEstimate.{sets_fit, is_set, table_fault, read_estimate}
use Rattle.definitions.proofs.Bounded.{tests, or_iff, choice_iff, decide, not-false}
use Rattle.definitions.proofs.Sets.{has-none, past_iff}
use Rattle.definitions.proofs.Faults.{faults}
use Rattle.definitions.proofs.ReadModel.{Headed, block_iff}

-- block k, of a kind and for a box: its heading is right, its record count 0, its sets within the names, and all else zero
pub record TableFits (image : List ℕ) (names k asked box : ℕ) : Type 0 where
  pub headed : Headed image k asked box
  pub count : count_of (block_of image k) ≡ 0
  pub set : (i : ℕ) → i < 62 → T (is_set names asked i) → data_word (block_of image k) i / 2 ^ names ≡ 0
  pub clear : (i : ℕ) → i < 62 → (T (is_set names asked i) → ⊥) → data_word (block_of image k) i ≡ 0

pub record EstimateReadable (names boxes : ℕ) (image : List ℕ) : Type 0 where
  pub size : length image ≡ 512 * (1 + 2 * boxes)
  pub rho : TableFits image names 0 4 0
  pub eps : (b : ℕ) → b < boxes → TableFits image names (eps_block b) 5 b
  pub kap : (b : ℕ) → b < boxes → TableFits image names (kap_block b) 6 b

pub sets_iff : (names : ℕ) (set : ℕ → Bool) (block : List ℕ) → T (sets_fit names set block)
    ↔ ((i : ℕ) → i < 62 → (T (set i) → data_word block i / 2 ^ names ≡ 0) × ((T (set i) → ⊥) → data_word block i ≡ 0))
unfolding sets_fit no_bit_past
sets_iff names set block = (
  λ t i h. let c = (choice_iff (set i) (data_word block i / 2 ^ names is 0) (data_word block i is 0)).0 ((simp tests at t) i h) in
      (λ s. simp tests at (c.0 s), λ s. simp tests at (c.1 s)),
  λ f. simp tests (λ i h. (choice_iff (set i) (data_word block i / 2 ^ names is 0) (data_word block i is 0)).1
      (λ s. simp tests ((f i h).0 s), λ s. simp tests ((f i h).1 s))),
)

pub table_iff : (image : List ℕ) (names k asked box : ℕ) → (table_fault image names k asked box ≡ none) ↔ TableFits image names k asked box
unfolding table_fault
table_iff image names k asked box =
    let counts : List ℕ → Bool = λ block. count_of block is 0 in (
      λ e.
          let p = (block_iff image k asked box counts (sets_fit names (is_set names asked))).0 e in
          let s = (sets_iff names (is_set names asked) (block_of image k)).0 p.2 in
          record { headed = p.0; count = simp tests at p.1; set = λ i h. (s i h).0; clear = λ i h. (s i h).1 },
      λ f.
          (block_iff image k asked box counts (sets_fit names (is_set names asked))).1
          (f.headed, simp tests f.count, (sets_iff names (is_set names asked) (block_of image k)).1 (λ i h. (f.set i h, f.clear i h))),
    )

pub read_estimate_iff : (names boxes : ℕ) (image : List ℕ) → (read_estimate names boxes image ≡ none) ↔ EstimateReadable names boxes image
unfolding read_estimate
read_estimate_iff names boxes image = (
  λ e.
      let p = simp (faults, table_iff) at e in
      record { size = p.0; rho = p.1.0; eps = λ b h. (p.1.1 b h).0; kap = λ b h. (p.1.1 b h).1 },
  λ f. simp (faults, table_iff) (f.size, (f.rho, λ b h. (f.eps b h, f.kap b h))),
)

-- ---- the sets of an estimate that is not refused have no name past the list

-- kinds 4 and 6 have no sets in words 60 and 61, whatever the number of names
pub last-zero : (image : List ℕ) (names k asked box : ℕ) → TableFits image names k asked box → asked ≢ 5
    → (i : ℕ) → 60 ≤ i → i < 62 → data_word (block_of image k) i ≡ 0
last-zero image names k asked box f n i l h =
    f.clear i h (λ t. ⊎_elim (λ a. let p = simp tests at a in absurd (omega (arith, p.1))) (λ a. let p = simp tests at a in n p.0)
    ((or_iff (i below names and i below name_limit) (asked is 5 and shown_word upto i)).0 t))

table_names : (image : List ℕ) (names k asked box : ℕ) → TableFits image names k asked box
    → (i : ℕ) → i < 62 → (a : ℕ) → T (has (data_word (block_of image k) i) a) → a < names
table_names image names k asked box f i h a t =
    ⊎_elim (λ s. (past_iff (data_word (block_of image k) i) names).0 (f.set i h s) a t)
    (λ s. absurd (not-false (ap (λ (w : ℕ). has w a) (f.clear i h s) ∙ has-none a) t)) (decide (is_set names asked i))

pub record EstimateFits (names boxes : ℕ) (image : List ℕ) : Type 0 where
  pub size : length image ≡ 512 * (1 + 2 * boxes)
  pub rho : (n : ℕ) → n < 62 → (a : ℕ) → T (has ((estimate_of image).rho n) a) → a < names
  pub kap : (b : ℕ) → b < boxes → (n : ℕ) → n < 62 → (a : ℕ) → T (has ((estimate_of image).kap b n) a) → a < names
  pub shown : (b : ℕ) → b < boxes → (a : ℕ) → T (has ((estimate_of image).shown b) a) → a < names

pub estimate_fits : (names boxes : ℕ) (image : List ℕ) → read_estimate names boxes image ≡ none → EstimateFits names boxes image
unfolding estimate_of
estimate_fits names boxes image e =
    let r = (read_estimate_iff names boxes image).0 e in
    record {
      size = r.size;
      rho = table_names image names 0 4 0 r.rho;
      kap = λ b l. table_names image names (kap_block b) 6 b (r.kap b l);
      shown = λ b l. table_names image names (eps_block b) 5 b (r.eps b l) 60 (omega arith);
    }
