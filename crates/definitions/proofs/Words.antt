-- The laws of bytes and words: at a place of what is dropped, taken, or cut out as a block; the bound of a word; words by their number. Assumes nothing.
use mathlib.Core.Path.{◌≡◌, refl, sym, ap, ap₂, ◌∙◌}
use mathlib.Core.List.{List, ◌∷◌}
use Prim.Native.Nat.{ℕ, zero, suc, ◌+◌, ◌*◌, ◌^◌, ◌≤◌, ◌<◌}
use native.Mathlib.Nat.{add-zero, add_assoc, le_of_suc-le-suc, not-suc-le-zero, zero-lt-suc}
use native.Mathlib.Omega.{arith}
use lib.Dec.{lit<}
use lib.ListN.{length, get_or, take, drop, length-drop}
use lib.Seq.{get_or-take, get_or-drop, length-take-le}
use Rattle.definitions.specs.Words.{joined, byte_at, word_at, words_of, block_of, data_word}

-- ---- places

-- eight bytes that agree make one word
pub word_at_as : (s t : List ℕ) (a b : ℕ) → ((j : ℕ) → j < 8 → get_or s (a + j) 0 ≡ get_or t (b + j) 0) → word_at s a ≡ word_at t b
unfolding word_at
word_at_as s t a b f =
    let e₀ : get_or s a 0 ≡ get_or t b 0 =
    ap (λ (i : ℕ). get_or s i 0) (sym (add-zero a)) ∙ f 0 (lit< tt) ∙ ap (λ (i : ℕ). get_or t i 0) (add-zero b) in
    let e₁ = f 1 (lit< tt) in
    let e₂ = f 2 (lit< tt) in
    let e₃ = f 3 (lit< tt) in
    let e₄ = f 4 (lit< tt) in
    let e₅ = f 5 (lit< tt) in
    let e₆ = f 6 (lit< tt) in
    let e₇ = f 7 (lit< tt) in
    λ i. joined (e₀ i) (e₁ i) (e₂ i) (e₃ i) (e₄ i) (e₅ i) (e₆ i) (e₇ i)

pub byte_at-drop : (n : ℕ) (s : List ℕ) (at : ℕ) → byte_at (drop n s) at ≡ byte_at s (n + at)
unfolding byte_at
byte_at-drop n s at = get_or-drop n s at 0

pub word_at-drop : (n : ℕ) (s : List ℕ) (at : ℕ) → word_at (drop n s) at ≡ word_at s (n + at)
word_at-drop n s at =
    word_at_as (drop n s) s at (n + at) (λ j l. get_or-drop n s (at + j) 0 ∙ ap (λ (i : ℕ). get_or s i 0) (sym (add_assoc n at j)))

pub byte_at-take : (n : ℕ) (s : List ℕ) (at : ℕ) → at < n → byte_at (take n s) at ≡ byte_at s at
unfolding byte_at
byte_at-take n s at h = get_or-take n s at 0 h

pub word_at-take : (n : ℕ) (s : List ℕ) (at : ℕ) → at + 8 ≤ n → word_at (take n s) at ≡ word_at s at
word_at-take n s at h = word_at_as (take n s) s at at (λ j l. get_or-take n s (at + j) 0 (omega arith))

-- ---- a block

pub byte_at_block : (image : List ℕ) (k at : ℕ) → at < 512 → byte_at (block_of image k) at ≡ byte_at image (512 * k + at)
unfolding block_of
byte_at_block image k at h = byte_at-take 512 (drop (512 * k) image) at h ∙ byte_at-drop (512 * k) image at

pub word_at_block : (image : List ℕ) (k at : ℕ) → at + 8 ≤ 512 → word_at (block_of image k) at ≡ word_at image (512 * k + at)
unfolding block_of
word_at_block image k at h = word_at-take 512 (drop (512 * k) image) at h ∙ word_at-drop (512 * k) image at

pub data_word_block : (image : List ℕ) (k i : ℕ) → i < 62 → data_word (block_of image k) i ≡ word_at image (512 * k + (8 + 8 * i))
unfolding data_word
data_word_block image k i h = word_at_block image k (8 + 8 * i) (omega arith)

pub length_block : (image : List ℕ) (k : ℕ) → 512 * (k + 1) ≤ length image → length (block_of image k) ≡ 512
unfolding block_of
length_block image k h =
    length-take-le 512 (drop (512 * k) image) (omega (arith, length-drop (512 * k) image))

-- ---- bounds

module _ (s : List ℕ) (bytes : (i : ℕ) → get_or s i 0 < 256) where
  pub byte_at-lt : (at : ℕ) → byte_at s at < 256
  unfolding byte_at
  byte_at-lt at = bytes at

  pub word_at-lt : (at : ℕ) → word_at s at < 2 ^ 64
  unfolding word_at
  word_at-lt at =
      omega (arith, bytes at, bytes (at + 1), bytes (at + 2), bytes (at + 3), bytes (at + 4), bytes (at + 5), bytes (at + 6), bytes (at + 7))

-- ---- words by their number

pub length-words_of : (n : ℕ) (s : List ℕ) → length (words_of n s) ≡ n
unfolding words_of
length-words_of zero s = refl
length-words_of (suc n) s = ap suc (length-words_of n (drop 8 s))

next_word : (s : List ℕ) (i : ℕ) → word_at (drop 8 s) (8 * i) ≡ word_at s (8 * suc i)
next_word s i = word_at-drop 8 s (8 * i) ∙ ap (λ (j : ℕ). word_at s j) (let e : 8 + 8 * i ≡ 8 * suc i = omega arith in e)

pub get_d_words_of : (n : ℕ) (s : List ℕ) (i : ℕ) → i < n → get_or (words_of n s) i 0 ≡ word_at s (8 * i)
unfolding words_of
get_d_words_of zero s i h = absurd (not-suc-le-zero h)
get_d_words_of (suc n) s zero h = refl
get_d_words_of (suc n) s (suc i) h = get_d_words_of n (drop 8 s) i (le_of_suc-le-suc h) ∙ next_word s i

pub words_of_as : (n : ℕ) (s t : List ℕ) → ((i : ℕ) → i < n → word_at s (8 * i) ≡ word_at t (8 * i)) → words_of n s ≡ words_of n t
unfolding words_of
words_of_as zero s t f = refl
words_of_as (suc n) s t f =
    ap₂ ◌∷◌ (f 0 (zero-lt-suc n))
    (words_of_as n (drop 8 s) (drop 8 t) (λ i l. next_word s i ∙ f (suc i) (omega arith) ∙ sym (next_word t i)))

pub words_of_block : (image : List ℕ) (k n : ℕ) → 8 * n ≤ 512 → words_of n (block_of image k) ≡ words_of n (drop (512 * k) image)
words_of_block image k n h =
    words_of_as n (block_of image k) (drop (512 * k) image)
    (λ i l. word_at_block image k (8 * i) (omega arith) ∙ sym (word_at-drop (512 * k) image (8 * i)))
