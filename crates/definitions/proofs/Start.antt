-- The words of a started record and of a started state. Assumes nothing.
use mathlib.Core.Path.{◌≡◌, refl, ap, sym, ◌∙◌}
use mathlib.Core.Bool.{Bool, true, false}
use mathlib.Core.List.{List, [], ◌∷◌, ◌++◌, append-nil}
use Prim.Native.Nat.{ℕ, suc, ◌+◌, ◌*◌, ◌≤◌, ◌<◌}
use native.Mathlib.Omega.{arith}
use lib.ListN.{length, length-append}
use Rattle.definitions.specs.Bounded.{◌below◌, flat}
use Rattle.definitions.specs.Slots.{word, zeros, slot, put_slot}
use Rattle.definitions.specs.Model.{Site, Box, Model, site_at, box_at, site_count, box_count}
use Rattle.definitions.specs.Record.{stamp, threads, sites, site, thread, record_of}
use Rattle.definitions.specs.Start.{free_held, start_site, start_record, start_state}
use Rattle.definitions.proofs.Bounded.{below_iff, true_of, false_of, same_test}
use Rattle.definitions.proofs.Slots.{length-zeros, word-zeros, word_left, word_right, part-is, length-flat, slot_between, flat_cong, flat-zeros, put-flat}
use Rattle.definitions.proofs.TypeWords.{length-type_words}

-- ---- slots filled one after another: the first i of n hold their words, and the others are zeros

-- one of two lists, by whether j is below i
abbrev choose : ℕ → ℕ → List ℕ → List ℕ → List ℕ
choose j i a b = elim (j below i) [ true ↦ a | false ↦ b ]

choose_low : (j i : ℕ) (a b : List ℕ) → j < i → choose j i a b ≡ a
choose_low j i a b h = rw (true_of (j below i) ((below_iff j i).1 h), choose)

choose_past : (j i : ℕ) (a b : List ℕ) → i ≤ j → choose j i a b ≡ b
choose_past j i a b h = rw (false_of (j below i) (λ t. let q = (below_iff j i).0 t in omega arith), choose)

choose-length : (j i : ℕ) (a b : List ℕ) (w : ℕ) → length a ≡ w → length b ≡ w → length (choose j i a b) ≡ w
choose-length j i a b w p q = pick (j below i)
  where
    pick : (c : Bool) → length {A = ℕ} (elim c [ true ↦ a | false ↦ b ]) ≡ w
    pick true = p
    pick false = q

choose-same : (j i k : ℕ) (a b : List ℕ) → (j < i → j < k) → (j < k → j < i) → choose j i a b ≡ choose j k a b
choose-same j i k a b p q =
    ap (λ (c : Bool). elim c as (λ _. List ℕ) [ true ↦ a | false ↦ b ])
    (same_test (j below i) (j below k) (λ t. (below_iff j k).1 (p ((below_iff j i).0 t))) (λ t. (below_iff j i).1 (q ((below_iff j k).0 t))))

pub filled : ℕ → ℕ → (ℕ → List ℕ) → ℕ → List ℕ
filled w n h i = flat n (λ j. choose j i (h j) (zeros w))

pub filled_none : (w n : ℕ) (h : ℕ → List ℕ) → filled w n h 0 ≡ zeros (w * n)
unfolding filled
filled_none w n h =
    flat_cong n (λ j. choose j 0 (h j) (zeros w)) (λ j. zeros w) (λ j l. choose_past j 0 (h j) (zeros w) (omega arith)) ∙ flat-zeros w n

module _ (w n : ℕ) (h : ℕ → List ℕ) (each : (j : ℕ) → length (h j) ≡ w) (i : ℕ) where
  part_length : (m j : ℕ) → length (choose j m (h j) (zeros w)) ≡ w
  part_length m j = choose-length j m (h j) (zeros w) w (each j) (length-zeros w)

  pub filled-length : length (filled w n h i) ≡ w * n
  unfolding filled
  filled-length = length-flat w (λ j. choose j i (h j) (zeros w)) (part_length i) n

  -- each slot, where other words stand before and behind; the words of slot i put there fill it
  module _ (base : ℕ) (a : List ℕ) (e : length a ≡ base) (b : List ℕ) where
    filled_at : (j : ℕ) → j < n → slot base w (a ++ filled w n h i ++ b) j ≡ choose j i (h j) (zeros w)
    unfolding filled
    filled_at j l = slot_between w (λ k. choose k i (h k) (zeros w)) (part_length i) base n a b e j l

    pub filled_low : (j : ℕ) → j < n → j < i → slot base w (a ++ filled w n h i ++ b) j ≡ h j
    filled_low j l k = filled_at j l ∙ choose_low j i (h j) (zeros w) k

    pub filled_past : (j : ℕ) → j < n → i ≤ j → slot base w (a ++ filled w n h i ++ b) j ≡ zeros w
    filled_past j l k = filled_at j l ∙ choose_past j i (h j) (zeros w) k

    pub filled_next : i < n → put_slot base w (a ++ filled w n h i ++ b) i (h i) ≡ a ++ filled w n h (i + 1) ++ b
    unfolding filled
    filled_next l =
        let next : choose i (i + 1) (h i) (zeros w) ≡ h i = choose_low i (i + 1) (h i) (zeros w) (omega arith) in
        ap (put_slot base w (a ++ flat n (λ j. choose j i (h j) (zeros w)) ++ b) i) (sym next)
        ∙ put-flat base w (λ j. choose j i (h j) (zeros w)) (λ j. choose j (i + 1) (h j) (zeros w)) a e (part_length i) i
        (part_length (i + 1) i) (λ j f. choose-same j i (i + 1) (h j) (zeros w) (λ k. omega arith) (λ k. omega arith)) n l b

  -- the same where nothing else stands
  alone : filled w n h i ≡ [] ++ filled w n h i ++ []
  alone = sym (append-nil (filled w n h i))

  pub alone_low : (j : ℕ) → j < n → j < i → slot 0 w (filled w n h i) j ≡ h j
  alone_low j l k = ap (λ (x : List ℕ). slot 0 w x j) alone ∙ filled_low 0 [] refl [] j l k

  pub alone_past : (j : ℕ) → j < n → i ≤ j → slot 0 w (filled w n h i) j ≡ zeros w
  alone_past j l k = ap (λ (x : List ℕ). slot 0 w x j) alone ∙ filled_past 0 [] refl [] j l k

  pub alone_next : i < n → put_slot 0 w (filled w n h i) i (h i) ≡ filled w n h (i + 1)
  alone_next l = ap (λ (x : List ℕ). put_slot 0 w x i (h i)) alone ∙ filled_next 0 [] refl [] l ∙ append-nil (filled w n h (i + 1))

-- ---- the words of a started record

pub start-site-length : (s : Site) → length (start_site s) ≡ 10
unfolding start_site
start-site-length s = ap (λ (n : ℕ). suc (suc n)) (length-type_words free_held s.type)

module _ (x : Box) where
  pub site_words : ℕ → List ℕ
  site_words i = start_site (site_at x i)

  pub site_words_lem : (i : ℕ) → site_words i ≡ start_site (site_at x i)
  unfolding site_words
  site_words_lem i = refl

  pub each_site : (i : ℕ) → length (site_words i) ≡ 10
  unfolding site_words
  each_site i = start-site-length (site_at x i)

  counts : List ℕ
  counts = 0 ∷ 1 ∷ site_count x ∷ []

  three : length counts ≡ 3
  unfolding counts
  three = refl

  -- the counts, the sites, and one thread at line 0 with no binding
  whole : counts ++ filled 10 16 site_words (site_count x) ++ zeros 976 ≡ start_record x
  unfolding filled start_record counts site_words
  whole = refl

  pub filled_record : (0 ∷ 1 ∷ site_count x ∷ []) ++ filled 10 16 site_words (site_count x) ++ zeros 976 ≡ start_record x
  unfolding counts
  filled_record = whole

  front : length (counts ++ filled 10 16 site_words (site_count x)) ≡ 163
  front =
      length-append counts (filled 10 16 site_words (site_count x)) ∙ omega (arith, three, filled-length 10 16 site_words each_site (site_count x))

  pub start-length : length (start_record x) ≡ 1139
  start-length =
      sym (ap length whole)
      ∙ length-append (counts ++ filled 10 16 site_words (site_count x)) (zeros 976) ∙ omega (arith, front, length-zeros 976)

  start_head : (k : ℕ) → k < 3 → word (start_record x) k ≡ word counts k
  start_head k h =
      sym (ap (λ (r : List ℕ). word r k) whole)
      ∙ word_left (counts ++ filled 10 16 site_words (site_count x)) (zeros 976) k (omega (arith, front))
      ∙ word_left counts (filled 10 16 site_words (site_count x)) k (omega (arith, three))

  pub start-stamp : stamp (start_record x) ≡ 0
  unfolding counts
  start-stamp = start_head 0 (omega arith)

  pub start-threads : threads (start_record x) ≡ 1
  unfolding counts
  start-threads = start_head 1 (omega arith)

  pub start-sites : sites (start_record x) ≡ site_count x
  unfolding counts
  start-sites = start_head 2 (omega arith)

  pub start-site : (i : ℕ) → i < 16 → i < site_count x → site (start_record x) i ≡ start_site (site_at x i)
  unfolding site_words
  start-site i h l =
      sym (ap (λ (r : List ℕ). site r i) whole) ∙ filled_low 10 16 site_words each_site (site_count x) 3 counts three (zeros 976) i h l

  pub start_past : (i : ℕ) → i < 16 → site_count x ≤ i → site (start_record x) i ≡ zeros 10
  start_past i h l =
      sym (ap (λ (r : List ℕ). site r i) whole) ∙ filled_past 10 16 site_words each_site (site_count x) 3 counts three (zeros 976) i h l

  -- line 0 and no binding are zeros, as is a slot that is not in use
  pub start-thread : (t : ℕ) → t < 16 → thread (start_record x) t ≡ zeros 61
  unfolding slot
  start-thread t h =
      part-is (start_record x) (163 + 61 * t) 61 (zeros 61) (omega (arith, start-length)) (length-zeros 61)
      (λ j l.
      sym (ap (λ (r : List ℕ). word r (163 + 61 * t + j)) whole)
      ∙ word_right (counts ++ filled 10 16 site_words (site_count x)) (zeros 976) (163 + 61 * t + j) 163 front (omega arith)
      ∙ word-zeros 976 _ ∙ sym (word-zeros 61 j))

-- ---- the started state

module _ (m : Model) where
  pub record_words : ℕ → List ℕ
  record_words b = start_record (box_at m b)

  pub record_words_lem : (b : ℕ) → record_words b ≡ start_record (box_at m b)
  unfolding record_words
  record_words_lem b = refl

  pub each_record : (b : ℕ) → length (record_words b) ≡ 1139
  unfolding record_words
  each_record b = start-length (box_at m b)

  pub filled_state : filled 1139 8 record_words (box_count m) ≡ start_state m
  unfolding filled start_state record_words
  filled_state = refl

  pub start_state_length : length (start_state m) ≡ 9112
  start_state_length = sym (ap length filled_state) ∙ filled-length 1139 8 record_words each_record (box_count m)

  pub start_record_lem : (b : ℕ) → b < 8 → b < box_count m → record_of (start_state m) b ≡ start_record (box_at m b)
  unfolding record_words
  start_record_lem b h l =
      sym (ap (λ (st : List ℕ). record_of st b) filled_state) ∙ alone_low 1139 8 record_words each_record (box_count m) b h l

  pub start_lacking : (b : ℕ) → b < 8 → box_count m ≤ b → record_of (start_state m) b ≡ zeros 1139
  start_lacking b h l =
      sym (ap (λ (st : List ℕ). record_of st b) filled_state) ∙ alone_past 1139 8 record_words each_record (box_count m) b h l
