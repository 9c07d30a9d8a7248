-- A counted array of records: its count is word c, and its slots past the count are zeros. The rule that each live slot passes
-- a test, and the edits that keep it. Assumes nothing.
use mathlib.Core.Path.{◌≡◌, subst, ◌∙◌}
use mathlib.Core.Logic.{◌≢◌}
use mathlib.Core.Bool.{Bool}
use mathlib.Core.List.{List}
use Prim.Native.Nat.{ℕ, ◌+◌, ◌-◌, ◌*◌, ◌≤◌, ◌<◌}
use native.Mathlib.Nat.{mul-le-mul_left}
use native.Mathlib.Omega.{arith}
use native.Mathlib.Decide.{ℕ_discrete, dec_lt}
use lib.Dec.{T}
use lib.ListN.{length, length-set}
use lib.Seq.{get_or-set_same, get_or-set_other}
use Rattle.definitions.specs.Slots.{word, zeros, slot, put_slot, drop_slot, push_slot, take_slot}
use Rattle.definitions.proofs.Slots.{part_ext, Apart, slot_set_other, length_put_slot, slot_put-same, slot_put_other, word_put_slot, length_drop_slot, word_drop_slot, slot_drop-below, slot_drop_above, slot_drop-last}

pub record Array (w cap : ℕ) (ok : List ℕ → Bool) (n : ℕ) (f : ℕ → List ℕ) : Type 0 where
  pub most : n ≤ cap
  pub live : (i : ℕ) → i < n → T (ok (f i))
  pub dead : (i : ℕ) → i < cap → n ≤ i → f i ≡ zeros w

module _ (w cap : ℕ) (ok : List ℕ → Bool) where
  -- other tests that the slots pass as well
  pub array_imp : (ok' : List ℕ → Bool) → ((x : List ℕ) → T (ok x) → T (ok' x)) → {n : ℕ} {f : ℕ → List ℕ} → Array w cap ok n f → Array w cap ok' n f
  array_imp ok' g k = record { most = k.most; live = λ i h. g _ (k.live i h); dead = k.dead }

  -- the slots are as they were, but for one that is put in, or put behind the last, or taken out
  module _ {n : ℕ} {f : ℕ → List ℕ} (k : Array w cap ok n f) (m : ℕ) (g : ℕ → List ℕ) where
    pub array_same : m ≡ n → ((i : ℕ) → i < cap → g i ≡ f i) → Array w cap ok m g
    array_same e q = record {
      most = omega (arith, k.most);
      live = λ i h. rw (q i (omega (arith, k.most))) (k.live i (omega arith));
      dead = λ i h l. q i h ∙ k.dead i h (omega arith);
    }

    -- t is put in: among the n slots, or behind them
    pub array_put : (t : ℕ) → n ≤ m → m ≤ cap → t < m → ((i : ℕ) → i < m → i ≢ t → i < n) → T (ok (g t)) → ((i : ℕ) → i < cap → i ≢ t → g i ≡ f i) → Array w cap ok m g
    array_put t a b h old x q = record {
      most = b;
      live = λ i l. pick i l (ℕ_discrete t i);
      dead = λ i l d. q i l (omega arith) ∙ k.dead i l (omega arith);
    }
      where
        pick : (i : ℕ) → i < m → Dec (t ≡ i) → T (ok (g i))
        pick i l (yes z) = subst (λ (j : ℕ). T (ok (g j))) z x
        pick i l (no z) = rw (q i (omega arith) (omega arith)) (k.live i (old i l (omega arith)))

    pub array_take : (t : ℕ) → m ≡ n - 1 → t < n
        → ((i : ℕ) → i < t → g i ≡ f i) → ((i : ℕ) → t ≤ i → i + 1 < cap → g i ≡ f (i + 1)) → ((i : ℕ) → i + 1 ≡ cap → g i ≡ zeros w) → Array w cap ok m g
    array_take t e h a b z = record {
      most = omega (arith, k.most);
      live = λ i l. low i l (dec_lt i t);
      dead = λ i l d. high i l d (dec_lt (i + 1) cap);
    }
      where
        low : (i : ℕ) → i < m → Dec (i < t) → T (ok (g i))
        low i l (yes q) = rw (a i q) (k.live i (omega arith))
        low i l (no q) = rw (b i (omega arith) (omega (arith, k.most))) (k.live (i + 1) (omega arith))

        high : (i : ℕ) → i < cap → m ≤ i → Dec (i + 1 < cap) → g i ≡ zeros w
        high i l d (yes q) = b i (omega arith) q ∙ k.dead (i + 1) q (omega arith)
        high i l d (no q) = z i (omega arith)

-- the first words of the n slots differ
abbrev pub Differ : ℕ → (ℕ → List ℕ) → Type 0
Differ n f = (s q : ℕ) → q < s → s < n → word (f q) 0 ≢ word (f s) 0

module _ {n : ℕ} {f : ℕ → List ℕ} (k : Differ n f) (m : ℕ) (g : ℕ → List ℕ) where
  pub differ_same : m ≡ n → ((i : ℕ) → i < n → g i ≡ f i) → Differ m g
  differ_same e h s q a b = rw (h q (omega arith), h s (omega arith)) (k s q a (omega arith))

  pub differ_push : m ≡ n + 1 → ((i : ℕ) → i < n → g i ≡ f i) → ((i : ℕ) → i < n → word (f i) 0 ≢ word (g n) 0) → Differ m g
  differ_push e h new s q a b = pick (ℕ_discrete n s)
    where
      pick : Dec (n ≡ s) → word (g q) 0 ≢ word (g s) 0
      pick (yes z) = rw (← z, h q (omega arith)) (new q (omega arith))
      pick (no z) = rw (h q (omega arith), h s (omega arith)) (k s q a (omega arith))

  pub differ_take : (t : ℕ) → m ≡ n - 1 → ((i : ℕ) → i < t → g i ≡ f i) → ((i : ℕ) → t ≤ i → i < m → g i ≡ f (i + 1)) → Differ m g
  differ_take t e lo hi s q a b = pick (dec_lt s t) (dec_lt q t)
    where
      pick : Dec (s < t) → Dec (q < t) → word (g q) 0 ≢ word (g s) 0
      pick (yes y) d = rw (lo s y, lo q (omega arith)) (k s q a (omega arith))
      pick (no y) (yes z) = rw (hi s (omega arith) b, lo q z) (k (s + 1) q (omega arith) (omega arith))
      pick (no y) (no z) = rw (hi s (omega arith) b, hi q (omega arith) (omega arith)) (k (s + 1) (q + 1) (omega arith) (omega arith))

-- the words outside the array and its count are as they were
abbrev pub Outside : ℕ → ℕ → ℕ → ℕ → List ℕ → List ℕ → Type 0
Outside base w cap c r s = (k : ℕ) → k ≢ c → Apart k 1 base (w * cap) → word s k ≡ word r k

-- slots are as they were where their words are
pub slots_frame : (base w cap : ℕ) (r s : List ℕ) → base + w * cap ≤ length r → length s ≡ length r
    → ((j : ℕ) → base ≤ j → j < base + w * cap → word s j ≡ word r j) → (i : ℕ) → i < cap → slot base w s i ≡ slot base w r i
unfolding slot
slots_frame base w cap r s fits e f i h =
    let a : w * (i + 1) ≤ w * cap = mul-le-mul_left w (let z : i + 1 ≤ cap = omega arith in z) in
    part_ext s r (base + w * i) (base + w * i) w (omega arith) (omega arith) (λ j l. f (base + w * i + j) (omega arith) (omega arith))

-- what the edits leave: the length, the words outside, the count, the slots
module _ (base w cap c : ℕ) (out : Apart c 1 base (w * cap)) (r : List ℕ) (fits : base + w * cap ≤ length r) (cin : c < length r) where
  module _ (h : word r c < cap) (x : List ℕ) (e : length x ≡ w) where
    grown : length (put_slot base w r (word r c) x) ≡ length r
    grown = length_put_slot base w cap r fits (word r c) h x e

    grown_slot : (i : ℕ) → i < cap → slot base w (push_slot base w c r x) i ≡ slot base w (put_slot base w r (word r c) x) i
    unfolding push_slot
    grown_slot = slot_set_other base w cap (put_slot base w r (word r c) x) (omega (arith, grown)) c (word r c + 1) out

    pub push_length : length (push_slot base w c r x) ≡ length r
    unfolding push_slot
    push_length = length-set (put_slot base w r (word r c) x) c (word r c + 1) ∙ grown

    pub push_outside : Outside base w cap c r (push_slot base w c r x)
    unfolding push_slot
    push_outside j n a = get_or-set_other (put_slot base w r (word r c) x) c j (word r c + 1) 0 n ∙ word_put_slot base w cap r fits (word r c) h x e j a

    pub push_count : word (push_slot base w c r x) c ≡ word r c + 1
    unfolding push_slot
    push_count = get_or-set_same (put_slot base w r (word r c) x) c (word r c + 1) 0 (omega (arith, grown))

    pub push_same : slot base w (push_slot base w c r x) (word r c) ≡ x
    push_same = grown_slot (word r c) h ∙ slot_put-same base w cap r fits (word r c) h x e

    pub push_other : (i : ℕ) → i < cap → i ≢ word r c → slot base w (push_slot base w c r x) i ≡ slot base w r i
    push_other i l q = grown_slot i l ∙ slot_put_other base w cap r fits (word r c) h x e i l q

  module _ (i : ℕ) (h : i < cap) where
    less : length (drop_slot base w cap r i) ≡ length r
    less = length_drop_slot base w cap r fits i h

    less_slot : (j : ℕ) → j < cap → slot base w (take_slot base w cap c r i) j ≡ slot base w (drop_slot base w cap r i) j
    unfolding take_slot
    less_slot = slot_set_other base w cap (drop_slot base w cap r i) (omega (arith, less)) c (word r c - 1) out

    pub take-length : length (take_slot base w cap c r i) ≡ length r
    unfolding take_slot
    take-length = length-set (drop_slot base w cap r i) c (word r c - 1) ∙ less

    pub take_outside : Outside base w cap c r (take_slot base w cap c r i)
    unfolding take_slot
    take_outside j n a = get_or-set_other (drop_slot base w cap r i) c j (word r c - 1) 0 n ∙ word_drop_slot base w cap r fits i h j a

    pub take_count : word (take_slot base w cap c r i) c ≡ word r c - 1
    unfolding take_slot
    take_count = get_or-set_same (drop_slot base w cap r i) c (word r c - 1) 0 (omega (arith, less))

    pub take_below : (j : ℕ) → j < i → slot base w (take_slot base w cap c r i) j ≡ slot base w r j
    take_below j q = less_slot j (omega arith) ∙ slot_drop-below base w cap r fits i h j q

    pub take_above : (j : ℕ) → i ≤ j → j + 1 < cap → slot base w (take_slot base w cap c r i) j ≡ slot base w r (j + 1)
    take_above j q m = less_slot j (omega arith) ∙ slot_drop_above base w cap r fits i h j q m

    pub take_last : (j : ℕ) → j + 1 ≡ cap → slot base w (take_slot base w cap c r i) j ≡ zeros w
    take_last j m = less_slot j (omega arith) ∙ slot_drop-last base w cap r fits i h j m

  -- the edits keep the array
  module _ (ok : List ℕ → Bool) (k : Array w cap ok (word r c) (slot base w r)) where
    pub put_array : (i : ℕ) → i < word r c → (x : List ℕ) → length x ≡ w → T (ok x) → Array w cap ok (word (put_slot base w r i x) c) (slot base w (put_slot base w r i x))
    put_array i h x e o =
        let b : i < cap = omega (arith, k.most) in
        let n = word_put_slot base w cap r fits i b x e c out in
        array_put w cap ok k _ _ i (omega arith) (omega (arith, k.most)) (omega arith) (omega arith) (rw (slot_put-same base w cap r fits i b x e) o) (slot_put_other base w cap r fits i b x e)

    pub push_array : word r c < cap → (x : List ℕ) → length x ≡ w → T (ok x) → Array w cap ok (word (push_slot base w c r x) c) (slot base w (push_slot base w c r x))
    push_array h x e o =
        let n = push_count h x e in
        array_put w cap ok k _ _ (word r c) (omega arith) (omega arith) (omega arith) (omega arith) (rw (push_same h x e) o) (push_other h x e)

    pub take_array : (i : ℕ) → i < word r c → Array w cap ok (word (take_slot base w cap c r i) c) (slot base w (take_slot base w cap c r i))
    take_array i h =
        let b : i < cap = omega (arith, k.most) in
        array_take w cap ok k _ _ i (take_count i b) h (take_below i b) (take_above i b) (take_last i b)
