-- The edits of a record: a word that is stored in a slot, words copied, moved down and cleared. Assumes nothing.
use mathlib.Core.Path.{◌≡◌, ap, sym, ◌∙◌}
use mathlib.Core.Logic.{◌⊎◌, inl, inr}
use mathlib.Core.List.{List, ◌++◌}
use Prim.Native.Nat.{ℕ, ◌+◌, ◌-◌, ◌*◌, ◌/◌, ◌%◌, ◌≤◌, ◌<◌}
use native.Mathlib.Nat.{mul-le-mul_left}
use native.Mathlib.Omega.{arith}
use native.Mathlib.Decide.{dec_lt}
use borrow.Author.Rules.{rules}
use lib.ListN.{length, take, drop, set, replicate, length-take, length-drop, length-set}
use Rattle.std.specs.List.{CopiedTo, SameBelow, SameFrom}
use lib.Seq.{ext_get_or}
use Rattle.definitions.specs.Slots.{word, zeros, part, put, slot, put_slot, drop_slot, push_slot, take_slot}
use Rattle.definitions.specs.Record.{threads, thread, site, put_thread, push_thread, take_thread, put_site, goto, bind, set_flag}
use Rattle.definitions.proofs.Slots.{length-zeros, word-put-before, word-put-after, word-put_in, word-zeros, length_part, length-put, put_is, put-part, set-put, put-put, word_slot, slot_length, slot_put-same, length_drop_slot, word-drop-below, word-drop_above, word-drop-last}
use Rattle.state.specs.Edits.{DeadThreads}
use Rattle.state.proofs.Parts.{back-part}

-- word j of slot i is stored: the slot is put with that word in it
module _ (base w cap : ℕ) (r : List ℕ) (fits : base + w * cap ≤ length r) (i : ℕ) (h : i < cap) where
  pub set_slot : (j v k : ℕ) → j < w → k ≡ base + w * i + j → set r k v ≡ put_slot base w r i (set (slot base w r i) j v)
  unfolding put_slot slot
  set_slot j v k l e =
      let room : base + w * i + w ≤ length r = omega (arith, mul-le-mul_left w h) in
      let size = length_part r (base + w * i) w room in
      ap (λ (x : List ℕ). set x k v) (sym (put-part r (base + w * i) w room))
      ∙ ap (λ (q : ℕ). set (put r (base + w * i) (part r (base + w * i) w)) q v) e
      ∙ set-put r (base + w * i) (part r (base + w * i) w) j v (omega arith) (omega arith)

pub goto-stored : (r : List ℕ) (t l : ℕ) → length r ≡ 1139 → t < 16 → set r (163 + 61 * t) l ≡ put_thread r t (goto (thread r t) l)
goto-stored r t l e h = set_slot 163 61 16 r (omega arith) t h 0 l (163 + 61 * t) (omega arith) (omega arith)

pub bind-stored : (r : List ℕ) (t n v : ℕ) → length r ≡ 1139 → t < 16 → n < 60 → set r (163 + 61 * t + (1 + n)) v ≡ put_thread r t (bind (thread r t) n v)
bind-stored r t n v e h l = set_slot 163 61 16 r (omega arith) t h (1 + n) v (163 + 61 * t + (1 + n)) (omega arith) (omega arith)

pub flag-stored : (r : List ℕ) (i f : ℕ) → length r ≡ 1139 → i < 16 → set r (3 + 10 * i + 1) f ≡ put_site r i (set_flag (site r i) f)
flag-stored r i f e h = set_slot 3 10 16 r (omega arith) i h 1 f (3 + 10 * i + 1) (omega arith) (omega arith)

-- ---- threads

-- the words of a thread are copied behind the last, the line is stored, and the count: the thread is put behind the last
pub appended : (r s : List ℕ) (t n l w : ℕ) → length r ≡ 1139 → t < threads r → threads r < 16 → n ≡ threads r → w ≡ 61 → length s ≡ length r
    → CopiedTo r s (163 + 61 * t) (163 + 61 * n) w → SameBelow r s (163 + 61 * n) → SameFrom r s (163 + 61 * n + w)
    → set (set s (163 + 61 * n) l) 1 (n + 1) ≡ push_thread r (goto (thread r t) l)
unfolding push_slot put_slot
appended r s t n l w size live room e wide same copied below from =
    ap (λ (x : List ℕ). set x 1 (n + 1)) (ap (λ (x : List ℕ). set x (163 + 61 * n) l) copy ∙ stored)
    ∙ ap (λ (i : ℕ). set (put r (163 + 61 * i) (goto (thread r t) l)) 1 (i + 1)) e
  where
    y : List ℕ
    y = thread r t

    long : length y ≡ 61
    long = slot_length 163 61 16 r (omega arith) t (omega arith)

    inside : 163 + 61 * n + length y ≤ length r
    inside = omega (arith, long)

    copy : s ≡ put r (163 + 61 * n) y
    copy =
        put_is r s (163 + 61 * n) y inside same
        (λ j h. copied (163 + 61 * n + j) 0 (omega arith) (omega (arith, long))
        ∙ ap (word r) (let z : 163 + 61 * t + (163 + 61 * n + j - (163 + 61 * n)) ≡ 163 + 61 * t + j = omega arith in z)
        ∙ sym (word_slot 163 61 r t j (omega (arith, long))))
        kept
      where
        kept : (q : ℕ) → (q < 163 + 61 * n) ⊎ (163 + 61 * n + length y ≤ q) → word s q ≡ word r q
        kept q (inl a) = below q 0 a
        kept q (inr a) = from q 0 (omega (arith, long))

    s1 : List ℕ
    s1 = put r (163 + 61 * n) y

    size1 : length s1 ≡ 1139
    size1 = length-put r (163 + 61 * n) y inside ∙ size

    stored : set s1 (163 + 61 * n) l ≡ put r (163 + 61 * n) (goto y l)
    stored =
        set_slot 163 61 16 s1 (omega (arith, size1)) n (omega arith) 0 l (163 + 61 * n) (omega arith) (omega arith)
        ∙ ap (λ (x : List ℕ). put s1 (163 + 61 * n) (goto x l)) (slot_put-same 163 61 16 r (omega arith) n (omega arith) y long)
        ∙ put-put r (163 + 61 * n) y (goto y l) (sym (length-set y 0 l)) (omega (arith, length-set y 0 l, long))

-- a word past the last thread is zero
dead_word : (r : List ℕ) → DeadThreads r → (k : ℕ) → 163 + 61 * threads r ≤ k → k < 1139 → word r k ≡ 0
dead_word r d k a b =
    let i = (k - 163) / 61 in
    let j = (k - 163) % 61 in
    let e : k ≡ 163 + 61 * i + j = omega arith in
    let h : i < 16 = omega arith in
    let l : threads r ≤ i = omega arith in
    ap (word r) e ∙ sym (word_slot 163 61 r i j (omega arith)) ∙ ap (λ (x : List ℕ). word x j) (d.dead i h l) ∙ word-zeros 61 j

-- 61 words from place a on are cleared
pub cleared_part : (s x : List ℕ) (a : ℕ) → a + 61 ≤ length s → x ≡ replicate (length (take (a + 61 - a) (drop a s))) 0
    → take a s ++ (x ++ drop (a + 61 - a) (drop a s)) ≡ put s a (zeros 61)
unfolding zeros
cleared_part s x a room e =
    let n : length (take (a + 61 - a) (drop a s)) ≡ 61 = simp (length-take, length-drop) (omega arith) in
    let same : x ≡ zeros 61 = e ∙ ap (λ (m : ℕ). replicate m 0) n in
    back-part s x a (a + 61) (omega arith) (ap length same ∙ length-zeros 61 ∙ omega arith) ∙ ap (put s a) same

-- the later threads are moved down, the last one is cleared, and the count is stored: the thread is taken out
pub removed : (r s : List ℕ) (t n w : ℕ) → length r ≡ 1139 → DeadThreads r → t < threads r → n ≡ threads r → w ≡ 61 * (n - 1 - t) → length s ≡ length r
    → CopiedTo r s (163 + 61 * t + 61) (163 + 61 * t) w → SameBelow r s (163 + 61 * t) → SameFrom r s (163 + 61 * t + w)
    → set (put s (163 + 61 * (n - 1)) (zeros 61)) 1 (n - 1) ≡ take_thread r t
unfolding take_slot
removed r s t n w size d live e wide same copied below from =
    ap (λ (x : List ℕ). set x 1 last) cleared ∙ ap (λ (v : ℕ). set (drop_slot 163 61 16 r t) 1 (v - 1)) e
  where
    last : ℕ
    last = n - 1

    fits : 163 + 61 * 16 ≤ length r
    fits = omega arith

    low : t < 16
    low = omega (arith, d.most)

    most : threads r ≤ 16
    most = d.most

    dropped : List ℕ
    dropped = drop_slot 163 61 16 r t

    q : List ℕ
    q = put s (163 + 61 * last) (zeros 61)

    wide_of : length (zeros 61) ≡ 61
    wide_of = length-zeros 61

    inside : 163 + 61 * last + length (zeros 61) ≤ length s
    inside = omega (arith, wide_of)

    before : (k : ℕ) → k < 163 + 61 * last → word q k ≡ word s k
    before k a = word-put-before s (163 + 61 * last) (zeros 61) inside k a

    at-first : (k : ℕ) → k < 163 + 61 * t → word q k ≡ word dropped k
    at-first k a = before k (omega arith) ∙ below k 0 a ∙ sym (word-drop-below 163 61 16 r fits t low k a)

    moved : (k : ℕ) → 163 + 61 * t ≤ k → k < 163 + 61 * last → word q k ≡ word dropped k
    moved k a b =
        before k b ∙ copied k 0 a (omega arith)
        ∙ ap (word r) (let z : 163 + 61 * t + 61 + (k - (163 + 61 * t)) ≡ k + 61 = omega arith in z) ∙ sym (word-drop_above 163 61 16 r fits t low k a (omega arith))

    behind : (k : ℕ) → 163 + 61 * last ≤ k → k < 1139 → word dropped k ≡ 0
    behind k a b = pick (dec_lt (k + 61) 1139)
      where
        pick : Dec (k + 61 < 1139) → word dropped k ≡ 0
        pick (yes z) = word-drop_above 163 61 16 r fits t low k (omega arith) z ∙ dead_word r d (k + 61) (omega arith) z
        pick (no z) = word-drop-last 163 61 16 r fits t low k (omega arith) (omega arith) b

    freed : (k : ℕ) → 163 + 61 * last ≤ k → k < 1139 → Dec (k < 163 + 61 * last + 61) → word q k ≡ 0
    freed k a b (yes z) =
        let j = k - (163 + 61 * last) in
        ap (word q) (let p : k ≡ 163 + 61 * last + j = omega arith in p)
        ∙ word-put_in s (163 + 61 * last) (zeros 61) inside j (omega (arith, wide_of)) ∙ word-zeros 61 j
    freed k a b (no z) =
        word-put-after s (163 + 61 * last) (zeros 61) inside k (omega (arith, wide_of)) ∙ from k 0 (omega arith) ∙ dead_word r d k (omega arith) b

    at : (k : ℕ) → k < 1139 → Dec (k < 163 + 61 * t) → Dec (k < 163 + 61 * last) → word q k ≡ word dropped k
    at k h (yes a) b = at-first k a
    at k h (no a) (yes b) = moved k (omega arith) b
    at k h (no a) (no b) = freed k (omega arith) h (dec_lt k (163 + 61 * last + 61)) ∙ sym (behind k (omega arith) h)

    long : length q ≡ length r
    long = length-put s (163 + 61 * last) (zeros 61) inside ∙ same

    cleared : q ≡ dropped
    cleared =
        ext_get_or 0 q dropped (long ∙ sym (length_drop_slot 163 61 16 r fits t low))
        (λ k h. at k (omega (arith, long)) (dec_lt k (163 + 61 * t)) (dec_lt k (163 + 61 * last)))

pub ruleset stores = (rules, goto-stored, bind-stored, flag-stored)
