-- The laws of parts of a list of words and of slots: what is put is what is read there, and all else is as it was. Assumes nothing.
use mathlib.Core.Path.{◌≡◌, refl, ap, ap₂, subst, sym, ◌∙◌}
use mathlib.Core.Logic.{◌⊎◌, inl, inr, ◌≢◌}
use mathlib.Core.List.{List, ◌++◌, append_assoc}
use Prim.Native.Nat.{ℕ, zero, suc, ◌+◌, ◌-◌, ◌*◌, ◌≤◌, ◌<◌}
use native.Mathlib.Nat.{le_refl, mul-le-mul_left}
use native.Mathlib.Omega.{arith}
use native.Mathlib.Decide.{ℕ_discrete, dec_lt}
use lib.ListN.{length, take, drop, set, replicate, length-append, length-take, length-drop, length-set, length-replicate, get_or-replicate, get_or-append, get_or-eq_default}
use lib.Seq.{get_or-take, get_or-drop, get_or-append-add, ext_get_or, length-take-le, get_or-set_same, get_or-set_other, take_at, drop_at}
use Rattle.definitions.specs.Bounded.{flat}
use Rattle.definitions.specs.Slots.{word, zeros, part, put, slot, put_slot, drop_slot}

pub length-zeros : (n : ℕ) → length (zeros n) ≡ n
unfolding zeros
length-zeros n = length-replicate n 0

pub word-zeros : (n i : ℕ) → word (zeros n) i ≡ 0
unfolding zeros
word-zeros n i = pick (dec_lt i n)
  where
    pick : Dec (i < n) → word (replicate n 0) i ≡ 0
    pick (yes h) = get_or-replicate n i 0 0 h
    pick (no h) = get_or-eq_default (replicate n 0) 0 (omega (arith, length-replicate {A = ℕ} n 0))

-- zeros behind zeros
pub zeros_more : (m n : ℕ) → zeros m ++ zeros n ≡ zeros (m + n)
zeros_more m n =
    ext_get_or 0 (zeros m ++ zeros n) (zeros (m + n))
    (length-append (zeros m) (zeros n) ∙ omega (arith, length-zeros m, length-zeros n, length-zeros (m + n)))
    (λ i h. pick i (dec_lt i m) ∙ sym (word-zeros (m + n) i))
  where
    pick : (i : ℕ) → Dec (i < m) → word (zeros m ++ zeros n) i ≡ 0
    pick i (yes l) = get_or-append (zeros m) (zeros n) 0 i (omega (arith, length-zeros m)) ∙ word-zeros m i
    pick i (no l) =
        ap (word (zeros m ++ zeros n)) (let q : i ≡ length (zeros m) + (i - m) = omega (arith, length-zeros m) in q)
        ∙ get_or-append-add (zeros m) (zeros n) (i - m) 0 ∙ word-zeros n (i - m)

pub take-zeros : (m n : ℕ) → m ≤ n → take m (zeros n) ≡ zeros m
take-zeros m n h =
    let e : n ≡ m + (n - m) = omega arith in
    ap (take m) (ap zeros e ∙ sym (zeros_more m (n - m))) ∙ take_at (zeros m) (zeros (n - m)) m (length-zeros m)

pub drop-zeros : (m n : ℕ) → m ≤ n → drop m (zeros n) ≡ zeros (n - m)
drop-zeros m n h =
    let e : n ≡ m + (n - m) = omega arith in
    ap (drop m) (ap zeros e ∙ sym (zeros_more m (n - m))) ∙ drop_at (zeros m) (zeros (n - m)) m (length-zeros m)

-- ---- parts

pub length_part : (r : List ℕ) (off w : ℕ) → off + w ≤ length r → length (part r off w) ≡ w
unfolding part
length_part r off w h = simp (length-take, length-drop) (omega arith)

pub word-part : (r : List ℕ) (off w i : ℕ) → i < w → word (part r off w) i ≡ word r (off + i)
unfolding part
word-part r off w i h = rw (get_or-take, get_or-drop)

pub length-put : (r : List ℕ) (off : ℕ) (x : List ℕ) → off + length x ≤ length r → length (put r off x) ≡ length r
unfolding put
length-put r off x h = simp (length-append, length-take, length-drop) (omega arith)

-- a word of a join, by where the seam is
pub word_left : (a b : List ℕ) (k : ℕ) → k < length a → word (a ++ b) k ≡ word a k
word_left a b k h = get_or-append a b 0 k h

pub word_right : (a b : List ℕ) (k n : ℕ) → length a ≡ n → n ≤ k → word (a ++ b) k ≡ word b (k - n)
word_right a b k n e h =
    ap (λ (j : ℕ). word (a ++ b) j) (let q : k ≡ length a + (k - n) = omega arith in q) ∙ get_or-append-add a b (k - n) 0

module _ (r : List ℕ) (off : ℕ) (x : List ℕ) (h : off + length x ≤ length r) where
  front : length (take off r) ≡ off
  front = length-take-le off r (omega arith)

  front2 : length (take off r ++ x) ≡ off + length x
  front2 = simp (length-append, front)

  -- ap word at an equation between places
  pub word-put-at : (k : ℕ) → off ≤ k → k < off + length x → word (put r off x) k ≡ word x (k - off)
  unfolding put
  word-put-at k a b =
      word_left (take off r ++ x) (drop (off + length x) r) k (omega (arith, front2))
      ∙ word_right (take off r) x k off front a

  pub word-put_in : (i : ℕ) → i < length x → word (put r off x) (off + i) ≡ word x i
  unfolding put
  word-put_in i k =
      word_left (take off r ++ x) (drop (off + length x) r) (off + i) (omega (arith, front2))
      ∙ word_right (take off r) x (off + i) off front (omega arith)
      ∙ ap (λ (j : ℕ). word x j) (let q : off + i - off ≡ i = omega arith in q)

  pub word-put-before : (k : ℕ) → k < off → word (put r off x) k ≡ word r k
  unfolding put
  word-put-before k l =
      word_left (take off r ++ x) (drop (off + length x) r) k (omega (arith, front2))
      ∙ word_left (take off r) x k (omega (arith, front))
      ∙ get_or-take off r k 0 l

  pub word-put-after : (k : ℕ) → off + length x ≤ k → word (put r off x) k ≡ word r k
  unfolding put
  word-put-after k l =
      word_right (take off r ++ x) (drop (off + length x) r) k (off + length x) front2 l
      ∙ get_or-drop (off + length x) r (k - (off + length x)) 0
      ∙ ap (λ (j : ℕ). word r j) (let q : off + length x + (k - (off + length x)) ≡ k = omega arith in q)

  pub word-put_out : (k : ℕ) → (k < off) ⊎ (off + length x ≤ k) → word (put r off x) k ≡ word r k
  word-put_out k (inl l) = word-put-before k l
  word-put_out k (inr l) = word-put-after k l

-- a list with the words of x from off on, and those of r elsewhere
pub put_is : (r s : List ℕ) (off : ℕ) (x : List ℕ) → off + length x ≤ length r → length s ≡ length r
    → ((j : ℕ) → j < length x → word s (off + j) ≡ word x j) → ((k : ℕ) → (k < off) ⊎ (off + length x ≤ k) → word s k ≡ word r k) → s ≡ put r off x
put_is r s off x room long inside outside =
    ext_get_or 0 s (put r off x) (long ∙ sym (length-put r off x room)) (λ k _. at k (dec_lt k off) (dec_lt k (off + length x)))
  where
    at : (k : ℕ) → Dec (k < off) → Dec (k < off + length x) → word s k ≡ word (put r off x) k
    at k (yes a) b = outside k (inl a) ∙ sym (word-put-before r off x room k a)
    at k (no a) (no b) = outside k (inr (omega arith)) ∙ sym (word-put-after r off x room k (omega arith))
    at k (no a) (yes b) =
        ap (word s) (let z : k ≡ off + (k - off) = omega arith in z)
        ∙ inside (k - off) (omega arith) ∙ sym (word-put-at r off x room k (omega arith) b)

-- a part put where it stands; a word stored among those that are put
pub put-part : (r : List ℕ) (off w : ℕ) → off + w ≤ length r → put r off (part r off w) ≡ r
put-part r off w room =
    let size = length_part r off w room in
    sym (put_is r r off (part r off w) (omega arith) refl (λ j h. sym (word-part r off w j (omega arith))) (λ k o. refl))

pub set-put : (r : List ℕ) (off : ℕ) (x : List ℕ) (j v : ℕ) → off + length x ≤ length r → j < length x
    → set (put r off x) (off + j) v ≡ put r off (set x j v)
set-put r off x j v room h =
    put_is r (set (put r off x) (off + j) v) off (set x j v) room2 (length-set (put r off x) (off + j) v ∙ length-put r off x room)
    (λ q l. pick q (subst (λ (n : ℕ). q < n) size l) (ℕ_discrete j q))
    (λ q o. get_or-set_other (put r off x) (off + j) q v 0 (apart q o) ∙ word-put_out r off x room q (same q o))
  where
    size : length (set x j v) ≡ length x
    size = length-set x j v

    room2 : off + length (set x j v) ≤ length r
    room2 = omega (arith, size)

    apart : (q : ℕ) → (q < off) ⊎ (off + length (set x j v) ≤ q) → q ≢ off + j
    apart q (inl a) = omega arith
    apart q (inr a) = omega (arith, size)

    same : (q : ℕ) → (q < off) ⊎ (off + length (set x j v) ≤ q) → (q < off) ⊎ (off + length x ≤ q)
    same q (inl a) = inl a
    same q (inr a) = inr (omega (arith, size))

    pick : (q : ℕ) → q < length x → Dec (j ≡ q) → word (set (put r off x) (off + j) v) (off + q) ≡ word (set x j v) q
    pick q l (yes z) =
        rw (← z) (get_or-set_same (put r off x) (off + j) v 0 (omega (arith, length-put r off x room)) ∙ sym (get_or-set_same x j v 0 h))
    pick q l (no z) =
        get_or-set_other (put r off x) (off + j) (off + q) v 0 (omega arith) ∙ word-put_in r off x room q l ∙ sym (get_or-set_other x j q v 0 (omega arith))

-- what is put last stands; what is put apart, or stored apart, may be put in either order
pub put-put : (r : List ℕ) (off : ℕ) (x y : List ℕ) → length x ≡ length y → off + length y ≤ length r → put (put r off x) off y ≡ put r off y
put-put r off x y e room =
    let first : off + length x ≤ length r = omega arith in
    let long = length-put r off x first in
    let second : off + length y ≤ length (put r off x) = omega arith in
    put_is r (put (put r off x) off y) off y room (length-put (put r off x) off y second ∙ long)
    (λ j h. word-put_in (put r off x) off y second j h)
    (λ k o. word-put_out (put r off x) off y second k o ∙ word-put_out r off x first k (same k o))
  where
    same : (k : ℕ) → (k < off) ⊎ (off + length y ≤ k) → (k < off) ⊎ (off + length x ≤ k)
    same k (inl a) = inl a
    same k (inr a) = inr (omega arith)

pub put-set : (r : List ℕ) (off : ℕ) (x : List ℕ) (k v : ℕ) → off + length x ≤ length r → (k < off) ⊎ (off + length x ≤ k)
    → put (set r k v) off x ≡ set (put r off x) k v
put-set r off x k v room out =
    let long = length-set r k v in
    let room2 : off + length x ≤ length (set r k v) = omega arith in
    sym (put_is (set r k v) (set (put r off x) k v) off x room2 (length-set (put r off x) k v ∙ length-put r off x room ∙ sym long)
    (λ j h. get_or-set_other (put r off x) k (off + j) v 0 (differ j h out) ∙ word-put_in r off x room j h) (λ q o. pick q o (ℕ_discrete k q)))
  where
    differ : (j : ℕ) → j < length x → (k < off) ⊎ (off + length x ≤ k) → off + j ≢ k
    differ j h (inl a) = omega arith
    differ j h (inr a) = omega arith

    pick : (q : ℕ) → (q < off) ⊎ (off + length x ≤ q) → Dec (k ≡ q) → word (set (put r off x) k v) q ≡ word (set r k v) q
    pick q o (no z) =
        get_or-set_other (put r off x) k q v 0 (omega arith) ∙ word-put_out r off x room q o ∙ sym (get_or-set_other r k q v 0 (omega arith))
    pick q o (yes z) = rw (← z) (stored (dec_lt k (length r)))
      where
        stored : Dec (k < length r) → word (set (put r off x) k v) k ≡ word (set r k v) k
        stored (yes l) =
            get_or-set_same (put r off x) k v 0 (omega (arith, length-put r off x room)) ∙ sym (get_or-set_same r k v 0 l)
        stored (no l) =
            get_or-eq_default (set (put r off x) k v) 0 (omega (arith, length-set (put r off x) k v, length-put r off x room))
            ∙ sym (get_or-eq_default (set r k v) 0 (omega (arith, length-set r k v)))

pub put-apart : (r : List ℕ) (a : ℕ) (x : List ℕ) (b : ℕ) (y : List ℕ) → a + length x ≤ length r → b + length y ≤ length r
    → (a + length x ≤ b) ⊎ (b + length y ≤ a) → put (put r a x) b y ≡ put (put r b y) a x
put-apart r a x b y ra rb o =
    let la = length-put r a x ra in
    let lb = length-put r b y rb in
    let rab : b + length y ≤ length (put r a x) = omega arith in
    let rba : a + length x ≤ length (put r b y) = omega arith in
    put_is (put r b y) (put (put r a x) b y) a x rba (length-put (put r a x) b y rab ∙ la ∙ sym lb)
    (λ j h. word-put_out (put r a x) b y rab (a + j) (inside j h o) ∙ word-put_in r a x ra j h)
    (λ k out. pick k out (dec_lt k b) (dec_lt k (b + length y)))
  where
    inside : (j : ℕ) → j < length x → (a + length x ≤ b) ⊎ (b + length y ≤ a) → (a + j < b) ⊎ (b + length y ≤ a + j)
    inside j h (inl z) = inl (omega arith)
    inside j h (inr z) = inr (omega arith)

    rab : b + length y ≤ length (put r a x)
    rab = omega (arith, length-put r a x ra)

    pick : (k : ℕ) → (k < a) ⊎ (a + length x ≤ k) → Dec (k < b) → Dec (k < b + length y) → word (put (put r a x) b y) k ≡ word (put r b y) k
    pick k out (yes z) w =
        word-put-before (put r a x) b y rab k z ∙ word-put_out r a x ra k out ∙ sym (word-put-before r b y rb k z)
    pick k out (no z) (no w) =
        word-put-after (put r a x) b y rab k (omega arith) ∙ word-put_out r a x ra k out ∙ sym (word-put-after r b y rb k (omega arith))
    pick k out (no z) (yes w) = word-put-at (put r a x) b y rab k (omega arith) w ∙ sym (word-put-at r b y rb k (omega arith) w)

-- two parts are the same where their words are
pub part_ext : (r s : List ℕ) (a b w : ℕ) → a + w ≤ length r → b + w ≤ length s → ((i : ℕ) → i < w → word r (a + i) ≡ word s (b + i)) → part r a w ≡ part s b w
part_ext r s a b w hr hs f =
    ext_get_or 0 (part r a w) (part s b w) (length_part r a w hr ∙ sym (length_part s b w hs)) (λ i h. at i (subst (λ (n : ℕ). i < n) (length_part r a w hr) h))
  where
    at : (i : ℕ) → i < w → word (part r a w) i ≡ word (part s b w) i
    at i h = word-part r a w i h ∙ f i h ∙ sym (word-part s b w i h)

pub part-is : (r : List ℕ) (a w : ℕ) (x : List ℕ) → a + w ≤ length r → length x ≡ w → ((i : ℕ) → i < w → word r (a + i) ≡ word x i) → part r a w ≡ x
part-is r a w x hr e f =
    ext_get_or 0 (part r a w) x (length_part r a w hr ∙ sym e) (λ i h. at i (subst (λ (n : ℕ). i < n) (length_part r a w hr) h))
  where
    at : (i : ℕ) → i < w → word (part r a w) i ≡ word x i
    at i h = word-part r a w i h ∙ f i h

-- ---- the laws of a lens: the part written is what was put; a part that lies apart is as it was

pub part-put-same : (r : List ℕ) (off : ℕ) (x : List ℕ) (w : ℕ) → length x ≡ w → off + w ≤ length r → part (put r off x) off w ≡ x
part-put-same r off x w e h =
    part-is (put r off x) off w x (omega (arith, length-put r off x (omega arith))) e
    (λ i l. word-put_in r off x (omega arith) i (omega arith))

-- the parts lie apart
abbrev pub Apart : ℕ → ℕ → ℕ → ℕ → Type 0
Apart a w b v = (a + w ≤ b) ⊎ (b + v ≤ a)

pub part-put_other : (r : List ℕ) (off : ℕ) (x : List ℕ) (a w : ℕ) → off + length x ≤ length r → a + w ≤ length r → Apart a w off (length x) → part (put r off x) a w ≡ part r a w
part-put_other r off x a w h l (inl p) =
    part_ext (put r off x) r a a w (omega (arith, length-put r off x h)) l (λ i b. word-put-before r off x h (a + i) (omega arith))
part-put_other r off x a w h l (inr p) =
    part_ext (put r off x) r a a w (omega (arith, length-put r off x h)) l (λ i b. word-put-after r off x h (a + i) (omega arith))

pub part-set_other : (r : List ℕ) (k v a w : ℕ) → a + w ≤ length r → Apart a w k 1 → part (set r k v) a w ≡ part r a w
part-set_other r k v a w l (inl p) =
    part_ext (set r k v) r a a w (omega (arith, length-set r k v)) l (λ i b. get_or-set_other r k (a + i) v 0 (omega arith))
part-set_other r k v a w l (inr p) =
    part_ext (set r k v) r a a w (omega (arith, length-set r k v)) l (λ i b. get_or-set_other r k (a + i) v 0 (omega arith))

-- ---- slots

pub word_slot : (base w : ℕ) (r : List ℕ) (i j : ℕ) → j < w → word (slot base w r i) j ≡ word r (base + w * i + j)
unfolding slot
word_slot base w r i j h = word-part r (base + w * i) w j h

module _ (base w cap : ℕ) (r : List ℕ) (fits : base + w * cap ≤ length r) where
  pub slot_length : (i : ℕ) → i < cap → length (slot base w r i) ≡ w
  unfolding slot
  slot_length i h = length_part r (base + w * i) w (omega (arith, mul-le-mul_left w h))

  pub slot_set_other : (k v : ℕ) → Apart k 1 base (w * cap) → (i : ℕ) → i < cap → slot base w (set r k v) i ≡ slot base w r i
  unfolding slot
  slot_set_other k v (inl a) i h = part-set_other r k v (base + w * i) w (omega (arith, mul-le-mul_left w h)) (inr (omega arith))
  slot_set_other k v (inr a) i h = part-set_other r k v (base + w * i) w (omega (arith, mul-le-mul_left w h)) (inl (omega (arith, mul-le-mul_left w h)))

  module _ (i : ℕ) (h : i < cap) (x : List ℕ) (e : length x ≡ w) where
    pub length_put_slot : length (put_slot base w r i x) ≡ length r
    unfolding put_slot
    length_put_slot = length-put r (base + w * i) x (omega (arith, mul-le-mul_left w h))

    pub slot_put-same : slot base w (put_slot base w r i x) i ≡ x
    unfolding slot put_slot
    slot_put-same = part-put-same r (base + w * i) x w e (omega (arith, mul-le-mul_left w h))

    pub slot_put_other : (u : ℕ) → u < cap → u ≢ i → slot base w (put_slot base w r i x) u ≡ slot base w r u
    unfolding slot put_slot
    slot_put_other u k n =
        part-put_other r (base + w * i) x (base + w * u) w (omega (arith, mul-le-mul_left w h)) (omega (arith, mul-le-mul_left w k)) (pick (dec_lt u i))
      where
        pick : Dec (u < i) → Apart (base + w * u) w (base + w * i) (length x)
        pick (yes q) = inl (omega (arith, mul-le-mul_left w q))
        pick (no q) = inr (omega (arith, mul-le-mul_left w (let z : i + 1 ≤ u = omega arith in z)))

    -- a part that lies outside the array
    pub part_put_slot : (a v : ℕ) → a + v ≤ length r → Apart a v base (w * cap) → part (put_slot base w r i x) a v ≡ part r a v
    unfolding put_slot
    part_put_slot a v l (inl q) = part-put_other r (base + w * i) x a v (omega (arith, mul-le-mul_left w h)) l (inl (omega arith))
    part_put_slot a v l (inr q) = part-put_other r (base + w * i) x a v (omega (arith, mul-le-mul_left w h)) l (inr (omega (arith, mul-le-mul_left w h)))

    pub word_put_slot : (k : ℕ) → Apart k 1 base (w * cap) → word (put_slot base w r i x) k ≡ word r k
    unfolding put_slot
    word_put_slot k (inl q) = word-put-before r (base + w * i) x (omega (arith, mul-le-mul_left w h)) k (omega arith)
    word_put_slot k (inr q) = word-put-after r (base + w * i) x (omega (arith, mul-le-mul_left w h)) k (omega (arith, mul-le-mul_left w h))

  module _ (i : ℕ) (h : i < cap) where
    region : List ℕ
    region = part r base (w * cap)

    rest : List ℕ
    rest = drop (w * (i + 1)) region ++ zeros w

    one : w * (i + 1) ≤ w * cap
    one = mul-le-mul_left w (let z : i + 1 ≤ cap = omega arith in z)

    length_region : length region ≡ w * cap
    unfolding region
    length_region = length_part r base (w * cap) fits

    length_rest : length rest ≡ w * cap - w * i
    unfolding rest
    length_rest = simp (length-append, length-drop, length-zeros) (omega (arith, length_region, one))

    room : base + w * i + length rest ≤ length r
    room = omega (arith, length_rest, one)

    pub length_drop_slot : length (drop_slot base w cap r i) ≡ length r
    unfolding drop_slot rest region
    length_drop_slot = length-put r (base + w * i) rest room

    pub word_drop_slot : (k : ℕ) → Apart k 1 base (w * cap) → word (drop_slot base w cap r i) k ≡ word r k
    unfolding drop_slot rest region
    word_drop_slot k (inl q) = word-put-before r (base + w * i) rest room k (omega arith)
    word_drop_slot k (inr q) = word-put-after r (base + w * i) rest room k (omega (arith, length_rest, one))

    pub part_drop_slot : (a v : ℕ) → a + v ≤ length r → Apart a v base (w * cap) → part (drop_slot base w cap r i) a v ≡ part r a v
    unfolding drop_slot rest region
    part_drop_slot a v l (inl q) = part-put_other r (base + w * i) rest a v room l (inl (omega arith))
    part_drop_slot a v l (inr q) = part-put_other r (base + w * i) rest a v room l (inr (omega (arith, length_rest, one)))

    pub slot_drop-below : (u : ℕ) → u < i → slot base w (drop_slot base w cap r i) u ≡ slot base w r u
    unfolding slot drop_slot rest region
    slot_drop-below u q = part-put_other r (base + w * i) rest (base + w * u) w room (omega (arith, one, mul-le-mul_left w q)) (inl (omega (arith, mul-le-mul_left w q)))

    -- a word before slot i is as it was
    pub word-drop-below : (k : ℕ) → k < base + w * i → word (drop_slot base w cap r i) k ≡ word r k
    unfolding drop_slot rest region
    word-drop-below k q = word-put-before r (base + w * i) rest room k q

    -- a word from slot i on: the one a slot on, and zero in the last slot
    pub word-drop_above : (k : ℕ) → base + w * i ≤ k → k + w < base + w * cap → word (drop_slot base w cap r i) k ≡ word r (k + w)
    unfolding drop_slot rest region
    word-drop_above k q m =
        word-put-at r (base + w * i) rest room k q (omega (arith, length_rest))
        ∙ word_left (drop (w * (i + 1)) region) (zeros w) (k - (base + w * i)) (simp length-drop (omega (arith, length_region, one)))
        ∙ get_or-drop (w * (i + 1)) region (k - (base + w * i)) 0
        ∙ word-part r base (w * cap) (w * (i + 1) + (k - (base + w * i))) (omega arith)
        ∙ ap (word r) (let z : base + (w * (i + 1) + (k - (base + w * i))) ≡ k + w = omega arith in z)

    pub word-drop-last : (k : ℕ) → base + w * i ≤ k → base + w * cap ≤ k + w → k < base + w * cap → word (drop_slot base w cap r i) k ≡ 0
    unfolding drop_slot rest region
    word-drop-last k q m l =
        word-put-at r (base + w * i) rest room k q (omega (arith, length_rest))
        ∙ word_right (drop (w * (i + 1)) region) (zeros w) (k - (base + w * i)) (w * cap - w * (i + 1))
        (simp length-drop (omega (arith, length_region))) (omega (arith, one))
        ∙ word-zeros w _

    pub slot_drop_above : (u : ℕ) → i ≤ u → u + 1 < cap → slot base w (drop_slot base w cap r i) u ≡ slot base w r (u + 1)
    unfolding slot
    slot_drop_above u q m =
        let a : w * i ≤ w * u = mul-le-mul_left w q in
        let b : w * (u + 2) ≤ w * cap = mul-le-mul_left w (let z : u + 2 ≤ cap = omega arith in z) in
        part_ext (drop_slot base w cap r i) r (base + w * u) (base + w * (u + 1)) w (omega (arith, length_drop_slot)) (omega arith)
        (λ j l.
        word-drop_above (base + w * u + j) (omega arith) (omega arith)
        ∙ ap (word r) (let z : base + w * u + j + w ≡ base + w * (u + 1) + j = omega arith in z))

    pub slot_drop-last : (u : ℕ) → u + 1 ≡ cap → slot base w (drop_slot base w cap r i) u ≡ zeros w
    unfolding slot
    slot_drop-last u m =
        let a : w * i ≤ w * u = mul-le-mul_left w (omega arith) in
        let b : w * (u + 1) ≡ w * cap = ap (λ (c : ℕ). w * c) m in
        part-is (drop_slot base w cap r i) (base + w * u) w (zeros w) (omega (arith, length_drop_slot)) (length-zeros w)
        (λ j l. word-drop-last (base + w * u + j) (omega arith) (omega arith) (omega arith) ∙ sym (word-zeros w j))

-- ---- so many lists of w words, one behind the other

module _ (w : ℕ) (f : ℕ → List ℕ) (each : (i : ℕ) → length (f i) ≡ w) where
  pub length-flat : (n : ℕ) → length (flat n f) ≡ w * n
  unfolding flat
  length-flat zero = omega arith
  length-flat (suc n) = length-append (flat n f) (f n) ∙ omega (arith, length-flat n, each n)

  pub word_flat : (n i j : ℕ) → i < n → j < w → word (flat n f) (w * i + j) ≡ word (f i) j
  unfolding flat
  word_flat zero i j h l = absurd (omega arith)
  word_flat (suc n) i j h l = pick (ℕ_discrete n i) (word_flat n i j)
    where
      pick : Dec (n ≡ i) → (i < n → j < w → word (flat n f) (w * i + j) ≡ word (f i) j) → word (flat n f ++ f n) (w * i + j) ≡ word (f i) j
      pick (yes e) rest =
          let q : w * n ≡ w * i = ap (λ (k : ℕ). w * k) e in
          word_right (flat n f) (f n) (w * i + j) (w * n) (length-flat n) (omega arith)
          ∙ ap (word (f n)) (let z : w * i + j - w * n ≡ j = omega arith in z) ∙ ap (λ (k : ℕ). word (f k) j) e
      pick (no e) rest =
          let less : i < n = omega arith in
          word_left (flat n f) (f n) (w * i + j) (omega (arith, length-flat n, mul-le-mul_left w less)) ∙ rest less l

  -- slot i is list i, also where other words stand before and behind them
  pub slot_flat : (n i : ℕ) → i < n → slot 0 w (flat n f) i ≡ f i
  unfolding slot
  slot_flat n i h =
      part-is (flat n f) (0 + w * i) w (f i) (omega (arith, length-flat n, mul-le-mul_left w h)) (each i)
      (λ j l. ap (word (flat n f)) (let z : 0 + w * i + j ≡ w * i + j = omega arith in z) ∙ word_flat n i j h l)

  pub slot_between : (base n : ℕ) (a b : List ℕ) → length a ≡ base → (i : ℕ) → i < n → slot base w (a ++ flat n f ++ b) i ≡ f i
  unfolding slot
  slot_between base n a b e i h =
      let more = mul-le-mul_left w h in
      let size = length-append a (flat n f) in
      let flat-size = length-flat n in
      part-is (a ++ flat n f ++ b) (base + w * i) w (f i) (omega (arith, length-append (a ++ flat n f) b)) (each i)
      (λ j l.
      word_left (a ++ flat n f) b (base + w * i + j) (omega arith)
      ∙ word_right a (flat n f) (base + w * i + j) base e (omega arith)
      ∙ ap (word (flat n f)) (let z : base + w * i + j - base ≡ w * i + j = omega arith in z)
      ∙ word_flat n i j h l)

pub flat_cong : (n : ℕ) (f g : ℕ → List ℕ) → ((j : ℕ) → j < n → f j ≡ g j) → flat n f ≡ flat n g
unfolding flat
flat_cong zero f g e = refl
flat_cong (suc n) f g e = ap₂ ◌++◌ (flat_cong n f g (λ j h. e j (omega arith))) (e n (le_refl (suc n)))

pub flat-zeros : (w n : ℕ) → flat n (λ _. zeros w) ≡ zeros (w * n)
unfolding flat zeros
flat-zeros w zero = ap zeros (let z : 0 ≡ w * 0 = omega arith in z)
flat-zeros w (suc n) =
    ap (λ (x : List ℕ). x ++ zeros w) (flat-zeros w n) ∙ zeros_more (w * n) w ∙ ap zeros (let z : w * n + w ≡ w * suc n = omega arith in z)

-- other words of the same number put between two lists
pub put_between : (p q x y : List ℕ) (off : ℕ) → length p ≡ off → length x ≡ length y → put (p ++ x ++ q) off y ≡ p ++ y ++ q
unfolding put
put_between p q x y off e k =
    ap₂ (λ (a b : List ℕ). a ++ y ++ b) (ap (take off) (append_assoc p x q) ∙ take_at p (x ++ q) off e)
    (drop_at (p ++ x) q (off + length y) (length-append p x ∙ omega arith))

-- so many lists of w words, between two others: list i is put anew
module _ (base w : ℕ) (f g : ℕ → List ℕ) (a : List ℕ) (e : length a ≡ base) (each : (j : ℕ) → length (f j) ≡ w) (i : ℕ)
    (here : length (g i) ≡ w) (same : (j : ℕ) → j ≢ i → f j ≡ g j) where
  pub put-flat : (n : ℕ) → i < n → (b : List ℕ) → put_slot base w (a ++ flat n f ++ b) i (g i) ≡ a ++ flat n g ++ b
  unfolding flat put_slot
  put-flat zero h b = absurd (omega arith)
  put-flat (suc n) h b = pick (ℕ_discrete i n) (put-flat n)
    where
      pick : Dec (i ≡ n) → (i < n → (b : List ℕ) → put (a ++ flat n f ++ b) (base + w * i) (g i) ≡ a ++ flat n g ++ b)
          → put (a ++ (flat n f ++ f n) ++ b) (base + w * i) (g i) ≡ a ++ (flat n g ++ g n) ++ b
      pick (yes q) rest =
          let size : length (a ++ flat n f) ≡ base + w * i =
          length-append a (flat n f) ∙ omega (arith, length-flat w f each n, ap (λ (k : ℕ). w * k) q) in
          ap (λ (x : List ℕ). put (x ++ b) (base + w * i) (g i)) (sym (append_assoc a (flat n f) (f n)))
          ∙ put_between (a ++ flat n f) b (f n) (g i) (base + w * i) size (each n ∙ sym here)
          ∙ ap₂ (λ (x y : List ℕ). a ++ x ++ y ++ b) (flat_cong n f g (λ j l. same j (omega arith))) (ap g q)
          ∙ ap (λ (x : List ℕ). x ++ b) (append_assoc a (flat n g) (g n))
      pick (no q) rest =
          let out : (x y : List ℕ) → a ++ (x ++ y) ++ b ≡ a ++ x ++ (y ++ b) = λ x y. simp append_assoc in
          ap (λ (x : List ℕ). put x (base + w * i) (g i)) (out (flat n f) (f n)) ∙ rest (omega arith) (f n ++ b)
          ∙ sym (out (flat n g) (f n)) ∙ ap (λ (x : List ℕ). a ++ (flat n g ++ x) ++ b) (same n (omega arith))
