-- A slot lent to a call as a part of the whole, `&mut s[a..a + w]`: what is lent, and the whole once it is back. What the borrow checker
-- then has is `put_mid` of borrow.Rule.Slice.PartMut, written out here. Assumes nothing.
use mathlib.Core.Path.{◌≡◌, sym, ap, ap₂, ◌∙◌}
use mathlib.Core.List.{List, ◌++◌, append_assoc}
use Prim.Native.Nat.{ℕ, ◌+◌, ◌-◌, ◌*◌, ◌≤◌}
use native.Mathlib.Omega.{arith}
use lib.ListN.{length, take, drop}
use lib.Seq.{drop-drop}
use Rattle.definitions.specs.Slots.{part, put, slot, put_slot}
use Rattle.definitions.specs.Record.{site, put_site, record_of, put_record}

pub back-part : (s x : List ℕ) (a e : ℕ) → a ≤ e → length x ≡ e - a → take a s ++ (x ++ drop (e - a) (drop a s)) ≡ put s a x
unfolding put
back-part s x a e h l =
    sym (append_assoc (take a s) x (drop (e - a) (drop a s)))
    ∙ ap (λ (y : List ℕ). take a s ++ x ++ y)
    (drop-drop (e - a) a s ∙ ap (λ (n : ℕ). drop n s) (let z : a + (e - a) ≡ a + length x = omega arith in z))

-- slot i of those that begin at word `base`, with its place a as the code has it
module _ (base w : ℕ) (s : List ℕ) (i a : ℕ) (e : a ≡ base + w * i) where
  pub lent_slot : take (a + w - a) (drop a s) ≡ slot base w s i
  unfolding slot part
  lent_slot = ap₂ (λ (n k : ℕ). take n (drop k s)) (let z : a + w - a ≡ w = omega arith in z) e

  pub back_slot : (x : List ℕ) → length x ≡ w → take a s ++ (x ++ drop (a + w - a) (drop a s)) ≡ put_slot base w s i x
  unfolding put_slot
  back_slot x l = back-part s x a (a + w) (omega arith) (omega arith) ∙ ap (λ (k : ℕ). put s k x) e

-- the record of box b; site i of a record
pub back_record : (st r : List ℕ) (b : ℕ) → length r ≡ 1139
    → take (1139 * b) st ++ (r ++ drop (1139 * b + 1139 - 1139 * b) (drop (1139 * b) st)) ≡ put_record st b r
back_record st r b l = back_slot 0 1139 st b (1139 * b) (omega arith) r l

pub lent-site : (r : List ℕ) (i : ℕ) → take (3 + 10 * i + 10 - (3 + 10 * i)) (drop (3 + 10 * i) r) ≡ site r i
lent-site r i = lent_slot 3 10 r i (3 + 10 * i) (omega arith)

pub back-site : (r x : List ℕ) (i : ℕ) → length x ≡ 10
    → take (3 + 10 * i) r ++ (x ++ drop (3 + 10 * i + 10 - (3 + 10 * i)) (drop (3 + 10 * i) r)) ≡ put_site r i x
back-site r x i l = back_slot 3 10 r i (3 + 10 * i) (omega arith) x l

-- the record of box b as the first words of what follows its place, and the state with another record written there
pub first_words : (st : List ℕ) (b : ℕ) → take 1139 (drop (1139 * b) st) ≡ record_of st b
unfolding slot part
first_words st b = ap (λ (n : ℕ). take 1139 (drop n st)) (let z : 1139 * b ≡ 0 + 1139 * b = omega arith in z)

pub back_first : (st r : List ℕ) (b : ℕ) → length r ≡ 1139 → take (1139 * b) st ++ (r ++ drop 1139 (drop (1139 * b) st)) ≡ put_record st b r
back_first st r b l =
    ap (λ (n : ℕ). take (1139 * b) st ++ (r ++ drop n (drop (1139 * b) st))) (let z : 1139 ≡ 1139 * b + 1139 - 1139 * b = omega arith in z)
    ∙ back_record st r b l
