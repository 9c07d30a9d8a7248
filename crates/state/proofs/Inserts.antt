-- A held name put into the words of a type, one place after the other. Assumes nothing.
use mathlib.Core.Path.{◌≡◌, refl, ap, sym, ◌∙◌}
use mathlib.Core.Logic.{◌≢◌}
use mathlib.Core.Bool.{Bool, true, false}
use mathlib.Core.List.{List, [], ◌∷◌, ◌++◌, append_assoc}
use Prim.Native.Nat.{ℕ, zero, suc, ◌+◌, ◌-◌, ◌≤◌, ◌<◌, min, max, zero-le}
use native.Mathlib.Numerals.{add-one}
use native.Mathlib.Omega.{arith}
use native.Mathlib.Decide.{dec_lt}
use borrow.Author.Rules.{rules}
use lib.ListN.{length, take, drop, set, length-append, length-take, length-drop}
use lib.Seq.{drop-cons, drop-length, set_at, get_or_at}
use Rattle.std.proofs.lemmas.List.{set-get_or}
use Rattle.definitions.specs.Bounded.{◌is◌, ◌below◌}
use Rattle.definitions.specs.Slots.{word, zeros, part, put}
use Rattle.definitions.specs.Start.{insert}
use Rattle.definitions.proofs.Bounded.{is_iff, below_iff, true_of, false_of}
use Rattle.definitions.proofs.TypeWords.{All, Ascends, Place, before, there, behind, place, insert-first}
use Rattle.definitions.proofs.Slots.{take-zeros}
use Rattle.state.specs.Edits.{inserted}
use Rattle.state.proofs.Parts.{back-part}

-- the three ways on at a word y
module _ (x y : ℕ) (ys : List ℕ) where
  above : Bool → List ℕ
  above b = elim b as (λ _. List ℕ) [ true ↦ x ∷ inserted y ys | false ↦ y ∷ inserted x ys ]

  past : Bool → List ℕ
  past b = elim b as (λ _. List ℕ) [ true ↦ x ∷ ys | false ↦ above (x below y) ]

  ways : Bool → List ℕ
  ways b = elim b as (λ _. List ℕ) [ true ↦ y ∷ ys | false ↦ past (y is 0) ]

  inserted_same : y ≡ x → inserted x (y ∷ ys) ≡ y ∷ ys
  unfolding inserted above past ways
  inserted_same e = ap ways (true_of (y is x) ((is_iff y x).1 e))

  inserted-last : y ≢ x → y ≡ 0 → inserted x (y ∷ ys) ≡ x ∷ ys
  unfolding inserted above past ways
  inserted-last n e = ap ways (false_of (y is x) (λ t. n ((is_iff y x).0 t))) ∙ ap past (true_of (y is 0) ((is_iff y 0).1 e))

  inserted_on : y ≢ x → y ≢ 0 → inserted x (y ∷ ys) ≡ min x y ∷ inserted (max x y) ys
  unfolding inserted above past ways
  inserted_on n z =
      ap ways (false_of (y is x) (λ t. n ((is_iff y x).0 t))) ∙ ap past (false_of (y is 0) (λ t. z ((is_iff y 0).0 t))) ∙ pick (dec_lt x y)
    where
      pick : Dec (x < y) → above (x below y) ≡ min x y ∷ inserted (max x y) ys
      pick (yes h) =
          let a : min x y ≡ x = omega arith in
          let b : max x y ≡ y = omega arith in
          ap above (true_of (x below y) ((below_iff x y).1 h)) ∙ sym (ap (λ (q : ℕ). q ∷ inserted (max x y) ys) a ∙ ap (λ (q : ℕ). x ∷ inserted q ys) b)
      pick (no h) =
          let a : min x y ≡ y = omega arith in
          let b : max x y ≡ x = omega arith in
          ap above (false_of (x below y) (λ t. h ((below_iff x y).0 t))) ∙ sym (ap (λ (q : ℕ). q ∷ inserted (max x y) ys) a ∙ ap (λ (q : ℕ). y ∷ inserted q ys) b)

-- before place j: the front words are those of the outcome, the others are as they were, and x is still to be put in
pub record Inserting (old : List ℕ) (v j x : ℕ) (new : List ℕ) : Type 0 where
  pub high : j ≤ length old
  pub front : List ℕ
  pub long : length front ≡ j
  pub words : new ≡ front ++ drop j old
  pub gives : front ++ inserted x (drop j old) ≡ inserted v old

module _ {old : List ℕ} {v j x : ℕ} {new : List ℕ} (k : Inserting old v j x new) (h : j < length old) where
  y : ℕ
  y = word old j

  ys : List ℕ
  ys = drop (suc j) old

  rest : drop j old ≡ y ∷ ys
  unfolding y ys
  rest = drop-cons old j 0 h

  all : new ≡ k.front ++ y ∷ ys
  all = k.words ∙ ap (λ (l : List ℕ). k.front ++ l) rest

  here : word new j ≡ y
  here = ap (λ (l : List ℕ). word l j) all ∙ get_or_at k.front y ys 0 j k.long

  stored : (z : ℕ) → set new j z ≡ k.front ++ z ∷ ys
  stored z = ap (λ (l : List ℕ). set l j z) all ∙ set_at k.front y ys z j k.long

  gives : k.front ++ inserted x (y ∷ ys) ≡ inserted v old
  gives = ap (λ (l : List ℕ). k.front ++ inserted x l) (sym rest) ∙ k.gives

  pub insert-same : word new j ≡ x → set new j (word new j) ≡ inserted v old
  insert-same e = set-get_or new j 0 ∙ all ∙ ap (λ (l : List ℕ). k.front ++ l) (sym (inserted_same x y ys (sym here ∙ e))) ∙ gives

  pub insert-last : word new j ≢ x → word new j ≡ 0 → set new j x ≡ inserted v old
  insert-last n e = stored x ∙ ap (λ (l : List ℕ). k.front ++ l) (sym (inserted-last x y ys (λ q. n (here ∙ q)) (sym here ∙ e))) ∙ gives

  pub insert_on : word new j ≢ x → word new j ≢ 0 → (low high : ℕ) → low ≡ min x (word new j) → high ≡ max x (word new j)
      → Inserting old v (j + 1) high (set new j low)
  unfolding ys
  insert_on n z low high el eh =
      let next : drop (j + 1) old ≡ ys = ap (λ (i : ℕ). drop i old) (add-one j) in
      let lowest : low ≡ min x y = el ∙ ap (min x) here in
      let highest : high ≡ max x y = eh ∙ ap (max x) here in
      let outcome = inserted_on x y ys (λ q. n (here ∙ q)) (λ q. z (here ∙ q)) in
      record {
        high = omega arith;
        front = k.front ++ (low ∷ []);
        long = length-append k.front (low ∷ []) ∙ omega (arith, k.long);
        words = stored low ∙ sym (append_assoc k.front (low ∷ []) (drop (j + 1) old) ∙ ap (λ (l : List ℕ). k.front ++ low ∷ l) next);
        gives =
            append_assoc k.front (low ∷ []) (inserted high (drop (j + 1) old))
            ∙ ap (λ (l : List ℕ). k.front ++ low ∷ inserted high l) next
            ∙ ap (λ (l : List ℕ). k.front ++ l) (ap (λ (q : ℕ). q ∷ inserted high ys) lowest ∙ ap (λ (q : ℕ). min x y ∷ inserted q ys) highest ∙ sym outcome)
            ∙ gives;
      }

pub insert-start : (old : List ℕ) (v : ℕ) → Inserting old v 0 v old
insert-start old v = record {
  high = zero-le;
  front = [];
  long = refl;
  words = refl;
  gives = refl;
}

pub insert_end : {old : List ℕ} {v j x : ℕ} {new : List ℕ} → Inserting old v j x new → length old ≤ j → new ≡ inserted v old
unfolding inserted
insert_end {old} {v} {j} {x} {new} k h =
    k.words ∙ ap (λ (l : List ℕ). k.front ++ l) (none ∙ sym (ap (inserted x) none)) ∙ k.gives
  where
    none : drop j old ≡ []
    none = ap (λ (i : ℕ). drop i old) (let e : j ≡ length old = omega (arith, k.high) in e) ∙ drop-length old

-- the eight words from place `at` on, lent as a part of the record, are back with v put in
pub insert_back : (r x : List ℕ) (at v : ℕ) → at + 8 ≤ length r → length x ≡ length (take (at + 8 - at) (drop at r)) → x ≡ inserted v (take (at + 8 - at) (drop at r))
    → take at r ++ (x ++ drop (at + 8 - at) (drop at r)) ≡ put r at (inserted v (part r at 8))
unfolding part
insert_back r x at v room size e =
    let wide : at + 8 - at ≡ 8 = omega arith in
    let long : length (take (at + 8 - at) (drop at r)) ≡ at + 8 - at = simp (length-take, length-drop) (omega arith) in
    back-part r x at (at + 8) (omega arith) (size ∙ long) ∙ ap (put r at) (e ∙ ap (λ (n : ℕ). inserted v (take n (drop at r))) wide)

-- ---- words of a type with a held name put in are the words of the list with it inserted

pub inserted_padded : (v : ℕ) → v ≢ 0 → (l : List ℕ) → All (λ y. y ≢ 0) l → Ascends l → (c k : ℕ) → c ≤ k
    → inserted v (take c (l ++ zeros k)) ≡ take c (insert v l ++ zeros k)
unfolding inserted zeros insert
inserted_padded v h l a b zero k m = refl
inserted_padded v h [] a b (suc c) zero m = absurd (omega arith)
inserted_padded v h [] a b (suc c) (suc k) m =
    inserted-last v 0 (take c (zeros k)) (λ e. h (sym e)) refl
    ∙ ap (λ (x : List ℕ). v ∷ x) (take-zeros c k (omega arith) ∙ sym (take-zeros c (suc k) (omega arith)))
inserted_padded v h (y ∷ ys) a b (suc c) k m = go (place v y ys) (inserted_padded v h ys a.1 b.1 c k (omega arith)) (inserted_padded y a.0 ys a.1 b.1 c k (omega arith))
  where
    rest : List ℕ
    rest = take c (ys ++ zeros k)

    go : Place v y ys (insert v (y ∷ ys)) → inserted v rest ≡ take c (insert v ys ++ zeros k) → inserted y rest ≡ take c (insert y ys ++ zeros k)
        → inserted v (y ∷ rest) ≡ take (suc c) (insert v (y ∷ ys) ++ zeros k)
    go (before q e) f g =
        let low : min v y ≡ v = omega arith in
        let high : max v y ≡ y = omega arith in
        inserted_on v y rest (omega arith) a.0
        ∙ ap (λ (n : ℕ). n ∷ inserted (max v y) rest) low ∙ ap (λ (n : ℕ). v ∷ inserted n rest) high
        ∙ ap (λ (x : List ℕ). v ∷ x) (g ∙ ap (λ (x : List ℕ). take c (x ++ zeros k)) (insert-first y ys b.0))
        ∙ ap (λ (x : List ℕ). take (suc c) (x ++ zeros k)) (sym e)
    go (there q e) f g = inserted_same v y rest (sym q) ∙ ap (λ (x : List ℕ). take (suc c) (x ++ zeros k)) (sym e)
    go (behind q e) f g =
        let low : min v y ≡ y = omega arith in
        let high : max v y ≡ v = omega arith in
        inserted_on v y rest (omega arith) a.0
        ∙ ap (λ (n : ℕ). n ∷ inserted (max v y) rest) low ∙ ap (λ (n : ℕ). y ∷ inserted n rest) high
        ∙ ap (λ (x : List ℕ). y ∷ x) f ∙ ap (λ (x : List ℕ). take (suc c) (x ++ zeros k)) (sym e)

pub ruleset inserts = (rules, insert-start, insert-same, insert-last, insert_on, insert_end, insert_back)
