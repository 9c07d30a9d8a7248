-- The words of a type: 8 words, the held names of its names first, ascending, then zeros. Assumes nothing.
use mathlib.Core.Path.{◌≡◌, refl, ap, ap₂, subst, sym, ◌∙◌}
use mathlib.Core.Logic.{◌⊎◌, inl, inr, ◌≢◌}
use mathlib.Core.Bool.{Bool, true, false}
use mathlib.Core.List.{List, [], ◌∷◌, ◌++◌, append-nil, map}
use Prim.Native.Nat.{ℕ, zero, suc, ◌+◌, ◌-◌, ◌≤◌, ◌<◌}
use native.Mathlib.Nat.{le_refl, lt_trans, not-suc-le-zero, le_of_suc-le-suc}
use native.Mathlib.Numerals.{add-one}
use native.Mathlib.Omega.{arith}
use native.Mathlib.Decide.{dec_lt}
use lib.Dec.{T}
use lib.ListN.{length, take, length-append, length-take, length-map, get_or-eq_default}
use lib.Seq.{get_or-take, take-append-add}
use Rattle.definitions.specs.Bounded.{◌is◌, ◌below◌}
use Rattle.definitions.specs.Sets.{has, members_below, members, size}
use Rattle.definitions.specs.Slots.{word, zeros}
use Rattle.definitions.specs.Record.{held}
use Rattle.definitions.specs.Start.{insert, ascending, type_words, free_held}
use Rattle.definitions.proofs.Bounded.{is_iff, below_iff, decide, true_of, false_of}
use Rattle.definitions.proofs.Slots.{length-zeros, word-zeros, take-zeros, word_left, word_right}
use Rattle.definitions.proofs.Sets.{length-members}

-- ---- lists whose entries all have a property, and lists that ascend

abbrev pub All : (ℕ → Type 0) → List ℕ → Type 0
All P [] = Unit
All P (x ∷ xs) = P x × All P xs

abbrev pub Ascends : List ℕ → Type 0
Ascends [] = Unit
Ascends (x ∷ xs) = All (λ y. x < y) xs × Ascends xs

pub all_imp : (P Q : ℕ → Type 0) → ((n : ℕ) → P n → Q n) → (xs : List ℕ) → All P xs → All Q xs
all_imp P Q f [] a = tt
all_imp P Q f (x ∷ xs) a = (f x a.0, all_imp P Q f xs a.1)

pub all_append : (P : ℕ → Type 0) (xs ys : List ℕ) → All P xs → All P ys → All P (xs ++ ys)
all_append P [] ys a b = b
all_append P (x ∷ xs) ys a b = (a.0, all_append P xs ys a.1 b)

pub all_map : (P : ℕ → Type 0) (f : ℕ → ℕ) (xs : List ℕ) → All (λ n. P (f n)) xs → All P (map f xs)
all_map P f [] a = tt
all_map P f (x ∷ xs) a = (a.0, all_map P f xs a.1)

pub all_at : (P : ℕ → Type 0) (xs : List ℕ) → All P xs → (i : ℕ) → i < length xs → P (word xs i)
all_at P [] a i h = absurd (not-suc-le-zero h)
all_at P (x ∷ xs) a zero h = a.0
all_at P (x ∷ xs) a (suc i) h = all_at P xs a.1 i (le_of_suc-le-suc h)

pub ascends_at : (xs : List ℕ) → Ascends xs → (i : ℕ) → suc i < length xs → word xs i < word xs (suc i)
ascends_at [] a i h = absurd (not-suc-le-zero h)
ascends_at (x ∷ xs) a zero h = all_at (λ y. x < y) xs a.0 0 (le_of_suc-le-suc h)
ascends_at (x ∷ xs) a (suc i) h = ascends_at xs a.1 i (le_of_suc-le-suc h)

-- ---- inserting

-- where v goes: before x, at x, or behind x
pub data Place (v x : ℕ) (xs ys : List ℕ) : Type 0 where
  before : v < x → ys ≡ v ∷ x ∷ xs → Place v x xs ys
  there : v ≡ x → ys ≡ x ∷ xs → Place v x xs ys
  behind : x < v → ys ≡ x ∷ insert v xs → Place v x xs ys

pub place : (v x : ℕ) (xs : List ℕ) → Place v x xs (insert v (x ∷ xs))
unfolding insert
place v x xs = pick (decide (v below x)) (decide (v is x))
  where
    -- insert, with its two tests answered
    answered : Bool → Bool → List ℕ
    answered a b = elim a [ true ↦ v ∷ x ∷ xs | false ↦ elim b [ true ↦ x ∷ xs | false ↦ x ∷ insert v xs ] ]

    pick : T (v below x) ⊎ (T (v below x) → ⊥) → T (v is x) ⊎ (T (v is x) → ⊥) → Place v x xs (insert v (x ∷ xs))
    pick (inl t) d = before ((below_iff v x).0 t) (ap (λ (a : Bool). answered a (v is x)) (true_of (v below x) t))
    pick (inr f) (inl u) = there ((is_iff v x).0 u) (ap₂ answered (false_of (v below x) f) (true_of (v is x) u))
    pick (inr f) (inr g) =
        let a : v < x → ⊥ = λ h. f ((below_iff v x).1 h) in
        let b : v ≡ x → ⊥ = λ h. g ((is_iff v x).1 h) in
        behind (omega arith) (ap₂ answered (false_of (v below x) f) (false_of (v is x) g))

pub insert_all : (P : ℕ → Type 0) (v : ℕ) → P v → (xs : List ℕ) → All P xs → All P (insert v xs)
unfolding insert
insert_all P v p [] a = (p, tt)
insert_all P v p (x ∷ xs) a = go (place v x xs) (insert_all P v p xs a.1)
  where
    go : Place v x xs (insert v (x ∷ xs)) → All P (insert v xs) → All P (insert v (x ∷ xs))
    go (before h e) r = subst (All P) (sym e) (p, a)
    go (there h e) r = subst (All P) (sym e) a
    go (behind h e) r = subst (All P) (sym e) (a.0, r)

pub insert_ascends : (v : ℕ) (xs : List ℕ) → Ascends xs → Ascends (insert v xs)
unfolding insert
insert_ascends v [] a = (tt, tt)
insert_ascends v (x ∷ xs) a = go (place v x xs) (insert_ascends v xs a.1)
  where
    go : Place v x xs (insert v (x ∷ xs)) → Ascends (insert v xs) → Ascends (insert v (x ∷ xs))
    go (before h e) r =
        subst Ascends (sym e) ((h, all_imp (λ y. x < y) (λ y. v < y) (λ n q. lt_trans h q) xs a.0), a)
    go (there h e) r = subst Ascends (sym e) a
    go (behind h e) r = subst Ascends (sym e) (insert_all (λ y. x < y) v h xs a.0, r)

pub insert-length : (v : ℕ) (xs : List ℕ) → (1 ≤ length (insert v xs)) × (length (insert v xs) ≤ length xs + 1)
unfolding insert
insert-length v [] = (le_refl 1, le_refl 1)
insert-length v (x ∷ xs) = go (place v x xs) (insert-length v xs)
  where
    go : Place v x xs (insert v (x ∷ xs)) → (1 ≤ length (insert v xs)) × (length (insert v xs) ≤ length xs + 1)
        → (1 ≤ length (insert v (x ∷ xs))) × (length (insert v (x ∷ xs)) ≤ suc (length xs) + 1)
    go (before h e) r = rw e (omega arith)
    go (there h e) r = rw e (omega arith)
    go (behind h e) r = rw e (omega arith)

pub ascending_all : (P : ℕ → Type 0) (xs : List ℕ) → All P xs → All P (ascending xs)
unfolding ascending
ascending_all P [] a = tt
ascending_all P (x ∷ xs) a = insert_all P x a.0 (ascending xs) (ascending_all P xs a.1)

pub ascending_ascends : (xs : List ℕ) → Ascends (ascending xs)
unfolding ascending
ascending_ascends [] = tt
ascending_ascends (x ∷ xs) = insert_ascends x (ascending xs) (ascending_ascends xs)

pub ascending_most : (xs : List ℕ) → length (ascending xs) ≤ length xs
unfolding ascending
ascending_most [] = le_refl 0
ascending_most (x ∷ xs) = omega (arith, (insert-length x (ascending xs)).1, ascending_most xs)

pub ascending-some : (xs : List ℕ) → 1 ≤ length xs → 1 ≤ length (ascending xs)
unfolding ascending
ascending-some [] h = h
ascending-some (x ∷ xs) h = (insert-length x (ascending xs)).0

-- ---- the names of a set

pub members_all : (P : ℕ → Type 0) (s k : ℕ) → ((n : ℕ) → n < k → T (has s n) → P n) → All P (members_below k s)
unfolding members_below
members_all P s zero f = tt
members_all P s (suc k) f =
    all_append P (members_below k s) _ (members_all P s k (λ n h. f n (omega arith))) (last (decide (has s k)))
  where
    last : T (has s k) ⊎ (T (has s k) → ⊥) → All P (elim (has s k) [ true ↦ k ∷ [] | false ↦ [] ])
    last (inl t) = rw (true_of (has s k) t) (f k (le_refl (suc k)) t, tt)
    last (inr g) = rw (false_of (has s k) g) tt

-- ---- names whose held names ascend with them are written in order

pub insert-first : (v : ℕ) (xs : List ℕ) → All (λ y. v < y) xs → insert v xs ≡ v ∷ xs
unfolding insert
insert-first v [] a = refl
insert-first v (x ∷ xs) a = go (place v x xs)
  where
    go : Place v x xs (insert v (x ∷ xs)) → insert v (x ∷ xs) ≡ v ∷ x ∷ xs
    go (before h e) = e
    go (there h e) = absurd (omega (arith, a.0))
    go (behind h e) = absurd (omega (arith, a.0))

pub ascending-same : (xs : List ℕ) → Ascends xs → ascending xs ≡ xs
unfolding ascending
ascending-same [] a = refl
ascending-same (x ∷ xs) a = ap (insert x) (ascending-same xs a.1) ∙ insert-first x xs a.0

ascends_last : (n : ℕ) (xs : List ℕ) → All (λ y. y < n) xs → Ascends xs → Ascends (xs ++ n ∷ [])
ascends_last n [] a b = (tt, tt)
ascends_last n (x ∷ xs) a b = (all_append (λ y. x < y) xs (n ∷ []) b.0 (a.0, tt), ascends_last n xs a.1 b.1)

pub members_ascend : (s k : ℕ) → Ascends (members_below k s)
unfolding members_below
members_ascend s zero = tt
members_ascend s (suc k) = last (decide (has s k)) (members_ascend s k)
  where
    last : T (has s k) ⊎ (T (has s k) → ⊥) → Ascends (members_below k s)
        → Ascends (members_below k s ++ elim (has s k) [ true ↦ k ∷ [] | false ↦ [] ])
    last (inl t) a = rw (true_of (has s k) t) (ascends_last k (members_below k s) (members_all (λ y. y < k) s k (λ n h u. h)) a)
    last (inr g) a = rw (false_of (has s k) g, append-nil) a

pub map_ascends : (f : ℕ → ℕ) → ((a b : ℕ) → a < b → f a < f b) → (xs : List ℕ) → Ascends xs → Ascends (map f xs)
map_ascends f up [] a = tt
map_ascends f up (x ∷ xs) a = (all_map (λ y. f x < y) f xs (all_imp (λ y. x < y) (λ y. f x < f y) (up x) xs a.0), map_ascends f up xs a.1)

-- free names: what holds them ascends with them
pub free_ascending : (type : ℕ) → ascending (map free_held (members type)) ≡ map free_held (members type)
unfolding members held
free_ascending type =
    ascending-same (map free_held (members_below 64 type))
    (map_ascends free_held (λ a b h. omega arith) (members_below 64 type) (members_ascend type 64))

-- ---- the words of a type

-- the held names, ascending, and zeros behind them
pub type_filled : (hold : ℕ → ℕ) (type : ℕ) (xs : List ℕ) → ascending (map hold (members type)) ≡ xs → length xs ≤ 8
    → type_words hold type ≡ xs ++ zeros (8 - length xs)
unfolding type_words
type_filled hold type xs e h =
    ap (λ (x : List ℕ). take 8 (x ++ zeros 8)) e
    ∙ ap (λ (n : ℕ). take n (xs ++ zeros 8)) (let z : 8 ≡ length xs + (8 - length xs) = omega arith in z)
    ∙ take-append-add xs (zeros 8) (8 - length xs) ∙ ap (λ (x : List ℕ). xs ++ x) (take-zeros (8 - length xs) 8 (omega arith))

-- the first words are a list that ascends and whose entries all have the property; the others are 0
module _ (hold : ℕ → ℕ) (type : ℕ) where
  names : List ℕ
  names = ascending (map hold (members type))

  pub length-type_words : length (type_words hold type) ≡ 8
  unfolding type_words
  length-type_words =
      let n = length-append (ascending (map hold (members type))) (zeros 8) in
      length-take 8 (ascending (map hold (members type)) ++ zeros 8) ∙ omega (arith, length-zeros 8)

  word-type_words : (i : ℕ) → i < 8 → word (type_words hold type) i ≡ word names i
  unfolding type_words names
  word-type_words i h = get_or-take 8 (names ++ zeros 8) i 0 h ∙ pick (dec_lt i (length names))
    where
      pick : Dec (i < length names) → word (names ++ zeros 8) i ≡ word names i
      pick (yes q) = word_left names (zeros 8) i q
      pick (no q) =
          word_right names (zeros 8) i (length names) refl (omega arith) ∙ word-zeros 8 _
          ∙ sym (get_or-eq_default names 0 (omega arith))

  inside : (i : ℕ) → word names i ≢ 0 → i < length names
  inside i f = pick (dec_lt i (length names))
    where
      pick : Dec (i < length names) → i < length names
      pick (yes q) = q
      pick (no q) = absurd (f (get_or-eq_default names 0 (omega arith)))

  names_some : 1 ≤ size type → 1 ≤ length names
  unfolding names members size
  names_some h = ascending-some (map hold (members type)) (rw (length-map (members type) hold, length-members type 64) h)

  module _ (P : ℕ → Type 0) (each : (n : ℕ) → n < 64 → T (has type n) → P (hold n)) where
    names_all : All P names
    unfolding names members
    names_all =
        ascending_all P (map hold (members type)) (all_map P hold (members type) (members_all (λ n. P (hold n)) type 64 each))

    pub type_each : (i : ℕ) → i < 8 → word (type_words hold type) i ≢ 0 → P (word (type_words hold type) i)
    type_each i h = rw (word-type_words i h) (λ f. all_at P names names_all i (inside i f))

  module _ (some : 1 ≤ size type) (given : (n : ℕ) → n < 64 → T (has type n) → hold n ≢ 0) where
    pub type_some_lem : word (type_words hold type) 0 ≢ 0
    type_some_lem = rw (word-type_words 0 (omega arith)) (all_at (λ v. v ≢ 0) names (names_all (λ v. v ≢ 0) given) 0 (names_some some))

    pub type_before_lem : (i : ℕ) → i < 7 → word (type_words hold type) (i + 1) ≢ 0 → word (type_words hold type) i ≢ 0
    type_before_lem i h =
        rw (word-type_words (i + 1) (omega arith), word-type_words i (omega arith))
        (λ f. all_at (λ v. v ≢ 0) names (names_all (λ v. v ≢ 0) given) i (let q = inside (i + 1) f in omega arith))

    pub type_ascends_lem : (i : ℕ) → i < 7 → word (type_words hold type) (i + 1) ≢ 0
        → word (type_words hold type) i < word (type_words hold type) (i + 1)
    unfolding names
    type_ascends_lem i h =
        rw (word-type_words (i + 1) (omega arith), word-type_words i (omega arith))
        (λ f. let q = inside (i + 1) f in rw add-one (ascends_at names (ascending_ascends (map hold (members type))) i (omega arith)))
