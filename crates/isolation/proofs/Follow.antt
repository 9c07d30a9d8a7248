-- P6 and P7: a list of moves in one model, and the list with the moves that name a box inside the group struck out in another model
-- that is equal outside, get the same answers and leave the same records outside. Assumes nothing.
use mathlib.Core.Path.{◌≡◌, refl, ap, ap₂, subst, sym, ◌∙◌}
use mathlib.Core.Bool.{Bool, true, false}
use mathlib.Core.List.{List, [], ◌∷◌}
use Prim.Native.Nat.{ℕ, ◌≤◌, ◌<◌}
use native.Mathlib.Omega.{arith}
use native.Mathlib.Decide.{ℕ_discrete}
use lib.Dec.{T}
use lib.ListN.{length}
use Rattle.definitions.specs.Bounded.{◌and◌, ◌or◌, ◌isnt◌, ◌below◌}
use Rattle.definitions.specs.Model.{Model, box_at, box_count}
use Rattle.definitions.specs.Record.{threads, state_length, record_of, put_record}
use Rattle.definitions.specs.Moves.{Inside, Kind, inside, inter, unknown, kind_of_move, Move, Outcome, refused, made, Ends, need, on_made, inside_move, inter_move, inside_act, inter_act, act_as, act}
use Rattle.definitions.specs.Calls.{outcome_number, outcome_words, MovesResult, act_all}
use Rattle.definitions.proofs.Bounded.{tests, same_test}
use Rattle.isolation.specs.Group.{names_as, names, struck, answers_left, EqualOutside}
use Rattle.isolation.proofs.KeepState.{put_record_same, put_record_other, put_record_length}
use Rattle.definitions.proofs.Made.{refused-made, inside_act_lem, inter_act_lem}

module _ (group : ℕ → Bool) where
  -- two states have the same records outside the group
  abbrev pub SameOutside : List ℕ → List ℕ → Type 0
  SameOutside st₁ st₂ = (b : ℕ) → b < 8 → group b ≡ false → record_of st₁ b ≡ record_of st₂ b

-- what is known of each state that is reached in a model: its length; that made moves leave records of 1,139 words; that an inter move
-- between the group and the rest is not made; and that a made move leads to such a state again
pub record Reached (group : ℕ → Bool) (m : Model) (Good : List ℕ → Type 0) : Type 0 where
  pub most : box_count m ≤ 8
  pub size : (st : List ℕ) → Good st → length st ≡ state_length
  pub inside_size : (st : List ℕ) → Good st → (k : Inside) (b t u : ℕ) (r : List ℕ) → b < box_count m
      → inside_move m.kinds (box_at m b) (record_of st b) k t u ≡ made r → length r ≡ 1139
  pub inter_size : (st : List ℕ) → Good st → (b t c u : ℕ) (e : Ends) → b < box_count m → c < box_count m
      → t < threads (record_of st b) → u < threads (record_of st c)
      → inter_move m.kinds (box_at m b) (record_of st b) (box_at m c) (record_of st c) t u ≡ made e
      → (length e.input ≡ 1139) × (length e.output ≡ 1139)
  pub apart : (st : List ℕ) → Good st → (b t c u : ℕ) (w : List ℕ) → inter_act m st b t c u ≡ made w → group b ≡ group c
  pub next : (st : List ℕ) → Good st → (v : Move) (w : List ℕ) → act m st v ≡ made w → Good w

-- the same record put into both states leaves them the same outside
put_both : (group : ℕ → Bool) (st₁ st₂ : List ℕ) → length st₁ ≡ state_length → length st₂ ≡ state_length → SameOutside group st₁ st₂
    → (b : ℕ) → b < 8 → (r : List ℕ) → length r ≡ 1139 → SameOutside group (put_record st₁ b r) (put_record st₂ b r)
put_both group st₁ st₂ l₁ l₂ same b h r e c k o = pick (ℕ_discrete b c)
  where
    pick : Dec (b ≡ c) → record_of (put_record st₁ b r) c ≡ record_of (put_record st₂ b r) c
    pick (yes q) = subst (λ (d : ℕ). record_of (put_record st₁ b r) d ≡ record_of (put_record st₂ b r) d) q (put_record_same st₁ l₁ b h r e ∙ sym (put_record_same st₂ l₂ b h r e))
    pick (no q) = put_record_other st₁ l₁ b h r e c k (omega arith) ∙ same c k o ∙ sym (put_record_other st₂ l₂ b h r e c k (omega arith))

both : (x y : Bool) → x ≡ y → (x or y) ≡ true → x ≡ true
unfolding ◌or◌
both true y p r = refl
both false y p r = p ∙ r

true-false : {b : Bool} → b ≡ true → b ≡ false → ⊥
true-false p q = subst T (sym p ∙ q) tt

-- ---- P6: a move that names a box of the group changes no record outside

module _ (group : ℕ → Bool) (m : Model) (Good : List ℕ → Type 0) (reached : Reached group m Good) (st : List ℕ) (good : Good st) where
  put-inside : (b : ℕ) → b < 8 → group b ≡ true → (s : List ℕ) → length s ≡ state_length → (r : List ℕ) → length r ≡ 1139 → SameOutside group (put_record s b r) s
  put-inside b h g s l r e c k o = put_record_other s l b h r e c k (λ q. true-false (ap group q ∙ g) o)

  made_inside : (v : Move) (w : List ℕ) → names group v ≡ true → act m st v ≡ made w → SameOutside group w st
  unfolding names names_as act act_as
  made_inside v w n e = go (kind_of_move v.kind) n e
    where
      go : (k : Kind)
          → names_as group k v ≡ true
          → act_as m st k v ≡ made w
          → SameOutside group w st
      go (inside i) g z c k o =
          let x = inside_act_lem m st i v.box v.thread v.thread2 w z in
          let d : v.box < 8 = omega (arith, x.box, reached.most) in
          ap (λ (y : List ℕ). record_of y c) x.leaves
          ∙ put-inside v.box d g st (reached.size st good) x.new (reached.inside_size st good i v.box v.thread v.thread2 x.new x.box x.is_made) c k o
      go inter g z c k o =
          let x = inter_act_lem m st v.box v.thread v.box2 v.thread2 w z in
          let d : v.box < 8 = omega (arith, x.box, reached.most) in
          let d2 : v.box2 < 8 = omega (arith, x.box2, reached.most) in
          let q = reached.apart st good v.box v.thread v.box2 v.thread2 w z in
          let a : group v.box ≡ true = both (group v.box) (group v.box2) q g in
          let s = reached.inter_size st good v.box v.thread v.box2 v.thread2 x.ends x.box x.box2 x.live x.live2 x.is_made in
          let l = reached.size st good in
          ap (λ (y : List ℕ). record_of y c) x.leaves
          ∙ put-inside v.box2 d2 (sym q ∙ a) (put_record st v.box x.ends.input) (put_record_length st l v.box d x.ends.input s.0) x.ends.output s.1 c k o
          ∙ put-inside v.box d a st l x.ends.input s.0 c k o
      go unknown g z c k o = absurd (refused-made z)

  pub act_inside : (v : Move) → names group v ≡ true → SameOutside group (outcome_words st (act m st v)) st
  act_inside v n = go (act m st v) refl
    where
      go : (o : Outcome (List ℕ)) → act m st v ≡ o → SameOutside group (outcome_words st o) st
      go (refused i) e c k q = refl
      go (made w) e c k q = made_inside v w n e c k q

-- ---- P6: a move that names no box of the group is the same function of the same records outside

-- what two outcomes say and leave is the same outside
pub record Alike (group : ℕ → Bool) (st₁ st₂ : List ℕ) (o₁ o₂ : Outcome (List ℕ)) : Type 0 where
  pub number : outcome_number o₁ ≡ outcome_number o₂
  pub words : SameOutside group (outcome_words st₁ o₁) (outcome_words st₂ o₂)

module _ (group : ℕ → Bool) (st₁ st₂ : List ℕ) (same : SameOutside group st₁ st₂) where
  on_made_alike : (A : Type 0) (f g : A → List ℕ) (o p : Outcome A) → o ≡ p → ((a : A) → o ≡ made a → SameOutside group (f a) (g a))
      → Alike group st₁ st₂ (on_made f o) (on_made g p)
  on_made_alike A f g o p e k = subst (λ (q : Outcome A). Alike group st₁ st₂ (on_made f o) (on_made g q)) e (go o k)
    where
      go : (q : Outcome A) → ((a : A) → q ≡ made a → SameOutside group (f a) (g a)) → Alike group st₁ st₂ (on_made f q) (on_made g q)
      go (refused n) h = record { number = refl; words = same }
      go (made a) h = record { number = refl; words = h a refl }

  need_alike : (b c : Bool) → b ≡ c → (n : ℕ) (o p : Outcome (List ℕ)) → (T b → Alike group st₁ st₂ o p)
      → Alike group st₁ st₂ (need b n o) (need c n p)
  need_alike b c e n o p k = subst (λ (d : Bool). Alike group st₁ st₂ (need b n o) (need d n p)) e (go b k)
    where
      go : (d : Bool) → (T d → Alike group st₁ st₂ o p) → Alike group st₁ st₂ (need d n o) (need d n p)
      go true h = h tt
      go false h = record { number = refl; words = same }

neither : (x y : Bool) → (x or y) ≡ false → (x ≡ false) × (y ≡ false)
unfolding ◌or◌
neither true y e = absurd (subst T e tt)
neither false y e = (refl, e)

module _ (group : ℕ → Bool) (m₁ m₂ : Model) (equal : EqualOutside group m₁ m₂) (Good : List ℕ → Type 0) (reached : Reached group m₁ Good)
    (st₁ st₂ : List ℕ) (good : Good st₁) (l₂ : length st₂ ≡ state_length) (same : SameOutside group st₁ st₂) where
  l₁ : length st₁ ≡ state_length
  l₁ = reached.size st₁ good

  low : (b : ℕ) → b < box_count m₁ → b < 8
  low b i = omega (arith, i, reached.most)

  inside_alike : (k : Inside) (b t u : ℕ) → group b ≡ false → Alike group st₁ st₂ (inside_act m₁ st₁ k b t u) (inside_act m₂ st₂ k b t u)
  unfolding inside_act
  inside_alike k b t u g =
      need_alike group st₁ st₂ same (b below box_count m₁) (b below box_count m₂) (ap (λ (n : ℕ). b below n) equal.count) 12 _ _ (λ q.
      let i = simp tests at q in
      let x = equal.others b i g in
      let r = same b (low b i) g in
      let n = equal.kinds in
      on_made_alike group st₁ st₂ same (List ℕ) (put_record st₁ b) (put_record st₂ b)
      (inside_move m₁.kinds (box_at m₁ b) (record_of st₁ b) k t u) (inside_move m₂.kinds (box_at m₂ b) (record_of st₂ b) k t u) (cc (n, x, r))
      (λ s e. put_both group st₁ st₂ l₁ l₂ same b (low b i) s (reached.inside_size st₁ good k b t u s i e)))

  -- the tests for 12 are the same: where both boxes are there, so are their threads
  exist_alike : (b t c u : ℕ) → group b ≡ false → group c ≡ false
      → (b below box_count m₁ and c below box_count m₁ and t below threads (record_of st₁ b) and u below threads (record_of st₁ c))
      ≡ (b below box_count m₂ and c below box_count m₂ and t below threads (record_of st₂ b) and u below threads (record_of st₂ c))
  exist_alike b t c u g f = same_test _ _ (λ q.
      let p = simp tests at q in
      simp tests (
        (
          (rw (← equal.count) p.0.0.0, rw (← equal.count) p.0.0.1),
          rw (← same b (low b p.0.0.0) g) p.0.1,
        ),
        rw (← same c (low c p.0.0.1) f) p.1,
      )) (λ q.
      let p = simp tests at q in
      let i : b < box_count m₁ = rw equal.count p.0.0.0 in
      let j : c < box_count m₁ = rw equal.count p.0.0.1 in
      simp tests (((i, j), rw (same b (low b i) g) p.0.1), rw (same c (low c j) f) p.1))

  inter_alike : (b t c u : ℕ) → group b ≡ false → group c ≡ false → Alike group st₁ st₂ (inter_act m₁ st₁ b t c u) (inter_act m₂ st₂ b t c u)
  unfolding inter_act
  inter_alike b t c u g f =
      need_alike group st₁ st₂ same _ _ (exist_alike b t c u g f) 12 _ _ (λ q.
      let p = simp tests at q in
      let i = p.0.0.0 in
      let j = p.0.0.1 in
      let x = equal.others b i g in
      let y = equal.others c j f in
      let r = same b (low b i) g in
      let s = same c (low c j) f in
      let n = equal.kinds in
      need_alike group st₁ st₂ same (b isnt c) (b isnt c) refl 13 _ _ (λ z.
      on_made_alike group st₁ st₂ same Ends (λ e. put_record (put_record st₁ b e.input) c e.output) (λ e. put_record (put_record st₂ b e.input) c e.output)
      (inter_move m₁.kinds (box_at m₁ b) (record_of st₁ b) (box_at m₁ c) (record_of st₁ c) t u)
      (inter_move m₂.kinds (box_at m₂ b) (record_of st₂ b) (box_at m₂ c) (record_of st₂ c) t u) (cc (n, x, y, r, s))
      (λ e w.
      let k = reached.inter_size st₁ good b t c u e i j p.0.1 p.1 w in
      put_both group (put_record st₁ b e.input) (put_record st₂ b e.input)
      (put_record_length st₁ l₁ b (low b i) e.input k.0) (put_record_length st₂ l₂ b (low b i) e.input k.0)
      (put_both group st₁ st₂ l₁ l₂ same b (low b i) e.input k.0) c (low c j) e.output k.1)))

  -- P6, the second half
  pub act_alike : (v : Move) → names group v ≡ false → Alike group st₁ st₂ (act m₁ st₁ v) (act m₂ st₂ v)
  unfolding names names_as act act_as
  act_alike v n = go (kind_of_move v.kind) n
    where
      go : (k : Kind)
          → names_as group k v ≡ false
          → Alike group st₁ st₂
          (act_as m₁ st₁ k v)
          (act_as m₂ st₂ k v)
      go (inside i) g = inside_alike i v.box v.thread v.thread2 g
      go inter g = let d = neither (group v.box) (group v.box2) g in inter_alike v.box v.thread v.box2 v.thread2 d.0 d.1
      go unknown g = record { number = refl; words = same }

-- ---- P7: a list in one model, and the list struck in the other

pub record AlikeRuns (group : ℕ → Bool) (vs : List Move) (r₁ r₂ : MovesResult) : Type 0 where
  pub answers : answers_left group vs r₁.answers ≡ r₂.answers
  pub words : SameOutside group r₁.words r₂.words

pub outcome_good : (m : Model) (Good : List ℕ → Type 0) (st : List ℕ) → Good st → (v : Move)
    → ((w : List ℕ) → act m st v ≡ made w → Good w) → Good (outcome_words st (act m st v))
outcome_good m Good st good v next = go (act m st v) refl
  where
    go : (o : Outcome (List ℕ)) → act m st v ≡ o → Good (outcome_words st o)
    go (refused n) e = good
    go (made w) e = next w e

struck_none : (group : ℕ → Bool) → struck group [] ≡ []
unfolding struck
struck_none group = refl

left_none : (group : ℕ → Bool) (l : List ℕ) → answers_left group [] l ≡ []
unfolding answers_left
left_none group l = refl

-- the first move of a list, struck out or left
module _ (group : ℕ → Bool) (v : Move) (vs : List Move) where
  struck_named : names group v ≡ true → struck group (v ∷ vs) ≡ struck group vs
  unfolding struck
  struck_named e = ap (λ (b : Bool). elim b as (λ _. List Move) [ true ↦ struck group vs | false ↦ v ∷ struck group vs ]) e

  struck_left : names group v ≡ false → struck group (v ∷ vs) ≡ v ∷ struck group vs
  unfolding struck
  struck_left e = ap (λ (b : Bool). elim b as (λ _. List Move) [ true ↦ struck group vs | false ↦ v ∷ struck group vs ]) e

  left_named : (a : ℕ) (l : List ℕ) → names group v ≡ true → answers_left group (v ∷ vs) (a ∷ l) ≡ answers_left group vs l
  unfolding answers_left
  left_named a l e = ap (λ (b : Bool). elim b as (λ _. List ℕ) [ true ↦ answers_left group vs l | false ↦ a ∷ answers_left group vs l ]) e

  left_left : (a : ℕ) (l : List ℕ) → names group v ≡ false → answers_left group (v ∷ vs) (a ∷ l) ≡ a ∷ answers_left group vs l
  unfolding answers_left
  left_left a l e = ap (λ (b : Bool). elim b as (λ _. List ℕ) [ true ↦ answers_left group vs l | false ↦ a ∷ answers_left group vs l ]) e

module _ (group : ℕ → Bool) (m₁ m₂ : Model) (equal : EqualOutside group m₁ m₂)
    (Good₁ Good₂ : List ℕ → Type 0) (reached₁ : Reached group m₁ Good₁) (reached₂ : Reached group m₂ Good₂) where
  pub struck_alike : (vs : List Move) (st₁ st₂ : List ℕ) → Good₁ st₁ → Good₂ st₂ → SameOutside group st₁ st₂
      → AlikeRuns group vs (act_all m₁ st₁ vs) (act_all m₂ st₂ (struck group vs))
  unfolding act_all
  struck_alike [] st₁ st₂ g₁ g₂ same = rw (struck_none group) (record { answers = left_none group []; words = same })
  struck_alike (v ∷ vs) st₁ st₂ g₁ g₂ same = go (names group v) refl (struck_alike vs)
    where
      w₁ : List ℕ
      w₁ = outcome_words st₁ (act m₁ st₁ v)

      w₂ : List ℕ
      w₂ = outcome_words st₂ (act m₂ st₂ v)

      good₁ : Good₁ w₁
      good₁ = outcome_good m₁ Good₁ st₁ g₁ v (reached₁.next st₁ g₁ v)

      good₂ : Good₂ w₂
      good₂ = outcome_good m₂ Good₂ st₂ g₂ v (reached₂.next st₂ g₂ v)

      go : (b : Bool) → names group v ≡ b
          → ((s₁ s₂ : List ℕ) → Good₁ s₁ → Good₂ s₂ → SameOutside group s₁ s₂ → AlikeRuns group vs (act_all m₁ s₁ vs) (act_all m₂ s₂ (struck group vs)))
          → AlikeRuns group (v ∷ vs) (act_all m₁ st₁ (v ∷ vs)) (act_all m₂ st₂ (struck group (v ∷ vs)))
      go true e rest =
          let k = rest w₁ st₂ good₁ g₂ (λ b h o. act_inside group m₁ Good₁ reached₁ st₁ g₁ v e b h o ∙ same b h o) in
          rw (struck_named group v vs e) (record { answers = left_named group v vs _ _ e ∙ k.answers; words = k.words })
      go false e rest =
          let a = act_alike group m₁ m₂ equal Good₁ reached₁ st₁ st₂ g₁ (reached₂.size st₂ g₂) same v e in
          let k = rest w₁ w₂ good₁ good₂ a.words in
          rw (struck_left group v vs e) (record { answers = left_left group v vs _ _ e ∙ ap₂ ◌∷◌ a.number k.answers; words = k.words })
