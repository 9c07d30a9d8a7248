-- Each of several sets is within a set exactly when their union is: what clause 6 asks is gathered so. Assumes nothing.
use mathlib.Core.Path.{◌≡◌, refl, sym, ap, ◌∙◌}
use mathlib.Core.Bool.{Bool, true, false}
use mathlib.Core.List.{List, ◌++◌}
use mathlib.Core.Logic.{inl, inr, ⊎_elim}
use mathlib.Core.Option.{none}
use Prim.Native.Nat.{ℕ, ◌+◌, ◌^◌, ◌≤◌, ◌<◌}
use native.Mathlib.Nat.{le_antisymm}
use native.Mathlib.Numerals.{add-one}
use native.Mathlib.Omega.{arith}
use borrow.Author.Rules.{rules}
use lib.Dec.{T}
use lib.ListN.{length, get_or, take, drop, length-take, length-drop, length-append}
use lib.Seq.{get_or-take}
use Rattle.definitions.specs.Bounded.{◌and◌, ◌or◌, ◌implies◌, ◌isnt◌, all_below}
use Rattle.definitions.specs.Sets.{has, for_each, for_some, within, meets}
use Rattle.definitions.specs.Model.{Line}
use Rattle.definitions.specs.Estimate.{Estimate, estimate_of}
use Rattle.definitions.specs.Clauses.{clause4, clause5, clause6}
use Rattle.definitions.proofs.Bounded.{and_iff, or_iff, all_iff, implies_iff, isnt_iff, true_of, of_true, false_of, not-false, same_test}
use Rattle.definitions.proofs.Sets.{and-true, and_assoc, has-none, for_each_iff, for_some_iff, within_iff, within_trans, meets_iff, meets_comm}
use Rattle.definitions.proofs.Clauses.{sets, clause4_iff, clause5_iff, clause6_iff}
use Rattle.estimate.specs.Known.{EstimateOfNames}
use Rattle.sets.specs.declared.NameNo.{NameNo}
use Rattle.sets.specs.Ascending.{LowestOf}
use Rattle.sets.specs.Each.{UnionOfEach}
use Rattle.sets.proofs.Each.{some_left}
use Rattle.sets.proofs.Walk.{Left, left_start, left_turn, split_each, none_each}
use Rattle.clauses.proofs.Members.{UnionOf, left_62, names_shown, names_both}
use Rattle.links.specs.Types.{Types}
use Rattle.sharing.specs.declared.Gathered.{Gathered}
use Rattle.sharing.specs.declared.BoxSets.{BoxSets}
use Rattle.sharing.specs.Shared.{Least, Most, Joined, sent_in, all_sent_in, sent_by_other, sent_by_others, shared_in, all_shared_in, shared_by_other, shared_by_others, shared_at, shared_on, may_send, Sends, SetsOf, TypeTable, no_sets, GatheredOf, NothingGathered}
use Rattle.sharing.proofs.Rows.{Rows, rows_start, rows_turn, rows_end}

-- ---- one union

within_union : (v w u : ℕ) → UnionOf v w u → (q : ℕ) → within v q ≡ (within w q and within u q)
within_union v w u e q =
    same_test (within v q) (within w q and within u q)
    (λ t. let f = (within_iff v q).0 t in
    (and_iff (within w q) (within u q)).1 (
      (within_iff w q).1 (λ n l h. f n l (of_true (e n ∙ true_of (has w n or has u n) ((or_iff (has w n) (has u n)).1 (inl h))))),
      (within_iff u q).1 (λ n l h. f n l (of_true (e n ∙ true_of (has w n or has u n) ((or_iff (has w n) (has u n)).1 (inr h))))),
    ))
    (λ t. let p = (and_iff (within w q) (within u q)).0 t in
    (within_iff v q).1
    (λ n l h. ⊎_elim ((within_iff w q).0 p.0 n l) ((within_iff u q).0 p.1 n l) ((or_iff (has w n) (has u n)).0 (of_true (sym (e n) ∙ true_of (has v n) h)))))

pub within_none : (q : ℕ) → within 0 q ≡ true
within_none q = true_of (within 0 q) ((within_iff 0 q).1 (λ n l t. absurd (not-false (has-none n) t)))

joined_union : (v w u y : ℕ) → UnionOf v w u → u ≡ y → Joined v w (within y)
joined_union v w u y j e = record { same = λ q. within_union v w u j q ∙ ap (λ (z : ℕ). within w q and within z q) e }

-- a test is asked, where a condition is met
module _ (c : Bool) (p : ℕ → Bool) where
  joined_if : (v w : ℕ) → c ≡ true → Joined v w p → Joined v w (λ q. c implies p q)
  unfolding ◌implies◌
  joined_if v w t j = record { same = λ q. j.same q ∙ ap (λ (z : Bool). within w q and (z implies p q)) (sym t) }

  joined-not : (w : ℕ) → c ≡ false → Joined w w (λ q. c implies p q)
  unfolding ◌implies◌
  joined-not w t = record { same = λ q. sym (and-true (within w q)) ∙ ap (λ (z : Bool). within w q and (z implies p q)) (sym t) }

isnt_yes : (k b : ℕ) → (k ≡ b → ⊥) → (k isnt b) ≡ true
isnt_yes k b f = true_of (k isnt b) ((isnt_iff k b).1 f)

isnt_no : (k b : ℕ) → k ≡ b → (k isnt b) ≡ false
isnt_no k b e = false_of (k isnt b) (λ t. (isnt_iff k b).0 t e)

-- ---- one name of another box

module _ (e : Estimate) (x k c w : ℕ) (b : Bool) (y : ℕ) (eb : b ≡ meets x y) (ey : y ≡ e.eps k c) where
  test : meets x (e.eps k c) ≡ b
  test = sym (eb ∙ ap (meets x) ey)

  pub name_in : (v u : ℕ) → b ≡ true → UnionOf v w u → u ≡ e.kap k c → Joined v w (shared_in e x k c)
  unfolding shared_in sent_in
  name_in v u t j eu = joined_if (meets x (e.eps k c)) (within (e.kap k c)) v w (test ∙ t) (joined_union v w u (e.kap k c) j eu)

  pub name_out : b ≡ false → Joined w w (shared_in e x k c)
  unfolding shared_in sent_in
  name_out t = joined-not (meets x (e.eps k c)) (within (e.kap k c)) w (test ∙ t)

-- ---- each name of a set

-- what is gathered, and what is left of s, ask together what w₀ and s ask
pub record Gathering (s : ℕ) (p : ℕ → ℕ → Bool) (w₀ left w : ℕ) : Type 0 where
  pub there : Left s left
  pub same : (q : ℕ) → (within w q and for_each left (λ j. p j q)) ≡ (within w₀ q and for_each s (λ j. p j q))

module _ (s : ℕ) (p : ℕ → ℕ → Bool) (w₀ : ℕ) where
  pub gathering_start : s < 2 ^ 64 → Gathering s p w₀ s w₀
  gathering_start h = record { there = left_start s h; same = λ q. refl }

  module _ (left w : ℕ) (g : Gathering s p w₀ left w) where
    pub gathering_turn : (n t v : ℕ) → LowestOf left n t → Joined v w (p n) → Gathering s p w₀ t v
    gathering_turn n t v d j = record {
      there = left_turn s left t g.there (some_left left n t d) d.others;
      same = λ q. ap (λ (x : Bool). x and for_each t (λ i. p i q)) (j.same q) ∙ and_assoc (within w q) (p n q) (for_each t (λ i. p i q))
          ∙ ap (λ (x : Bool). within w q and x) (sym (split_each (λ i. p i q) left t n g.there.fit (some_left left n t d) d.lowest d.others)) ∙ g.same q;
    }

    none_left : left ≡ 0 → (q : ℕ) → within w q ≡ (within w₀ q and for_each s (λ j. p j q))
    none_left z q = sym (and-true (within w q)) ∙ ap (λ (x : Bool). within w q and x) (sym (none_each (λ j. p j q) left z)) ∙ g.same q

-- all that box k may send on the names of s is within a set exactly when what it may send on each is
pub sent_union : (e : Estimate) (k s w : ℕ) (post : NameNo → ℕ → Type 0) → UnionOfEach post s w → ((n : NameNo) (r : ℕ) → post n r → r ≡ e.kap k n.0)
    → Least w (all_sent_in e k s)
unfolding all_sent_in sent_in
sent_union e k s w post u each = record {
  same = λ q.
      same_test (within w q) (for_each s (λ c. within (e.kap k c) q))
      (λ t. (for_each_iff s (λ c. within (e.kap k c) q)).1 (λ c l h. (within_iff (e.kap k c) q).1
      (λ m z i. (within_iff w q).0 t m z (of_true (at m ∙ true_of (for_some s (λ n. has (e.kap k n) m)) ((for_some_iff s (λ n. has (e.kap k n) m)).1 (c, l, h, i)))))))
      (λ t. (within_iff w q).1 (λ m z i.
      let c = (for_some_iff s (λ n. has (e.kap k n) m)).0 (of_true (sym (at m) ∙ true_of (has w m) i)) in
      (within_iff (e.kap k c.0) q).0 ((for_each_iff s (λ n. within (e.kap k n) q)).0 t c.0 c.1 c.2) m z c.3));
}
  where
    at : (m : ℕ) → has w m ≡ for_some s (λ n. has (e.kap k n) m)
    at = u.members (e.kap k) each

-- what each name of s asks of box k
module _ (e : Estimate) (x k s w₀ left w : ℕ) (g : Gathering s (shared_in e x k) w₀ left w) where
  pub names_end : left ≡ 0 → Joined w w₀ (all_shared_in e x k s)
  unfolding all_shared_in
  names_end z = record { same = none_left s (shared_in e x k) w₀ left w g z }

  -- once all that may be sent there is gathered, the names left ask nothing more
  pub names_stop : (all : ℕ) (b : Bool) → Least all (all_sent_in e k s) → b ≡ within all w → b ≡ true → Joined w w₀ (all_shared_in e x k s)
  unfolding all_shared_in shared_in all_sent_in sent_in
  names_stop all b a i t = record {
    same = λ q. same_test (within w q) (within w q and for_each left (λ j. shared_in e x k j q)) (λ h. (and_iff (within w q) (for_each left (λ j. shared_in e x k j q))).1 (h, rest_asks q h))
        (λ h. ((and_iff (within w q) (for_each left (λ j. shared_in e x k j q))).0 h).0)
        ∙ g.same q;
  }
    where
      rest_asks : (q : ℕ) → T (within w q) → T (for_each left (λ j. shared_in e x k j q))
      rest_asks q h =
          let r : T (all_sent_in e k s q) = of_true (sym (a.same q) ∙ true_of (within all q) (within_trans all w q (of_true (sym i ∙ t)) h)) in
          (for_each_iff left (λ j. shared_in e x k j q)).1
          (λ j l u. (implies_iff (meets x (e.eps k j)) (within (e.kap k j) q)).1 (λ _. (for_each_iff s (λ c. within (e.kap k c) q)).0 r j l (g.there.inside j u)))

-- ---- every other box

module _ (e : Estimate) (b x k w : ℕ) where
  pub box_in_lem : (v : ℕ) → (k ≡ b → ⊥) → Joined v w (all_shared_in e x k (e.shown k)) → Joined v w (shared_by_other e b x k)
  unfolding shared_by_other
  box_in_lem v f j = joined_if (k isnt b) (all_shared_in e x k (e.shown k)) v w (isnt_yes k b f) j

  pub box_out : k ≡ b → Joined w w (shared_by_other e b x k)
  unfolding shared_by_other
  box_out f = joined-not (k isnt b) (all_shared_in e x k (e.shown k)) w (isnt_no k b f)

-- a box whose types share no name with x asks nothing
module _ (e : Estimate) (x k w : ℕ) where
  pub shown_in_lem : (v s : ℕ) → Joined v w (all_shared_in e x k s) → s ≡ e.shown k → Joined v w (all_shared_in e x k (e.shown k))
  shown_in_lem v s j es = rw es at j

  pub shown_out_lem : (y : ℕ) (r : Bool) → r ≡ meets x y → Types e k (e.shown k) y → r ≡ false → Joined w w (all_shared_in e x k (e.shown k))
  unfolding all_shared_in shared_in
  shown_out_lem y r er t f = record {
    same = λ q. sym (and-true (within w q)) ∙ ap (λ (z : Bool). within w q and z) (sym (true_of (all_shared_in e x k (e.shown k) q)
        ((for_each_iff (e.shown k) (λ c. shared_in e x k c q)).1 (λ c l h. (implies_iff (meets x (e.eps k c)) (sent_in e k c q)).1
        (λ u. absurd (not-false (sym (t.same x) ∙ sym er ∙ f) ((for_some_iff (e.shown k) (λ c. meets x (e.eps k c))).1 (c, l, h, u))))))));
  }

pub types_at : (e : Estimate) (boxes k : ℕ) (v : BoxSets) (t : List BoxSets) → TypeTable e boxes t → k < boxes → v ≡ get_or t k no_sets
    → Types e k (e.shown k) v.types
types_at e boxes k v t d h ev = rw ev (d.each k h)

-- what the boxes below k ask
pub record Through (f : ℕ → ℕ → Bool) (k w : ℕ) : Type 0 where
  pub so_far : (q : ℕ) → within w q ≡ all_below k (λ i. f i q)

module _ (f : ℕ → ℕ → Bool) where
  pub through_start : Through f 0 0
  unfolding all_below
  through_start = record { so_far = λ q. within_none q }

  pub through_turn : (k w v : ℕ) → Through f k w → Joined v w (f k) → Through f (k + 1) v
  unfolding all_below
  through_turn k w v t a = record {
    so_far = λ q. a.same q ∙ ap (λ (z : Bool). z and f k q) (t.so_far q) ∙ ap (λ (j : ℕ). all_below j (λ i. f i q)) (sym (add-one k));
  }

through_all : (f : ℕ → ℕ → Bool) (n k w : ℕ) → Through f k w → k ≤ n → n ≤ k → Least w (λ q. all_below n (λ i. f i q))
through_all f n k w t l h = record { same = λ q. t.so_far q ∙ ap (λ (j : ℕ). all_below j (λ i. f i q)) (le_antisymm l h) }

pub shared_end : (e : Estimate) (boxes b x k w : ℕ) → Through (shared_by_other e b x) k w → k ≤ boxes → boxes ≤ k → Least w (shared_by_others e boxes b x)
unfolding shared_by_others
shared_end e boxes b x = through_all (shared_by_other e b x) boxes

-- ---- the tables

module _ (image : List ℕ) (boxes : ℕ) where
  -- what a box may send on its shown names stands in the table of them
  pub sends_at : (t : List BoxSets) (k s : ℕ) (v : BoxSets) → Sends image boxes t → k < boxes → s ≡ (estimate_of image).shown k → v ≡ get_or t k no_sets
      → Least v.sends (all_sent_in (estimate_of image) k s)
  sends_at t k s v d h es ev = rw (es, ev) (d.each k h)

pub sets_as : (image : List ℕ) (k s : ℕ) (x : BoxSets) → Least x.sends (all_sent_in (estimate_of image) k s) → Types (estimate_of image) k s x.types
    → s ≡ (estimate_of image).shown k → SetsOf image k x
sets_as image k s x a b es = record { sends = rw es at a; types = rw es at b }

-- the sets of the boxes, and what was in the table before behind them
module _ (image : List ℕ) (boxes k : ℕ) (t u : List BoxSets) (f : Rows no_sets (SetsOf image) boxes k t) (few : EstimateOfNames image boxes)
    (h : boxes ≤ k) (l : length u ≡ 8) where
  size : length (t ++ drop boxes u) ≡ 8
  size = omega (arith, length-append t (drop boxes u), length-drop boxes u, f.size, few.most)

  pub sends_end : Sends image boxes (t ++ drop boxes u)
  sends_end = record { size = size; each = λ i m. (rows_end no_sets (SetsOf image) boxes k t (drop boxes u) f h i m).sends }

  pub types_end : TypeTable (estimate_of image) boxes (t ++ drop boxes u)
  types_end = record { size = size; each = λ i m. (rows_end no_sets (SetsOf image) boxes k t (drop boxes u) f h i m).types }

-- ---- all that other boxes may send: a walk over the sets of the boxes

taken_below : (boxes k : ℕ) (t : List BoxSets) → k < length (take boxes t) → k < boxes
taken_below boxes k t h = omega (arith, length-take boxes t)

pub sent_in_other : (image : List ℕ) (boxes b k w v : ℕ) (u : BoxSets) (t : List BoxSets) → (k ≡ b → ⊥) → Sends image boxes t
    → k < length (take boxes t) → u ≡ get_or (take boxes t) k no_sets → UnionOf v w u.sends → Joined v w (sent_by_other (estimate_of image) b k)
unfolding sent_by_other
sent_in_other image boxes b k w v u t f d h eu j =
    let e = estimate_of image in
    let l = taken_below boxes k t h in
    let s = sends_at image boxes t k (e.shown k) u d l refl (eu ∙ get_or-take boxes t k no_sets l) in
    joined_if (k isnt b) (all_sent_in e k (e.shown k)) v w (isnt_yes k b f)
    (record { same = λ q. within_union v w u.sends j q ∙ ap (λ (z : Bool). within w q and z) (s.same q) })

pub sent_out_own : (e : Estimate) (b k w : ℕ) → k ≡ b → Joined w w (sent_by_other e b k)
unfolding sent_by_other
sent_out_own e b k w f = joined-not (k isnt b) (all_sent_in e k (e.shown k)) w (isnt_no k b f)

pub others_end : (image : List ℕ) (boxes b k w : ℕ) (t : List BoxSets) → EstimateOfNames image boxes → Sends image boxes t
    → Through (sent_by_other (estimate_of image) b) k w → k ≤ length (take boxes t) → length (take boxes t) ≤ k
    → Least w (sent_by_others (estimate_of image) boxes b)
unfolding sent_by_others
others_end image boxes b k w t few d g l h =
    through_all (sent_by_other (estimate_of image) b) boxes k w g (omega (arith, length-take boxes t)) (omega (arith, length-take boxes t, d.size, few.most))

-- where all that other boxes may send is in q, so is what a name asks
pub others_suffice : (e : Estimate) (boxes b w q a : ℕ) → Least w (sent_by_others e boxes b) → T (within w q) → T (shared_at e boxes b a q)
unfolding sent_by_others sent_by_other shared_at shared_by_others shared_by_other all_shared_in shared_in all_sent_in sent_in
others_suffice e boxes b w q a r t =
    let all = (all_iff boxes (λ k. sent_by_other e b k q)).0 (of_true (sym (r.same q) ∙ true_of (within w q) t)) in
    (implies_iff (has (e.shown b) a) (shared_by_others e boxes b (e.eps b a) q)).1
    (λ _. (all_iff boxes (λ k. shared_by_other e b (e.eps b a) k q)).1
    (λ k l. (implies_iff (k isnt b) (all_shared_in e (e.eps b a) k (e.shown k) q)).1
    (λ other. (for_each_iff (e.shown k) (λ c. shared_in e (e.eps b a) k c q)).1
    (λ c m u. (implies_iff (meets (e.eps b a) (e.eps k c)) (within (e.kap k c) q)).1
    (λ _. (for_each_iff (e.shown k) (λ i. within (e.kap k i) q)).0 ((implies_iff (k isnt b) (all_sent_in e k (e.shown k) q)).0 (all k l) other) c m u)))))

-- so it is for each name of s
pub others_on : (e : Estimate) (boxes b w q s : ℕ) → Least w (sent_by_others e boxes b) → T (within w q) → T (shared_on e boxes b s q)
unfolding shared_on
others_on e boxes b w q s r t = (for_each_iff s (λ a. shared_at e boxes b a q)).1 (λ a l h. others_suffice e boxes b w q a r t)

-- ---- what the names of a channel ask of inputs, by the union of their types

module _ (e : Estimate) (boxes b s d x q : ℕ) (both : (m : ℕ) → has d m ≡ (has s m and has (e.shown b) m)) (types : Types e b d x) where
  one_of : (k c : ℕ) → T (meets x (e.eps k c)) → T (for_some d (λ a. meets (e.eps k c) (e.eps b a)))
  one_of k c t = of_true (sym (types.same (e.eps k c)) ∙ meets_comm (e.eps k c) x ∙ true_of (meets x (e.eps k c)) t)

  for_one : (k c a : ℕ) → a < 64 → T (has s a) → T (has (e.shown b) a) → T (meets (e.eps b a) (e.eps k c)) → T (meets x (e.eps k c))
  for_one k c a l h u t =
      of_true (meets_comm x (e.eps k c) ∙ types.same (e.eps k c) ∙ true_of (for_some d (λ a. meets (e.eps k c) (e.eps b a)))
      ((for_some_iff d (λ a. meets (e.eps k c) (e.eps b a))).1 (
        a,
        l,
        of_true (both a ∙ true_of (has s a and has (e.shown b) a) ((and_iff (has s a) (has (e.shown b) a)).1 (h, u))),
        of_true (meets_comm (e.eps k c) (e.eps b a) ∙ true_of (meets (e.eps b a) (e.eps k c)) t),
      )))

  to_each : T (shared_by_others e boxes b x q) → T (shared_on e boxes b s q)
  unfolding shared_on shared_at shared_by_others shared_by_other all_shared_in shared_in
  to_each t =
      (for_each_iff s (λ a. shared_at e boxes b a q)).1
      (λ a l h. (implies_iff (has (e.shown b) a) (shared_by_others e boxes b (e.eps b a) q)).1
      (λ u. (all_iff boxes (λ k. shared_by_other e b (e.eps b a) k q)).1
      (λ k z. (implies_iff (k isnt b) (all_shared_in e (e.eps b a) k (e.shown k) q)).1
      (λ other. (for_each_iff (e.shown k) (λ c. shared_in e (e.eps b a) k c q)).1
      (λ c y v. (implies_iff (meets (e.eps b a) (e.eps k c)) (sent_in e k c q)).1
      (λ w. (implies_iff (meets x (e.eps k c)) (sent_in e k c q)).0
      ((for_each_iff (e.shown k) (λ c. shared_in e x k c q)).0
      ((implies_iff (k isnt b) (all_shared_in e x k (e.shown k) q)).0 ((all_iff boxes (λ k. shared_by_other e b x k q)).0 t k z) other) c y v)
      (for_one k c a l h u w)))))))

  from_each : T (shared_on e boxes b s q) → T (shared_by_others e boxes b x q)
  unfolding shared_on shared_at shared_by_others shared_by_other all_shared_in shared_in
  from_each t =
      (all_iff boxes (λ k. shared_by_other e b x k q)).1
      (λ k z. (implies_iff (k isnt b) (all_shared_in e x k (e.shown k) q)).1
      (λ other. (for_each_iff (e.shown k) (λ c. shared_in e x k c q)).1
      (λ c y v. (implies_iff (meets x (e.eps k c)) (sent_in e k c q)).1
      (λ w. let m = (for_some_iff d (λ a. meets (e.eps k c) (e.eps b a))).0 (one_of k c w) in
      let g = (and_iff (has s m.0) (has (e.shown b) m.0)).0 (of_true (sym (both m.0) ∙ true_of (has d m.0) m.2)) in
      (implies_iff (meets (e.eps b m.0) (e.eps k c)) (sent_in e k c q)).0
      ((for_each_iff (e.shown k) (λ c. shared_in e (e.eps b m.0) k c q)).0
      ((implies_iff (k isnt b) (all_shared_in e (e.eps b m.0) k (e.shown k) q)).0
      ((all_iff boxes (λ k. shared_by_other e b (e.eps b m.0) k q)).0
      ((implies_iff (has (e.shown b) m.0) (shared_by_others e boxes b (e.eps b m.0) q)).0
      ((for_each_iff s (λ a. shared_at e boxes b a q)).0 t m.0 m.1 g.0) g.1) k z) other) c y v)
      (of_true (meets_comm (e.eps b m.0) (e.eps k c) ∙ true_of (meets (e.eps k c) (e.eps b m.0)) m.3))))))

  by_types : shared_by_others e boxes b x q ≡ shared_on e boxes b s q
  by_types = same_test (shared_by_others e boxes b x q) (shared_on e boxes b s q) to_each from_each

pub asks_as : (e : Estimate) (boxes b s d y x z : ℕ) (g : Gathered) → ((m : ℕ) → has d m ≡ (has s m and has y m)) → y ≡ e.shown b → Types e b d x → z ≡ x
    → GatheredOf e boxes b g → g.types ≡ z → Least g.asks (shared_on e boxes b s)
asks_as e boxes b s d y x z g both ey types ex h ez = record {
  same = λ q. h.asks.same q ∙ ap (λ (i : ℕ). shared_by_others e boxes b i q) (ez ∙ ex)
      ∙ by_types e boxes b s d x q (λ m. both m ∙ ap (λ (i : ℕ). has s m and has i m) ey) types;
}

-- ---- the names that box b may send on each name of a set

every : T (all_below 64 (has 0xffffffffffffffff))
unfolding all_below has ◌and◌
every = tt

all_names : (q : ℕ) → within q 0xffffffffffffffff ≡ true
all_names q = true_of (within q 0xffffffffffffffff) ((within_iff q 0xffffffffffffffff).1 (λ n l t. (all_iff 64 (has 0xffffffffffffffff)).0 every n l))

within_both : (v w u q : ℕ) → ((m : ℕ) → has v m ≡ (has w m and has u m)) → within q v ≡ (within q w and within q u)
within_both v w u q e =
    same_test (within q v) (within q w and within q u)
    (λ t. let f = (within_iff q v).0 t in
    let g : (n : ℕ) → n < 64 → T (has q n) → T (has w n) × T (has u n) = λ n l h. (and_iff (has w n) (has u n)).0 (of_true (sym (e n) ∙ true_of (has v n) (f n l h))) in
    (and_iff (within q w) (within q u)).1 ((within_iff q w).1 (λ n l h. (g n l h).0), (within_iff q u).1 (λ n l h. (g n l h).1)))
    (λ t. let p = (and_iff (within q w) (within q u)).0 t in
    (within_iff q v).1 (λ n l h. of_true (e n ∙ true_of (has w n and has u n) ((and_iff (has w n) (has u n)).1 ((within_iff q w).0 p.0 n l h, (within_iff q u).0 p.1 n l h)))))

-- what is left of s asks what w does not
pub record Meeting (e : Estimate) (b s left w : ℕ) : Type 0 where
  pub there : Left s left
  pub same : (q : ℕ) → (within q w and may_send e b left q) ≡ may_send e b s q

module _ (e : Estimate) (b s : ℕ) where
  pub meeting-start : s < 2 ^ 64 → Meeting e b s s 0xffffffffffffffff
  unfolding ◌and◌
  meeting-start h = record { there = left_start s h; same = λ q. ap (λ (y : Bool). y and may_send e b s q) (all_names q) }

  module _ (left w : ℕ) (g : Meeting e b s left w) where
    pub meeting-turn : (n t v u : ℕ) → LowestOf left n t → ((m : ℕ) → has v m ≡ (has w m and has u m)) → u ≡ e.kap b n
        → Meeting e b s t v
    unfolding may_send
    meeting-turn n t v u d j eu = record {
      there = left_turn s left t g.there (some_left left n t d) d.others;
      same = λ q. ap (λ (y : Bool). y and may_send e b t q) (within_both v w u q j ∙ ap (λ (y : ℕ). within q w and within q y) eu)
          ∙ and_assoc (within q w) (within q (e.kap b n)) (may_send e b t q)
          ∙ ap (λ (y : Bool). within q w and y) (sym (split_each (λ a. within q (e.kap b a)) left t n g.there.fit (some_left left n t d) d.lowest d.others)) ∙ g.same q;
    }

    pub meeting_end : left ≡ 0 → Most w (may_send e b s)
    unfolding may_send
    meeting_end z = record {
      same = λ q. sym (and-true (within q w)) ∙ ap (λ (y : Bool). within q w and y) (sym (none_each (λ a. within q (e.kap b a)) left z)) ∙ g.same q;
    }

-- ---- clauses 4, 5 and 6, by what is asked of a channel

pub four_met : (e : Estimate) (b : ℕ) (l : Line) → T (may_send e b (e.rho l.name1) (e.rho l.name2)) → clause4 e b l ≡ none
unfolding may_send
four_met e b l t = (clause4_iff e b l).1 (simp sets at t)

pub five-met : (e : Estimate) (b : ℕ) (l : Line) → T (all_sent_in e b (e.rho l.name1) (e.rho l.name2)) → clause5 e b l ≡ none
unfolding all_sent_in sent_in
five-met e b l t = (clause5_iff e b l).1 (simp sets at t)

pub six_met : (e : Estimate) (boxes b : ℕ) (l : Line) → T (shared_on e boxes b (e.rho l.name1) (e.rho l.name2)) → clause6 e boxes b l ≡ none
unfolding shared_on shared_at shared_by_others shared_by_other all_shared_in shared_in sent_in
six_met e boxes b l t = (clause6_iff e b l boxes).1 (simp sets at t)

-- ---- what is gathered

none_asked : (e : Estimate) (boxes b q : ℕ) → T (shared_by_others e boxes b 0 q)
unfolding shared_by_others shared_by_other all_shared_in shared_in
none_asked e boxes b q =
    (all_iff boxes (λ k. shared_by_other e b 0 k q)).1
    (λ k z. (implies_iff (k isnt b) (all_shared_in e 0 k (e.shown k) q)).1
    (λ other. (for_each_iff (e.shown k) (λ c. shared_in e 0 k c q)).1
    (λ c y v. (implies_iff (meets 0 (e.eps k c)) (sent_in e k c q)).1
    (λ t. let m = (meets_iff 0 (e.eps k c)).0 t in absurd (not-false (has-none m.0) m.2)))))

for_none : (e : Estimate) (boxes b : ℕ) → GatheredOf e boxes b (record { out = 0; most = 0xffffffffffffffff; on = 0; all = 0; types = 0; asks = 0 })
unfolding may_send all_sent_in
for_none e boxes b = record {
  most = record { same = λ q. all_names q ∙ sym (none_each (λ a. within q (e.kap b a)) 0 refl) };
  all = record { same = λ q. within_none q ∙ sym (none_each (λ c. sent_in e b c q) 0 refl) };
  asks = record { same = λ q. within_none q ∙ sym (true_of (shared_by_others e boxes b 0 q) (none_asked e boxes b q)) };
}

pub nothing_gathered : NothingGathered (record { out = 0; most = 0xffffffffffffffff; on = 0; all = 0; types = 0; asks = 0 })
nothing_gathered = record { each = for_none }

pub nothing_of : (e : Estimate) (boxes b : ℕ) (g : Gathered) → NothingGathered g → GatheredOf e boxes b g
nothing_of e boxes b g n = n.each e boxes b

module _ (e : Estimate) (boxes b : ℕ) (g : Gathered) (h : GatheredOf e boxes b g) where
  pub with_most : (s w : ℕ) → Most w (may_send e b s)
      → GatheredOf e boxes b (record { out = s; most = w; on = g.on; all = g.all; types = g.types; asks = g.asks })
  with_most s w m = record { most = m; all = h.all; asks = h.asks }

  pub with_all : (s w : ℕ) → Least w (all_sent_in e b s)
      → GatheredOf e boxes b (record { out = g.out; most = g.most; on = s; all = w; types = g.types; asks = g.asks })
  with_all s w m = record { most = h.most; all = m; asks = h.asks }

  pub with_asks : (x w : ℕ) → Least w (shared_by_others e boxes b x)
      → GatheredOf e boxes b (record { out = g.out; most = g.most; on = g.on; all = g.all; types = x; asks = w })
  with_asks x w m = record { most = h.most; all = h.all; asks = m }

pub ruleset gathers = (rules, left_62, gathering_start, sent_union, names_end, shared_end, others_end, meeting_end)

pub ruleset tables = (rules, names_shown, sets_as, rows_start, rows_turn, sends_end, types_end)

pub ruleset gathered = (rules, names_shown, sends_at, shown_in_lem, shown_out_lem, types_at, nothing_gathered, with_most, with_all, with_asks, names_both, asks_as)
