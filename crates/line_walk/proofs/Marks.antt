-- The tree by marks: a place that was not marked before is a later line of the box that no line before has as a child. Assumes nothing.
use mathlib.Core.Path.{◌≡◌, refl, sym, ap, ap₂, ◌∙◌, subst}
use mathlib.Core.Bool.{false}
use mathlib.Core.List.{List}
use mathlib.Core.Logic.{◌≢◌, ◌⊎◌, inl, inr, ⊎_elim}
use Prim.Native.Nat.{ℕ, zero, suc, ◌+◌, ◌≤◌, ◌<◌}
use native.Mathlib.Omega.{arith}
use native.Mathlib.Decide.{dec_lt, ℕ_discrete}
use lib.Dec.{T}
use lib.ListN.{length, get_or, set, length-set}
use lib.Seq.{get_or-set_same, get_or-set_other}
use Rattle.definitions.specs.Bounded.{◌and◌, ◌or◌, ◌is◌, ◌isnt◌, ◌implies◌, any_below}
use Rattle.definitions.specs.Sets.{has}
use Rattle.definitions.specs.Model.{Line, Box, line_at, line_count, has_child, binds, bound_above}
use Rattle.definitions.specs.ReadModel.{child_fits, tree_fits}
use Rattle.definitions.proofs.Bounded.{tests, and_iff, implies_iff, any_iff, isnt_iff, not-false}
use Rattle.definitions.proofs.Faults.{not_iff}
use Rattle.definitions.proofs.Tree.{child_iff, child_of, above_child, above_root}
use Rattle.records.specs.NameSets.{SetOf}

-- after i lines: a place without its mark is a line from 1 on that no line before i has as a child, and the others have their marks of some line
pub record Marked (x : Box) (i : ℕ) (up : List ℕ) : Type 0 where
  pub long : length up ≡ 128
  pub after : (c : ℕ) → c < 128 → has (get_or up c 0) 63 ≡ false → 0 < c
  pub there : (c : ℕ) → c < 128 → has (get_or up c 0) 63 ≡ false → c < line_count x
  pub fresh : (c : ℕ) → c < 128 → has (get_or up c 0) 63 ≡ false → (j : ℕ) → j < i → T (has_child (line_at x j) c) → ⊥
  pub taken : (c : ℕ) → c < 128 → c < line_count x → c ≢ 0 → T (has (get_or up c 0) 63) → (j : ℕ) × (j < i) × T (has_child (line_at x j) c)
  -- each line before i but the first is the child of a line before it
  pub parents : (c : ℕ) → c < i → c ≢ 0 → (j : ℕ) × (j < c) × T (has_child (line_at x j) c)

pub marked_start : (x : Box) (up : List ℕ) → length up ≡ 128
    → ((c : ℕ) → c < 128 → has (get_or up c 0) 63 ≡ false → (0 < c) × (c < line_count x))
    → ((c : ℕ) → c < line_count x → c ≢ 0 → has (get_or up c 0) 63 ≡ false) → Marked x 0 up
marked_start x up l f g = record {
  long = l;
  after = λ c h e. (f c h e).0;
  there = λ c h e. (f c h e).1;
  fresh = λ c h e j q t. absurd (omega arith);
  taken = λ c h m z t. absurd (not-false (g c m z) t);
  parents = λ c h z. absurd (omega arith);
}

-- the names bound strictly above the children of the lines before i; a line without children writes over place 0, which is read once, at the start
pub record Above (x : Box) (i : ℕ) (up : List ℕ) : Type 0 where
  pub root : i ≡ 0 → (n : ℕ) → n < 63 → has (get_or up 0 0) n ≡ bound_above x 0 n
  pub children : (j c : ℕ) → j < i → T (has_child (line_at x j) c) → (n : ℕ) → n < 63 → has (get_or up c 0) n ≡ bound_above x c n

pub above_start : (x : Box) (up : List ℕ) → ((n : ℕ) → n < 63 → has (get_or up 0 0) n ≡ false) → Above x 0 up
above_start x up f = record { root = λ z n h. f n h ∙ sym (above_root x n); children = λ j c g t n h. absurd (omega arith) }

pub above_at : (x : Box) → ((i : ℕ) → i < line_count x → T (tree_fits x i)) → (i : ℕ) (up : List ℕ) → Above x i up → i < line_count x
    → (n : ℕ) → n < 63 → has (get_or up i 0) n ≡ bound_above x i n
unfolding tree_fits
above_at x fits zero up a g n h = a.root refl n h
above_at x fits (suc i) up a g n h =
    let t = ((and_iff _ (suc i isnt 0 implies any_below (line_count x) (λ j. has_child (line_at x j) (suc i)))).0 (fits (suc i) g)).1 in
    let f = (any_iff (line_count x) (λ j. has_child (line_at x j) (suc i))).0 ((implies_iff (suc i isnt 0) _).0 t ((isnt_iff (suc i) 0).1 (λ e. absurd (omega arith)))) in
    a.children f.0 (suc i) (omega (arith, (child_of x fits f.0 (suc i) f.1 f.2).after)) f.2 n h

module _ (x : Box) (i here c1 c2 : ℕ) (up : List ℕ) (l : Line) (p : Marked x i up) (inside : i < line_count x) (few : line_count x ≤ 124) (e : l ≡ line_at x i)
    (h1 : c1 < 128) (h2 : c2 < 128) (q1 : l.child1 ≡ c1) (q2 : l.child2 ≡ c2) (nil : l.op ≡ 0 → c1 ≡ 0) (one : l.op ≢ 1 → c2 ≡ 0)
    (marked : T (has here 63)) (visit : T (has (get_or up i 0) 63))
    (ok1 : l.op ≢ 0 → has (get_or up c1 0) 63 ≡ false) (ok2 : l.op ≡ 1 → has (get_or (set up c1 here) c2 0) 63 ≡ false) where
  long1 : length (set up c1 here) ≡ 128
  long1 = length-set up c1 here ∙ p.long

  same1 : get_or (set up c1 here) c1 0 ≡ here
  same1 = get_or-set_same up c1 here 0 (omega (arith, p.long))

  other1 : (c : ℕ) → c1 ≢ c → get_or (set up c1 here) c 0 ≡ get_or up c 0
  other1 c n = get_or-set_other up c1 c here 0 (λ z. n (sym z))

  same2 : get_or (set (set up c1 here) c2 here) c2 0 ≡ here
  same2 = get_or-set_same (set up c1 here) c2 here 0 (omega (arith, long1))

  other2 : (c : ℕ) → c2 ≢ c → get_or (set (set up c1 here) c2 here) c 0 ≡ get_or (set up c1 here) c 0
  other2 c n = get_or-set_other (set up c1 here) c2 c here 0 (λ z. n (sym z))

  parent_of : (c : ℕ) → c ≤ i → c ≢ 0 → (j : ℕ) × (j < c) × T (has_child (line_at x j) c)
  parent_of c g z = pick (ℕ_discrete c i)
    where
      pick : Dec (c ≡ i) → (j : ℕ) × (j < c) × T (has_child (line_at x j) c)
      pick (yes q) =
          subst (λ (c : ℕ). (j : ℕ) × (j < c) × T (has_child (line_at x j) c)) (sym q)
          (p.taken i (omega arith) inside (λ y. z (q ∙ y)) visit)
      pick (no q) = p.parents c (omega arith) z

  -- a place without its mark is a later line
  later : (c : ℕ) → c < 128 → has (get_or up c 0) 63 ≡ false → i < c
  later c h f = pick (dec_lt i c)
    where
      pick : Dec (i < c) → i < c
      pick (yes g) = g
      pick (no g) =
          let a = p.after c h f in
          let w = parent_of c (omega arith) (λ z. absurd (omega arith)) in
          absurd (p.fresh c h f w.0 (omega (arith, w.1)) w.2)

  apart : l.op ≡ 1 → c1 ≢ c2
  apart o z = not-false (ok2 o) (subst (λ (c : ℕ). T (has (get_or (set up c1 here) c 0) 63)) z (subst (λ (v : ℕ). T (has v 63)) (sym same1) marked))

  ok2' : l.op ≡ 1 → has (get_or up c2 0) 63 ≡ false
  ok2' o = ap (λ (v : ℕ). has v 63) (sym (other1 c2 (apart o))) ∙ ok2 o

  fits_child : (c : ℕ) → c < 128 → has (get_or up c 0) 63 ≡ false → T (child_fits x i c)
  unfolding child_fits
  fits_child c h f =
      simp (tests, not_iff) ((later c h f, p.there c h f), λ t. let w = (any_iff i (λ j. has_child (line_at x j) c)).0 t in p.fresh c h f w.0 w.1 w.2)

  pub tree_right : T (tree_fits x i)
  unfolding tree_fits
  tree_right = subst (λ (l : Line). T ((l.op isnt 0 implies child_fits x i l.child1) and (l.op is 1 implies child_fits x i l.child2 and l.child1 isnt l.child2)
      and (i isnt 0 implies any_below (line_count x) (λ j. has_child (line_at x j) i)))) e
      (simp tests (
        (
          λ o. subst (λ (c : ℕ). T (child_fits x i c)) (sym q1) (fits_child c1 h1 (ok1 o)),
          λ o. (subst (λ (c : ℕ). T (child_fits x i c)) (sym q2) (fits_child c2 h2 (ok2' o)), λ z. apart o (sym q1 ∙ z ∙ q2)),
        ),
        λ z. let w = p.taken i (omega arith) inside z visit in (any_iff (line_count x) (λ j. has_child (line_at x j) i)).1 (w.0, omega (arith, w.1), w.2),
      ))

  -- the children of line i are the places written, but for place 0
  is_child : (c : ℕ) → T (has_child (line_at x i) c) → (c1 ≡ c) ⊎ (c2 ≡ c)
  is_child c t =
      let w = (child_iff l c).0 (subst (λ (l : Line). T (has_child l c)) (sym e) t) in
      ⊎_elim (λ z. inl (sym q1 ∙ z)) (λ z. inr (sym q2 ∙ z.1)) w.1

  child_one : (c : ℕ) → c ≢ 0 → c1 ≡ c → T (has_child (line_at x i) c)
  child_one c z q = subst (λ (l : Line). T (has_child l c)) e ((child_iff l c).1 ((λ o. z (sym q ∙ nil o)), inl (q1 ∙ q)))

  child_two : (c : ℕ) → c ≢ 0 → c2 ≡ c → T (has_child (line_at x i) c)
  child_two c z q = pick (ℕ_discrete l.op 1)
    where
      pick : Dec (l.op ≡ 1) → T (has_child (line_at x i) c)
      pick (yes o) = subst (λ (l : Line). T (has_child l c)) e ((child_iff l c).1 ((λ y. absurd (omega (arith, o, y))), inr (o, q2 ∙ q)))
      pick (no o) = absurd (z (sym q ∙ one o))

  abbrev new : List ℕ
  new = set (set up c1 here) c2 here

  -- a place without its mark now is none of the two, and had none before
  unmarked : (c : ℕ) → has (get_or new c 0) 63 ≡ false → (c1 ≢ c) × (c2 ≢ c) × (has (get_or up c 0) 63 ≡ false)
  unmarked c f =
      let two : c2 ≢ c = λ z. not-false f (subst (λ (c : ℕ). T (has (get_or new c 0) 63)) z (subst (λ (v : ℕ). T (has v 63)) (sym same2) marked)) in
      let g : has (get_or (set up c1 here) c 0) 63 ≡ false = ap (λ (v : ℕ). has v 63) (sym (other2 c two)) ∙ f in
      let first : c1 ≢ c = λ z. not-false g (subst (λ (c : ℕ). T (has (get_or (set up c1 here) c 0) 63)) z (subst (λ (v : ℕ). T (has v 63)) (sym same1) marked)) in
      (first, two, ap (λ (v : ℕ). has v 63) (sym (other1 c first)) ∙ g)

  pub marked_turn : Marked x (i + 1) new
  marked_turn = record {
    long = length-set (set up c1 here) c2 here ∙ long1;
    after = λ c h f. p.after c h (unmarked c f).2;
    there = λ c h f. p.there c h (unmarked c f).2;
    fresh = λ c h f j g t. still c h f j g t (ℕ_discrete i j);
    taken = λ c h m z t. found c h m z t (ℕ_discrete c1 c) (ℕ_discrete c2 c);
    parents = λ c g z. parent_of c (omega arith) z;
  }
    where
      still : (c : ℕ) → c < 128 → has (get_or new c 0) 63 ≡ false → (j : ℕ) → j < i + 1 → T (has_child (line_at x j) c) → Dec (i ≡ j) → ⊥
      still c h f j g t (yes z) =
          let u = unmarked c f in
          ⊎_elim u.0 u.1 (is_child c (subst (λ (j : ℕ). T (has_child (line_at x j) c)) (sym z) t))
      still c h f j g t (no z) = p.fresh c h (unmarked c f).2 j (omega arith) t

      found : (c : ℕ) → c < 128 → c < line_count x → c ≢ 0 → T (has (get_or new c 0) 63) → Dec (c1 ≡ c) → Dec (c2 ≡ c)
          → (j : ℕ) × (j < i + 1) × T (has_child (line_at x j) c)
      found c h m z t (yes a) b = (i, omega arith, child_one c z a)
      found c h m z t (no a) (yes b) = (i, omega arith, child_two c z b)
      found c h m z t (no a) (no b) =
          let w = p.taken c h m z (subst (λ (v : ℕ). T (has v 63)) (other2 c b ∙ other1 c a) t) in
          (w.0, omega (arith, w.1), w.2)

  -- ---- the names bound strictly above each line, where every line fits the tree

  child_place : (c : ℕ) → T (has_child (line_at x i) c) → get_or new c 0 ≡ here
  child_place c t = pick (ℕ_discrete c2 c) (is_child c t)
    where
      pick : Dec (c2 ≡ c) → (c1 ≡ c) ⊎ (c2 ≡ c) → get_or new c 0 ≡ here
      pick (yes z) w = subst (λ (c : ℕ). get_or new c 0 ≡ here) z same2
      pick (no z) (inl w) = other2 c z ∙ subst (λ (c : ℕ). get_or (set up c1 here) c 0 ≡ here) w same1
      pick (no z) (inr w) = absurd (z w)

  other_place : (c : ℕ) → c ≢ 0 → (T (has_child (line_at x i) c) → ⊥) → get_or new c 0 ≡ get_or up c 0
  other_place c z n = other2 c (λ q. n (child_two c z q)) ∙ other1 c (λ q. n (child_one c z q))

  pub above_turn : (fits : (i : ℕ) → i < line_count x → T (tree_fits x i)) (bs : ℕ) → SetOf bs (binds l)
      → ((n : ℕ) → has here n ≡ (has bs n or has (get_or up i 0) n)) → Above x i up → Above x (i + 1) new
  above_turn fits bs b f a = record { root = λ z. absurd (omega arith); children = λ j c g t. pick j c g t (ℕ_discrete i j) }
    where
      pick : (j c : ℕ) → j < i + 1 → T (has_child (line_at x j) c) → Dec (i ≡ j) → (n : ℕ) → n < 63 → has (get_or new c 0) n ≡ bound_above x c n
      pick j c g t (yes z) n h =
          let t' : T (has_child (line_at x i) c) = subst (λ (j : ℕ). T (has_child (line_at x j) c)) (sym z) t in
          ap (λ (v : ℕ). has v n) (child_place c t') ∙ f n
          ∙ ap₂ ◌or◌ (b.at n (omega arith) ∙ ap (λ (y : Line). binds y n) e) (above_at x fits i up a inside n h) ∙ sym (above_child x fits i c n inside t')
      pick j c g t (no z) n h =
          let o = child_of x fits j c (omega arith) t in
          ap (λ (v : ℕ). has v n) (other_place c (λ q. absurd (omega (arith, o.after))) (λ u. (child_of x fits i c inside u).first j (omega arith) t)) ∙ a.children j c (omega arith) t n h
