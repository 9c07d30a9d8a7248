-- Laws of what is bound strictly above each line of a box, and of rule 9 in a box. Assumes nothing.
use mathlib.Core.Path.{◌≡◌, refl, sym, ap, ap₂, ◌∙◌, subst}
use mathlib.Core.Bool.{Bool, true, false, not}
use mathlib.Core.List.{List}
use mathlib.Core.Logic.{◌⊎◌, inl, inr, ◌≢◌, ⊎_elim}
use mathlib.Core.Option.{none, some}
use Prim.Native.Nat.{ℕ, zero, suc, ◌+◌, ◌≤◌, ◌<◌}
use native.Mathlib.Nat.{le_refl}
use native.Mathlib.Numerals.{add-one}
use native.Mathlib.Omega.{arith}
use native.Mathlib.Decide.{ℕ_discrete}
use borrow.Author.Rules.{rules}
use lib.Dec.{T, eqb}
use lib.ListN.{length, get_or, set, replicate, length-set, length-replicate, get_or-replicate}
use lib.Seq.{get_or-set_same, get_or-set_other}
use Rattle.definitions.specs.Bounded.{◌or◌, ◌is◌, ◌isnt◌, ◌implies◌, any_below, some_if}
use Rattle.definitions.specs.Sets.{has}
use Rattle.definitions.specs.Answer.{Refusal, refusal}
use Rattle.definitions.specs.Model.{Line, Box, line_at, box_at, line_count, has_child, binds, binds_in, bound_above}
use Rattle.definitions.specs.Image.{model_of}
use Rattle.definitions.specs.ReadModel.{tree_fits, bound_before, reach_fits}
use Rattle.definitions.proofs.Bounded.{and_iff, or_iff, implies_iff, any_iff, is_iff, isnt_iff, decide, true_of, of_true, false_of, not-false}
use Rattle.definitions.proofs.Sets.{has-none, or_assoc}
use Rattle.definitions.proofs.Tree.{ChildOf, child_iff, child_of, above_child, above_root}
use Rattle.records.specs.NameSets.{SetOf}
use Rattle.record_rules.specs.Rules.{is_free_or_unlisted, DecidesReach}
use Rattle.records.specs.Places.{LinesThere, LinesAt, line_record_at}
use Rattle.box_runs.specs.Runs.{TreesFit, box_misfit}
use Rattle.box_reach.specs.Reach.{SetAt, SetAtChildren, handed_down, HandedDownEach}
use Rattle.records.proofs.PlaceLaws.{line-there, lines_of_box, line-at, line-count}
use Rattle.box_runs.proofs.Runs.{any_more, RecordsFit, records_start, records_turn, records_stop, records_end}

-- ---- one place of a list

pub set_yes : (old : List ℕ) (c v : ℕ) (t : Bool) → t ≡ true → c < 124 → length old ≡ 124 → SetAt old c v t (set old c v)
set_yes old c v t q h e = record {
  long = length-set old c v;
  stored = λ u l. get_or-set_same old c v 0 (omega arith);
  kept = λ d f. get_or-set_other old c d v 0 (λ z. f (of_true q) (sym z));
}

pub set_past : (old : List ℕ) (c v : ℕ) (t : Bool) → 124 ≤ c → SetAt old c v t old
set_past old c v t l = record { long = refl; stored = λ u h. absurd (omega arith); kept = λ d f. refl }

pub set_no : (old : List ℕ) (c v : ℕ) (t : Bool) → t ≡ false → SetAt old c v t old
set_no old c v t e = record { long = refl; stored = λ u h. absurd (not-false e u); kept = λ d f. refl }

pub set_children : (old mid new : List ℕ) (l : Line) (v : ℕ) → SetAt old l.child1 v (not (eqb l.op 0)) mid → SetAt mid l.child2 v (eqb l.op 1) new
    → SetAtChildren old l v new
unfolding ◌is◌ ◌isnt◌
set_children old mid new l v p q = record { between = mid; first = p; second = q }

-- ---- what n lines hand down

-- one line more: its children are given what it binds and what was handed down to it, and any other line keeps what it has
module _ (image : List ℕ) (k i c m : ℕ) where
  choice : Bool → Bool
  choice t = elim t [ true ↦ binds (line_record_at image k i) m or handed_down image k i i m | false ↦ handed_down image k i c m ]

  handed_child : T (has_child (line_record_at image k i) c) → handed_down image k (suc i) c m ≡ (binds (line_record_at image k i) m or handed_down image k i i m)
  unfolding handed_down choice
  handed_child t = ap choice (true_of (has_child (line_record_at image k i) c) t)

  handed_other : (T (has_child (line_record_at image k i) c) → ⊥) → handed_down image k (suc i) c m ≡ handed_down image k i c m
  unfolding handed_down choice
  handed_other f = ap choice (false_of (has_child (line_record_at image k i) c) f)

-- what is handed down is bound by one of the lines
pub handed-bound : (image : List ℕ) (k n c m : ℕ) → T (handed_down image k n c m) → (j : ℕ) × (j < n) × T (binds (line_record_at image k j) m)
unfolding handed_down
handed-bound image k zero c m t = absurd t
handed-bound image k (suc i) c m t = go (decide (has_child (line_record_at image k i) c)) (handed-bound image k i i m) (handed-bound image k i c m)
  where
    up : (j : ℕ) × (j < i) × T (binds (line_record_at image k j) m) → (j : ℕ) × (j < suc i) × T (binds (line_record_at image k j) m)
    up w = (w.0, let q = w.1 in omega arith, w.2)

    go : T (has_child (line_record_at image k i) c) ⊎ (T (has_child (line_record_at image k i) c) → ⊥)
        → (T (handed_down image k i i m) → (j : ℕ) × (j < i) × T (binds (line_record_at image k j) m))
        → (T (handed_down image k i c m) → (j : ℕ) × (j < i) × T (binds (line_record_at image k j) m))
        → (j : ℕ) × (j < suc i) × T (binds (line_record_at image k j) m)
    go (inl u) f g =
        ⊎_elim (λ b. (i, le_refl (suc i), b)) (λ d. up (f d))
        ((or_iff (binds (line_record_at image k i) m) (handed_down image k i i m)).0 (subst T (handed_child image k i c m u) t))
    go (inr u) f g = up (g (subst T (handed_other image k i c m u) t))

-- a line that is no child keeps its entry
children_kept : (up new : List ℕ) (l : Line) (v c : ℕ) → SetAtChildren up l v new → (T (has_child l c) → ⊥) → get_or new c 0 ≡ get_or up c 0
children_kept up new l v c s n =
    s.second.kept c (λ t q. n ((child_iff l c).1 (isnt_of t, inr ((is_iff l.op 1).0 t, q))))
    ∙ s.first.kept c (λ t q. n ((child_iff l c).1 ((isnt_iff l.op 0).0 t, inl q)))
  where
    isnt_of : T (l.op is 1) → l.op ≡ 0 → ⊥
    isnt_of t z = let o = (is_iff l.op 1).0 t in omega arith

-- a child has what it was given
children_given : (up new : List ℕ) (l : Line) (v c : ℕ) → SetAtChildren up l v new → c < 124 → T (has_child l c) → get_or new c 0 ≡ v
children_given up new l v c s small t =
    let q = (child_iff l c).0 t in
    ⊎_elim (λ z. first q.0 z (ℕ_discrete l.op 1) (ℕ_discrete l.child2 c)) (λ w. second w.0 w.1) q.1
  where
    second : l.op ≡ 1 → l.child2 ≡ c → get_or new c 0 ≡ v
    second o z = subst (λ (d : ℕ). get_or new d 0 ≡ v) z (s.second.stored ((is_iff l.op 1).1 o) (subst (λ (d : ℕ). d < 124) (sym z) small))

    stays : (T (l.op is 1) → l.child2 ≡ c → ⊥) → l.op ≢ 0 → l.child1 ≡ c → get_or new c 0 ≡ v
    stays n u z =
        s.second.kept c n
        ∙ subst (λ (d : ℕ). get_or s.between d 0 ≡ v) z (s.first.stored ((isnt_iff l.op 0).1 u) (subst (λ (d : ℕ). d < 124) (sym z) small))

    first : l.op ≢ 0 → l.child1 ≡ c → Dec (l.op ≡ 1) → Dec (l.child2 ≡ c) → get_or new c 0 ≡ v
    first u z (yes o) (yes w) = second o w
    first u z (yes o) (no w) = stays (λ _ q. w q) u z
    first u z (no o) d = stays (λ t q. o ((is_iff l.op 1).0 t)) u z

module _ (image : List ℕ) (k n : ℕ) where
  pub above_start : HandedDownEach image k 0 (replicate 124 0)
  unfolding handed_down
  above_start = record {
    long = length-replicate {A = ℕ} 124 0;
    at = λ c l. record { at = λ m _. ap (λ (s : ℕ). has s m) (get_or-replicate 124 c 0 0 l) ∙ has-none m };
  }

  pub above_turn : (i here bs : ℕ) (up new : List ℕ) (l : Line) → HandedDownEach image k i up → i < n → LinesThere image k n → l ≡ line_record_at image k i → SetOf bs (binds l)
      → ((m : ℕ) → has here m ≡ (has bs m or has (get_or up i 0) m)) → SetAtChildren up l here new
      → HandedDownEach image k (i + 1) new
  above_turn i here bs up new l p h t e b f down = subst (λ (j : ℕ). HandedDownEach image k j new) (sym (add-one i)) (record {
    long = down.second.long ∙ down.first.long ∙ p.long;
    at = λ c s. pick c s (decide (has_child l c));
  })
    where
      -- what a child is given
      given : SetOf here (λ m. binds (line_record_at image k i) m or handed_down image k i i m)
      given = record { at = λ m q. f m ∙ ap₂ ◌or◌ (b.at m q ∙ ap (λ (y : Line). binds y m) e) ((p.at i (omega (arith, t.few))).at m q) }

      pick : (c : ℕ) → c < 124 → T (has_child l c) ⊎ (T (has_child l c) → ⊥) → SetOf (get_or new c 0) (handed_down image k (suc i) c)
      pick c s (inl u) = record {
        at = λ m q. ap (λ (w : ℕ). has w m) (children_given up new l here c down s u) ∙ given.at m q
            ∙ sym (handed_child image k i c m (subst (λ (y : Line). T (has_child y c)) e u));
      }
      pick c s (inr u) = record {
        at = λ m q. ap (λ (w : ℕ). has w m) (children_kept up new l here c down u) ∙ (p.at c s).at m q
            ∙ sym (handed_other image k i c m (λ v. u (subst (λ (y : Line). T (has_child y c)) (sym e) v)));
      }

-- ---- in a box whose tree fits, that is what is bound strictly above

module _ (image : List ℕ) (b k n : ℕ) (h : LinesAt image b k n) (f : TreesFit image b n) where
  box : Box
  box = box_at (model_of image) b

  trees_of : (i : ℕ) → i < line_count box → T (tree_fits box i)
  unfolding box
  trees_of i l = f.fits i (omega (arith, line-count image b k n h))

  child_at : (i c : ℕ) → i < n → T (has_child (line_record_at image k i) c) → ChildOf box i c
  unfolding box
  child_at i c l t =
      child_of box trees_of i c (omega (arith, line-count image b k n h)) (subst (λ (y : Line). T (has_child y c)) (line-at image b k n h i l) t)

  -- what is handed down to line 0, and to each child of a line below i
  record Known (i : ℕ) : Type 0 where
    root : (m : ℕ) → handed_down image k i 0 m ≡ bound_above box 0 m
    children : (j c : ℕ) → j < i → T (has_child (line_record_at image k j) c) → (m : ℕ) → handed_down image k i c m ≡ bound_above box c m

  -- a line up to i is line 0, or a child of a line below i
  known_at : (i c : ℕ) → Known i → c ≤ i → c < n → (m : ℕ) → handed_down image k i c m ≡ bound_above box c m
  unfolding box tree_fits
  known_at i zero p l s = p.root
  known_at i (suc c) p l s =
      let t = ((and_iff _ (suc c isnt 0 implies any_below (line_count box) (λ j. has_child (line_at box j) (suc c)))).0 (f.fits (suc c) s)).1 in
      let q = (any_iff (line_count box) (λ j. has_child (line_at box j) (suc c))).0 ((implies_iff (suc c isnt 0) _).0 t ((isnt_iff (suc c) 0).1 (λ e. absurd (omega arith)))) in
      let there : q.0 < n = omega (arith, q.1, line-count image b k n h) in
      let u : T (has_child (line_record_at image k q.0) (suc c)) = subst (λ (y : Line). T (has_child y (suc c))) (sym (line-at image b k n h q.0 there)) q.2 in
      p.children q.0 (suc c) (omega (arith, (child_at q.0 (suc c) there u).after)) u

  known : (i : ℕ) → i ≤ n → Known i
  unfolding box handed_down
  known zero l = record { root = λ m. sym (above_root box m); children = λ j c q t. absurd (omega arith) }
  known (suc i) l = next (known i (omega arith))
    where
      next : Known i → Known (suc i)
      next p = record {
        root = λ m. handed_other image k i 0 m (λ t. absurd (omega (arith, (child_at i 0 l t).after))) ∙ p.root m;
        children = λ j c q t m. pick j c q t m (decide (has_child (line_record_at image k i) c));
      }
        where
          pick : (j c : ℕ) → j < suc i → T (has_child (line_record_at image k j) c) → (m : ℕ)
              → T (has_child (line_record_at image k i) c) ⊎ (T (has_child (line_record_at image k i) c) → ⊥)
              → handed_down image k (suc i) c m ≡ bound_above box c m
          pick j c q t m (inl u) =
              handed_child image k i c m u ∙ ap₂ ◌or◌ (ap (λ (y : Line). binds y m) (line-at image b k n h i l)) (known_at i i p (le_refl i) l m)
              ∙ sym (above_child box trees_of i c m (omega (arith, line-count image b k n h)) (subst (λ (y : Line). T (has_child y c)) (line-at image b k n h i l) u))
          pick j c q t m (inr u) = handed_other image k i c m u ∙ p.children j c (below (ℕ_discrete j i)) t m
            where
              below : Dec (j ≡ i) → j < i
              below (yes z) = absurd (u (subst (λ (j : ℕ). T (has_child (line_record_at image k j) c)) z t))
              below (no z) = omega arith

  -- at each of the lines that were looked at, and at the next
  pub bound_above_lem : (c : ℕ) → c ≤ n → (up : List ℕ) → HandedDownEach image k c up → (i : ℕ) → i ≤ c → i < n → SetOf (get_or up i 0) (bound_above (box_at (model_of image) b) i)
  unfolding box
  bound_above_lem c s up p i l small = record {
    at = λ m q. (p.at i (omega (arith, h.there.few))).at m q ∙ known_at c i (known c s) l small m;
  }

-- ---- 9: the reach of names in a box, and the names bound before

pub record ReachRun (image : List ℕ) (b k n i bound : ℕ) (up : List ℕ) : Type 0 where
  pub records_fit : RecordsFit 9 n (reach_fits (model_of image)) b i
  pub bound_up : SetOf bound (bound_before (model_of image) b i)
  pub above : HandedDownEach image k i up

pub reach-start : (image : List ℕ) (b k n bound : ℕ) → SetOf bound (bound_before (model_of image) b 0) → ReachRun image b k n 0 bound (replicate 124 0)
reach-start image b k n bound s = record { records_fit = records_start 9 n (reach_fits (model_of image)) b; bound_up = s; above = above_start image k n }

module _ (image : List ℕ) (b k n i : ℕ) (x : Line) (up : List ℕ) (free-or-unlisted bound : ℕ) (t : Bool) (p : ReachRun image b k n i bound up) (h : LinesAt image b k n) (l : i < n)
    (q : x ≡ line_record_at image k i) (trees : TreesFit image b n) (free : SetOf free-or-unlisted (is_free_or_unlisted (model_of image).kinds))
    (decided : DecidesReach x free-or-unlisted (get_or up i 0) bound t) where
  reach_judged : t ≡ reach_fits (model_of image) b i
  reach_judged =
      decided.decides (model_of image) b i free (bound_above_lem image b k n h trees i (omega arith) up p.above i (le_refl i) l) p.bound_up (q ∙ line-at image b k n h i l)

  pub reach-turn : (bs here r : ℕ) (new : List ℕ) → none ≡ some_if (not t) (refusal 9 b i) → SetOf bs (binds x) → ((m : ℕ) → has here m ≡ (has bs m or has (get_or up i 0) m))
      → SetAtChildren up x here new → ((m : ℕ) → has r m ≡ (has bound m or has bs m)) → ReachRun image b k n (i + 1) r new
  unfolding bound_before
  reach-turn bs here r new z s g down f = record {
    records_fit = records_turn 9 n (reach_fits (model_of image)) b i t p.records_fit l reach_judged z;
    bound_up = record {
      at = λ m j.
          let before = any_below b (λ c. binds_in (box_at (model_of image) c) m) in
          let lines : ℕ → Bool = λ c. binds (line_at (box_at (model_of image) b) c) m in
          f m ∙ ap₂ ◌or◌ (p.bound_up.at m j) (s.at m j ∙ ap (λ (y : Line). binds y m) (q ∙ line-at image b k n h i l))
          ∙ or_assoc before (any_below i lines) (lines i) ∙ ap (λ (w : Bool). before or w) (sym (any_more i lines));
    };
    above = above_turn image k n i here bs up new x p.above l h.there q s g down;
  }

  pub reach_stop : (r : Refusal) → some r ≡ some_if (not t) (refusal 9 b i) → some r ≡ box_misfit 9 n (reach_fits (model_of image)) b
  reach_stop r z = records_stop 9 n (reach_fits (model_of image)) b i t p.records_fit l reach_judged r z

pub reach_end : (image : List ℕ) (b k n i bound : ℕ) (up : List ℕ) → ReachRun image b k n i bound up → n ≤ i → none ≡ box_misfit 9 n (reach_fits (model_of image)) b
reach_end image b k n i bound up p l = records_end 9 n (reach_fits (model_of image)) b i p.records_fit l

pub ruleset reach = (rules, line-there, lines_of_box, set_yes, set_past, set_no, set_children, above_start, above_turn, reach-start, reach-turn, reach_stop, reach_end)
