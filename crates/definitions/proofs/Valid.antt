-- What a model that is not refused promises: each fact that refusals 4 and 6 to 9 stand for, as a named record. Assumes nothing.
use mathlib.Core.Path.{◌≡◌, refl, subst, sym}
use mathlib.Core.Logic.{◌↔◌, ◌⊎◌, inl, inr, ◌≢◌, ⊎_elim}
use mathlib.Core.Bool.{Bool}
use mathlib.Core.Option.{none, some}
use Prim.Native.Nat.{ℕ, ◌≤◌, ◌<◌}
use native.Mathlib.Omega.{arith}
use lib.Dec.{T}
use lib.ListN.{length}
use Rattle.definitions.specs.Bounded.{◌or◌, ◌is◌, any_below}
use Rattle.definitions.specs.Sets.{has, size}
use Rattle.definitions.specs.Model.{Site, Line, Box, Model, site_at, line_at, box_at, site_count, line_count, box_count, kind_of_name, nil, parallel, restriction, output, input, expose, hide, unhide, binds, binds_in, bound_above, owner}
use Rattle.definitions.specs.ReadModel.{type_fits, used_before, site_fits, uses_name1, uses_name2, uses_child1, line_fits, tree_fits, uses, bound_before, reach_fits, first_misfit, model_fault}
use Rattle.definitions.proofs.Bounded.{tests, and_iff, or_iff, is_iff, any_iff}
use Rattle.definitions.proofs.Faults.{faults, not_iff, first-is, is-first}
use Rattle.definitions.proofs.Sets.{for_each_iff}
use Rattle.definitions.proofs.Tree.{ChildOf, first_child, second_child, child_of, above_child}

-- a type has 1 to 8 names
pub record TypeSize (type : ℕ) : Type 0 where
  pub some : 1 ≤ size type
  pub most : size type ≤ 8

-- 6: site i of box b
pub record ValidSite (m : Model) (b i : ℕ) (s : Site) : Type 0 where
  pub listed : s.subject < length m.kinds
  pub free : kind_of_name m.kinds s.subject ≡ 0
  pub flag_fits : s.flag ≤ 1
  pub type_size : TypeSize s.type
  pub type_listed : (n : ℕ) → n < 64 → T (has s.type n) → n < length m.kinds
  pub type_free : (n : ℕ) → n < 64 → T (has s.type n) → kind_of_name m.kinds n ≡ 0
  pub lacks_subject : T (has s.type s.subject) → ⊥
  -- no earlier site of the box has the subject, and no site of an earlier box
  pub fresh : (j : ℕ) → j < i → (site_at (box_at m b) j).subject ≢ s.subject
  pub fresh_abroad : (c : ℕ) → c < b → (j : ℕ) → j < site_count (box_at m c) → (site_at (box_at m c) j).subject ≢ s.subject
  pub spare_zero : s.spare ≡ 0

-- 7: a line
pub record ValidLine (m : Model) (l : Line) : Type 0 where
  pub known : l.op ≤ 8
  pub restrict_listed : l.op ≡ restriction → l.name1 < length m.kinds
  pub restrict_kind : l.op ≡ restriction → kind_of_name m.kinds l.name1 ≡ 1
  pub output_listed : l.op ≡ output → l.name1 < length m.kinds
  pub sent_listed : l.op ≡ output → l.name2 < length m.kinds
  pub input_listed : l.op ≡ input → l.name1 < length m.kinds
  pub received_listed : l.op ≡ input → l.name2 < length m.kinds
  pub received_kind : l.op ≡ input → kind_of_name m.kinds l.name2 ≡ 2
  pub expose_listed : l.op ≡ expose → l.name1 < length m.kinds
  pub expose_kind : l.op ≡ expose → kind_of_name m.kinds l.name1 ≡ 3
  pub expose_size : l.op ≡ expose → TypeSize l.type
  pub expose_type : l.op ≡ expose → (n : ℕ) → n < 64 → T (has l.type n) → n < length m.kinds
  pub hide_listed : l.op ≡ hide → l.name1 < length m.kinds
  pub unhide_listed : l.op ≡ unhide → l.name1 < length m.kinds
  -- an expose's type lacks its name
  pub expose_lacks : l.op ≡ expose → T (has l.type l.name1) → ⊥
  -- what the line binds is listed, and not free
  pub binds_listed : (n : ℕ) → T (binds l n) → n < length m.kinds
  pub binds_kind : (n : ℕ) → T (binds l n) → 1 ≤ kind_of_name m.kinds n

-- 8: line i of box x. What is bound strictly above a child is what the line binds, and what is bound strictly above the line
pub record ValidTree (x : Box) (i : ℕ) (l : Line) : Type 0 where
  pub child1 : l.op ≢ nil → l.child1 < line_count x
  pub child2 : l.op ≡ parallel → l.child2 < line_count x
  pub after1 : l.op ≢ nil → i < l.child1
  pub after2 : l.op ≡ parallel → i < l.child2
  pub apart : l.op ≡ parallel → l.child1 ≢ l.child2
  pub above1 : l.op ≢ nil → (n : ℕ) → bound_above x l.child1 n ≡ (binds l n or bound_above x i n)
  pub above2 : l.op ≡ parallel → (n : ℕ) → bound_above x l.child2 n ≡ (binds l n or bound_above x i n)

-- 9: line i of box b. A name that is used is free or bound strictly above; a name that is bound is bound in this box alone
pub record ValidReach (m : Model) (b i : ℕ) (l : Line) : Type 0 where
  pub output_channel : l.op ≡ output → (kind_of_name m.kinds l.name1 ≡ 0) ⊎ T (bound_above (box_at m b) i l.name1)
  pub output_sent : l.op ≡ output → (kind_of_name m.kinds l.name2 ≡ 0) ⊎ T (bound_above (box_at m b) i l.name2)
  pub input_channel : l.op ≡ input → (kind_of_name m.kinds l.name1 ≡ 0) ⊎ T (bound_above (box_at m b) i l.name1)
  pub expose_reach : l.op ≡ expose → (n : ℕ) → n < 64 → T (has l.type n) → (kind_of_name m.kinds n ≡ 0) ⊎ T (bound_above (box_at m b) i n)
  pub hide_reach : l.op ≡ hide → (kind_of_name m.kinds l.name1 ≡ 0) ⊎ T (bound_above (box_at m b) i l.name1)
  pub unhide_reach : l.op ≡ unhide → (kind_of_name m.kinds l.name1 ≡ 0) ⊎ T (bound_above (box_at m b) i l.name1)
  pub owned : (n : ℕ) → T (binds l n) → owner m n ≡ some b

pub record ValidBox (m : Model) (b : ℕ) (x : Box) : Type 0 where
  pub some_site : 1 ≤ site_count x
  pub most_sites : site_count x ≤ 16
  pub some_line : 1 ≤ line_count x
  pub most_lines : line_count x ≤ 124
  pub site : (i : ℕ) → i < site_count x → ValidSite m b i (site_at x i)
  pub line : (i : ℕ) → i < line_count x → ValidLine m (line_at x i)
  pub tree : (i : ℕ) → i < line_count x → ValidTree x i (line_at x i)
  pub reach : (i : ℕ) → i < line_count x → ValidReach m b i (line_at x i)

pub record Valid (m : Model) : Type 0 where
  pub names : length m.kinds ≤ 60
  pub kinds_fit : (n : ℕ) → kind_of_name m.kinds n ≤ 3
  pub most_boxes : box_count m ≤ 8
  pub box : (b : ℕ) → b < box_count m → ValidBox m b (box_at m b)

-- ---- from the tests to the facts

-- the tests of 6 to 9 pass at every record
pub record Fits (m : Model) : Type 0 where
  pub sites : (b : ℕ) → b < box_count m → (i : ℕ) → i < site_count (box_at m b) → T (site_fits m b i)
  pub lines : (b : ℕ) → b < box_count m → (i : ℕ) → i < line_count (box_at m b) → T (line_fits m.kinds (line_at (box_at m b) i))
  pub trees : (b : ℕ) → b < box_count m → (i : ℕ) → i < line_count (box_at m b) → T (tree_fits (box_at m b) i)
  pub reaches : (b : ℕ) → b < box_count m → (i : ℕ) → i < line_count (box_at m b) → T (reach_fits m b i)

pub fits_iff : (m : Model) → (model_fault m ≡ none) ↔ Fits m
unfolding model_fault first_misfit
fits_iff m = (
  λ e. let p = simp faults at e in record { sites = p.0; lines = p.1.0; trees = p.1.1.0; reaches = p.1.1.1 },
  λ f. simp faults (f.sites, (f.lines, (f.trees, f.reaches))),
)

-- what a line binds
pub binds_iff : (l : Line) (n : ℕ)
    → T (binds l n) ↔ ((((l.op ≡ restriction) ⊎ (l.op ≡ expose)) × (l.name1 ≡ n)) ⊎ ((l.op ≡ input) × (l.name2 ≡ n)))
unfolding binds
binds_iff l n = (
  λ t. ⊎_elim (λ u. inl (let p = simp (tests, or_iff) at u in (made p.0, p.1))) (λ u. inr (simp tests at u)) (simp or_iff at t),
  λ p. simp or_iff (⊎_elim (λ u. inl (simp (tests, or_iff) (tested u.0, u.1))) (λ u. inr (simp tests u)) p),
)
  where
    made : T (l.op is restriction) ⊎ T (l.op is expose) → (l.op ≡ restriction) ⊎ (l.op ≡ expose)
    made = ⊎_elim (λ t. inl ((is_iff l.op restriction).0 t)) (λ t. inr ((is_iff l.op expose).0 t))

    tested : (l.op ≡ restriction) ⊎ (l.op ≡ expose) → T (l.op is restriction) ⊎ T (l.op is expose)
    tested = ⊎_elim (λ e. inl ((is_iff l.op restriction).1 e)) (λ e. inr ((is_iff l.op expose).1 e))

-- so what is true of a restricted, an exposed and a received name is true of a name that is bound
pub binds_case : (P : ℕ → Type 0) (l : Line) → (l.op ≡ restriction → P l.name1) → (l.op ≡ expose → P l.name1)
    → (l.op ≡ input → P l.name2) → (n : ℕ) → T (binds l n) → P n
binds_case P l f g h n t =
    ⊎_elim (λ u. subst P u.1 (⊎_elim f g u.0)) (λ u. subst P u.1 (h u.0)) ((binds_iff l n).0 t)

-- an earlier site with the subject: of the same box, of an earlier box
used_here : (m : Model) (b i s j : ℕ) → j < i → (site_at (box_at m b) j).subject ≡ s → T (used_before m b i s)
unfolding used_before
used_here m b i s j h e =
    simp or_iff (inr ((any_iff i (λ j. (site_at (box_at m b) j).subject is s)).1 (j, h, (is_iff (site_at (box_at m b) j).subject s).1 e)))

used_abroad : (m : Model) (b i s c j : ℕ) → c < b → j < site_count (box_at m c) → (site_at (box_at m c) j).subject ≡ s → T (used_before m b i s)
unfolding used_before
used_abroad m b i s c j h k e =
    let in_box : ℕ → Bool = λ c. any_below (site_count (box_at m c)) (λ j. (site_at (box_at m c) j).subject is s) in
    simp or_iff (inl ((any_iff b in_box).1
    (c, h, (any_iff (site_count (box_at m c)) (λ j. (site_at (box_at m c) j).subject is s)).1 (j, k, (is_iff (site_at (box_at m c) j).subject s).1 e))))

-- the operations that have a channel
abbrev channelled : ℕ → Bool
channelled op = op is output or op is input or op is hide or op is unhide

-- what a line uses: its channel, what it sends, the names of its type
uses_channel : (l : Line) → T (channelled l.op) → T (uses l l.name1)
unfolding uses
uses_channel l t = simp or_iff (inl (simp or_iff (inl (simp and_iff (t, simp tests refl)))))

uses_sent : (l : Line) → l.op ≡ output → T (uses l l.name2)
unfolding uses
uses_sent l e = simp or_iff (inl (simp or_iff (inr (simp tests (e, refl)))))

uses_type : (l : Line) (n : ℕ) → l.op ≡ expose → T (has l.type n) → T (uses l n)
unfolding uses
uses_type l n e t = simp or_iff (inr (simp tests (e, t)))

-- the box whose lines bind a name: the lowest that has such a line
pub owner-is : (m : Model) (n b : ℕ) → b < box_count m → T (binds_in (box_at m b) n) → ((c : ℕ) → c < b → T (binds_in (box_at m c) n) → ⊥)
    → owner m n ≡ some b
unfolding owner
owner-is m n b h t f = first-is (λ c. binds_in (box_at m c) n) (box_count m) b h t f

pub is-owner : (m : Model) (n b : ℕ) → owner m n ≡ some b → (b < box_count m) × T (binds_in (box_at m b) n)
unfolding owner
is-owner m n b e = let f = is-first (λ c. binds_in (box_at m c) n) (box_count m) b e in (f.0, f.1)

pub binds_in_iff : (x : Box) (n : ℕ) → T (binds_in x n) ↔ ((i : ℕ) × (i < line_count x) × T (binds (line_at x i) n))
unfolding binds_in
binds_in_iff x n = any_iff (line_count x) (λ i. binds (line_at x i) n)

-- an earlier line that binds: of an earlier box
bound_abroad : (m : Model) (b i n c : ℕ) → c < b → T (binds_in (box_at m c) n) → T (bound_before m b i n)
unfolding bound_before
bound_abroad m b i n c h t = simp or_iff (inl ((any_iff b (λ c. binds_in (box_at m c) n)).1 (c, h, t)))

module _ (m : Model) (b i : ℕ) where
  -- 6
  valid_site : T (site_fits m b i) → ValidSite m b i (site_at (box_at m b) i)
  unfolding site_fits type_fits
  valid_site t =
      let p = simp (tests, for_each_iff, not_iff) at t in
      let s = site_at (box_at m b) i in
      record {
        listed = p.0.0.0.0.0;
        free = p.0.0.0.0.1;
        flag_fits = p.0.0.1;
        type_size = record { some = p.1.0.0.0; most = p.1.0.0.1 };
        type_listed = λ n q u. (p.1.0.1 n q u).0;
        type_free = λ n q u. (p.1.0.1 n q u).1;
        lacks_subject = p.1.1;
        fresh = λ j h e. p.0.0.0.1 (used_here m b i s.subject j h e);
        fresh_abroad = λ c h j k e. p.0.0.0.1 (used_abroad m b i s.subject c j h k e);
        spare_zero = p.0.1;
      }

  -- 7
  valid_line : T (line_fits m.kinds (line_at (box_at m b) i)) → ValidLine m (line_at (box_at m b) i)
  unfolding line_fits type_fits uses_name1 uses_name2 uses_child1
  valid_line t =
      let p = simp (tests, for_each_iff, not_iff, or_iff) at t in
      let l = line_at (box_at m b) i in
      let named : 3 ≤ l.op → l.name1 < length m.kinds = p.0.0.0.0.0.0.0.0.0.1 in
      let second = p.0.0.0.0.0.0.0.1 in
      let bound1 = p.0.0.0.1 in
      let bound2 = p.0.0.1 in
      let bound3 = p.0.1 in
      record {
        known = p.0.0.0.0.0.0.0.0.0.0.0;
        restrict_listed = λ e. named (omega arith);
        restrict_kind = bound1;
        output_listed = λ e. named (omega arith);
        sent_listed = λ e. second (inl ((is_iff l.op output).1 e));
        input_listed = λ e. named (omega arith);
        received_listed = λ e. second (inr ((is_iff l.op input).1 e));
        received_kind = bound2;
        expose_listed = λ e. named (omega arith);
        expose_kind = λ e. (bound3 e).0;
        expose_size = λ e. record { some = (bound3 e).1.0.0.0; most = (bound3 e).1.0.0.1 };
        expose_type = λ e. (bound3 e).1.0.1;
        hide_listed = λ e. named (omega arith);
        unhide_listed = λ e. named (omega arith);
        expose_lacks = λ e. (bound3 e).1.1;
        binds_listed = binds_case (λ n. n < length m.kinds) l (λ e. named (omega arith)) (λ e. named (omega arith)) (λ e. second (inr ((is_iff l.op input).1 e)));
        binds_kind = binds_case (λ n. 1 ≤ kind_of_name m.kinds n) l (λ e. omega (arith, bound1 e)) (λ e. omega (arith, (bound3 e).0)) (λ e. omega (arith, bound2 e));
      }

  -- 9
  valid_reach : length m.kinds ≤ 60 → b < box_count m → i < line_count (box_at m b) → ValidLine m (line_at (box_at m b) i)
      → T (reach_fits m b i) → ValidReach m b i (line_at (box_at m b) i)
  unfolding reach_fits ◌or◌ ◌is◌
  valid_reach few h k v t =
      let p = simp (tests, or_iff, not_iff) at t in
      let l = line_at (box_at m b) i in
      let reach : (n : ℕ) → n < 64 → T (uses l n) → (kind_of_name m.kinds n ≡ 0) ⊎ T (bound_above (box_at m b) i n) =
      λ n q u. ⊎_elim (λ z. inl ((is_iff (kind_of_name m.kinds n) 0).0 z)) inr ((p n q).0 u) in
      let channel : (op : ℕ) → T (channelled op) → l.op ≡ op → l.name1 < length m.kinds
      → (kind_of_name m.kinds l.name1 ≡ 0) ⊎ T (bound_above (box_at m b) i l.name1) =
      λ op u e q. reach l.name1 (omega arith) (uses_channel l (subst (λ (o : ℕ). T (channelled o)) (sym e) u)) in
      record {
        output_channel = λ e. channel output tt e (v.output_listed e);
        output_sent = λ e. reach l.name2 (omega (arith, v.sent_listed e)) (uses_sent l e);
        input_channel = λ e. channel input tt e (v.input_listed e);
        expose_reach = λ e n q u. reach n q (uses_type l n e u);
        hide_reach = λ e. channel hide tt e (v.hide_listed e);
        unhide_reach = λ e. channel unhide tt e (v.unhide_listed e);
        owned = λ n u. owner-is m n b h ((binds_in_iff (box_at m b) n).1 (i, k, u))
            (λ c q w. (p n (omega (arith, v.binds_listed n u))).1 u (bound_abroad m b i n c q w));
      }

-- 8
valid_tree : (x : Box) → ((i : ℕ) → i < line_count x → T (tree_fits x i)) → (i : ℕ) → i < line_count x → ValidTree x i (line_at x i)
unfolding tree_fits
valid_tree x fits i h =
    let l = line_at x i in
    let one : l.op ≢ nil → ChildOf x i l.child1 = λ f. child_of x fits i l.child1 h (first_child l f) in
    let two : l.op ≡ parallel → ChildOf x i l.child2 = λ e. child_of x fits i l.child2 h (second_child l e) in
    let p = simp tests at (fits i h) in
    record {
      child1 = λ f. (one f).there;
      child2 = λ e. (two e).there;
      after1 = λ f. (one f).after;
      after2 = λ e. (two e).after;
      apart = λ e. (p.0.1 e).1;
      above1 = λ f n. above_child x fits i l.child1 n h (first_child l f);
      above2 = λ e n. above_child x fits i l.child2 n h (second_child l e);
    }

-- the counts of a box, as its blocks give them
pub record Counts (x : Box) : Type 0 where
  pub some_site : 1 ≤ site_count x
  pub most_sites : site_count x ≤ 16
  pub some_line : 1 ≤ line_count x
  pub most_lines : line_count x ≤ 124

pub valid_of : (m : Model) → model_fault m ≡ none → length m.kinds ≤ 60 → ((n : ℕ) → kind_of_name m.kinds n ≤ 3) → box_count m ≤ 8
    → ((b : ℕ) → b < box_count m → Counts (box_at m b)) → Valid m
valid_of m e few kinds boxes counts =
    let f = (fits_iff m).0 e in
    record {
      names = few;
      kinds_fit = kinds;
      most_boxes = boxes;
      box = λ b h. let c = counts b h in
          let line : (i : ℕ) → i < line_count (box_at m b) → ValidLine m (line_at (box_at m b) i) = λ i k. valid_line m b i (f.lines b h i k) in
          record {
            some_site = c.some_site;
            most_sites = c.most_sites;
            some_line = c.some_line;
            most_lines = c.most_lines;
            site = λ i k. valid_site m b i (f.sites b h i k);
            line = line;
            tree = valid_tree (box_at m b) (f.trees b h);
            reach = λ i k. valid_reach m b i few h k (line i k) (f.reaches b h i k);
          };
    }
