-- One line after another put into what is gathered. Assumes nothing.
use mathlib.Core.Path.{◌≡◌, refl, sym, ap, subst, ◌∙◌}
use mathlib.Core.Bool.{Bool, true, false}
use mathlib.Core.List.{List}
use mathlib.Core.Logic.{◌⊎◌, inl, inr, ⊎_elim}
use Prim.Native.Nat.{ℕ, ◌+◌, ◌%◌, ◌≤◌, ◌<◌, zero-le}
use native.Mathlib.Nat.{not-suc-le-zero, le_antisymm}
use native.Mathlib.Omega.{arith}
use native.Mathlib.Decide.{ℕ_discrete}
use borrow.Author.Rules.{rules}
use lib.Dec.{T, eqb}
use lib.ListN.{length, get_or, set, replicate, get_or-replicate}
use lib.Seq.{get_or-set_same, get_or-set_other}
use Rattle.definitions.specs.Bounded.{◌or◌, ◌is◌, any_below}
use Rattle.definitions.specs.Sets.{has, within}
use Rattle.definitions.specs.Model as paper
use Rattle.definitions.specs.Estimate.{estimate_of}
use Rattle.definitions.proofs.Bounded.{or_iff, is_iff, any_iff, true_of, of_true, not-false}
use Rattle.definitions.proofs.Sets.{has-none, within_iff, within_trans}
use Rattle.records.specs.declared.Line.{Line}
use Rattle.records.specs.Records.{line_in}
use Rattle.records.specs.Places.{line_record_at}
use Rattle.sets.specs.Names.{NamesOnly}
use Rattle.clauses.specs.Known.{LineOfNames}
use Rattle.clauses.proofs.Members.{UnionOf}
use Rattle.line_gather.specs.Gathered.{LinesOfNames, NamePut, SentPut, ListPut, Gathers}

-- ---- one line

pub name_put : (old : List ℕ) (l : paper.Line) (x w : ℕ) → x ≡ get_or old (l.op % 16) 0 → ((m : ℕ) → m < 64 → has w m ≡ (has x m or l.name1 is m))
    → NamePut old l (set old (l.op % 16) w)
name_put old l x w e f = record {
  value = w;
  put = refl;
  members = λ m h. f m h ∙ ap (λ (y : ℕ). has y m or l.name1 is m) e;
}

within_left : (v w u : ℕ) → UnionOf v w u → T (within w v)
within_left v w u j = (within_iff w v).1 (λ n l h. of_true (j n ∙ true_of (has w n or has u n) ((or_iff (has w n) (has u n)).1 (inl h))))

within_right : (v w u : ℕ) → UnionOf v w u → T (within u v)
within_right v w u j = (within_iff u v).1 (λ n l h. of_true (j n ∙ true_of (has w n or has u n) ((or_iff (has w n) (has u n)).1 (inr h))))

pub sent_put : (old : List ℕ) (l : paper.Line) (q p x u w : ℕ) → p ≡ l.name1 → x ≡ get_or old p 0 → (l.op ≡ 4 → u ≡ q) → UnionOf w x u
    → SentPut old l q (set old p w)
sent_put old l q p x u w ep ex f j =
    let e : x ≡ get_or old l.name1 0 = ex ∙ ap (λ (y : ℕ). get_or old y 0) ep in
    record {
      value = w;
      put = ap (λ (y : ℕ). set old y w) ep;
      keeps = subst (λ (y : ℕ). T (within y w)) e (within_left w x u j);
      sends = λ o. subst (λ (y : ℕ). T (within y w)) (f o) (within_right w x u j);
    }

module _ (old : List ℕ) (c i : ℕ) (l : paper.Line) (r : Bool) (e : r ≡ (eqb l.op 5 or eqb l.op 6)) where
  pub line_more : r ≡ true → ListPut old c i l (set old c i) (c + 1)
  line_more t = record { put = refl; least = omega arith; most = omega arith; more = λ _. refl }

  pub line_same : r ≡ false → ListPut old c i l (set old c i) c
  unfolding ◌is◌
  line_same t = record {
    put = refl;
    least = omega arith;
    most = omega arith;
    more = λ o. absurd (not-false (sym e ∙ t) ((or_iff (eqb l.op 5) (eqb l.op 6)).1 (⊎_elim (λ z. inl ((is_iff l.op 5).1 z)) (λ z. inr ((is_iff l.op 6).1 z)) o)));
  }

pub ruleset puts = (rules, name_put, line_more, line_same)

-- ---- the lines so far

module _ (model estimate : List ℕ) (k : ℕ) where
  pub gathers_start : (ops sent listed : List ℕ) → ops ≡ replicate 16 0 → sent ≡ replicate 64 0 → listed ≡ replicate 128 0 → Gathers model estimate k 0 ops sent listed 0
  gathers_start ops sent listed a b d = record {
    few = zero-le;
    names = λ o l. record { below = λ m h t. absurd (not-false (ap (λ (x : ℕ). has x m) (ap (λ (x : List ℕ). get_or x o 0) a ∙ get_or-replicate {A = ℕ} 16 o 0 0 l) ∙ has-none m) t) };
    named = λ j l. absurd (not-suc-le-zero l);
    sends = λ j l. absurd (not-suc-le-zero l);
    lists = λ j l. absurd (not-suc-le-zero l);
    inside = λ m l. absurd (not-suc-le-zero l);
  }

  module _ (n i c : ℕ) (ops sent listed : List ℕ) (lo : length ops ≡ 16) (ls : length sent ≡ 64) (ll : length listed ≡ 128) (g : Gathers model estimate k i ops sent listed c) (h : i < n) (there : LinesOfNames model k n)
      (l : paper.Line) (el : l ≡ line_record_at model k i) (q : ℕ) (eq : q ≡ (estimate_of estimate).rho l.name2) (ops' sent' listed' : List ℕ) (r : ℕ)
      (np : NamePut ops l ops') (sp : SentPut sent l q sent') (lp : ListPut listed c i l listed' r) where
    o : ℕ
    o = l.op % 16

    small : o < 16
    unfolding o
    small = omega arith

    names_of : LineOfNames l
    names_of = subst LineOfNames (sym el) (there.each i h)

    inside_few : c < 128
    inside_few = omega (arith, g.few, there.there.few)

    -- a set of first names keeps its members
    op_keeps : (x m : ℕ) → x < 16 → m < 64 → T (has (get_or ops x 0) m) → T (has (get_or ops' x 0) m)
    unfolding o
    op_keeps x m a b t = pick (ℕ_discrete x o)
      where
        pick : Dec (x ≡ o) → T (has (get_or ops' x 0) m)
        pick (yes z) = rw (np.put, z, get_or-set_same ops o np.value 0 (omega (arith, lo, small)))
            (of_true (np.members m b ∙ true_of (has (get_or ops o 0) m or l.name1 is m) ((or_iff (has (get_or ops o 0) m) (l.name1 is m)).1 (inl (subst (λ (y : ℕ). T (has (get_or ops y 0) m)) z t)))))
        pick (no z) = rw (np.put, get_or-set_other ops o x np.value 0 z) t

    op_here : T (has (get_or ops' o 0) l.name1)
    unfolding o
    op_here =
        let m = l.name1 in
        let b : m < 64 = omega (arith, names_of.first) in
        rw (np.put, get_or-set_same ops o np.value 0 (omega (arith, lo, small)))
        (of_true (np.members m b ∙ true_of (has (get_or ops o 0) m or m is m) ((or_iff (has (get_or ops o 0) m) (m is m)).1 (inr ((is_iff m m).1 refl)))))

    op_names : (x : ℕ) → x < 16 → NamesOnly (get_or ops' x 0)
    unfolding o
    op_names x a = pick (ℕ_discrete x o)
      where
        pick : Dec (x ≡ o) → NamesOnly (get_or ops' x 0)
        pick (yes z) = record {
          below = λ m b t.
              ⊎_elim (λ u. (g.names o small).below m b u) (λ u. subst (λ (y : ℕ). y < 60) ((is_iff l.name1 m).0 u) names_of.first)
              ((or_iff (has (get_or ops o 0) m) (l.name1 is m)).0 (of_true (sym (np.members m b) ∙ true_of (has np.value m)
              (rw (np.put, z, get_or-set_same ops o np.value 0 (omega (arith, lo, small))) at t))));
        }
        pick (no z) = rw (np.put, get_or-set_other ops o x np.value 0 z) (g.names x a)

    -- what is sent on a channel stays
    sent_keeps : (p w : ℕ) → p < 64 → T (within w (get_or sent p 0)) → T (within w (get_or sent' p 0))
    sent_keeps p w a t = pick (ℕ_discrete p l.name1)
      where
        pick : Dec (p ≡ l.name1) → T (within w (get_or sent' p 0))
        pick (yes z) = rw (sp.put, z, get_or-set_same sent l.name1 sp.value 0 (omega (arith, ls, names_of.first)))
            (within_trans w (get_or sent l.name1 0) sp.value (subst (λ (y : ℕ). T (within w (get_or sent y 0))) z t) sp.keeps)
        pick (no z) = rw (sp.put, get_or-set_other sent l.name1 p sp.value 0 z) t

    sent_here : l.op ≡ paper.output → T (within q (get_or sent' l.name1 0))
    sent_here e = rw (sp.put, get_or-set_same sent l.name1 sp.value 0 (omega (arith, ls, names_of.first))) (sp.sends e)

    -- the list
    list_keeps : (m : ℕ) → m < c → get_or listed' m 0 ≡ get_or listed m 0
    list_keeps m a = ap (λ (x : List ℕ). get_or x m 0) lp.put ∙ get_or-set_other listed c m i 0 (λ z. absurd (omega arith))

    list_here : get_or listed' c 0 ≡ i
    list_here = ap (λ (x : List ℕ). get_or x c 0) lp.put ∙ get_or-set_same listed c i 0 (omega (arith, ll, inside_few))

    list_old : (j : ℕ) → T (any_below c (λ m. get_or listed m 0 is j)) → T (any_below r (λ m. get_or listed' m 0 is j))
    list_old j t =
        let x = (any_iff c (λ m. get_or listed m 0 is j)).0 t in
        (any_iff r (λ m. get_or listed' m 0 is j)).1 (x.0, omega (arith, lp.least, x.1), subst (λ (y : ℕ). T (y is j)) (sym (list_keeps x.0 x.1)) x.2)

    list_new : (l.op ≡ paper.input) ⊎ (l.op ≡ paper.expose) → T (any_below r (λ m. get_or listed' m 0 is i))
    list_new e = (any_iff r (λ m. get_or listed' m 0 is i)).1 (c, omega (arith, lp.more e), (is_iff (get_or listed' c 0) i).1 list_here)

    list_inside : (m : ℕ) → m < r → get_or listed' m 0 < i + 1
    list_inside m a = pick (ℕ_discrete m c)
      where
        pick : Dec (m ≡ c) → get_or listed' m 0 < i + 1
        pick (yes z) = rw (z, list_here) (omega arith)
        pick (no z) = let x : m < c = omega (arith, lp.most) in rw (list_keeps m x) (omega (arith, g.inside m x))

    -- what is true of the earlier lines and of this one is true of all
    each : (P : ℕ → paper.Line → Type 0) → ((j : ℕ) → j < i → P j (line_record_at model k j)) → P i l → (j : ℕ) → j < i + 1 → P j (line_record_at model k j)
    each P old new j a = pick (ℕ_discrete i j)
      where
        pick : Dec (i ≡ j) → P j (line_record_at model k j)
        pick (yes z) = subst (λ (y : ℕ). P y (line_record_at model k y)) z (subst (P i) el new)
        pick (no z) = old j (omega arith)

    pub gathers_turn : Gathers model estimate k (i + 1) ops' sent' listed' r
    unfolding o
    gathers_turn = record {
      few = omega (arith, g.few, lp.most);
      names = op_names;
      named = each (λ j y. T (has (get_or ops' (y.op % 16) 0) y.name1))
          (λ j a. let y = line_record_at model k j in op_keeps (y.op % 16) y.name1 (omega arith) (omega (arith, (there.each j (omega arith)).first)) (g.named j a)) op_here;
      sends = each (λ j y. y.op ≡ paper.output → T (within ((estimate_of estimate).rho y.name2) (get_or sent' y.name1 0)))
          (λ j a e. let y = line_record_at model k j in sent_keeps y.name1 ((estimate_of estimate).rho y.name2) (omega (arith, (there.each j (omega arith)).first)) (g.sends j a e))
          (λ e. subst (λ (x : ℕ). T (within x (get_or sent' l.name1 0))) eq (sent_here e));
      lists = each (λ j y. (y.op ≡ paper.input) ⊎ (y.op ≡ paper.expose) → T (any_below r (λ m. get_or listed' m 0 is j)))
          (λ j a e. list_old j (g.lists j a e)) list_new;
      inside = list_inside;
    }

  pub gathers_end : (n i c : ℕ) (ops sent listed : List ℕ) → Gathers model estimate k i ops sent listed c → i ≤ n → n ≤ i → Gathers model estimate k n ops sent listed c
  gathers_end n i c ops sent listed g a b = subst (λ (x : ℕ). Gathers model estimate k x ops sent listed c) (le_antisymm a b) g

module _ (model estimate : List ℕ) (k n i : ℕ) (there : LinesOfNames model k n) (h : i < n) where
  pub room : (c : ℕ) (ops sent listed : List ℕ) → Gathers model estimate k i ops sent listed c → c < 128
  room c ops sent listed g = omega (arith, g.few, there.there.few)

  pub place-room : i < 128
  place-room = omega (arith, there.there.few)

  pub line-named : (l : paper.Line) → l ≡ line_record_at model k i → LineOfNames l
  line-named l e = subst LineOfNames (sym e) (there.each i h)

pub second_name : (l : Line) → LineOfNames (line_in l) → l.name2.0 < 62
second_name l f = omega (arith, f.second)

pub ruleset gathering = (rules, gathers_end, room, place-room, line-named, second_name)
