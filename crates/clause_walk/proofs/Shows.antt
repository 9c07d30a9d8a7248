-- What the tests show, and that together they show every line. Assumes nothing.
use mathlib.Core.Path.{◌≡◌, sym, ap, subst, ◌∙◌}
use mathlib.Core.Bool.{Bool, true, false}
use mathlib.Core.List.{List}
use mathlib.Core.Logic.{inl, inr}
use mathlib.Core.Option.{none}
use Prim.Native.Nat.{ℕ, ◌%◌, ◌≤◌, ◌<◌}
use native.Mathlib.Nat.{not-suc-le-zero}
use native.Mathlib.Omega.{arith}
use borrow.Author.Rules.{rules}
use lib.Dec.{T}
use lib.ListN.{length, get_or, take, length-take}
use lib.Seq.{get_or-take}
use Rattle.definitions.specs.Bounded.{◌implies◌, ◌is◌, any_below}
use Rattle.definitions.specs.Sets.{has, for_each, within}
use Rattle.definitions.specs.Model as paper
use Rattle.definitions.specs.Estimate.{Estimate, estimate_of}
use Rattle.definitions.specs.Clauses.{clause5, clause6}
use Rattle.definitions.proofs.Bounded.{is_iff, any_iff, true_of, of_true}
use Rattle.definitions.proofs.Sets.{for_each_iff, within_iff, within_trans}
use Rattle.definitions.proofs.Clauses.{sets, clause3_iff, clause4_iff, clause7_iff, clause8_iff, clause9_iff}
use Rattle.records.specs.declared.Line.{Line}
use Rattle.records.specs.Records.{line_in}
use Rattle.records.specs.Places.{line_record_at}
use Rattle.sets.specs.Ascending.{LowestOf}
use Rattle.sets.specs.Names.{NamesOnly}
use Rattle.sets.proofs.Each.{some_left}
use Rattle.sets.proofs.Walk.{EachLeft, each_start, each_turn, each_stop, each_end}
use Rattle.clauses.specs.Known.{LineOfNames, MayTurn}
use Rattle.clauses.proofs.Members.{left_62, names_rho, rho_names, box_62, names_62, second_62, box_there, boxed}
use Rattle.sharing.specs.declared.Gathered.{Gathered}
use Rattle.sharing.specs.Shared.{Least, all_sent_in, sent_by_others, shared_on, may_send, GatheredOf}
use Rattle.sharing.proofs.Gather.{others_on, five-met, six_met}
use Rattle.line_gather.specs.Gathered.{LinesOfNames, Gathers}
use Rattle.clause_walk.specs.Lines.{OpsOfNames, ListBelow, NotExpose, NamesPass, ShowsNames, ListedPass, PassesWith, ShowsList, LinePasses, ShowsLines}

-- ---- the names by operation

pub ops_62 : (ops : List ℕ) (o s : ℕ) → OpsOfNames ops → o < 16 → s ≡ get_or ops o 0 → NamesOnly s
ops_62 ops o s f l e = rw e (f.each o l)

-- sets within what may be turned: each of their names that is in the one set is in the other
turn_pass : (e : Estimate) (s from to x y m : ℕ) → x ≡ from → y ≡ to → MayTurn x y m → T (for_each s (λ g. within (e.rho g) m))
    → T (for_each s (λ g. for_each (e.rho g) (λ a. has from a implies has to a)))
turn_pass e s from to x y m ex ey k t =
    rw (← ex, ← ey)
    ((for_each_iff s (λ g. for_each (e.rho g) (λ a. has x a implies has y a))).1 (λ g h u.
    (for_each_iff (e.rho g) (λ a. has x a implies has y a)).1 (λ a l v.
    of_true (sym (k.members a l) ∙ true_of (has m a) ((within_iff (e.rho g) m).0 ((for_each_iff s (λ g. within (e.rho g) m)).0 t g h u) a l v)))))

module _ (e : Estimate) (b : ℕ) (ops : List ℕ) where
  pub names_no : ShowsNames e b ops false
  names_no = record { shows = λ t. absurd t }

  pub names_yes : (x3 x6 x7 x8 shown hidden hides unhides : ℕ) (r3 r6 rs r7 r : Bool) → x3 ≡ get_or ops 3 0 → x6 ≡ get_or ops 6 0 → x7 ≡ get_or ops 7 0 → x8 ≡ get_or ops 8 0
      → shown ≡ e.shown b → hidden ≡ e.hidden b → MayTurn shown hidden hides → MayTurn hidden shown unhides
      → r3 ≡ for_each x3 (λ n. has (e.rho n) n) → r3 ≡ true → r6 ≡ for_each x6 (λ n. has (e.rho n) n) → r6 ≡ true → rs ≡ within x6 shown → rs ≡ true
      → r7 ≡ for_each x7 (λ g. within (e.rho g) hides) → r7 ≡ true → r ≡ for_each x8 (λ g. within (e.rho g) unhides) → ShowsNames e b ops r
  names_yes x3 x6 x7 x8 shown hidden hides unhides r3 r6 rs r7 r e3 e6 e7 e8 es eh mh mu f3 t3 f6 t6 fs ts f7 t7 f8 = record {
    shows = λ t. record {
      restricted = subst (λ (x : ℕ). T (for_each x (λ n. has (e.rho n) n))) e3 (of_true (sym f3 ∙ t3));
      exposed = subst (λ (x : ℕ). T (for_each x (λ n. has (e.rho n) n))) e6 (of_true (sym f6 ∙ t6));
      shown = rw (sym e6, sym es) (of_true (sym fs ∙ ts));
      hides = rw (sym e7) (turn_pass e x7 (e.shown b) (e.hidden b) shown hidden hides es eh mh (of_true (sym f7 ∙ t7)));
      unhides = rw (sym e8) (turn_pass e x8 (e.hidden b) (e.shown b) hidden shown unhides eh es mu (of_true (sym f8 ∙ true_of r t)));
    };
  }

-- ---- outputs

pub most_as : (e : Estimate) (boxes b p i s : ℕ) (sent : List ℕ) (g : Gathered) (r : Bool) → GatheredOf e boxes b g → g.out ≡ s → s ≡ e.rho p → i ≡ p
    → r ≡ within (get_or sent i 0) g.most → r ≡ may_send e b (e.rho p) (get_or sent p 0)
most_as e boxes b p i s sent g r h eo es ei er =
    er ∙ h.most.same (get_or sent i 0) ∙ ap (λ (x : ℕ). may_send e b x (get_or sent i 0)) (eo ∙ es) ∙ ap (λ (x : ℕ). may_send e b (e.rho p) (get_or sent x 0)) ei

-- ---- a line of the list

module _ (e : Estimate) (boxes b : ℕ) (l : paper.Line) where
  -- an expose, by its type
  pub listed_expose : (x : ℕ) (r : Bool) (g : Gathered) → l.op ≡ 6 → x ≡ e.eps b l.name1 → r ≡ for_each l.type (λ g. within (e.rho g) x) → r ≡ true
      → GatheredOf e boxes b g → PassesWith e boxes b l g
  listed_expose x r g o ex er t h = record {
    passes = record {
      five = λ z. absurd (omega (arith, o, z));
      six = λ z. absurd (omega (arith, o, z));
      type = λ _. subst (λ (y : ℕ). T (for_each l.type (λ g. within (e.rho g) y))) ex (of_true (sym er ∙ t));
    };
    gathered = h;
  }

  module _ (s all : ℕ) (es : s ≡ e.rho l.name1) (other : NotExpose l) (least : Least all (all_sent_in e b s)) (five : Bool) (f : five ≡ within all (e.rho l.name2)) (t : five ≡ true) where
    clause_5 : clause5 e b l ≡ none
    clause_5 = five-met e b l (of_true (ap (λ (x : ℕ). all_sent_in e b x (e.rho l.name2)) (sym es) ∙ sym (least.same (e.rho l.name2)) ∙ sym f ∙ t))

    -- an input: all that other boxes may send is in rho(q)
    pub listed_others : (w : ℕ) (r : Bool) (g : Gathered) → Least w (sent_by_others e boxes b) → r ≡ within w (e.rho l.name2) → r ≡ true → GatheredOf e boxes b g
        → PassesWith e boxes b l g
    listed_others w r g o er u h = record {
      passes = record {
        five = λ _. clause_5;
        six = λ _. six_met e boxes b l (others_on e boxes b w (e.rho l.name2) (e.rho l.name1) o (of_true (sym er ∙ u)));
        type = λ z. absurd (other.other z);
      };
      gathered = h;
    }

    -- an input: what clause 6 asks is in rho(q)
    pub listed_asks : (w : ℕ) (r : Bool) (g : Gathered) → Least w (shared_on e boxes b s) → r ≡ within w (e.rho l.name2) → r ≡ true → GatheredOf e boxes b g
        → PassesWith e boxes b l g
    listed_asks w r g a er u h = record {
      passes = record {
        five = λ _. clause_5;
        six = λ _. six_met e boxes b l (of_true (ap (λ (x : ℕ). shared_on e boxes b x (e.rho l.name2)) (sym es) ∙ sym (a.same (e.rho l.name2)) ∙ sym er ∙ u));
        type = λ z. absurd (other.other z);
      };
      gathered = h;
    }

pub all_as : (e : Estimate) (boxes b s : ℕ) (g : Gathered) → GatheredOf e boxes b g → g.on ≡ s → Least g.all (all_sent_in e b s)
all_as e boxes b s g h eo = rw eo at h.all

-- what the calls require
pub type_names : (l : Line) → LineOfNames (line_in l) → NamesOnly l.names
type_names l f = f.type

pub not-expose : (l : Line) → (l.op ≡ 6 → ⊥) → NotExpose (line_in l)
not-expose l f = record { other = f }

-- ---- the lines of the list

pub record ListPassed (model : List ℕ) (e : Estimate) (boxes b k : ℕ) (listed : List ℕ) (m : ℕ) : Type 0 where
  pub each : (j : ℕ) → j < m → ListedPass e boxes b (line_record_at model k (get_or listed j 0))

module _ (model : List ℕ) (e : Estimate) (boxes b k : ℕ) (listed : List ℕ) where
  pub list_start : ListPassed model e boxes b k listed 0
  list_start = record { each = λ j l. absurd (not-suc-le-zero l) }

  pub list_no : ShowsList model e boxes b k listed false
  list_no = record { shows = λ t. absurd t }

  pub list_end : (m : ℕ) → ListPassed model e boxes b k listed m → length listed ≤ m → ShowsList model e boxes b k listed true
  list_end m p h = record { shows = λ _ j l. p.each j (omega arith) }

pub list_at : (n m i : ℕ) (listed : List ℕ) → ListBelow listed n → m < length listed → i ≡ get_or listed m 0 → i < n
list_at n m i listed f h e = rw e (f.each m h)

-- ---- every line

module _ (model estimate : List ℕ) (k n c : ℕ) (ops sent listed : List ℕ) (there : LinesOfNames model k n) (g : Gathers model estimate k n ops sent listed c) where
  pub ops_named : OpsOfNames ops
  ops_named = record { each = g.names }

  taken : (m : ℕ) → m < length (take c listed) → m < c
  taken m l = omega (arith, length-take c listed)

  same : (m : ℕ) → m < length (take c listed) → get_or (take c listed) m 0 ≡ get_or listed m 0
  same m l = get_or-take c listed m 0 (taken m l)

  pub list_below : ListBelow (take c listed) n
  list_below = record { each = λ m l. rw (same m l) (g.inside m (taken m l)) }

  module _ (boxes b : ℕ) where
    e : Estimate
    e = estimate_of estimate

    pub lines_no : ShowsLines model (estimate_of estimate) boxes b k n false
    lines_no = record { shows = λ t. absurd t }

    module _ (names : NamesPass (estimate_of estimate) b ops)
        (outputs : T (for_each (get_or ops 4 0) (λ p. may_send (estimate_of estimate) b ((estimate_of estimate).rho p) (get_or sent p 0))))
        (list : (m : ℕ) → m < c → ListedPass (estimate_of estimate) boxes b (line_record_at model k (get_or listed m 0))) (i : ℕ) (h : i < n) where
      l : paper.Line
      l = line_record_at model k i

      first : l.name1 < 64
      unfolding l
      first = omega (arith, (there.each i h).first)

      -- its first name is in the set of its operation
      in_ops : (o : ℕ) → o < 16 → l.op ≡ o → T (has (get_or ops o 0) l.name1)
      unfolding l
      in_ops o a z = subst (λ (x : ℕ). T (has (get_or ops x 0) l.name1)) (ap (λ (x : ℕ). x % 16) z ∙ small o a) (g.named i h)
        where
          small : (o : ℕ) → o < 16 → o % 16 ≡ o
          small o a = omega arith

      in_list : (P : paper.Line → Type 0) → (ListedPass (estimate_of estimate) boxes b l → P l) → T (any_below c (λ m. get_or listed m 0 is i)) → P l
      unfolding l
      in_list P f t =
          let x = (any_iff c (λ m. get_or listed m 0 is i)).0 t in
          f (subst (λ (y : ℕ). ListedPass (estimate_of estimate) boxes b (line_record_at model k y)) ((is_iff (get_or listed x.0 0) i).0 x.2) (list x.0 x.1))

      one_line : LinePasses (estimate_of estimate) boxes b l
      unfolding l may_send
      one_line = record {
        three = λ z.
            (clause3_iff (estimate_of estimate) b l).1
            ((for_each_iff (get_or ops 3 0) (λ n. has ((estimate_of estimate).rho n) n)).0 names.restricted l.name1 first (in_ops 3 (omega arith) z));
        four = λ z.
            let may = (for_each_iff (get_or ops 4 0) (λ p. may_send (estimate_of estimate) b ((estimate_of estimate).rho p) (get_or sent p 0))).0 outputs l.name1 first
            (in_ops 4 (omega arith) z) in
            (clause4_iff (estimate_of estimate) b l).1
            (λ a u v. (within_iff ((estimate_of estimate).rho l.name2) ((estimate_of estimate).kap b a)).0
            (within_trans ((estimate_of estimate).rho l.name2) (get_or sent l.name1 0) ((estimate_of estimate).kap b a) (g.sends i h z)
            ((for_each_iff ((estimate_of estimate).rho l.name1) (λ a. within (get_or sent l.name1 0) ((estimate_of estimate).kap b a))).0 may a u v)));
        five = λ z. in_list (λ y. clause5 (estimate_of estimate) b y ≡ none) (λ p. p.five z) (g.lists i h (inl z));
        six = λ z. in_list (λ y. clause6 (estimate_of estimate) boxes b y ≡ none) (λ p. p.six z) (g.lists i h (inl z));
        seven = λ z.
            let o = in_ops 6 (omega arith) z in
            let t = in_list (λ y. T (for_each y.type (λ t. within ((estimate_of estimate).rho t) ((estimate_of estimate).eps b y.name1)))) (λ p. p.type z) (g.lists i h (inr z)) in
            (clause7_iff (estimate_of estimate) b l).1 (record {
              self = (for_each_iff (get_or ops 6 0) (λ n. has ((estimate_of estimate).rho n) n)).0 names.exposed l.name1 first o;
              shown = (within_iff (get_or ops 6 0) ((estimate_of estimate).shown b)).0 names.shown l.name1 first o;
              type = simp sets at t;
            });
        eight = λ z. let t = names.hides in (clause8_iff (estimate_of estimate) b l).1 ((simp sets at t) l.name1 first (in_ops 7 (omega arith) z));
        nine = λ z. let t = names.unhides in (clause9_iff (estimate_of estimate) b l).1 ((simp sets at t) l.name1 first (in_ops 8 (omega arith) z));
      }

    pub lines_yes : (named outs r : Bool) → ShowsNames (estimate_of estimate) b ops named → named ≡ true
        → outs ≡ for_each (get_or ops 4 0) (λ p. may_send (estimate_of estimate) b ((estimate_of estimate).rho p) (get_or sent p 0)) → outs ≡ true
        → length listed ≡ 128 → ShowsList model (estimate_of estimate) boxes b k (take c listed) r → ShowsLines model (estimate_of estimate) boxes b k n r
    unfolding l
    lines_yes named outs r names tn eouts to long list = record {
      shows = λ t i h. one_line (names.shows (of_true tn)) (of_true (sym eouts ∙ to)) (λ m a.
          let z : m < length (take c listed) = omega (arith, length-take c listed, long, g.few, there.there.few) in
          rw (same m z) at (list.shows t m z)) i h;
    }

-- ---- a walk over the channels

module _ (p : ℕ → Bool) (s left n t : ℕ) (b : Bool) (w : EachLeft p s left) (d : LowestOf left n t) (e : b ≡ p n) where
  pub channel_stop : b ≡ false → false ≡ for_each s p
  channel_stop f = each_stop p s left n b w (some_left left n t d) d.lowest e f

  pub channel_turn : b ≡ true → EachLeft p s t
  channel_turn f = each_turn p s left n b w (some_left left n t d) d.lowest e t d.others f

pub ruleset named = (rules, box_62, second_62, ops_62, names_no, names_yes)

pub ruleset outputs = (rules, left_62, each_end, names_rho, box_there, box_62, boxed)

pub ruleset inputs = (rules, rho_names, box_62, names_62, second_62, all_as, listed_expose, listed_others, listed_asks, not-expose, type_names)

pub ruleset lists = (rules, list_no, list_end, list_at)

pub ruleset shown = (rules, ops_named, list_below, lines_no, lines_yes, ops_62, boxed, second_62)
