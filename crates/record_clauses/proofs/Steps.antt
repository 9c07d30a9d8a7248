-- Laws of the clauses at one record: a name, and a line by its operation. Assumes nothing.
use mathlib.Core.Path.{◌≡◌, refl, sym, ap, ◌∙◌}
use mathlib.Core.Bool.{Bool, false, not}
use mathlib.Core.Option.{Option, none, some}
use Prim.Native.Nat.{ℕ, ◌<◌}
use native.Mathlib.Nat.{lt_trans}
use native.Mathlib.Omega.{arith}
use borrow.Author.Rules.{rules}
use lib.Dec.{T}
use lib.ListN.{length}
use Rattle.definitions.specs.Bounded.{◌is◌, ◌below◌, when, or_else}
use Rattle.definitions.specs.Sets.{has, absent, first_short, within}
use Rattle.definitions.specs.Model as paper
use Rattle.definitions.specs.Estimate.{Estimate}
use Rattle.definitions.specs.Clauses as cl
use Rattle.definitions.proofs.Bounded.{and_iff, is_iff, below_iff, true_of, of_true, false_of, fault_some, each_none, first_stop}
use Rattle.definitions.proofs.Sets.{short_iff, short_some}
use Rattle.definitions.proofs.Faults.{when_iff}
use Rattle.definitions.proofs.Clauses.{at_iff}
use Rattle.clauses.proofs.Members.{rho_names, box_62, names_62, second_62, box_512, box_1024, boxed}
use Rattle.sharing.specs.declared.Gathered.{Gathered}
use Rattle.sharing.specs.Shared.{Least, all_sent_in, shared_on, may_send, GatheredOf}
use Rattle.sharing.proofs.Gather.{four_met, five-met, six_met}
use Rattle.clauses.specs.Known.{MetWhere}
use Rattle.record_clauses.specs.Known.{NamesFound, ShowsMet, LineFound}

-- ---- clause 1

-- no name is missing at n, where a set that has n if it is free is short of nothing there
module _ (m : paper.Model) (e : Estimate) (free : ℕ) (same : (n : ℕ) → n < 64 → has free n ≡ paper.is_free m.kinds n) where
  name_none : (n : ℕ) → n < 64 → n < length m.kinds → (T (has free n) → absent (e.rho n) n ≡ none) → cl.name_broken m e n ≡ none
  unfolding cl.name_broken cl.clause1
  name_none n l h f =
      (at_iff 1 0 n (when (paper.kind_of_name m.kinds n is 0) (absent (e.rho n) n))).1
      ((when_iff (paper.kind_of_name m.kinds n is 0) (absent (e.rho n) n)).1 (λ t. f (of_true (same n l ∙ true_of (paper.is_free m.kinds n)
      ((and_iff (n below length m.kinds) (paper.kind_of_name m.kinds n is 0)).1 ((below_iff n (length m.kinds)).1 h, t))))))

  name_some : (n : ℕ) → n < 64 → T (has free n) → absent (e.rho n) n ≡ some n → (n < length m.kinds) × (cl.name_broken m e n ≡ some (cl.broken 1 0 n n))
  unfolding cl.name_broken cl.clause1
  name_some n l t z =
      let f = (and_iff (n below length m.kinds) (paper.kind_of_name m.kinds n is 0)).0 (of_true (sym (same n l) ∙ true_of (has free n) t)) in (
        (below_iff n (length m.kinds)).0 f.0,
        ap (cl.broken_at 1 0 n) (ap (λ (b : Bool). when b (absent (e.rho n) n)) (true_of (paper.kind_of_name m.kinds n is 0) f.1) ∙ z),
      )

own_name : (s n x : ℕ) → absent s n ≡ some x → n ≡ x
unfolding absent
own_name s n x z = (fault_some (not (has s n)) n x z).1

module _ (e : Estimate) (free : ℕ) where
  names_none : first_short free (λ n. absent (e.rho n) n) ≡ none → NamesFound e free none
  names_none q = record {
    same = λ m few same. sym (each_none (cl.name_broken m e) (length m.kinds) (λ n h.
        let l : n < 64 = omega (arith, h, few) in
        name_none m e free same n l h ((short_iff free (λ n. absent (e.rho n) n)).0 q n l)));
  }

  names_some : (x : ℕ) → first_short free (λ n. absent (e.rho n) n) ≡ some x → NamesFound e free (some (cl.broken 1 0 x x))
  names_some x q = record {
    same = λ m few same.
        let y = short_some free (λ n. absent (e.rho n) n) x q in
        let n = y.0 in
        let own = own_name (e.rho n) n x y.3 in
        let f = name_some m e free same n y.1 y.2 (y.3 ∙ ap some (sym own)) in
        ap (λ (i : ℕ). some (cl.broken 1 0 i i)) (sym own)
        ∙ sym (first_stop (cl.name_broken m e) (length m.kinds) f.0 (each_none (cl.name_broken m e) n (λ j h.
        name_none m e free same j (lt_trans h y.1) (lt_trans h f.0) (λ t. y.4 j h t))) f.1);
  }

-- the name that is missing, as clause 1's record
abbrev pub own_broken : Option ℕ → Option cl.Broken
own_broken none = none
own_broken (some n) = some (cl.broken 1 0 n n)

pub names_found : (e : Estimate) (free : ℕ) (o : Option ℕ) (r : Option cl.Broken) → o ≡ first_short free (λ n. absent (e.rho n) n) → r ≡ own_broken o → NamesFound e free r
names_found e free none r q k = rw k (names_none e free (sym q))
names_found e free (some x) r q k = rw k (names_some e free x (sym q))

-- ---- a line, by its operation

last : (o : Option cl.Broken) → or_else o none ≡ o
last none = refl
last (some x) = refl

module _ (e : Estimate) (boxes b i : ℕ) (l : paper.Line) where
  -- what the clauses find at a line, were its operation op
  asked_of : ℕ → Option cl.Broken
  asked_of op =
      or_else (when (op is paper.restriction) (cl.broken_at 3 b i (cl.clause3 e l))) (or_else (when (op is paper.output) (cl.broken_at 4 b i (cl.clause4 e b l)))
      (or_else (when (op is paper.input) (cl.broken_at 5 b i (cl.clause5 e b l))) (or_else (when (op is paper.input) (cl.broken_at 6 b i (cl.clause6 e boxes b l)))
      (or_else (when (op is paper.expose) (cl.broken_at 7 b i (cl.clause7 e b l))) (or_else (when (op is paper.hide) (cl.broken_at 8 b i (cl.clause8 e b l)))
      (when (op is paper.unhide) (cl.broken_at 9 b i (cl.clause9 e b l))))))))

-- line_broken by that
line_asks : (m : paper.Model) (e : Estimate) (b i : ℕ) (l : paper.Line) → paper.line_at (paper.box_at m b) i ≡ l
    → asked_of e (paper.box_count m) b i l l.op ≡ cl.line_broken m e b i
unfolding asked_of cl.line_broken
line_asks m e b i l q = ap (λ (x : paper.Line). asked_of e (paper.box_count m) b i x x.op) (sym q)

module _ (e : Estimate) (boxes b i : ℕ) (l : paper.Line) (r : Option cl.Broken) where
  end : (op : ℕ) → l.op ≡ op → r ≡ asked_of e boxes b i l op → LineFound e boxes b i l r
  end op o q = record {
    same = λ m at k. q ∙ ap (asked_of e boxes b i l) (sym o) ∙ ap (λ (n : ℕ). asked_of e n b i l l.op) (sym k) ∙ line_asks m e b i l at;
  }

  module _ (v : Option ℕ) where
    pub arm_3 : l.op ≡ 3 → r ≡ cl.broken_at 3 b i v → v ≡ cl.clause3 e l → LineFound e boxes b i l r
    unfolding asked_of ◌is◌
    arm_3 o q f = end 3 o (q ∙ ap (cl.broken_at 3 b i) f ∙ sym (last (cl.broken_at 3 b i (cl.clause3 e l))))

    pub arm_4 : l.op ≡ 4 → r ≡ cl.broken_at 4 b i v → v ≡ cl.clause4 e b l → LineFound e boxes b i l r
    unfolding asked_of ◌is◌
    arm_4 o q f = end 4 o (q ∙ ap (cl.broken_at 4 b i) f ∙ sym (last (cl.broken_at 4 b i (cl.clause4 e b l))))

    pub arm_6 : l.op ≡ 6 → r ≡ cl.broken_at 7 b i v → v ≡ cl.clause7 e b l → LineFound e boxes b i l r
    unfolding asked_of ◌is◌
    arm_6 o q f = end 6 o (q ∙ ap (cl.broken_at 7 b i) f ∙ sym (last (cl.broken_at 7 b i (cl.clause7 e b l))))

    pub arm_7 : l.op ≡ 7 → r ≡ cl.broken_at 8 b i v → v ≡ cl.clause8 e b l → LineFound e boxes b i l r
    unfolding asked_of ◌is◌
    arm_7 o q f = end 7 o (q ∙ ap (cl.broken_at 8 b i) f ∙ sym (last (cl.broken_at 8 b i (cl.clause8 e b l))))

    pub arm_8 : l.op ≡ 8 → r ≡ cl.broken_at 9 b i v → v ≡ cl.clause9 e b l → LineFound e boxes b i l r
    unfolding asked_of ◌is◌
    arm_8 o q f = end 8 o (q ∙ ap (cl.broken_at 9 b i) f)

  -- an input: 5 before 6
  pub arm_five : (z : cl.Broken) (v : Option ℕ) → l.op ≡ 5 → r ≡ some z → some z ≡ cl.broken_at 5 b i v → v ≡ cl.clause5 e b l → LineFound e boxes b i l r
  unfolding asked_of ◌is◌
  arm_five z v o q ez f =
      end 5 o (q ∙ ap (λ (x : Option cl.Broken). or_else x (or_else (cl.broken_at 6 b i (cl.clause6 e boxes b l)) none)) (ez ∙ ap (cl.broken_at 5 b i) f))

  pub arm_six : (v w : Option ℕ) → l.op ≡ 5 → r ≡ cl.broken_at 6 b i w → none ≡ cl.broken_at 5 b i v → v ≡ cl.clause5 e b l → w ≡ cl.clause6 e boxes b l → LineFound e boxes b i l r
  unfolding asked_of ◌is◌
  arm_six v w o q z f g =
      end 5 o (q ∙ ap (cl.broken_at 6 b i) g ∙ sym (last (cl.broken_at 6 b i (cl.clause6 e boxes b l)))
      ∙ ap (λ (x : Option cl.Broken). or_else x (or_else (cl.broken_at 6 b i (cl.clause6 e boxes b l)) none)) (z ∙ ap (cl.broken_at 5 b i) f))

-- any other operation
pub arm_none : (e : Estimate) (boxes b i : ℕ) (l : paper.Line) → (l.op ≡ 3 → ⊥) → (l.op ≡ 4 → ⊥) → (l.op ≡ 5 → ⊥) → (l.op ≡ 6 → ⊥)
    → (l.op ≡ 7 → ⊥) → (l.op ≡ 8 → ⊥) → LineFound e boxes b i l none
unfolding asked_of
arm_none e boxes b i l f3 f4 f5 f6 f7 f8 =
    let z : (n : ℕ) → (l.op ≡ n → ⊥) → l.op is n ≡ false = λ n f. false_of (l.op is n) (λ u. f ((is_iff l.op n).0 u)) in
    let e3 = z 3 f3 in
    let e4 = z 4 f4 in
    let e5 = z 5 f5 in
    let e6 = z 6 f6 in
    let e7 = z 7 f7 in
    let e8 = z 8 f8 in
    end e boxes b i l none l.op refl (sym (λ j.
    or_else (when (e3 j) (cl.broken_at 3 b i (cl.clause3 e l))) (or_else (when (e4 j) (cl.broken_at 4 b i (cl.clause4 e b l)))
    (or_else (when (e5 j) (cl.broken_at 5 b i (cl.clause5 e b l))) (or_else (when (e5 j) (cl.broken_at 6 b i (cl.clause6 e boxes b l)))
    (or_else (when (e6 j) (cl.broken_at 7 b i (cl.clause7 e b l))) (or_else (when (e7 j) (cl.broken_at 8 b i (cl.clause8 e b l)))
    (when (e8 j) (cl.broken_at 9 b i (cl.clause9 e b l))))))))))

-- ---- what is gathered for a line may show clauses 4, 5 and 6 at it

module _ (e : Estimate) (boxes b : ℕ) (l : paper.Line) (g : Gathered) where
  pub gathered_4 : (s : ℕ) → l.op ≡ 4 → s ≡ e.rho l.name1 → GatheredOf e boxes b g → g.out ≡ s → ShowsMet e boxes b l g
  gathered_4 s o es h eo = record {
    four = λ _. record {
      met = λ t. four_met e b l (of_true (sym (h.most.same (e.rho l.name2) ∙ ap (λ (x : ℕ). may_send e b x (e.rho l.name2)) (eo ∙ es)) ∙ true_of (within (e.rho l.name2) g.most) t));
    };
    five = λ z. absurd (omega (arith, o, z));
    six = λ z. absurd (omega (arith, o, z));
  }

  pub gathered_5 : (s : ℕ) (f : Gathered) → l.op ≡ 5 → s ≡ e.rho l.name1 → GatheredOf e boxes b f → f.on ≡ s → GatheredOf e boxes b g → g.on ≡ f.on
      → Least g.asks (shared_on e boxes b s) → ShowsMet e boxes b l g
  gathered_5 s f o es k eo h ef a = record {
    four = λ z. absurd (omega (arith, o, z));
    five = λ _. record {
      met = λ t. five-met e b l (of_true (sym (h.all.same (e.rho l.name2) ∙ ap (λ (x : ℕ). all_sent_in e b x (e.rho l.name2)) (ef ∙ eo ∙ es)) ∙ true_of (within g.all (e.rho l.name2)) t));
    };
    six = λ _. record {
      met = λ t. six_met e boxes b l (of_true (sym (a.same (e.rho l.name2) ∙ ap (λ (x : ℕ). shared_on e boxes b x (e.rho l.name2)) es) ∙ true_of (within g.asks (e.rho l.name2)) t));
    };
  }

  pub gathered_other : (l.op ≡ 4 → ⊥) → (l.op ≡ 5 → ⊥) → ShowsMet e boxes b l g
  gathered_other f4 f5 = record { four = λ z. absurd (f4 z); five = λ z. absurd (f5 z); six = λ z. absurd (f5 z) }

  module _ (d : ShowsMet e boxes b l g) where
    pub may_4 : l.op ≡ 4 → MetWhere (within (e.rho l.name2) g.most) (cl.clause4 e b l)
    may_4 = d.four

    pub may_5 : l.op ≡ 5 → MetWhere (within g.all (e.rho l.name2)) (cl.clause5 e b l)
    may_5 = d.five

    pub may_6 : l.op ≡ 5 → MetWhere (within g.asks (e.rho l.name2)) (cl.clause6 e boxes b l)
    may_6 = d.six

pub ruleset arms = (rules, boxed, box_512, box_1024, names_62, may_4, may_5, may_6, arm_3, arm_4, arm_five, arm_six, arm_6, arm_7, arm_8, arm_none)

pub ruleset gathered = (rules, rho_names, box_62, names_62, second_62, gathered_4, gathered_5, gathered_other)
