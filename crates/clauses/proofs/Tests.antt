-- The clauses of several tests, each on what called functions answered; 8 and 9, by what may be turned; and the first one short, as a test.
-- Assumes nothing.
use mathlib.Core.Path.{◌≡◌, refl, sym, ap, ap₂, ◌∙◌}
use mathlib.Core.Bool.{Bool, true, false, not}
use mathlib.Core.Logic.{◌↔◌}
use mathlib.Core.Option.{Option, none, some}
use Prim.Native.Nat.{ℕ, ◌-◌, ◌^◌, ◌<◌}
use lib.Bits.{bit_or}
use borrow.Author.Rules.{rules}
use lib.Dec.{T}
use Rattle.definitions.specs.Bounded.{◌or◌, ◌implies◌, ◌is◌, ◌isnt◌, some_if, when, or_else}
use Rattle.definitions.specs.Sets.{has, for_each, absent, first_short, missing, within}
use Rattle.definitions.specs.Model.{Site, Line}
use Rattle.definitions.specs.Estimate.{Estimate}
use Rattle.definitions.specs.Clauses.{clause2, clause7, clause8, clause9}
use Rattle.clauses.specs.Known.{MayTurn, on_wall}
use Rattle.definitions.proofs.Bounded.{is_iff, isnt_iff, true_of, false_of, else_assoc, fault_none}
use Rattle.definitions.proofs.Sets.{or-false, has-or, has-not, for_each_iff, short_iff, short_cong, absent_iff, missing-within}
use Rattle.sets.specs.declared.NameNo.{NameNo}
use Rattle.std.specs.Prelude.{Result, Ok, Err}
use Rattle.std.specs.Result.{is_ok}
use Rattle.subsets.specs.Within.{within_in}
use Rattle.clauses.proofs.Members.{shorts}

-- ---- clause 2: the subject, as its byte says, then the type

module _ (e : Estimate) (b : ℕ) (s : Site) where
  two_is : clause2 e b s ≡ or_else (on_wall e b s) (missing s.type (e.eps b s.subject))
  unfolding clause2 on_wall
  two_is = sym (else_assoc (when (s.flag is 0) (absent (e.shown b) s.subject)) (when (s.flag isnt 0) (absent (e.hidden b) s.subject)) (missing s.type (e.eps b s.subject)))

  pub two_stop : (n : ℕ) → on_wall e b s ≡ some n → clause2 e b s ≡ some n
  two_stop n q = two_is ∙ ap (λ (o : Option ℕ). or_else o (missing s.type (e.eps b s.subject))) q

  pub two_rest : on_wall e b s ≡ none → clause2 e b s ≡ missing s.type (e.eps b s.subject)
  two_rest q = two_is ∙ ap (λ (o : Option ℕ). or_else o (missing s.type (e.eps b s.subject))) q

  pub byte_zero : s.flag ≡ 0 → on_wall e b s ≡ absent (e.shown b) s.subject
  unfolding on_wall
  byte_zero z =
      ap₂ (λ (u v : Bool). or_else (when u (absent (e.shown b) s.subject)) (when v (absent (e.hidden b) s.subject)))
      (true_of (s.flag is 0) ((is_iff s.flag 0).1 z)) (false_of (s.flag isnt 0) (λ u. (isnt_iff s.flag 0).0 u z))
      ∙ last (absent (e.shown b) s.subject)
    where
      last : (o : Option ℕ) → or_else o none ≡ o
      last none = refl
      last (some n) = refl

  pub byte_other : (s.flag ≡ 0 → ⊥) → on_wall e b s ≡ absent (e.hidden b) s.subject
  unfolding on_wall
  byte_other z =
      ap₂ (λ (u v : Bool). or_else (when u (absent (e.shown b) s.subject)) (when v (absent (e.hidden b) s.subject)))
      (false_of (s.flag is 0) (λ u. z ((is_iff s.flag 0).0 u))) (true_of (s.flag isnt 0) ((isnt_iff s.flag 0).1 z))

-- ---- clause 7: one after another

module _ (e : Estimate) (b : ℕ) (l : Line) where
  abbrev types : Option ℕ
  types = first_short l.type (λ g. missing (e.rho g) (e.eps b l.name1))

  pub seven_own : (n : ℕ) → absent (e.rho l.name1) l.name1 ≡ some n → clause7 e b l ≡ some n
  unfolding clause7
  seven_own n q = ap (λ (o : Option ℕ). or_else o (or_else (absent (e.shown b) l.name1) types)) q

  pub seven_shown : (n : ℕ) → absent (e.shown b) l.name1 ≡ some n → absent (e.rho l.name1) l.name1 ≡ none → clause7 e b l ≡ some n
  unfolding clause7
  seven_shown n k q = ap₂ (λ (o v : Option ℕ). or_else o (or_else v types)) q k

  pub seven_types : absent (e.rho l.name1) l.name1 ≡ none → absent (e.shown b) l.name1 ≡ none → clause7 e b l ≡ types
  unfolding clause7
  seven_types q k = ap₂ (λ (o v : Option ℕ). or_else o (or_else v types)) q k

-- ---- clauses 8 and 9

-- a name is missing where it is in the first of two sets and not in the second
turn_one : (f t : Bool) (n : ℕ) → some_if (not (f implies t)) n ≡ when f (some_if (not t) n)
unfolding ◌implies◌
turn_one true t n = refl
turn_one false t n = refl

turn_is : (s from to p x y m : ℕ) (r : Option ℕ) → r ≡ missing p m → MayTurn x y m → p ≡ s → x ≡ from → y ≡ to
    → r ≡ first_short s (λ a. when (has from a) (absent to a))
unfolding missing absent
turn_is s from to p x y m r q k ep ex ey =
    q ∙ short_cong p (absent m) (λ a. when (has x a) (absent y a)) (λ n l. ap (λ (b : Bool). some_if (not b) n) (k.members n l) ∙ turn_one (has x n) (has y n) n)
    ∙ (λ i. first_short (ep i) (λ a. when (has (ex i) a) (absent (ey i) a)))

module _ (e : Estimate) (b : ℕ) (l : Line) (p x y m : ℕ) (r : Option ℕ) where
  pub eight_is : r ≡ missing p m → MayTurn x y m → p ≡ e.rho l.name1 → x ≡ e.shown b → y ≡ e.hidden b → r ≡ clause8 e b l
  unfolding clause8
  eight_is = turn_is (e.rho l.name1) (e.shown b) (e.hidden b) p x y m r

  pub nine_is : r ≡ missing p m → MayTurn x y m → p ≡ e.rho l.name1 → x ≡ e.hidden b → y ≡ e.shown b → r ≡ clause9 e b l
  unfolding clause9
  nine_is = turn_is (e.rho l.name1) (e.hidden b) (e.shown b) p x y m r

pub may_turn_is : (from to : ℕ) → from < 2 ^ 64 → MayTurn from to (bit_or to (2 ^ 64 - 1 - from))
unfolding ◌implies◌ ◌or◌
may_turn_is from to h = record { members = λ n l. has-or to (2 ^ 64 - 1 - from) n ∙ ap (λ (b : Bool). has to n or b) (has-not 64 from n h l) ∙ turned (has from n) (has to n) }
  where
    turned : (f t : Bool) → (t or not f) ≡ (f implies t)
    turned true t = or-false t
    turned false true = refl
    turned false false = refl

-- ---- as a test: no name is missing exactly when it passes at every member

as_test : (s : ℕ) (f : ℕ → Option ℕ) (p : ℕ → Bool) → ((n : ℕ) → (f n ≡ none) ↔ T (p n)) → (r : Result Unit NameNo) → within_in r ≡ first_short s f
    → is_ok r ≡ for_each s p
as_test s f p same (Ok x) e = sym (true_of (for_each s p) ((for_each_iff s p).1 (λ n l t. (same n).0 ((short_iff s f).0 (sym e) n l t))))
as_test s f p same (Err n) e =
    sym (false_of (for_each s p) (λ u.
    fault_none true n.0 (e ∙ (short_iff s f).1 (λ n l t. (same n).1 ((for_each_iff s p).0 u n l t))) tt))

module _ (e : Estimate) (s : ℕ) (r : Result Unit NameNo) (b : Bool) (eb : b ≡ is_ok r) where
  pub own_test : within_in r ≡ first_short s (λ n. absent (e.rho n) n) → b ≡ for_each s (λ n. has (e.rho n) n)
  own_test q = eb ∙ as_test s (λ n. absent (e.rho n) n) (λ n. has (e.rho n) n) (λ n. absent_iff (e.rho n) n) r q

  pub types_test : (x : ℕ) → within_in r ≡ first_short s (λ g. missing (e.rho g) x) → b ≡ for_each s (λ g. within (e.rho g) x)
  types_test x q = eb ∙ as_test s (λ g. missing (e.rho g) x) (λ g. within (e.rho g) x) (λ g. missing-within (e.rho g) x) r q

pub ruleset clauses = (shorts, byte_zero, byte_other, two_stop, two_rest)

pub ruleset turns = (rules, eight_is, nine_is, may_turn_is)

pub ruleset sevens = (shorts, seven_own, seven_shown, seven_types)
