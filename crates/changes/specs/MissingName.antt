-- Change request 1, the missing name: the clauses as tests that say yes or no, the checker's answer by them, and what the request says of old
-- and new answers. Assumes nothing.
use Rattle.std.specs.Prelude.{◌≡◌, Bool, true, false, not, List, ◌⊎◌, ◌≢◌, ℕ, ◌<◌, T, length}
use Rattle.std.proofs.Math.Option.{Option, none, some}
use Rattle.definitions.specs.Bounded.{◌and◌, ◌implies◌, ◌is◌, ◌isnt◌, ◌below◌, all_below, some_if, or_else, first_below}
use Rattle.definitions.specs.Sets.{has, for_each, missing, meets}
use Rattle.definitions.specs.Answer.{Refusal, unplaced}
use Rattle.definitions.specs.Model.{Site, Line, Model, site_at, line_at, box_at, site_count, line_count, box_count, kind_of_name, restriction, output, input, expose, hide, unhide}
use Rattle.definitions.specs.Image.{name_count, boxes_of, model_of}
use Rattle.definitions.specs.ReadModel.{read_model}
use Rattle.definitions.specs.Estimate.{Estimate, estimate_of}
use Rattle.definitions.specs.ReadEstimate.{read_estimate}
use Rattle.definitions.specs.Clauses.{Broken, clause1, clause2, clause3, clause4, clause5, clause6, clause7, clause8, clause9, Verdict, accepted, breaks, refused_model, refused_estimate, check}
use Rattle.definitions.specs.ShutOff.{Reply, not_accepted, nobody, is_shut_off, shut_off, question}
use Rattle.definitions.proofs.Clauses.{Within, Share}

-- ---- the old clauses: tests

-- every member of a is in b
unfoldable pub old_within : ℕ → ℕ → Bool
old_within a b = for_each a (λ n. has b n)

-- a broken clause: its number, the box (0 for clause 1) and the record (name, site or line)
pub record OldBroken : Type 0 where
  pub clause : ℕ
  pub box : ℕ
  pub place : ℕ

abbrev pub old_broken : ℕ → ℕ → ℕ → OldBroken
old_broken n b i = record { clause = n; box = b; place = i }

module _ (e : Estimate) where
  unfoldable pub old_clause1 : List ℕ → ℕ → Bool
  old_clause1 kinds n = kind_of_name kinds n is 0 implies has (e.rho n) n

  unfoldable pub old_clause2 : ℕ → Site → Bool
  old_clause2 b s =
      (s.flag is 0 implies has (e.shown b) s.subject) and (s.flag isnt 0 implies has (e.hidden b) s.subject)
      and old_within s.type (e.eps b s.subject)

  unfoldable pub old_clause3 : Line → Bool
  old_clause3 l = has (e.rho l.name1) l.name1

  unfoldable pub old_clause4 : ℕ → Line → Bool
  old_clause4 b l = for_each (e.rho l.name1) (λ a. old_within (e.rho l.name2) (e.kap b a))

  unfoldable pub old_clause5 : ℕ → Line → Bool
  old_clause5 b l = for_each (e.rho l.name1) (λ a. old_within (e.kap b a) (e.rho l.name2))

  unfoldable pub old_clause6 : ℕ → ℕ → Line → Bool
  old_clause6 boxes b l =
      for_each (e.rho l.name1) (λ a.
      has (e.shown b) a implies all_below boxes (λ k.
      k isnt b implies for_each (e.shown k) (λ c. meets (e.eps b a) (e.eps k c) implies old_within (e.kap k c) (e.rho l.name2))))

  unfoldable pub old_clause7 : ℕ → Line → Bool
  old_clause7 b l =
      has (e.rho l.name1) l.name1 and has (e.shown b) l.name1
      and for_each l.type (λ g. old_within (e.rho g) (e.eps b l.name1))

  -- 8 and 9 are those of change request 2, as tests: this file speaks of request 1 alone. Hiding has the ones before request 2
  unfoldable pub old_clause8 : ℕ → Line → Bool
  old_clause8 b l = for_each (e.rho l.name1) (λ a. has (e.shown b) a implies has (e.hidden b) a)

  unfoldable pub old_clause9 : ℕ → Line → Bool
  old_clause9 b l = for_each (e.rho l.name1) (λ a. has (e.hidden b) a implies has (e.shown b) a)

-- a line of the operation that a clause speaks of breaks it where its test fails
unfoldable pub old_asks : Line → ℕ → Bool → OldBroken → Option OldBroken
old_asks l op ok x = some_if (l.op is op and not ok) x

module _ (m : Model) (e : Estimate) where
  unfoldable pub old_line_broken : ℕ → ℕ → Option OldBroken
  old_line_broken b i =
      let l = line_at (box_at m b) i in
      or_else (old_asks l restriction (old_clause3 e l) (old_broken 3 b i))
      (or_else (old_asks l output (old_clause4 e b l) (old_broken 4 b i))
      (or_else (old_asks l input (old_clause5 e b l) (old_broken 5 b i))
      (or_else (old_asks l input (old_clause6 e (box_count m) b l) (old_broken 6 b i))
      (or_else (old_asks l expose (old_clause7 e b l) (old_broken 7 b i))
      (or_else (old_asks l hide (old_clause8 e b l) (old_broken 8 b i))
      (old_asks l unhide (old_clause9 e b l) (old_broken 9 b i)))))))

  unfoldable pub old_name_broken : ℕ → Option OldBroken
  old_name_broken n = some_if (not (old_clause1 e m.kinds n)) (old_broken 1 0 n)

  unfoldable pub old_site_broken : ℕ → ℕ → Option OldBroken
  old_site_broken b i = some_if (not (old_clause2 e b (site_at (box_at m b) i))) (old_broken 2 b i)

  unfoldable pub old_box_broken : ℕ → Option OldBroken
  old_box_broken b = or_else (first_below (site_count (box_at m b)) (old_site_broken b)) (first_below (line_count (box_at m b)) (old_line_broken b))

  unfoldable pub old_first_broken : Option OldBroken
  old_first_broken = or_else (first_below (length m.kinds) old_name_broken) (first_below (box_count m) old_box_broken)

-- ---- the old answers of the checker and of the question

pub data OldVerdict : Type 0 where
  old_accepted : OldVerdict
  old_breaks : OldBroken → OldVerdict
  old_refused_model : Refusal → OldVerdict
  old_refused_estimate : Refusal → OldVerdict

abbrev pub old_verdict_of : Option OldBroken → OldVerdict
old_verdict_of none = old_accepted
old_verdict_of (some x) = old_breaks x

abbrev pub old_after_estimate : Option Refusal → OldVerdict → OldVerdict
old_after_estimate none v = v
old_after_estimate (some r) v = old_refused_estimate r

abbrev pub old_after_model : Option Refusal → OldVerdict → OldVerdict
old_after_model none v = v
old_after_model (some r) v = old_refused_model r

unfoldable pub old_check : List ℕ → List ℕ → OldVerdict
old_check model estimate =
    old_after_model (read_model model) (old_after_estimate (read_estimate (name_count model) (boxes_of model) estimate)
    (old_verdict_of (old_first_broken (model_of model) (estimate_of estimate))))

pub data OldReply : Type 0 where
  old_not_accepted : OldVerdict → OldReply
  old_nobody : Refusal → OldReply
  old_is_shut_off : Bool → OldReply

abbrev pub old_reply : OldVerdict → OldReply → OldReply
old_reply old_accepted r = r
old_reply (old_breaks x) r = old_not_accepted (old_breaks x)
old_reply (old_refused_model x) r = old_not_accepted (old_refused_model x)
old_reply (old_refused_estimate x) r = old_not_accepted (old_refused_estimate x)

unfoldable pub old_question : List ℕ → List ℕ → ℕ → OldReply
old_question model estimate h =
    old_reply (old_check model estimate)
    (elim (h below boxes_of model) [ true ↦ old_is_shut_off (shut_off (estimate_of estimate) (boxes_of model) h) | false ↦ old_nobody (unplaced 12) ])

-- ---- the new answers without the name

abbrev pub without_name : Broken → OldBroken
without_name x = old_broken x.clause x.box x.place

abbrev pub verdict_without : Verdict → OldVerdict
verdict_without accepted = old_accepted
verdict_without (breaks x) = old_breaks (without_name x)
verdict_without (refused_model r) = old_refused_model r
verdict_without (refused_estimate r) = old_refused_estimate r

abbrev pub reply_without : Reply → OldReply
reply_without (not_accepted v) = old_not_accepted (verdict_without v)
reply_without (nobody r) = old_nobody r
reply_without (is_shut_off b) = old_is_shut_off b

-- ---- which name is missing

-- x is in the set asked for, a, and not in the set asked, c, and every lower name of a is in c
pub record Lowest (a c x : ℕ) : Type 0 where
  pub name : x < 64
  pub asked : T (has a x)
  pub lacking : T (has c x) → ⊥
  pub lower : (y : ℕ) → y < x → T (has a y) → T (has c y)

-- a name is missing at a member of s, and none is at any lower member
pub record FirstAt (s : ℕ) (Missing : ℕ → Type 0) (Met : ℕ → Type 0) : Type 0 where
  pub member : ℕ
  pub name : member < 64
  pub inside : T (has s member)
  pub short : Missing member
  pub lower : (n : ℕ) → n < member → T (has s n) → Met n

-- x is in a and in d and not in c, and every lower name of a that is in d is in c
abbrev pub LowestLacking : ℕ → ℕ → ℕ → ℕ → Type 0
LowestLacking a d c x = FirstAt a (λ n. (x ≡ n) × T (has d n) × (T (has c n) → ⊥)) (λ n. T (has d n) → T (has c n))

-- one of two sets is asked for first: it is short, or it is met and the second is short
abbrev pub Then : Type 0 → Type 0 → Type 0 → Type 0
Then Short Met Next = Short ⊎ (Met × Next)

module _ (e : Estimate) where
  -- what clause 6 asks at a line of box b: the names a of the channel and of shown(b), the other boxes k and their shown names c that fit
  pub record Asked (boxes b : ℕ) (l : Line) (a k c : ℕ) : Type 0 where
    pub channel : T (has (e.rho l.name1) a)
    pub shown : T (has (e.shown b) a)
    pub box : k < boxes
    pub other : k ≢ b
    pub name : c < 64
    pub partner : T (has (e.shown k) c)
    pub fits : Share (e.eps b a) (e.eps k c)

  -- a before k, k before c, each ascending
  abbrev pub Before : ℕ → ℕ → ℕ → ℕ → ℕ → ℕ → Type 0
  Before a k c x y z = (a < x) ⊎ ((a ≡ x) × ((k < y) ⊎ ((k ≡ y) × (c < z))))

  pub record FirstPartner (boxes b : ℕ) (l : Line) (x : ℕ) : Type 0 where
    pub a : ℕ
    pub k : ℕ
    pub c : ℕ
    pub asked : Asked boxes b l a k c
    pub short : Lowest (e.kap k c) (e.rho l.name2) x
    pub lower : (a' k' c' : ℕ) → Asked boxes b l a' k' c' → Before a' k' c' a k c → Within (e.kap k' c') (e.rho l.name2)

  -- each clause, where it gives the name x
  pub record Names : Type 0 where
    pub one : (kinds : List ℕ) (n x : ℕ) → clause1 e kinds n ≡ some x → (x ≡ n) × (kind_of_name kinds n ≡ 0) × (T (has (e.rho n) n) → ⊥)
    pub two : (b : ℕ) (s : Site) (x : ℕ) → clause2 e b s ≡ some x
        → Then ((x ≡ s.subject) × (s.flag ≡ 0) × (T (has (e.shown b) s.subject) → ⊥)) (s.flag ≡ 0 → T (has (e.shown b) s.subject))
        (Then ((x ≡ s.subject) × (s.flag ≢ 0) × (T (has (e.hidden b) s.subject) → ⊥)) (s.flag ≢ 0 → T (has (e.hidden b) s.subject))
        (Lowest s.type (e.eps b s.subject) x))
    pub three : (l : Line) (x : ℕ) → clause3 e l ≡ some x → (x ≡ l.name1) × (T (has (e.rho l.name1) l.name1) → ⊥)
    pub four : (b : ℕ) (l : Line) (x : ℕ) → clause4 e b l ≡ some x
        → FirstAt (e.rho l.name1) (λ a. Lowest (e.rho l.name2) (e.kap b a) x) (λ a. Within (e.rho l.name2) (e.kap b a))
    pub five : (b : ℕ) (l : Line) (x : ℕ) → clause5 e b l ≡ some x
        → FirstAt (e.rho l.name1) (λ a. Lowest (e.kap b a) (e.rho l.name2) x) (λ a. Within (e.kap b a) (e.rho l.name2))
    pub six : (boxes b : ℕ) (l : Line) (x : ℕ) → clause6 e boxes b l ≡ some x → FirstPartner boxes b l x
    pub seven : (b : ℕ) (l : Line) (x : ℕ) → clause7 e b l ≡ some x
        → Then ((x ≡ l.name1) × (T (has (e.rho l.name1) l.name1) → ⊥)) (T (has (e.rho l.name1) l.name1))
        (Then ((x ≡ l.name1) × (T (has (e.shown b) l.name1) → ⊥)) (T (has (e.shown b) l.name1))
        (FirstAt l.type (λ g. Lowest (e.rho g) (e.eps b l.name1) x) (λ g. Within (e.rho g) (e.eps b l.name1))))
    pub eight : (b : ℕ) (l : Line) (x : ℕ) → clause8 e b l ≡ some x → LowestLacking (e.rho l.name1) (e.shown b) (e.hidden b) x
    pub nine : (b : ℕ) (l : Line) (x : ℕ) → clause9 e b l ≡ some x → LowestLacking (e.rho l.name1) (e.hidden b) (e.shown b) x

-- ---- what the request says

pub record MissingName : Type 0 where
  -- the old answers are the new ones without the name, for all images
  pub verdicts : (model estimate : List ℕ) → old_check model estimate ≡ verdict_without (check model estimate)
  pub replies : (model estimate : List ℕ) (h : ℕ) → old_question model estimate h ≡ reply_without (question model estimate h)
  -- the name is one of the model's
  pub listed : (model estimate : List ℕ) (x : Broken) → check model estimate ≡ breaks x → x.name < name_count model
  -- the test itself, and each clause
  pub test : (a c x : ℕ) → missing a c ≡ some x → Lowest a c x
  pub clauses : (e : Estimate) → Names e
