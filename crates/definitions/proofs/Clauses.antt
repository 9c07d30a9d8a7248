-- Each clause as a statement about members, as document 01 has it, 8 and 9 as change request 2 has them: no name is missing exactly when it holds, and no clause is the first
-- broken one exactly when all hold everywhere. Assumes nothing.
use mathlib.Core.Path.{◌≡◌, refl}
use mathlib.Core.Bool.{true}
use mathlib.Core.List.{List}
use mathlib.Core.Logic.{◌↔◌, ◌≢◌}
use mathlib.Core.Option.{Option, none, some}
use Prim.Native.Nat.{ℕ, ◌<◌}
use lib.Dec.{T}
use lib.ListN.{length}
use Rattle.definitions.specs.Sets.{has}
use Rattle.definitions.specs.Model.{Site, Line, Model, site_at, line_at, box_at, site_count, line_count, box_count, kind_of_name, restriction, output, input, expose, hide, unhide}
use Rattle.definitions.specs.Estimate.{Estimate}
use Rattle.definitions.specs.Clauses.{clause1, clause2, clause3, clause4, clause5, clause6, clause7, clause8, clause9, broken, broken_at, line_broken, name_broken, site_broken, box_broken, first_broken}
use Rattle.definitions.proofs.Bounded.{tests, fault_none}
use Rattle.definitions.proofs.Sets.{for_each_iff, for_some_iff, short_iff, absent_iff, missing_iff, within_iff, meets_iff}
use Rattle.definitions.proofs.Faults.{faults, not_iff}

-- ---- sets of names, which are below 64

-- for each member; for some member
abbrev pub Each : ℕ → (ℕ → Type 0) → Type 0
Each s P = (n : ℕ) → n < 64 → T (has s n) → P n

abbrev pub Some : ℕ → (ℕ → Type 0) → Type 0
Some s P = (n : ℕ) × (n < 64) × T (has s n) × P n

-- each member of a is in b; some member of a is in b
abbrev pub Within : ℕ → ℕ → Type 0
Within a b = Each a (λ n. T (has b n))

abbrev pub Share : ℕ → ℕ → Type 0
Share a b = Some a (λ n. T (has b n))

-- `simp sets` turns a test on members into what it says of them, and back; `simp shorts` turns "no name is missing" into it
pub ruleset sets = (tests, not_iff, for_each_iff, for_some_iff, within_iff, meets_iff)

pub ruleset shorts = (sets, faults, short_iff, absent_iff, missing_iff)

-- ---- the clauses

module _ (e : Estimate) where
  -- 1. Free n: n in rho(n).
  abbrev pub Clause1 : List ℕ → ℕ → Type 0
  Clause1 kinds n = kind_of_name kinds n ≡ 0 → T (has (e.rho n) n)

  -- 2. Starting site: subject in shown(b) or hidden(b) as its byte says; its type within eps(b, subject).
  pub record Clause2 (b : ℕ) (s : Site) : Type 0 where
    pub shown : s.flag ≡ 0 → T (has (e.shown b) s.subject)
    pub hidden : s.flag ≢ 0 → T (has (e.hidden b) s.subject)
    pub type : Within s.type (e.eps b s.subject)

  -- 3. Restriction of n: n in rho(n).
  abbrev pub Clause3 : Line → Type 0
  Clause3 l = T (has (e.rho l.name1) l.name1)

  -- 4. Output on p of q: for each a in rho(p), rho(q) within kap(b,a).
  abbrev pub Clause4 : ℕ → Line → Type 0
  Clause4 b l = Each (e.rho l.name1) (λ a. Within (e.rho l.name2) (e.kap b a))

  -- 5. Input on p into q: for each a in rho(p), kap(b,a) within rho(q).
  abbrev pub Clause5 : ℕ → Line → Type 0
  Clause5 b l = Each (e.rho l.name1) (λ a. Within (e.kap b a) (e.rho l.name2))

  -- 6. Same line: for each a in rho(p) and shown(b), each other box k and each c in shown(k) where eps(b,a) and eps(k,c) share a
  -- name, kap(k,c) within rho(q).
  abbrev pub Clause6 : ℕ → ℕ → Line → Type 0
  Clause6 boxes b l =
      Each (e.rho l.name1) (λ a. T (has (e.shown b) a) → (k : ℕ) → k < boxes → k ≢ b
      → Each (e.shown k) (λ c. Share (e.eps b a) (e.eps k c) → Within (e.kap k c) (e.rho l.name2)))

  -- 7. Expose n: n in rho(n) and in shown(b); rho(g) within eps(b,n) for each g of the type.
  pub record Clause7 (b : ℕ) (l : Line) : Type 0 where
    pub self : T (has (e.rho l.name1) l.name1)
    pub shown : T (has (e.shown b) l.name1)
    pub type : Each l.type (λ g. Within (e.rho g) (e.eps b l.name1))

  -- 8. Hide p: each a in rho(p) that is in shown(b) is in hidden(b).
  abbrev pub Clause8 : ℕ → Line → Type 0
  Clause8 b l = Each (e.rho l.name1) (λ a. T (has (e.shown b) a) → T (has (e.hidden b) a))

  -- 9. Unhide p: each a in rho(p) that is in hidden(b) is in shown(b).
  abbrev pub Clause9 : ℕ → Line → Type 0
  Clause9 b l = Each (e.rho l.name1) (λ a. T (has (e.hidden b) a) → T (has (e.shown b) a))

  -- no name is missing exactly when the clause is met
  pub clause1_iff : (kinds : List ℕ) (n : ℕ) → (clause1 e kinds n ≡ none) ↔ Clause1 kinds n
  unfolding clause1
  clause1_iff kinds n = (λ t. simp shorts at t, λ c. simp shorts c)

  pub clause2_iff : (b : ℕ) (s : Site) → (clause2 e b s ≡ none) ↔ Clause2 b s
  unfolding clause2
  clause2_iff b s = (
    λ t. let p = simp shorts at t in record { shown = p.0; hidden = p.1.0; type = p.1.1 },
    λ c. simp shorts (c.shown, (c.hidden, c.type)),
  )

  module _ (b : ℕ) (l : Line) where
    pub clause3_iff : (clause3 e l ≡ none) ↔ Clause3 l
    unfolding clause3
    clause3_iff = absent_iff (e.rho l.name1) l.name1

    pub clause4_iff : (clause4 e b l ≡ none) ↔ Clause4 b l
    unfolding clause4
    clause4_iff = (λ t. simp shorts at t, λ c. simp shorts c)

    pub clause5_iff : (clause5 e b l ≡ none) ↔ Clause5 b l
    unfolding clause5
    clause5_iff = (λ t. simp shorts at t, λ c. simp shorts c)

    pub clause6_iff : (boxes : ℕ) → (clause6 e boxes b l ≡ none) ↔ Clause6 boxes b l
    unfolding clause6
    clause6_iff boxes = (λ t. simp shorts at t, λ c. simp shorts c)

    pub clause7_iff : (clause7 e b l ≡ none) ↔ Clause7 b l
    unfolding clause7
    clause7_iff = (
      λ t. let p = simp shorts at t in record { self = p.0; shown = p.1.0; type = p.1.1 },
      λ c. simp shorts (c.self, (c.shown, c.type)),
    )

    pub clause8_iff : (clause8 e b l ≡ none) ↔ Clause8 b l
    unfolding clause8
    clause8_iff = (λ t. simp shorts at t, λ c. simp shorts c)

    pub clause9_iff : (clause9 e b l ≡ none) ↔ Clause9 b l
    unfolding clause9
    clause9_iff = (λ t. simp shorts at t, λ c. simp shorts c)

-- ---- all clauses, everywhere

-- no clause is broken where no name is missing
pub at_iff : (n b i : ℕ) (o : Option ℕ) → (broken_at n b i o ≡ none) ↔ (o ≡ none)
at_iff n b i none = (λ e. refl, λ e. refl)
at_iff n b i (some x) = (λ e. absurd (fault_none true (broken n b i x) e tt), λ e. absurd (fault_none true x e tt))

module _ (m : Model) (e : Estimate) where
  -- the clauses of a line, by its operation
  pub record LineClauses (b : ℕ) (l : Line) : Type 0 where
    pub restricted : l.op ≡ restriction → Clause3 e l
    pub sent : l.op ≡ output → Clause4 e b l
    pub received : l.op ≡ input → Clause5 e b l
    pub crossed : l.op ≡ input → Clause6 e (box_count m) b l
    pub exposed : l.op ≡ expose → Clause7 e b l
    pub hid : l.op ≡ hide → Clause8 e b l
    pub unhid : l.op ≡ unhide → Clause9 e b l

  pub record AllClauses : Type 0 where
    pub names : (n : ℕ) → n < length m.kinds → Clause1 e m.kinds n
    pub sites : (b : ℕ) → b < box_count m → (i : ℕ) → i < site_count (box_at m b) → Clause2 e b (site_at (box_at m b) i)
    pub lines : (b : ℕ) → b < box_count m → (i : ℕ) → i < line_count (box_at m b) → LineClauses b (line_at (box_at m b) i)

  ruleset clauses = (tests, faults, at_iff, clause1_iff, clause2_iff, clause3_iff, clause4_iff, clause5_iff, clause6_iff, clause7_iff, clause8_iff, clause9_iff)

  pub line_iff : (b i : ℕ) → (line_broken m e b i ≡ none) ↔ LineClauses b (line_at (box_at m b) i)
  unfolding line_broken
  line_iff b i = (
    λ z. let p = simp clauses at z in
        record {
          restricted = p.0;
          sent = p.1.0;
          received = p.1.1.0;
          crossed = p.1.1.1.0;
          exposed = p.1.1.1.1.0;
          hid = p.1.1.1.1.1.0;
          unhid = p.1.1.1.1.1.1;
        },
    λ c. simp clauses (c.restricted, (c.sent, (c.received, (c.crossed, (c.exposed, (c.hid, c.unhid)))))),
  )

  pub broken_iff : (first_broken m e ≡ none) ↔ AllClauses
  unfolding first_broken name_broken box_broken site_broken
  broken_iff = (
    λ z. let p = simp (clauses, line_iff) at z in
        record { names = p.0; sites = λ b h. (p.1 b h).0; lines = λ b h. (p.1 b h).1 },
    λ c. simp (clauses, line_iff) (c.names, λ b h. (c.sites b h, c.lines b h)),
  )
