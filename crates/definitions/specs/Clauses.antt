-- The clauses that an estimate must meet, each at one name, site or line, with the name that is missing; and the first that is broken.
-- Assumes nothing.
use Rattle.std.specs.Prelude.{List, ℕ, length}
use Rattle.std.proofs.Math.Option.{Option, none, some}
use Rattle.definitions.specs.Bounded.{◌is◌, ◌isnt◌, when, or_else, first_below}
use Rattle.definitions.specs.Sets.{has, absent, first_short, missing, meets}
use Rattle.definitions.specs.Answer.{Refusal}
use Rattle.definitions.specs.Model.{Site, Line, Model, site_at, line_at, box_at, site_count, line_count, box_count, kind_of_name, restriction, output, input, expose, hide, unhide}
use Rattle.definitions.specs.Image.{name_count, boxes_of, model_of}
use Rattle.definitions.specs.ReadModel.{read_model}
use Rattle.definitions.specs.Estimate.{Estimate, estimate_of}
use Rattle.definitions.specs.ReadEstimate.{read_estimate}

-- a broken clause: its number, the box (0 for clause 1), the record (name, site or line), and the name that is missing
pub record Broken : Type 0 where
  pub clause : ℕ
  pub box : ℕ
  pub place : ℕ
  pub name : ℕ

abbrev pub broken : ℕ → ℕ → ℕ → ℕ → Broken
broken n b i name = record { clause = n; box = b; place = i; name = name }

-- each clause gives the name that is missing, and none where it is met. Where it asks for several sets the first one short counts, in the
-- order in which it speaks of them
module _ (e : Estimate) where
  -- 1. free n: n in rho(n)
  unfoldable pub clause1 : List ℕ → ℕ → Option ℕ
  clause1 kinds n = when (kind_of_name kinds n is 0) (absent (e.rho n) n)

  -- 2. starting site: its subject in shown(b) or hidden(b) as its byte says; its type within eps(b, subject)
  unfoldable pub clause2 : ℕ → Site → Option ℕ
  clause2 b s =
      or_else (when (s.flag is 0) (absent (e.shown b) s.subject))
      (or_else (when (s.flag isnt 0) (absent (e.hidden b) s.subject))
      (missing s.type (e.eps b s.subject)))

  -- 3. restriction of n: n in rho(n)
  unfoldable pub clause3 : Line → Option ℕ
  clause3 l = absent (e.rho l.name1) l.name1

  -- 4. output on p of q: for each a in rho(p), rho(q) within kap(b,a)
  unfoldable pub clause4 : ℕ → Line → Option ℕ
  clause4 b l = first_short (e.rho l.name1) (λ a. missing (e.rho l.name2) (e.kap b a))

  -- 5. input on p into q: for each a in rho(p), kap(b,a) within rho(q)
  unfoldable pub clause5 : ℕ → Line → Option ℕ
  clause5 b l = first_short (e.rho l.name1) (λ a. missing (e.kap b a) (e.rho l.name2))

  -- 6. same line: for each a in rho(p) and shown(b), each other box k and each c in shown(k) where eps(b,a) and eps(k,c) share a
  -- name, kap(k,c) within rho(q)
  unfoldable pub clause6 : ℕ → ℕ → Line → Option ℕ
  clause6 boxes b l =
      first_short (e.rho l.name1) (λ a.
      when (has (e.shown b) a) (first_below boxes (λ k.
      when (k isnt b) (first_short (e.shown k) (λ c.
      when (meets (e.eps b a) (e.eps k c)) (missing (e.kap k c) (e.rho l.name2)))))))

  -- 7. expose n: n in rho(n) and in shown(b); rho(g) within eps(b,n) for each g of the type
  unfoldable pub clause7 : ℕ → Line → Option ℕ
  clause7 b l =
      or_else (absent (e.rho l.name1) l.name1)
      (or_else (absent (e.shown b) l.name1)
      (first_short l.type (λ g. missing (e.rho g) (e.eps b l.name1))))

  -- 8. hide p: each a in rho(p) that is in shown(b) is in hidden(b)
  unfoldable pub clause8 : ℕ → Line → Option ℕ
  clause8 b l = first_short (e.rho l.name1) (λ a. when (has (e.shown b) a) (absent (e.hidden b) a))

  -- 9. unhide p: each a in rho(p) that is in hidden(b) is in shown(b)
  unfoldable pub clause9 : ℕ → Line → Option ℕ
  clause9 b l = first_short (e.rho l.name1) (λ a. when (has (e.hidden b) a) (absent (e.shown b) a))

-- ---- the first broken clause

-- clause n is broken at record i of box b where a name is missing
abbrev pub broken_at : ℕ → ℕ → ℕ → Option ℕ → Option Broken
broken_at n b i none = none
broken_at n b i (some name) = some (broken n b i name)

module _ (m : Model) (e : Estimate) where
  -- the clauses of a line, by its operation; 5 and 6 both speak of inputs, 5 before 6
  unfoldable pub line_broken : ℕ → ℕ → Option Broken
  line_broken b i =
      let l = line_at (box_at m b) i in
      or_else (when (l.op is restriction) (broken_at 3 b i (clause3 e l)))
      (or_else (when (l.op is output) (broken_at 4 b i (clause4 e b l)))
      (or_else (when (l.op is input) (broken_at 5 b i (clause5 e b l)))
      (or_else (when (l.op is input) (broken_at 6 b i (clause6 e (box_count m) b l)))
      (or_else (when (l.op is expose) (broken_at 7 b i (clause7 e b l)))
      (or_else (when (l.op is hide) (broken_at 8 b i (clause8 e b l)))
      (when (l.op is unhide) (broken_at 9 b i (clause9 e b l))))))))

  unfoldable pub name_broken : ℕ → Option Broken
  name_broken n = broken_at 1 0 n (clause1 e m.kinds n)

  unfoldable pub site_broken : ℕ → ℕ → Option Broken
  site_broken b i = broken_at 2 b i (clause2 e b (site_at (box_at m b) i))

  unfoldable pub box_broken : ℕ → Option Broken
  box_broken b = or_else (first_below (site_count (box_at m b)) (site_broken b)) (first_below (line_count (box_at m b)) (line_broken b))

  -- clause 1 by name; then box by box, sites, then lines ascending
  unfoldable pub first_broken : Option Broken
  first_broken = or_else (first_below (length m.kinds) name_broken) (first_below (box_count m) box_broken)

-- ---- the checker's answer

pub data Verdict : Type 0 where
  accepted : Verdict
  breaks : Broken → Verdict
  refused_model : Refusal → Verdict
  refused_estimate : Refusal → Verdict

abbrev pub verdict_of : Option Broken → Verdict
verdict_of none = accepted
verdict_of (some x) = breaks x

abbrev pub after_estimate : Option Refusal → Verdict → Verdict
after_estimate none v = v
after_estimate (some r) v = refused_estimate r

abbrev pub after_model : Option Refusal → Verdict → Verdict
after_model none v = v
after_model (some r) v = refused_model r

-- the model is read first, then the estimate: a verdict where neither is refused
abbrev pub after_reading : List ℕ → List ℕ → Verdict → Verdict
after_reading model estimate v = after_model (read_model model) (after_estimate (read_estimate (name_count model) (boxes_of model) estimate) v)

-- both images are read, and no clause is tried
unfoldable pub read_both : List ℕ → List ℕ → Verdict
read_both model estimate = after_reading model estimate accepted

-- both are read, then the clauses are tried
unfoldable pub check : List ℕ → List ℕ → Verdict
check model estimate = after_reading model estimate (verdict_of (first_broken (model_of model) (estimate_of estimate)))
