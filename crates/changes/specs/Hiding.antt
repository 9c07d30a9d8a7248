-- Change request 2, hiding what isn't there: the checker with any two clauses for hide and unhide, the two that it had, the order in which
-- clauses are tried, and what the request says of old and new answers. Assumes nothing.
use Rattle.std.specs.Prelude.{◌≡◌, true, false, List, [], ◌∷◌, ◌⊎◌, ℕ, ◌<◌, length}
use Rattle.std.proofs.Math.Option.{Option, none, some}
use Rattle.definitions.specs.Bounded.{◌is◌, when, or_else, first_below}
use Rattle.definitions.specs.Sets.{missing}
use Rattle.definitions.specs.Model.{Line, Model, line_at, box_at, site_count, line_count, box_count, restriction, output, input, expose, hide, unhide}
use Rattle.definitions.specs.Image.{model_of}
use Rattle.definitions.specs.Estimate.{Estimate, estimate_of}
use Rattle.definitions.specs.Clauses.{Broken, clause3, clause4, clause5, clause6, clause7, clause8, clause9, broken_at, line_broken, name_broken, site_broken, first_broken, Verdict, accepted, breaks, refused_model, refused_estimate, verdict_of, after_reading, check}
use Rattle.definitions.specs.ShutOff.{Reply, not_accepted, reply, box_reply, question}

-- ---- as in the definitions, with any two clauses for hide and unhide

module _ (eight nine : Estimate → ℕ → Line → Option ℕ) where
  module _ (m : Model) (e : Estimate) where
    unfoldable pub line_broken_by : ℕ → ℕ → Option Broken
    line_broken_by b i =
        let l = line_at (box_at m b) i in
        or_else (when (l.op is restriction) (broken_at 3 b i (clause3 e l)))
        (or_else (when (l.op is output) (broken_at 4 b i (clause4 e b l)))
        (or_else (when (l.op is input) (broken_at 5 b i (clause5 e b l)))
        (or_else (when (l.op is input) (broken_at 6 b i (clause6 e (box_count m) b l)))
        (or_else (when (l.op is expose) (broken_at 7 b i (clause7 e b l)))
        (or_else (when (l.op is hide) (broken_at 8 b i (eight e b l)))
        (when (l.op is unhide) (broken_at 9 b i (nine e b l))))))))

    unfoldable pub box_broken_by : ℕ → Option Broken
    box_broken_by b = or_else (first_below (site_count (box_at m b)) (site_broken m e b)) (first_below (line_count (box_at m b)) (line_broken_by b))

    unfoldable pub first_broken_by : Option Broken
    first_broken_by = or_else (first_below (length m.kinds) (name_broken m e)) (first_below (box_count m) box_broken_by)

  unfoldable pub check_by : List ℕ → List ℕ → Verdict
  check_by model estimate = after_reading model estimate (verdict_of (first_broken_by (model_of model) (estimate_of estimate)))

  unfoldable pub question_by : List ℕ → List ℕ → ℕ → Reply
  question_by model estimate h = reply (check_by model estimate) (box_reply model estimate h)

-- ---- the old clauses, and the old answers

-- 8. hide p: rho(p) within hidden(b)
unfoldable pub whole_clause8 : Estimate → ℕ → Line → Option ℕ
whole_clause8 e b l = missing (e.rho l.name1) (e.hidden b)

-- 9. unhide p: rho(p) within shown(b)
unfoldable pub whole_clause9 : Estimate → ℕ → Line → Option ℕ
whole_clause9 e b l = missing (e.rho l.name1) (e.shown b)

abbrev pub whole_check : List ℕ → List ℕ → Verdict
whole_check model estimate = check_by whole_clause8 whole_clause9 model estimate

abbrev pub whole_question : List ℕ → List ℕ → ℕ → Reply
whole_question model estimate h = question_by whole_clause8 whole_clause9 model estimate h

-- ---- the order of the places

-- the place of a broken clause, with the name that is missing: clause 1 comes before the boxes; boxes ascending; the sites of a box before its
-- lines; sites and lines ascending; at a line the clauses ascending; names ascending
unfoldable pub placed : Broken → List ℕ
placed x =
    elim (x.clause is 1) [ true ↦ 0 | false ↦ 1 ] ∷ x.box ∷ elim (x.clause is 2) [ true ↦ 0 | false ↦ 1 ] ∷ x.place ∷ x.clause
    ∷ x.name ∷ []

-- two lists of numbers are equal, or the first has the lower number where they first differ
abbrev pub Upto : List ℕ → List ℕ → Type 0
Upto [] ys = Unit
Upto (x ∷ xs) [] = ⊥
Upto (x ∷ xs) (y ∷ ys) = (x < y) ⊎ ((x ≡ y) × Upto xs ys)

-- x comes no later than y
abbrev pub NoLater : Broken → Broken → Type 0
NoLater x y = Upto (placed x) (placed y)

-- a verdict that comes no earlier than x: accepted, or a broken clause
abbrev pub Since : Broken → Verdict → Type 0
Since x accepted = Unit
Since x (breaks y) = NoLater x y
Since x (refused_model r) = ⊥
Since x (refused_estimate r) = ⊥

-- this is the order in which the checker goes: the first broken clause comes no later than what is broken at any name, site or line; at an
-- input, where the first of 5 and 6 that is broken is named, no later than 6
pub record InOrder (m : Model) (e : Estimate) (x : Broken) : Type 0 where
  pub names : (n : ℕ) (y : Broken) → n < length m.kinds → name_broken m e n ≡ some y → NoLater x y
  pub sites : (b i : ℕ) (y : Broken) → b < box_count m → i < site_count (box_at m b) → site_broken m e b i ≡ some y → NoLater x y
  pub lines : (b i : ℕ) (y : Broken) → b < box_count m → i < line_count (box_at m b) → line_broken m e b i ≡ some y → NoLater x y
  pub inputs : (b i : ℕ) (y : Broken) → b < box_count m → i < line_count (box_at m b)
      → (let l = line_at (box_at m b) i in when (l.op is input) (broken_at 6 b i (clause6 e (box_count m) b l)) ≡ some y) → NoLater x y

-- ---- what the request says

abbrev pub HideOrUnhide : Broken → Type 0
HideOrUnhide x = (x.clause ≡ 8) ⊎ (x.clause ≡ 9)

-- an old verdict and the new one: they are the same; or the old one was a broken clause 8 or 9, and the new one comes no earlier. So an
-- estimate that was accepted is, any other broken clause is the answer as before, and 8 or 9 makes way for accepted, for a clause
-- later in the order, or for the same clause at the same line with a name no lower
abbrev pub Becomes : Verdict → Verdict → Type 0
Becomes old new = (new ≡ old) ⊎ ((x : Broken) × (old ≡ breaks x) × HideOrUnhide x × Since x new)

pub record HidingEased : Type 0 where
  -- with the new clauses the checker and the question are the definitions' own
  pub checks : (model estimate : List ℕ) → check_by clause8 clause9 model estimate ≡ check model estimate
  pub questions : (model estimate : List ℕ) (h : ℕ) → question_by clause8 clause9 model estimate h ≡ question model estimate h
  -- old and new answers, for all images; the question's is what it was unless it was a broken clause 8 or 9
  pub verdicts : (model estimate : List ℕ) → Becomes (whole_check model estimate) (check model estimate)
  pub replies : (model estimate : List ℕ) (h : ℕ) → (question model estimate h ≡ whole_question model estimate h)
      ⊎ ((x : Broken) × (whole_question model estimate h ≡ not_accepted (breaks x)) × HideOrUnhide x × Since x (check model estimate))
  -- the order is the checker's, and it tells any two broken clauses apart
  pub order : (m : Model) (e : Estimate) (x : Broken) → first_broken m e ≡ some x → InOrder m e x
  pub apart : (x y : Broken) → NoLater x y → NoLater y x → x ≡ y
