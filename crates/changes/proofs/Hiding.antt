-- What change request 2 says of old and new answers. Assumes nothing.
use mathlib.Core.Path.{◌≡◌, refl, sym, ap, ap₂, subst, ◌∙◌}
use mathlib.Core.Bool.{Bool, true, false}
use mathlib.Core.List.{List, [], ◌∷◌, ◌++◌, append_assoc}
use mathlib.Core.Logic.{◌⊎◌, inl, inr, ⊎_elim}
use mathlib.Core.Option.{Option, none, some}
use Prim.Native.Nat.{ℕ, zero, suc, ◌≤◌, ◌<◌}
use native.Mathlib.Nat.{le_of_suc-le-suc, eq-or-lt_of_le}
use native.Mathlib.Omega.{arith}
use lib.Dec.{T}
use lib.ListN.{length, get_or}
use Rattle.definitions.specs.Bounded.{◌is◌, when, or_else, first_below}
use Rattle.definitions.specs.Sets.{has, absent, first_short, missing}
use Rattle.definitions.specs.Answer.{Refusal}
use Rattle.definitions.specs.Model.{Line, Model, site_at, line_at, box_at, site_count, line_count, box_count, restriction, output, input, expose, hide, unhide}
use Rattle.definitions.specs.Image.{name_count, boxes_of, model_of}
use Rattle.definitions.specs.ReadModel.{read_model}
use Rattle.definitions.specs.Estimate.{Estimate, estimate_of}
use Rattle.definitions.specs.ReadEstimate.{read_estimate}
use Rattle.definitions.specs.Clauses.{Broken, broken, clause1, clause2, clause3, clause4, clause5, clause6, clause7, clause8, clause9, broken_at, line_broken, name_broken, site_broken, box_broken, first_broken, Verdict, verdict_of, after_estimate, after_model, check}
use Rattle.definitions.specs.ShutOff.{Reply, reply, box_reply, question}
use Rattle.definitions.proofs.Bounded.{is_iff, false_of, fault_none, fault_some, first_found}
use Rattle.definitions.proofs.Sets.{short_iff, short_some, absent_iff, absent-some, missing_iff, missing-some}
use Rattle.definitions.proofs.Faults.{else_each, when_iff, when-some}
use Rattle.changes.specs.Hiding.{line_broken_by, box_broken_by, first_broken_by, check_by, question_by, whole_clause8, whole_clause9, whole_check, placed, Upto, NoLater, Since, InOrder, HideOrUnhide, Becomes, HidingEased}

-- ---- where a broken clause stands

-- the place of x begins with these numbers
record Stands (ps : List ℕ) (x : Broken) : Type 0 where
  rest : List ℕ
  there : placed x ≡ ps ++ rest

-- then it begins with fewer of them
part : (ps qs : List ℕ) (x : Broken) → Stands (ps ++ qs) x → Stands ps x
part ps qs x s = record { rest = qs ++ s.rest; there = s.there ∙ append_assoc ps qs s.rest }

-- x comes no later than y where the beginnings of their places decide it
earlier : {ps qs : List ℕ} {x y : Broken} → Stands ps x → Stands qs y → ((r s : List ℕ) → Upto (ps ++ r) (qs ++ s)) → NoLater x y
earlier s t u = rw (s.there, t.there) (u s.rest t.rest)

-- two names, two sites of a box, or two lines of a box
in_turn : {p b q i j : ℕ} {ps qs : List ℕ} {x y : Broken} → Stands (p ∷ b ∷ q ∷ i ∷ ps) x → Stands (p ∷ b ∷ q ∷ j ∷ qs) y → i < j → NoLater x y
in_turn s t l = earlier s t (λ _ _. inr (refl, inr (refl, inr (refl, inl l))))

-- a clause of a line is neither 1 nor 2
line-place : (n b i name : ℕ) → 3 ≤ n → placed (broken n b i name) ≡ 1 ∷ b ∷ 1 ∷ i ∷ n ∷ name ∷ []
unfolding placed
line-place n b i name h = rw (false_of (n is 1) (λ t. omega (arith, (is_iff n 1).0 t)), false_of (n is 2) (λ t. omega (arith, (is_iff n 2).0 t)))

-- what is found where clause n is tried at record i of box b is that clause there, with some name
tried : {p q : ℕ} (c : Bool) (n b i : ℕ) (o : Option ℕ) (x : Broken) → ((name : ℕ) → placed (broken n b i name) ≡ p ∷ b ∷ q ∷ i ∷ n ∷ name ∷ [])
    → when c (broken_at n b i o) ≡ some x → Stands (p ∷ b ∷ q ∷ i ∷ n ∷ []) x
tried true n b i none x f z = absurd (fault_none true x (sym z) tt)
tried {p} {q} true n b i (some name) x f z =
    subst (Stands (p ∷ b ∷ q ∷ i ∷ n ∷ [])) (fault_some true (broken n b i name) x z).1 (record { rest = name ∷ []; there = f name })
tried false n b i o x f z = absurd (fault_none true x (sym z) tt)

-- what holds of each that may be found holds of what is found
found : (P : Broken → Type 0) (f : ℕ → Option Broken) (n : ℕ) (x : Broken) → ((i : ℕ) → f i ≡ some x → P x) → first_below n f ≡ some x → P x
found P f n x g z = let a = first_found f n x z in g a.0 a.2

-- ---- a search finds one that comes no later than y

abbrev Ahead : Option Broken → Broken → Type 0
Ahead o y = (x : Broken) × (o ≡ some x) × NoLater x y

-- y itself
ahead_self : (o : Option Broken) (y : Broken) → o ≡ some y → Ahead o y
ahead_self o y q = (y, q, go (placed y))
  where
    go : (ps : List ℕ) → Upto ps ps
    go [] = tt
    go (p ∷ ps) = inr (refl, go ps)

-- of two searches the first does
ahead_left : (o p : Option Broken) (y : Broken) → Ahead o y → Ahead (or_else o p) y
ahead_left none p y a = absurd (fault_none true a.0 (sym a.1) tt)
ahead_left (some x) p y a = a

-- the second does, and what the first finds comes no later either
ahead_right : (o p : Option Broken) (y : Broken) → ((x : Broken) → o ≡ some x → NoLater x y) → Ahead p y → Ahead (or_else o p) y
ahead_right none p y f a = a
ahead_right (some x) p y f a = (x, refl, f x refl)

-- of many the one at i does, and what those before i find comes no later either
module _ (f : ℕ → Option Broken) (i : ℕ) (y : Broken) (here : Ahead (f i) y) (before : (j : ℕ) (x : Broken) → j < i → f j ≡ some x → NoLater x y) where
  ahead_first : (n : ℕ) → i < n → Ahead (first_below n f) y
  unfolding first_below
  ahead_first zero l = absurd (omega arith)
  ahead_first (suc n) l =
      ⊎_elim (λ q. ahead_right (first_below n f) (f n) y (λ x z. let a = first_found f n x z in before a.0 x (omega (arith, a.1)) a.2) (rw (← q) here))
      (λ k. ahead_left (first_below n f) (f n) y (ahead_first n k)) (eq-or-lt_of_le (le_of_suc-le-suc l))

-- ---- what a search found, and what it finds

abbrev Eased : Option Broken → Option Broken → Type 0
Eased old new = (new ≡ old) ⊎ ((x : Broken) × (old ≡ some x) × HideOrUnhide x × Since x (verdict_of new))

-- the first of two, where what the second finds comes no earlier
then : (o n p q : Option Broken) → Eased o n → Eased p q → ((x y : Broken) → o ≡ some x → q ≡ some y → NoLater x y) → Eased (or_else o p) (or_else n q)
then none none p q j k f = k
then none (some y) p q (inl z) k f = absurd (fault_none true y z tt)
then none (some y) p q (inr (x, z, h, s)) k f = absurd (fault_none true x (sym z) tt)
then (some a) none p q (inl z) k f = absurd (fault_none true a (sym z) tt)
then (some a) none p none (inr (x, z, h, s)) k f = inr (x, z, h, tt)
then (some a) none p (some y) (inr (x, z, h, s)) k f = inr (x, z, h, f x y z refl)
then (some a) (some b) p q j k f = j

-- the first of two, where the first search is the same
after : (o p q : Option Broken) → Eased p q → Eased (or_else o p) (or_else o q)
after none p q k = k
after (some x) p q k = inl refl

-- the first of many
module _ (f g : ℕ → Option Broken) (one : (i : ℕ) → Eased (f i) (g i))
    (ordered : (i j : ℕ) (x y : Broken) → i < j → f i ≡ some x → g j ≡ some y → NoLater x y) where
  first_eased : (n : ℕ) → Eased (first_below n f) (first_below n g)
  unfolding first_below
  first_eased zero = inl refl
  first_eased (suc n) =
      then (first_below n f) (first_below n g) (f n) (g n) (first_eased n) (one n)
      (λ x y z w. let a = first_found f n x z in ordered a.0 n x y a.1 a.2 w)

-- ---- clauses 8 and 9: every member of s was asked for in u, and those in t are

abbrev asked : ℕ → ℕ → ℕ → Option ℕ
asked t u a = when (has t a) (absent u a)

module _ (s t u : ℕ) where
  -- where none was missing none is
  still_met : missing s u ≡ none → first_short s (asked t u) ≡ none
  still_met z = (short_iff s (asked t u)).1 (λ n l h. (when_iff (has t n) (absent u n)).1 (λ _. (absent_iff u n).1 ((missing_iff s u).0 z n l h)))

  -- the name that is missing now was missing before, and x was the lowest
  no_lower : (x y : ℕ) → missing s u ≡ some x → first_short s (asked t u) ≡ some y → x ≤ y
  no_lower x y z w =
      let a = short_some s (asked t u) y w in
      let b = absent-some u a.0 y (when-some (has t a.0) (absent u a.0) y a.3).1 in
      let f : a.0 < x → ⊥ = λ l. b.1 ((missing-some s u x z).3 a.0 l a.2) in
      omega (arith, b.0)

  -- one line, one clause
  one_eased : (n b i : ℕ) (c : Bool) → ((name : ℕ) → HideOrUnhide (broken n b i name))
      → Eased (when c (broken_at n b i (missing s u))) (when c (broken_at n b i (first_short s (asked t u))))
  unfolding placed
  one_eased n b i false h = inl refl
  one_eased n b i true h = go (missing s u) (first_short s (asked t u)) still_met no_lower
    where
      go : (o p : Option ℕ) → (o ≡ none → p ≡ none) → ((x y : ℕ) → o ≡ some x → p ≡ some y → x ≤ y) → Eased (broken_at n b i o) (broken_at n b i p)
      go none none f g = inl refl
      go none (some y) f g = absurd (fault_none true y (f refl) tt)
      go (some x) none f g = inr (broken n b i x, refl, h x, tt)
      go (some x) (some y) f g =
          let last : (x < y) ⊎ ((x ≡ y) × Unit) = ⊎_elim (λ q. inr (q, tt)) inl (eq-or-lt_of_le (g x y refl refl)) in
          inr (broken n b i x, refl, h x, inr (refl, inr (refl, inr (refl, inr (refl, inr (refl, last))))))

-- ---- the clauses of a model and an estimate

module _ (m : Model) (e : Estimate) where
  -- what is broken at a name, a site, a line, and in a box
  name_at : (n : ℕ) (x : Broken) → name_broken m e n ≡ some x → Stands (0 ∷ 0 ∷ 1 ∷ n ∷ 1 ∷ []) x
  unfolding name_broken placed ◌is◌
  name_at n x = tried true 1 0 n (clause1 e m.kinds n) x (λ name. refl)

  site_at_lem : (b i : ℕ) (x : Broken) → site_broken m e b i ≡ some x → Stands (1 ∷ b ∷ 0 ∷ i ∷ 2 ∷ []) x
  unfolding site_broken placed ◌is◌
  site_at_lem b i x = tried true 2 b i (clause2 e b (site_at (box_at m b) i)) x (λ name. refl)

  module _ (eight nine : Estimate → ℕ → Line → Option ℕ) where
    line_at_lem : (b i : ℕ) (x : Broken) → line_broken_by eight nine m e b i ≡ some x → Stands (1 ∷ b ∷ 1 ∷ i ∷ []) x
    unfolding line_broken_by
    line_at_lem b i x =
        let l = line_at (box_at m b) i in
        let S : Broken → Type 0 = Stands (1 ∷ b ∷ 1 ∷ i ∷ []) in
        let asks : (n op : ℕ) (o : Option ℕ) → 3 ≤ n → when (l.op is op) (broken_at n b i o) ≡ some x → S x =
        λ n op o h z. part (1 ∷ b ∷ 1 ∷ i ∷ []) (n ∷ []) x (tried (l.op is op) n b i o x (λ name. line-place n b i name h) z) in
        else_each S _ _ x (asks 3 restriction (clause3 e l) (omega arith)) (else_each S _ _ x (asks 4 output (clause4 e b l) (omega arith))
        (else_each S _ _ x (asks 5 input (clause5 e b l) (omega arith)) (else_each S _ _ x (asks 6 input (clause6 e (box_count m) b l) (omega arith))
        (else_each S _ _ x (asks 7 expose (clause7 e b l) (omega arith)) (else_each S _ _ x (asks 8 hide (eight e b l) (omega arith))
        (asks 9 unhide (nine e b l) (omega arith)))))))

    box_at_lem : (b : ℕ) (x : Broken) → box_broken_by eight nine m e b ≡ some x → Stands (1 ∷ b ∷ []) x
    unfolding box_broken_by
    box_at_lem b x =
        let S : Broken → Type 0 = Stands (1 ∷ b ∷ []) in
        else_each S _ _ x (found S (site_broken m e b) (site_count (box_at m b)) x (λ i z. part (1 ∷ b ∷ []) (0 ∷ i ∷ 2 ∷ []) x (site_at_lem b i x z)))
        (found S (line_broken_by eight nine m e b) (line_count (box_at m b)) x (λ i z. part (1 ∷ b ∷ []) (1 ∷ i ∷ []) x (line_at_lem b i x z)))

  -- the order; x is what is found first
  order : (x : Broken) → first_broken m e ≡ some x → InOrder m e x
  unfolding first_broken box_broken line_broken box_broken_by line_broken_by
  order x z = record {
    names = λ n y h q. is_ahead y (ahead_left _ _ y (ahead_first (name_broken m e) n y (ahead_self _ y q)
        (λ j w l r. in_turn (name_at j w r) (name_at n y q) l) (length m.kinds) h));
    sites = λ b i y g h q. let s = site_at_lem b i y q in
        in_box_lem b y s g (ahead_left _ _ y (ahead_first (site_broken m e b) i y (ahead_self _ y q)
        (λ j w l r. in_turn (site_at_lem b j w r) s l) (site_count (box_at m b)) h));
    lines = λ b i y g h q. in_line_lem b i y (line_at_lem clause8 clause9 b i y q) g h (ahead_self _ y q);
    inputs = λ b i y g h q.
        let l = line_at (box_at m b) i in
        let s = tried (l.op is input) 6 b i (clause6 e (box_count m) b l) y (λ name. line-place 6 b i name (omega arith)) q in
        let before : (n op : ℕ) (o : Option ℕ) → 3 ≤ n → n < 6 → (w : Broken) → when (l.op is op) (broken_at n b i o) ≡ some w → NoLater w y =
        λ n op o h k w z.
        earlier (tried (l.op is op) n b i o w (λ name. line-place n b i name h) z) s (λ _ _. inr (refl, inr (refl, inr (refl, inr (refl, inl k))))) in
        in_line_lem b i y s g h
        (ahead_right _ _ y (before 3 restriction (clause3 e l) (omega arith) (omega arith))
        (ahead_right _ _ y (before 4 output (clause4 e b l) (omega arith) (omega arith))
        (ahead_right _ _ y (before 5 input (clause5 e b l) (omega arith) (omega arith)) (ahead_left _ _ y (ahead_self _ y q)))));
  }
    where
      is_ahead : (y : Broken) → Ahead (first_broken m e) y → NoLater x y
      is_ahead y a = subst (λ (w : Broken). NoLater w y) (fault_some true a.0 x (sym a.1 ∙ z)).1 a.2

      -- in box b: the names and the lower boxes come before
      in_box_lem : (b : ℕ) (y : Broken) {ps : List ℕ} → Stands (1 ∷ b ∷ ps) y → b < box_count m → Ahead (box_broken m e b) y → NoLater x y
      in_box_lem b y s g a =
          is_ahead y (ahead_right _ _ y
          (λ w. found (λ v. NoLater v y) (name_broken m e) (length m.kinds) w (λ n r. earlier (name_at n w r) s (λ _ _. inl (omega arith))))
          (ahead_first (box_broken m e) b y a (λ c w l r. earlier (box_at_lem clause8 clause9 c w r) s (λ _ _. inr (refl, inl l))) (box_count m) g))

      -- at line i: the sites and the lower lines of its box come before too
      in_line_lem : (b i : ℕ) (y : Broken) {ps : List ℕ} → Stands (1 ∷ b ∷ 1 ∷ i ∷ ps) y → b < box_count m → i < line_count (box_at m b) → Ahead (line_broken m e b i) y
          → NoLater x y
      in_line_lem b i y s g h a =
          in_box_lem b y s g (ahead_right _ _ y
          (λ w. found (λ v. NoLater v y) (site_broken m e b) (site_count (box_at m b)) w
          (λ j r. earlier (site_at_lem b j w r) s (λ _ _. inr (refl, inr (refl, inl (omega arith))))))
          (ahead_first (line_broken m e b) i y a (λ j w l r. in_turn (line_at_lem clause8 clause9 b j w r) s l) (line_count (box_at m b)) h))

  -- clauses 3 to 7 are the same, and 9 comes after 8
  line_eased : (b i : ℕ) → Eased (line_broken_by whole_clause8 whole_clause9 m e b i) (line_broken_by clause8 clause9 m e b i)
  unfolding line_broken_by whole_clause8 whole_clause9 clause8 clause9
  line_eased b i =
      let l = line_at (box_at m b) i in
      let asks : ℕ → ℕ → Option ℕ → Option Broken = λ n op o. when (l.op is op) (broken_at n b i o) in
      let rho = e.rho l.name1 in
      after (asks 3 restriction (clause3 e l)) _ _ (after (asks 4 output (clause4 e b l)) _ _ (after (asks 5 input (clause5 e b l)) _ _
      (after (asks 6 input (clause6 e (box_count m) b l)) _ _ (after (asks 7 expose (clause7 e b l)) _ _ (then _ _ _ _
      (one_eased rho (e.shown b) (e.hidden b) 8 b i (l.op is hide) (λ name. inl refl))
      (one_eased rho (e.hidden b) (e.shown b) 9 b i (l.op is unhide) (λ name. inr refl))
      (λ x y z w. earlier (tried (l.op is hide) 8 b i (whole_clause8 e b l) x (λ name. line-place 8 b i name (omega arith)) z)
      (tried (l.op is unhide) 9 b i (clause9 e b l) y (λ name. line-place 9 b i name (omega arith)) w)
      (λ _ _. inr (refl, inr (refl, inr (refl, inr (refl, inl (omega arith))))))))))))

  all_eased : Eased (first_broken_by whole_clause8 whole_clause9 m e) (first_broken_by clause8 clause9 m e)
  unfolding first_broken_by box_broken_by
  all_eased =
      after (first_below (length m.kinds) (name_broken m e)) _ _
      (first_eased (box_broken_by whole_clause8 whole_clause9 m e) (box_broken_by clause8 clause9 m e)
      (λ b. after (first_below (site_count (box_at m b)) (site_broken m e b)) _ _
      (first_eased (line_broken_by whole_clause8 whole_clause9 m e b) (line_broken_by clause8 clause9 m e b) (line_eased b)
      (λ i j x y l z w. in_turn (line_at_lem whole_clause8 whole_clause9 b i x z) (line_at_lem clause8 clause9 b j y w) l) (line_count (box_at m b))))
      (λ b c x y l z w. earlier (box_at_lem whole_clause8 whole_clause9 b x z) (box_at_lem clause8 clause9 c y w) (λ _ _. inr (refl, inl l))) (box_count m))

-- ---- the order is one of places and names: two that come no later than each other are the same

upto-both : (ps qs : List ℕ) → Upto ps qs → Upto qs ps → ps ≡ qs
upto-both [] [] u v = refl
upto-both [] (q ∷ qs) u v = absurd v
upto-both (p ∷ ps) [] u v = absurd u
upto-both (p ∷ ps) (q ∷ qs) (inl l) (inl k) = absurd (omega arith)
upto-both (p ∷ ps) (q ∷ qs) (inl l) (inr (z, k)) = absurd (omega arith)
upto-both (p ∷ ps) (q ∷ qs) (inr (z, u)) (inl k) = absurd (omega arith)
upto-both (p ∷ ps) (q ∷ qs) (inr (z, u)) (inr (_, v)) = ap₂ ◌∷◌ z (upto-both ps qs u v)

one_place : (x y : Broken) → NoLater x y → NoLater y x → x ≡ y
unfolding placed
one_place x y u v =
    let q = upto-both (placed x) (placed y) u v in
    λ i. record { clause = get_or (q i) 4 0; box = get_or (q i) 1 0; place = get_or (q i) 3 0; name = get_or (q i) 5 0 }

-- ---- the answers

-- where an image is refused the verdict is the same
becomes : (r s : Option Refusal) (o n : Option Broken) → Eased o n
    → Becomes (after_model r (after_estimate s (verdict_of o))) (after_model r (after_estimate s (verdict_of n)))
becomes none none o n (inl q) = inl (ap verdict_of q)
becomes none none o n (inr (x, q, h, t)) = inr (x, ap verdict_of q, h, t)
becomes none (some y) o n k = inl refl
becomes (some y) s o n k = inl refl

pub hiding_eased : HidingEased
unfolding line_broken_by box_broken_by first_broken_by check_by question_by line_broken box_broken first_broken check question
hiding_eased = record {
  checks = λ model estimate. refl;
  questions = λ model estimate h. refl;
  verdicts = verdicts;
  replies = λ model estimate h.
      let ask : Verdict → Reply = λ v. reply v (box_reply model estimate h) in
      ⊎_elim (λ q. inl (ap ask q)) (λ p. inr (p.0, ap ask p.1, p.2, p.3)) (verdicts model estimate);
  order = order;
  apart = one_place;
}
  where
    verdicts : (model estimate : List ℕ) → Becomes (whole_check model estimate) (check model estimate)
    verdicts model estimate =
        becomes (read_model model) (read_estimate (name_count model) (boxes_of model) estimate) _ _ (all_eased (model_of model) (estimate_of estimate))
