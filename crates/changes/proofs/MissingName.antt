-- What change request 1 says of old and new answers, and of the name that is missing. Assumes nothing.
use mathlib.Core.Path.{◌≡◌, refl, sym, ap, ap₂, subst, ◌∙◌}
use mathlib.Core.Bool.{Bool, true, false, not}
use mathlib.Core.List.{List}
use mathlib.Core.Logic.{◌⊎◌, inl, inr, ◌≢◌, ⊎_elim}
use mathlib.Core.Option.{Option, none, some}
use Prim.Native.Nat.{ℕ, zero, suc, ◌<◌}
use native.Mathlib.Omega.{arith}
use lib.Dec.{T, T_not}
use lib.ListN.{length}
use Rattle.definitions.specs.Bounded.{◌and◌, ◌is◌, ◌isnt◌, ◌below◌, some_if, when, or_else, first_below}
use Rattle.definitions.specs.Sets.{has, absent, first_short, missing, meets}
use Rattle.definitions.specs.Answer.{Refusal, unplaced}
use Rattle.definitions.specs.Model.{Site, Line, Model, site_at, line_at, box_at, site_count, line_count, box_count, kind_of_name, restriction, output, input, expose, hide, unhide}
use Rattle.definitions.specs.Image.{name_count, boxes_of, model_of}
use Rattle.definitions.specs.ReadModel.{read_model}
use Rattle.definitions.specs.Estimate.{Estimate, estimate_of}
use Rattle.definitions.specs.ReadEstimate.{read_estimate}
use Rattle.definitions.specs.Clauses.{Broken, clause1, clause2, clause3, clause4, clause5, clause6, clause7, clause8, clause9, broken_at, line_broken, name_broken, site_broken, box_broken, first_broken, Verdict, accepted, breaks, refused_model, refused_estimate, verdict_of, after_estimate, after_model, check}
use Rattle.definitions.specs.ShutOff.{Reply, is_shut_off, nobody, reply, box_reply, shut_off, question}
use Rattle.definitions.proofs.Bounded.{is_iff, isnt_iff, true_of, same_test, fault_none, fault_some, none_each, first_cong, first_found}
use Rattle.definitions.proofs.Image.{model_count, model_kinds, model_names}
use Rattle.definitions.proofs.Valid.{Valid}
use Rattle.definitions.proofs.ReadModel.{valid_image}
use Rattle.definitions.proofs.ReadEstimate.{estimate_fits}
use Rattle.definitions.proofs.Sets.{meets_iff, short_iff, short_some, absent_iff, absent-some, missing_iff, missing-some}
use Rattle.definitions.proofs.Faults.{else_some, else_each, when_iff, when-some}
use Rattle.definitions.proofs.Clauses.{Within, Share, sets, clause1_iff, clause2_iff, clause3_iff, clause4_iff, clause5_iff, clause6_iff, clause7_iff, clause8_iff, clause9_iff}
use Rattle.changes.specs.MissingName.{old_within, OldBroken, old_broken, old_clause1, old_clause2, old_clause3, old_clause4, old_clause5, old_clause6, old_clause7, old_clause8, old_clause9, old_asks, old_line_broken, old_name_broken, old_site_broken, old_box_broken, old_first_broken, OldVerdict, old_verdict_of, old_after_estimate, old_after_model, old_check, OldReply, old_reply, old_is_shut_off, old_nobody, old_question, without_name, verdict_without, reply_without, Lowest, FirstAt, LowestLacking, Then, Asked, Before, FirstPartner, Names, MissingName}

-- ---- a clause's test passed exactly when no name is missing

abbrev met : Option ℕ → Bool
met none = true
met (some x) = false

as_met : (t : Bool) (o : Option ℕ) → (T t → o ≡ none) → (o ≡ none → T t) → t ≡ met o
as_met t none f g = true_of t (g refl)
as_met true (some x) f g = absurd (fault_none true x (f tt) tt)
as_met false (some x) f g = refl

module _ (e : Estimate) where
  one-met : (kinds : List ℕ) (n : ℕ) → old_clause1 e kinds n ≡ met (clause1 e kinds n)
  unfolding old_clause1
  one-met kinds n = as_met (old_clause1 e kinds n) (clause1 e kinds n) (λ t. (clause1_iff e kinds n).1 (simp sets at t)) (λ z. simp sets ((clause1_iff e kinds n).0 z))

  two-met : (b : ℕ) (s : Site) → old_clause2 e b s ≡ met (clause2 e b s)
  unfolding old_clause2 old_within
  two-met b s =
      as_met (old_clause2 e b s) (clause2 e b s)
      (λ t. let p = simp sets at t in (clause2_iff e b s).1 (record { shown = p.0.0; hidden = p.0.1; type = p.1 }))
      (λ z. let c = (clause2_iff e b s).0 z in simp sets ((c.shown, c.hidden), c.type))

  module _ (b : ℕ) (l : Line) where
    three_met : old_clause3 e l ≡ met (clause3 e l)
    unfolding old_clause3
    three_met = as_met (old_clause3 e l) (clause3 e l) (λ t. (clause3_iff e b l).1 t) (λ z. (clause3_iff e b l).0 z)

    four_met : old_clause4 e b l ≡ met (clause4 e b l)
    unfolding old_clause4 old_within
    four_met = as_met (old_clause4 e b l) (clause4 e b l) (λ t. (clause4_iff e b l).1 (simp sets at t)) (λ z. simp sets ((clause4_iff e b l).0 z))

    five-met : old_clause5 e b l ≡ met (clause5 e b l)
    unfolding old_clause5 old_within
    five-met = as_met (old_clause5 e b l) (clause5 e b l) (λ t. (clause5_iff e b l).1 (simp sets at t)) (λ z. simp sets ((clause5_iff e b l).0 z))

    six_met : (boxes : ℕ) → old_clause6 e boxes b l ≡ met (clause6 e boxes b l)
    unfolding old_clause6 old_within
    six_met boxes = as_met (old_clause6 e boxes b l) (clause6 e boxes b l) (λ t. (clause6_iff e b l boxes).1 (simp sets at t)) (λ z. simp sets ((clause6_iff e b l boxes).0 z))

    seven_met : old_clause7 e b l ≡ met (clause7 e b l)
    unfolding old_clause7 old_within
    seven_met =
        as_met (old_clause7 e b l) (clause7 e b l)
        (λ t. let p = simp sets at t in (clause7_iff e b l).1 (record { self = p.0.0; shown = p.0.1; type = p.1 }))
        (λ z. let c = (clause7_iff e b l).0 z in simp sets ((c.self, c.shown), c.type))

    eight_met : old_clause8 e b l ≡ met (clause8 e b l)
    unfolding old_clause8
    eight_met = as_met (old_clause8 e b l) (clause8 e b l) (λ t. (clause8_iff e b l).1 (simp sets at t)) (λ z. simp sets ((clause8_iff e b l).0 z))

    nine_met : old_clause9 e b l ≡ met (clause9 e b l)
    unfolding old_clause9
    nine_met = as_met (old_clause9 e b l) (clause9 e b l) (λ t. (clause9_iff e b l).1 (simp sets at t)) (λ z. simp sets ((clause9_iff e b l).0 z))

-- ---- the first broken clause without its name

abbrev unnamed : Option Broken → Option OldBroken
unnamed none = none
unnamed (some x) = some (without_name x)

unnamed_else : (a b : Option Broken) → unnamed (or_else a b) ≡ or_else (unnamed a) (unnamed b)
unnamed_else none b = refl
unnamed_else (some x) b = refl

unnamed-first : (n : ℕ) (f : ℕ → Option Broken) → unnamed (first_below n f) ≡ first_below n (λ i. unnamed (f i))
unfolding first_below
unnamed-first zero f = refl
unnamed-first (suc n) f = unnamed_else (first_below n f) (f n) ∙ ap (λ (o : Option OldBroken). or_else o (unnamed (f n))) (unnamed-first n f)

module _ (n b i : ℕ) where
  -- a clause's test, by the name that is missing
  at_record : (ok : Bool) (o : Option ℕ) → ok ≡ met o → some_if (not ok) (old_broken n b i) ≡ unnamed (broken_at n b i o)
  at_record ok o q = ap (λ (x : Bool). some_if (not x) (old_broken n b i)) q ∙ go o
    where
      go : (o : Option ℕ) → some_if (not (met o)) (old_broken n b i) ≡ unnamed (broken_at n b i o)
      go none = refl
      go (some x) = refl

  at-line : (c ok : Bool) (o : Option ℕ) → ok ≡ met o → some_if (c and not ok) (old_broken n b i) ≡ unnamed (when c (broken_at n b i o))
  unfolding ◌and◌
  at-line true ok o q = at_record ok o q
  at-line false ok o q = refl

next : (u v : Option Broken) {x y : Option OldBroken} → x ≡ unnamed u → y ≡ unnamed v → or_else x y ≡ unnamed (or_else u v)
next u v p q = ap₂ or_else p q ∙ sym (unnamed_else u v)

module _ (m : Model) (e : Estimate) where
  line-unnamed : (b i : ℕ) → old_line_broken m e b i ≡ unnamed (line_broken m e b i)
  unfolding old_line_broken old_asks line_broken
  line-unnamed b i =
      let l = line_at (box_at m b) i in
      let u3 = when (l.op is restriction) (broken_at 3 b i (clause3 e l)) in
      let u4 = when (l.op is output) (broken_at 4 b i (clause4 e b l)) in
      let u5 = when (l.op is input) (broken_at 5 b i (clause5 e b l)) in
      let u6 = when (l.op is input) (broken_at 6 b i (clause6 e (box_count m) b l)) in
      let u7 = when (l.op is expose) (broken_at 7 b i (clause7 e b l)) in
      let u8 = when (l.op is hide) (broken_at 8 b i (clause8 e b l)) in
      let u9 = when (l.op is unhide) (broken_at 9 b i (clause9 e b l)) in
      let a3 = at-line 3 b i (l.op is restriction) (old_clause3 e l) (clause3 e l) (three_met e b l) in
      let a4 = at-line 4 b i (l.op is output) (old_clause4 e b l) (clause4 e b l) (four_met e b l) in
      let a5 = at-line 5 b i (l.op is input) (old_clause5 e b l) (clause5 e b l) (five-met e b l) in
      let a6 = at-line 6 b i (l.op is input) (old_clause6 e (box_count m) b l) (clause6 e (box_count m) b l) (six_met e b l (box_count m)) in
      let a7 = at-line 7 b i (l.op is expose) (old_clause7 e b l) (clause7 e b l) (seven_met e b l) in
      let a8 = at-line 8 b i (l.op is hide) (old_clause8 e b l) (clause8 e b l) (eight_met e b l) in
      let a9 = at-line 9 b i (l.op is unhide) (old_clause9 e b l) (clause9 e b l) (nine_met e b l) in
      let r8 = or_else u8 u9 in
      let r7 = or_else u7 r8 in
      let r6 = or_else u6 r7 in
      let r5 = or_else u5 r6 in
      let r4 = or_else u4 r5 in
      next u3 r4 a3 (next u4 r5 a4 (next u5 r6 a5 (next u6 r7 a6 (next u7 r8 a7 (next u8 u9 a8 a9)))))

  name_unnamed : (n : ℕ) → old_name_broken m e n ≡ unnamed (name_broken m e n)
  unfolding old_name_broken name_broken
  name_unnamed n = at_record 1 0 n (old_clause1 e m.kinds n) (clause1 e m.kinds n) (one-met e m.kinds n)

  site-unnamed : (b i : ℕ) → old_site_broken m e b i ≡ unnamed (site_broken m e b i)
  unfolding old_site_broken site_broken
  site-unnamed b i = let s = site_at (box_at m b) i in at_record 2 b i (old_clause2 e b s) (clause2 e b s) (two-met e b s)

  -- one after another
  both : (j k : ℕ) (f g : ℕ → Option OldBroken) (u v : ℕ → Option Broken) → ((i : ℕ) → f i ≡ unnamed (u i)) → ((i : ℕ) → g i ≡ unnamed (v i))
      → or_else (first_below j f) (first_below k g) ≡ unnamed (or_else (first_below j u) (first_below k v))
  both j k f g u v p q =
      ap₂ or_else (first_cong j f (λ i. unnamed (u i)) (λ i l. p i) ∙ sym (unnamed-first j u)) (first_cong k g (λ i. unnamed (v i)) (λ i l. q i) ∙ sym (unnamed-first k v))
      ∙ sym (unnamed_else (first_below j u) (first_below k v))

  box_unnamed : (b : ℕ) → old_box_broken m e b ≡ unnamed (box_broken m e b)
  unfolding old_box_broken box_broken
  box_unnamed b =
      both (site_count (box_at m b)) (line_count (box_at m b)) (old_site_broken m e b) (old_line_broken m e b) (site_broken m e b) (line_broken m e b) (site-unnamed b) (line-unnamed b)

  first-unnamed : old_first_broken m e ≡ unnamed (first_broken m e)
  unfolding old_first_broken first_broken
  first-unnamed =
      both (length m.kinds) (box_count m) (old_name_broken m e) (old_box_broken m e) (name_broken m e) (box_broken m e) name_unnamed box_unnamed

-- ---- the checker's answer, and the question's

of_broken : (o : Option Broken) → old_verdict_of (unnamed o) ≡ verdict_without (verdict_of o)
of_broken none = refl
of_broken (some x) = refl

after_model_lem : (o : Option Refusal) (v : Verdict) → old_after_model o (verdict_without v) ≡ verdict_without (after_model o v)
after_model_lem none v = refl
after_model_lem (some r) v = refl

after-estimate : (o : Option Refusal) (v : Verdict) → old_after_estimate o (verdict_without v) ≡ verdict_without (after_estimate o v)
after-estimate none v = refl
after-estimate (some r) v = refl

module _ (model estimate : List ℕ) where
  verdict_unnamed : old_check model estimate ≡ verdict_without (check model estimate)
  unfolding old_check check
  verdict_unnamed =
      let o = first_broken (model_of model) (estimate_of estimate) in
      let r = read_estimate (name_count model) (boxes_of model) estimate in
      ap (λ (v : OldVerdict). old_after_model (read_model model) (old_after_estimate r v)) (ap old_verdict_of (first-unnamed (model_of model) (estimate_of estimate)) ∙ of_broken o)
      ∙ ap (old_after_model (read_model model)) (after-estimate r (verdict_of o)) ∙ after_model_lem (read_model model) (after_estimate r (verdict_of o))

  reply-unnamed : (h : ℕ) → old_question model estimate h ≡ reply_without (question model estimate h)
  unfolding old_question question
  reply-unnamed h = ap₂ old_reply verdict_unnamed (own (h below boxes_of model)) ∙ asked (check model estimate) (box_reply model estimate h)
    where
      own : (b : Bool)
          → elim b as (λ _. OldReply) [ true ↦ old_is_shut_off (shut_off (estimate_of estimate) (boxes_of model) h) | false ↦ old_nobody (unplaced 12) ]
          ≡ reply_without (elim b as (λ _. Reply) [ true ↦ is_shut_off (shut_off (estimate_of estimate) (boxes_of model) h) | false ↦ nobody (unplaced 12) ])
      own true = refl
      own false = refl

      asked : (v : Verdict) (r : Reply) → old_reply (verdict_without v) (reply_without r) ≡ reply_without (reply v r)
      asked accepted r = refl
      asked (breaks x) r = refl
      asked (refused_model x) r = refl
      asked (refused_estimate x) r = refl

-- ---- which name is missing

lowest : (a c x : ℕ) → missing a c ≡ some x → Lowest a c x
lowest a c x z = let m = missing-some a c x z in record { name = m.0; asked = m.1; lacking = m.2; lower = m.3 }

first-at : (s : ℕ) (f : ℕ → Option ℕ) (x : ℕ) (Missing Met : ℕ → Type 0) → ((n : ℕ) → f n ≡ some x → Missing n) → ((n : ℕ) → f n ≡ none → Met n)
    → first_short s f ≡ some x → FirstAt s Missing Met
first-at s f x Missing Met g h z =
    let y = short_some s f x z in
    record { member = y.0; name = y.1; inside = y.2; short = g y.0 y.3; lower = λ n l t. h n (y.4 n l t) }

-- clauses 8 and 9
lowest_lacking : (a d c x : ℕ) → first_short a (λ n. when (has d n) (absent c n)) ≡ some x → LowestLacking a d c x
lowest_lacking a d c x z =
    first-at a (λ n. when (has d n) (absent c n)) x (λ n. (x ≡ n) × T (has d n) × (T (has c n) → ⊥)) (λ n. T (has d n) → T (has c n))
    (λ n q. let w = when-some (has d n) (absent c n) x q in let y = absent-some c n x w.1 in (y.0, w.0, y.1))
    (λ n q t. (absent_iff c n).0 ((when_iff (has d n) (absent c n)).0 q t)) z

module _ (e : Estimate) where
  clause_2 : (b : ℕ) (s : Site) (x : ℕ) → clause2 e b s ≡ some x
      → Then ((x ≡ s.subject) × (s.flag ≡ 0) × (T (has (e.shown b) s.subject) → ⊥)) (s.flag ≡ 0 → T (has (e.shown b) s.subject))
      (Then ((x ≡ s.subject) × (s.flag ≢ 0) × (T (has (e.hidden b) s.subject) → ⊥)) (s.flag ≢ 0 → T (has (e.hidden b) s.subject))
      (Lowest s.type (e.eps b s.subject) x))
  unfolding clause2
  clause_2 b s x z = shown (else_some A (or_else B C) x z)
    where
      A : Option ℕ
      A = when (s.flag is 0) (absent (e.shown b) s.subject)

      B : Option ℕ
      B = when (s.flag isnt 0) (absent (e.hidden b) s.subject)

      C : Option ℕ
      C = missing s.type (e.eps b s.subject)

      Hidden : Type 0
      Hidden = Then ((x ≡ s.subject) × (s.flag ≢ 0) × (T (has (e.hidden b) s.subject) → ⊥)) (s.flag ≢ 0 → T (has (e.hidden b) s.subject))
          (Lowest s.type (e.eps b s.subject) x)

      hidden : (B ≡ some x) ⊎ ((B ≡ none) × (C ≡ some x)) → Hidden
      hidden (inl q) =
          let w = when-some (s.flag isnt 0) (absent (e.hidden b) s.subject) x q in
          let y = absent-some (e.hidden b) s.subject x w.1 in
          inl (y.0, (isnt_iff s.flag 0).0 w.0, y.1)
      hidden (inr q) =
          inr (λ f. (absent_iff (e.hidden b) s.subject).0 ((when_iff (s.flag isnt 0) (absent (e.hidden b) s.subject)).0 q.0 ((isnt_iff s.flag 0).1 f)), lowest s.type (e.eps b s.subject) x q.1)

      shown : (A ≡ some x) ⊎ ((A ≡ none) × (or_else B C ≡ some x))
          → Then ((x ≡ s.subject) × (s.flag ≡ 0) × (T (has (e.shown b) s.subject) → ⊥)) (s.flag ≡ 0 → T (has (e.shown b) s.subject)) Hidden
      shown (inl q) =
          let w = when-some (s.flag is 0) (absent (e.shown b) s.subject) x q in
          let y = absent-some (e.shown b) s.subject x w.1 in
          inl (y.0, (is_iff s.flag 0).0 w.0, y.1)
      shown (inr q) =
          inr (λ f. (absent_iff (e.shown b) s.subject).0 ((when_iff (s.flag is 0) (absent (e.shown b) s.subject)).0 q.0 ((is_iff s.flag 0).1 f)), hidden (else_some B C x q.1))

  module _ (b : ℕ) (l : Line) (x : ℕ) where
    clause_7 : clause7 e b l ≡ some x
        → Then ((x ≡ l.name1) × (T (has (e.rho l.name1) l.name1) → ⊥)) (T (has (e.rho l.name1) l.name1))
        (Then ((x ≡ l.name1) × (T (has (e.shown b) l.name1) → ⊥)) (T (has (e.shown b) l.name1))
        (FirstAt l.type (λ g. Lowest (e.rho g) (e.eps b l.name1) x) (λ g. Within (e.rho g) (e.eps b l.name1))))
    unfolding clause7
    clause_7 z = own (else_some A (or_else B C) x z)
      where
        A : Option ℕ
        A = absent (e.rho l.name1) l.name1

        B : Option ℕ
        B = absent (e.shown b) l.name1

        C : Option ℕ
        C = first_short l.type (λ g. missing (e.rho g) (e.eps b l.name1))

        Shown : Type 0
        Shown = Then ((x ≡ l.name1) × (T (has (e.shown b) l.name1) → ⊥)) (T (has (e.shown b) l.name1))
            (FirstAt l.type (λ g. Lowest (e.rho g) (e.eps b l.name1) x) (λ g. Within (e.rho g) (e.eps b l.name1)))

        shown : (B ≡ some x) ⊎ ((B ≡ none) × (C ≡ some x)) → Shown
        shown (inl q) = inl (absent-some (e.shown b) l.name1 x q)
        shown (inr q) = inr (
          (absent_iff (e.shown b) l.name1).0 q.0,
          first-at l.type (λ g. missing (e.rho g) (e.eps b l.name1)) x (λ g. Lowest (e.rho g) (e.eps b l.name1) x) (λ g. Within (e.rho g) (e.eps b l.name1))
              (λ g. lowest (e.rho g) (e.eps b l.name1) x) (λ g. (missing_iff (e.rho g) (e.eps b l.name1)).0) q.1,
        )

        own : (A ≡ some x) ⊎ ((A ≡ none) × (or_else B C ≡ some x)) → Then ((x ≡ l.name1) × (T (has (e.rho l.name1) l.name1) → ⊥)) (T (has (e.rho l.name1) l.name1)) Shown
        own (inl q) = inl (absent-some (e.rho l.name1) l.name1 x q)
        own (inr q) = inr ((absent_iff (e.rho l.name1) l.name1).0 q.0, shown (else_some B C x q.1))

    -- clause 6 from the inside: at a name c of box k, at a box k, at a name a of box b
    at_name : ℕ → ℕ → ℕ → Option ℕ
    at_name a k c = when (meets (e.eps b a) (e.eps k c)) (missing (e.kap k c) (e.rho l.name2))

    at_box : ℕ → ℕ → Option ℕ
    at_box a k = when (k isnt b) (first_short (e.shown k) (at_name a k))

    at : ℕ → ℕ → Option ℕ
    at boxes a = when (has (e.shown b) a) (first_below boxes (at_box a))

    module _ (boxes : ℕ) (a k c : ℕ) (q : Asked e boxes b l a k c) where
      -- where nothing is missing there, kap(k,c) is within rho(q)
      name_met : at_name a k c ≡ none → Within (e.kap k c) (e.rho l.name2)
      unfolding at_name
      name_met z =
          (missing_iff (e.kap k c) (e.rho l.name2)).0
          ((when_iff (meets (e.eps b a) (e.eps k c)) (missing (e.kap k c) (e.rho l.name2))).0 z ((meets_iff (e.eps b a) (e.eps k c)).1 q.fits))

      box_met : at_box a k ≡ none → Within (e.kap k c) (e.rho l.name2)
      unfolding at_box
      box_met z = name_met ((short_iff (e.shown k) (at_name a k)).0 ((when_iff (k isnt b) (first_short (e.shown k) (at_name a k))).0 z ((isnt_iff k b).1 q.other)) c q.name q.partner)

      a_met : at boxes a ≡ none → Within (e.kap k c) (e.rho l.name2)
      unfolding at
      a_met z = box_met (none_each (at_box a) boxes ((when_iff (has (e.shown b) a) (first_below boxes (at_box a))).0 z q.shown) k q.box)

    clause_6 : (boxes : ℕ) → clause6 e boxes b l ≡ some x → FirstPartner e boxes b l x
    unfolding clause6 at at_box at_name
    clause_6 boxes z =
        let ya = short_some (e.rho l.name1) (at boxes) x z in
        let a = ya.0 in
        let wa = when-some (has (e.shown b) a) (first_below boxes (at_box a)) x ya.3 in
        let yk = first_found (at_box a) boxes x wa.1 in
        let k = yk.0 in
        let wk = when-some (k isnt b) (first_short (e.shown k) (at_name a k)) x yk.2 in
        let yc = short_some (e.shown k) (at_name a k) x wk.1 in
        let c = yc.0 in
        let wc = when-some (meets (e.eps b a) (e.eps k c)) (missing (e.kap k c) (e.rho l.name2)) x yc.3 in
        let fits = (meets_iff (e.eps b a) (e.eps k c)).0 wc.0 in
        record {
          a = a;
          k = k;
          c = c;
          asked = record { channel = ya.2; shown = wa.0; box = yk.1; other = (isnt_iff k b).0 wk.0; name = yc.1; partner = yc.2; fits = fits };
          short = lowest (e.kap k c) (e.rho l.name2) x wc.1;
          lower = before boxes a k c ya.4 (none_each (at_box a) k yk.3) yc.4;
        }
      where
        before : (boxes a k c : ℕ) → ((n : ℕ) → n < a → T (has (e.rho l.name1) n) → at boxes n ≡ none) → ((n : ℕ) → n < k → at_box a n ≡ none)
            → ((n : ℕ) → n < c → T (has (e.shown k) n) → at_name a k n ≡ none) → (a' k' c' : ℕ) → Asked e boxes b l a' k' c' → Before e a' k' c' a k c
            → Within (e.kap k' c') (e.rho l.name2)
        before boxes a k c f g h a' k' c' q (inl u) = a_met boxes a' k' c' q (f a' u q.channel)
        before boxes a k c f g h a' k' c' q (inr (u, inl v)) = box_met boxes a' k' c' q (subst (λ (n : ℕ). at_box n k' ≡ none) (sym u) (g k' v))
        before boxes a k c f g h a' k' c' q (inr (u, inr (v, w))) =
            name_met boxes a' k' c' q
            (subst (λ (n : ℕ). at_name n k' c' ≡ none) (sym u) (subst (λ (n : ℕ). at_name a n c' ≡ none) (sym v) (h c' w (subst (λ (n : ℕ). T (has (e.shown n) c')) v q.partner))))

  names : Names e
  unfolding clause1 clause3 clause4 clause5 clause8 clause9
  names = record {
    one = λ kinds n x z.
        let w = when-some (kind_of_name kinds n is 0) (absent (e.rho n) n) x z in
        let y = absent-some (e.rho n) n x w.1 in
        (y.0, (is_iff (kind_of_name kinds n) 0).0 w.0, y.1);
    two = clause_2;
    three = λ l x z. absent-some (e.rho l.name1) l.name1 x z;
    four = λ b l x z.
        first-at (e.rho l.name1) (λ a. missing (e.rho l.name2) (e.kap b a)) x (λ a. Lowest (e.rho l.name2) (e.kap b a) x) (λ a. Within (e.rho l.name2) (e.kap b a))
        (λ a. lowest (e.rho l.name2) (e.kap b a) x) (λ a. (missing_iff (e.rho l.name2) (e.kap b a)).0) z;
    five = λ b l x z.
        first-at (e.rho l.name1) (λ a. missing (e.kap b a) (e.rho l.name2)) x (λ a. Lowest (e.kap b a) (e.rho l.name2) x) (λ a. Within (e.kap b a) (e.rho l.name2))
        (λ a. lowest (e.kap b a) (e.rho l.name2) x) (λ a. (missing_iff (e.kap b a) (e.rho l.name2)).0) z;
    six = λ boxes b l x. clause_6 b l x boxes;
    seven = clause_7;
    eight = λ b l x. lowest_lacking (e.rho l.name1) (e.shown b) (e.hidden b) x;
    nine = λ b l x. lowest_lacking (e.rho l.name1) (e.hidden b) (e.shown b) x;
  }

-- ---- the name is one of the model's

-- what is broken, with the name that its clause gives
at_some : (n b i : ℕ) (o : Option ℕ) (x : Broken) → broken_at n b i o ≡ some x → o ≡ some x.name
at_some n b i none x z = absurd (fault_none true x (sym z) tt)
at_some n b i (some y) x z = ap (λ (w : Option Broken). elim w [ none ↦ none | some v ↦ some v.name ]) z

module _ (m : Model) (e : Estimate) (valid : Valid m) (rho : (n : ℕ) → n < 62 → (a : ℕ) → T (has (e.rho n) a) → a < length m.kinds)
    (kap : (b : ℕ) → b < box_count m → (n : ℕ) → n < 62 → (a : ℕ) → T (has (e.kap b n) a) → a < length m.kinds)
    (shown : (b : ℕ) → b < box_count m → (a : ℕ) → T (has (e.shown b) a) → a < length m.kinds) where
  -- the set of a listed name has listed names alone
  of_rho : (n : ℕ) → n < length m.kinds → (a : ℕ) → T (has (e.rho n) a) → a < length m.kinds
  of_rho n h = rho n (omega (arith, valid.names))

  of_kap : (b n : ℕ) → b < box_count m → n < length m.kinds → (a : ℕ) → T (has (e.kap b n) a) → a < length m.kinds
  of_kap b n g h = kap b g n (omega (arith, valid.names))

  of_turned : (n d c x : ℕ) → n < length m.kinds → LowestLacking (e.rho n) d c x → x < length m.kinds
  of_turned n d c x h f = of_rho n h x (rw f.short.0 f.inside)

  -- a name that is asked for where a line has an operation
  at_op : (op k n b i : ℕ) (o : Option ℕ) (x : Broken) → (op ≡ k → o ≡ some x.name → x.name < length m.kinds) → when (op is k) (broken_at n b i o) ≡ some x
      → x.name < length m.kinds
  at_op op k n b i o x f z = let w = when-some (op is k) (broken_at n b i o) x z in f ((is_iff op k).0 w.0) (at_some n b i o x w.1)

  module _ (b : ℕ) (inside : b < box_count m) where
    site-listed : (i : ℕ) → i < site_count (box_at m b) → (x : Broken) → site_broken m e b i ≡ some x → x.name < length m.kinds
    unfolding site_broken
    site-listed i h x z =
        let s = site_at (box_at m b) i in
        let v = (valid.box b inside).site i h in
        let subject : x.name ≡ s.subject → x.name < length m.kinds = λ q. omega (arith, q, v.listed) in
        ⊎_elim (λ q. subject q.0) (λ q. ⊎_elim (λ r. subject r.0) (λ r. v.type_listed x.name r.1.name r.1.asked) q.1)
        ((names e).two b s x.name (at_some 2 b i (clause2 e b s) x z))

    line-listed : (i : ℕ) → i < line_count (box_at m b) → (x : Broken) → line_broken m e b i ≡ some x → x.name < length m.kinds
    unfolding line_broken
    line-listed i h x z =
        let l = line_at (box_at m b) i in
        let v = (valid.box b inside).line i h in
        let P : Broken → Type 0 = λ y. y.name < length m.kinds in
        let u3 = when (l.op is restriction) (broken_at 3 b i (clause3 e l)) in
        let u4 = when (l.op is output) (broken_at 4 b i (clause4 e b l)) in
        let u5 = when (l.op is input) (broken_at 5 b i (clause5 e b l)) in
        let u6 = when (l.op is input) (broken_at 6 b i (clause6 e (box_count m) b l)) in
        let u7 = when (l.op is expose) (broken_at 7 b i (clause7 e b l)) in
        let u8 = when (l.op is hide) (broken_at 8 b i (clause8 e b l)) in
        let u9 = when (l.op is unhide) (broken_at 9 b i (clause9 e b l)) in
        let r8 = or_else u8 u9 in
        let r7 = or_else u7 r8 in
        let r6 = or_else u6 r7 in
        let r5 = or_else u5 r6 in
        let r4 = or_else u4 r5 in
        else_each P u3 r4 x (at_op l.op restriction 3 b i (clause3 e l) x (λ o q. omega (arith, ((names e).three l x.name q).0, v.restrict_listed o)))
        (else_each P u4 r5 x (at_op l.op output 4 b i (clause4 e b l) x (λ o q. of_rho l.name2 (v.sent_listed o) x.name ((names e).four b l x.name q).short.asked))
        (else_each P u5 r6 x (at_op l.op input 5 b i (clause5 e b l) x (λ o q.
        let f = (names e).five b l x.name q in
        of_kap b f.member inside (of_rho l.name1 (v.input_listed o) f.member f.inside) x.name f.short.asked))
        (else_each P u6 r7 x (at_op l.op input 6 b i (clause6 e (box_count m) b l) x (λ o q.
        let f = (names e).six (box_count m) b l x.name q in
        of_kap f.k f.c f.asked.box (shown f.k f.asked.box f.c f.asked.partner) x.name f.short.asked))
        (else_each P u7 r8 x (at_op l.op expose 7 b i (clause7 e b l) x (λ o q.
        let own : x.name ≡ l.name1 → x.name < length m.kinds = λ p. omega (arith, p, v.expose_listed o) in
        ⊎_elim (λ p. own p.0) (λ p. ⊎_elim (λ r. own r.0) (λ r.
        of_rho r.1.member (v.expose_type o r.1.member r.1.name r.1.inside) x.name r.1.short.asked) p.1) ((names e).seven b l x.name q)))
        (else_each P u8 u9 x (at_op l.op hide 8 b i (clause8 e b l) x (λ o q. of_turned l.name1 (e.shown b) (e.hidden b) x.name (v.hide_listed o) ((names e).eight b l x.name q)))
        (at_op l.op unhide 9 b i (clause9 e b l) x (λ o q. of_turned l.name1 (e.hidden b) (e.shown b) x.name (v.unhide_listed o) ((names e).nine b l x.name q))))))))
        z

  name_listed : (x : Broken) → first_broken m e ≡ some x → x.name < length m.kinds
  unfolding first_broken name_broken box_broken
  name_listed x z =
      else_each (λ y. y.name < length m.kinds) (first_below (length m.kinds) (name_broken m e)) (first_below (box_count m) (box_broken m e)) x
      (λ q. let f = first_found (name_broken m e) (length m.kinds) x q in
      omega (arith, f.1, ((names e).one m.kinds f.0 x.name (at_some 1 0 f.0 (clause1 e m.kinds f.0) x f.2)).0))
      (λ q. let f = first_found (box_broken m e) (box_count m) x q in
      let b = f.0 in
      else_each (λ y. y.name < length m.kinds) (first_below (site_count (box_at m b)) (site_broken m e b)) (first_below (line_count (box_at m b)) (line_broken m e b)) x
      (λ r. let g = first_found (site_broken m e b) (site_count (box_at m b)) x r in site-listed b f.1 g.0 g.1 x g.2)
      (λ r. let g = first_found (line_broken m e b) (line_count (box_at m b)) x r in line-listed b f.1 g.0 g.1 x g.2) f.2) z

abbrev broken_of : Verdict → Option Broken
broken_of accepted = none
broken_of (breaks x) = some x
broken_of (refused_model r) = none
broken_of (refused_estimate r) = none

-- where a verdict is a broken clause, neither image is refused
broken_read : (r s : Option Refusal) (o : Option Broken) (x : Broken) → after_model r (after_estimate s (verdict_of o)) ≡ breaks x
    → (r ≡ none) × (s ≡ none) × (o ≡ some x)
broken_read none none none x z = absurd (fault_none true x (sym (ap broken_of z)) tt)
broken_read none none (some y) x z = (refl, refl, ap broken_of z)
broken_read none (some y) o x z = absurd (fault_none true x (sym (ap broken_of z)) tt)
broken_read (some y) s o x z = absurd (fault_none true x (sym (ap broken_of z)) tt)

listed : (model estimate : List ℕ) (x : Broken) → check model estimate ≡ breaks x → x.name < name_count model
unfolding check
listed model estimate x z =
    let m = model_of model in
    let r = broken_read (read_model model) (read_estimate (name_count model) (boxes_of model) estimate) (first_broken m (estimate_of estimate)) x z in
    let f = estimate_fits (name_count model) (boxes_of model) estimate r.1 in
    let count : length m.kinds ≡ name_count model = ap length (model_kinds model) ∙ model_names model in
    let inside : (b : ℕ) → b < box_count m → b < boxes_of model = λ b h. omega (arith, h, model_count model) in
    let h = name_listed m (estimate_of estimate) (valid_image model r.0) (λ n k a t. omega (arith, f.rho n k a t, count))
    (λ b k n j a t. omega (arith, f.kap b (inside b k) n j a t, count)) (λ b k a t. omega (arith, f.shown b (inside b k) a t, count)) x r.2 in
    omega (arith, h, count)

pub missing_name : MissingName
missing_name = record { verdicts = verdict_unnamed; replies = reply-unnamed; listed = listed; test = lowest; clauses = names }
