-- Laws of the sites of a record, decided by tables. Assumes nothing.
use mathlib.Core.Path.{◌≡◌, sym, ap, ap₂, subst, ◌∙◌}
use mathlib.Core.Bool.{Bool, true, false, not, ◌&&◌, ◌||◌}
use mathlib.Core.List.{List}
use mathlib.Core.Logic.{◌↔◌, ◌⊎◌, inl, inr, ◌≢◌, ⊎_elim}
use Prim.Native.Nat.{ℕ, zero, suc, ◌+◌, ◌*◌, ◌≤◌, ◌<◌}
use native.Mathlib.Numerals.{add-one}
use native.Mathlib.Omega.{arith}
use native.Mathlib.Decide.{ℕ_discrete}
use lib.Dec.{T, eqb, leb, ltb}
use lib.ListN.{length}
use Rattle.definitions.specs.Bounded.{◌and◌, ◌or◌, ◌is◌, ◌isnt◌, ◌below◌, ◌upto◌, all_below}
use Rattle.definitions.specs.Sets.{has}
use Rattle.definitions.specs.Model.{Model, listed, kind_of_name}
use Rattle.definitions.specs.Record.{held_number, sites, site, subject, flag, type_word}
use Rattle.definitions.specs.StateRules.{slots_fit, held_fits, type_words_fit, site_words_fit}
use Rattle.definitions.proofs.Bounded.{tests, and_is, or_is, and_iff, or_iff, is_iff, isnt_iff, below_iff, all_iff, true_of, of_true, false_of, same_test}
use Rattle.definitions.proofs.Loops.{fails, holds, Joining, joining_start, joining_turn, joining_end}
use Rattle.definitions.proofs.Slots.{slot_length}
use Rattle.definitions.proofs.StateRules.{number_low, held_iff}
use Rattle.held_limits.specs.declared.Limit.{Limit}
use Rattle.held_limits.specs.Limits.{in_limits, LimitsOf}
use Rattle.box_records.specs.Rules.{clear_between, follows, DecidesFollows, DecidesType, SubjectsOf, DecidesSite, subjects_differ, new_subject, site_fits_at, DecidesSites, site_slots_fit, DecidesSiteSlots}
use Rattle.box_records.proofs.WordLaws.{slots_fit_lem}

-- ---- types

pub follows_decided : (limits : List Limit) (before v : ℕ) (a : Bool) → a ≡ in_limits limits v
    → DecidesFollows limits before v (eqb v 0 || ((a && not (eqb before 0)) && ltb before v))
unfolding follows ◌is◌ ◌isnt◌ ◌below◌
follows_decided limits before v a e = record {
  decides = λ m last k.
      or_is (eqb v 0) ((a && not (eqb before 0)) && ltb before v)
      ∙ ap (λ (b : Bool). eqb v 0 or b) (and_is (a && not (eqb before 0)) (ltb before v)
      ∙ ap (λ (b : Bool). b and ltb before v) (and_is a (not (eqb before 0)) ∙ ap (λ (b : Bool). b and not (eqb before 0)) (e ∙ k.same v)));
}

follows_iff : (m : Model) (last : ℕ → ℕ) (before v : ℕ) → T (follows m last before v) ↔ (v ≢ 0 → T (held_fits m last v) × (before ≢ 0) × (before < v))
unfolding follows
follows_iff m last before v = (
  λ t f. ⊎_elim (λ z. absurd (f ((is_iff v 0).0 z))) (λ u. let w = simp tests at u in (w.0.0, w.0.1, w.1)) ((or_iff (v is 0) larger).0 t),
  λ g. (or_iff (v is 0) larger).1 (pick g (ℕ_discrete v 0)),
)
  where
    larger : Bool
    larger = held_fits m last v and before isnt 0 and before below v

    pick : (v ≢ 0 → T (held_fits m last v) × (before ≢ 0) × (before < v)) → Dec (v ≡ 0) → T (v is 0) ⊎ T larger
    pick g (yes z) = inl ((is_iff v 0).1 z)
    pick g (no f) = let w = g f in inr (simp tests ((w.0, w.1), w.2))

module _ (m : Model) (last : ℕ → ℕ) (x : List ℕ) where
  unfoldable pub type_step : ℕ → Bool
  type_step i = follows m last (type_word x i) (type_word x (i + 1))

  -- a type is in order where its first word is a held name in order and each other word may follow the one before
  type_words_lem : (held_fits m last (type_word x 0) and all_below 7 type_step) ≡ type_words_fit m last x
  unfolding type_words_fit type_step
  type_words_lem =
      same_test (held_fits m last (type_word x 0) and all_below 7 type_step) (type_words_fit m last x)
      (λ t. let u = simp (tests, follows_iff) at t in
      simp tests ((((held_iff m last (type_word x 0)).0 u.0).given, λ i h f. word i h f u.0 u.1), λ i h f. let z = u.1 i h f in (z.1, z.2)))
      (λ t. let u = simp tests at t in
      simp (tests, follows_iff) (u.0.1 0 (omega arith) u.0.0, λ i h f. (u.0.1 (i + 1) (omega arith) f, (u.1 i h f).0, (u.1 i h f).1)))
    where
      word : (i : ℕ) → i < 8 → type_word x i ≢ 0 → T (held_fits m last (type_word x 0))
          → ((i : ℕ) → i < 7 → type_word x (i + 1) ≢ 0 → T (held_fits m last (type_word x (i + 1))) × (type_word x i ≢ 0) × (type_word x i < type_word x (i + 1)))
          → T (held_fits m last (type_word x i))
      word zero h f a g = a
      word (suc i) h f a g =
          let e : type_word x (i + 1) ≡ type_word x (suc i) = ap (type_word x) (add-one i) in
          subst (λ (v : ℕ). T (held_fits m last v)) e (g i (omega arith) (λ z. f (sym e ∙ z))).0

-- the words before word j follow one another
pub record TypeRun (limits : List Limit) (x : List ℕ) (j before : ℕ) (ok : Bool) : Type 0 where
  pub at : before ≡ type_word x j
  pub known : (m : Model) (last : ℕ → ℕ) → LimitsOf m last limits → Joining 7 (type_step m last x) j ok

module _ (limits : List Limit) (x : List ℕ) where
  pub type_start : (before : ℕ) → before ≡ type_word x 0 → TypeRun limits x 0 before true
  type_start before e = record { at = e; known = λ m last k. joining_start 7 (type_step m last x) }

  module _ (j before : ℕ) (ok : Bool) (p : TypeRun limits x j before ok) where
    pub type_turn : (v : ℕ) (b : Bool) → j < 7 → v ≡ type_word x (j + 1) → DecidesFollows limits before v b → TypeRun limits x (j + 1) v (ok && b)
    unfolding type_step
    type_turn v b h e d = record {
      at = e;
      known = λ m last k.
          joining_turn 7 (type_step m last x) j ok b (p.known m last k) h (d.decides m last k ∙ ap₂ (follows m last) p.at e);
    }

    pub type_end : (w : ℕ) (a : Bool) → 7 ≤ j → w ≡ type_word x 0 → a ≡ in_limits limits w → DecidesType limits x (a && ok)
    type_end w a h e q = record {
      decides = λ m last k.
          and_is a ok ∙ ap₂ ◌and◌ (q ∙ k.same w ∙ ap (held_fits m last) e) (joining_end 7 (type_step m last x) j ok (p.known m last k) h) ∙ type_words_lem m last x;
    }

-- ---- sites

-- v is of kind 0 or 3
offered : Model → ℕ → Bool
offered m v = kind_of_name m.kinds (held_number v) is 0 or kind_of_name m.kinds (held_number v) is 3

-- a held name in order is listed, so it is of kind 0 or 3 exactly when it is one of the subjects
offered-is : (m : Model) (last : ℕ → ℕ) (s v n : ℕ) → SubjectsOf m s → n ≡ held_number v → (held_fits m last v and has s n) ≡ (held_fits m last v and offered m v)
unfolding offered
offered-is m last s v n o e =
    same_test (held_fits m last v and has s n) (held_fits m last v and offered m v)
    (λ t. let u = (and_iff (held_fits m last v) (has s n)).0 t in
    (and_iff (held_fits m last v) (offered m v)).1 (u.0, ((and_iff (listed m.kinds (held_number v)) (offered m v)).0 (of_true (sym at ∙ true_of (has s n) u.1))).1))
    (λ t. let u = (and_iff (held_fits m last v) (offered m v)).0 t in
    (and_iff (held_fits m last v) (has s n)).1 (
      u.0,
      of_true (at ∙ true_of (listed m.kinds (held_number v) and offered m v)
          ((and_iff (listed m.kinds (held_number v)) (offered m v)).1 ((below_iff (held_number v) (length m.kinds)).1 ((held_iff m last v).0 u.0).listed, u.1))),
    ))
  where
    at : has s n ≡ (listed m.kinds (held_number v) and offered m v)
    at = ap (has s) e ∙ o.at (held_number v) (number_low v)

pub site_decided : (limits : List Limit) (s : ℕ) (r : List ℕ) (i w n f : ℕ) (a b d : Bool) → length r ≡ 1139 → i < 16 → w ≡ subject (site r i) → a ≡ in_limits limits w
    → n ≡ held_number w → b ≡ has s n → f ≡ flag (site r i) → DecidesType limits (site r i) d → DecidesSite limits s (site r i) (((a && b) && leb f 1) && d)
unfolding site_words_fit ◌upto◌ ◌and◌ offered
site_decided limits s r i w n f a b d long h e q z c g k = record {
  decides = λ m last l o.
      and_is ((a && b) && leb f 1) d
      ∙ ap₂ ◌and◌ (and_is (a && b) (leb f 1) ∙ ap₂ ◌and◌ (and_is a b ∙ ap₂ ◌and◌ (q ∙ l.same w) c ∙ offered-is m last s w n o z ∙ ap (λ (v : ℕ). held_fits m last v and offered m v) e) (ap (λ (v : ℕ). leb v 1) g)) (k.decides m last l)
      ∙ ap (λ (t : Bool). t and held_fits m last (subject (site r i)) and offered m (subject (site r i)) and leb (flag (site r i)) 1 and type_words_fit m last (site r i))
      (sym (true_of (length (site r i) is 10) ((is_iff (length (site r i)) 10).1 (slot_length 3 10 16 r (omega arith) i h))));
}

-- ---- subjects that differ

pub differ_test : (r : List ℕ) (i j u v : ℕ) (t : Bool) → t ≡ not (eqb u v) → u ≡ subject (site r j) → v ≡ subject (site r i) → t ≡ subjects_differ r i j
unfolding subjects_differ ◌isnt◌
differ_test r i j u v t d e q = d ∙ ap₂ (λ (a b : ℕ). not (eqb a b)) e q

pub new_end : (r : List ℕ) (i j : ℕ) (ok : Bool) → Joining i (subjects_differ r i) j ok → i ≤ j → ok ≡ new_subject r i
unfolding new_subject
new_end r i j ok p h = joining_end i (subjects_differ r i) j ok p h

-- ---- the sites of a record

pub record SitesRun (limits : List Limit) (s : ℕ) (r : List ℕ) (n i : ℕ) (ok : Bool) : Type 0 where
  pub known : (m : Model) (last : ℕ → ℕ) → LimitsOf m last limits → SubjectsOf m s → Joining n (site_fits_at m last r) i ok

module _ (limits : List Limit) (s : ℕ) (r : List ℕ) (n : ℕ) where
  pub sites-start : SitesRun limits s r n 0 true
  sites-start = record { known = λ m last l o. joining_start n (site_fits_at m last r) }

  module _ (i : ℕ) (ok : Bool) (p : SitesRun limits s r n i ok) where
    pub sites-turn : (a b : Bool) → i < n → DecidesSite limits s (site r i) a → b ≡ new_subject r i → SitesRun limits s r n (i + 1) (ok && (a && b))
    unfolding site_fits_at
    sites-turn a b h d e = record {
      known = λ m last l o. joining_turn n (site_fits_at m last r) i ok (a && b) (p.known m last l o) h (and_is a b ∙ ap₂ ◌and◌ (d.decides m last l o) e);
    }

    pub sites_end : n ≤ i → DecidesSites limits s r n ok
    sites_end h = record { decides = λ m last l o. joining_end n (site_fits_at m last r) i ok (p.known m last l o) h }

-- each of the first n sites fits, its subject is new, and the other words are zero
site_slots : (m : Model) (last : ℕ → ℕ) (r : List ℕ) (n : ℕ) → length r ≡ 1139 → n ≡ sites r → n ≤ 16
    → (all_below n (site_fits_at m last r) and clear_between r (3 + 10 * n) 163) ≡ site_slots_fit m last r
unfolding site_slots_fit site_fits_at new_subject subjects_differ
site_slots m last r n long e h =
    same_test (all_below n (site_fits_at m last r) and rest) (site_slots_fit m last r)
    (λ t. let u = (and_iff (all_below n (site_fits_at m last r)) rest).0 t in
    let each : (i : ℕ) → i < n → T (one i) × T (new_subject r i) = λ i k. (and_iff (one i) (new_subject r i)).0 ((all_iff n (site_fits_at m last r)).0 u.0 i k) in
    simp and_iff (
      of_true (slots_are ∙ true_of (all_below n one and rest) ((and_iff (all_below n one) rest).1 ((all_iff n one).1 (λ i k. (each i k).0), u.1))),
      simp tests (λ i k j q l. (isnt_iff (subject (site r j)) (subject (site r i))).0 ((all_iff i (subjects_differ r i)).0 (each i (omega arith)).1 j q)),
    ))
    (λ t. let u = simp tests at t in
    let v = (and_iff (all_below n one) rest).0 (of_true (sym slots_are ∙ true_of (slots_fit 10 (site_words_fit m last) (sites r) (site r)) u.0)) in
    (and_iff (all_below n (site_fits_at m last r)) rest).1 (
      (all_iff n (site_fits_at m last r)).1
          (λ i k. (and_iff (one i) (new_subject r i)).1 (
            (all_iff n one).0 v.0 i k,
            (all_iff i (subjects_differ r i)).1 (λ j q. (isnt_iff (subject (site r j)) (subject (site r i))).1 (u.1 i (omega arith) j q (omega arith))),
          )),
      v.1,
    ))
  where
    one : ℕ → Bool
    one i = site_words_fit m last (site r i)

    rest : Bool
    rest = clear_between r (3 + 10 * n) 163

    slots_are : slots_fit 10 (site_words_fit m last) (sites r) (site r) ≡ (all_below n one and rest)
    slots_are = ap (λ (k : ℕ). slots_fit 10 (site_words_fit m last) k (site r)) (sym e) ∙ slots_fit_lem 3 10 (omega arith) r (omega arith) (site_words_fit m last) n h

-- more than 16 sites; a site that does not fit; and else the words past the sites
module _ (limits : List Limit) (s : ℕ) (r : List ℕ) (n : ℕ) (e : n ≡ sites r) where
  pub sites_many : 16 < n → DecidesSiteSlots limits s r false
  unfolding site_slots_fit slots_fit
  sites_many h = record {
    decides = λ m last l o. sym (false_of (site_slots_fit m last r) (λ t. let u = simp tests at t in omega (arith, u.0.0)));
  }

  module _ (long : length r ≡ 1139) (h : n ≤ 16) (t : Bool) (d : DecidesSites limits s r n t) where
    pub sites-misfit : t ≡ false → DecidesSiteSlots limits s r false
    unfolding ◌and◌
    sites-misfit z = record {
      decides = λ m last l o. ap (λ (b : Bool). b and clear_between r (3 + 10 * n) 163) (sym z ∙ d.decides m last l o) ∙ site_slots m last r n long e h;
    }

    pub sites-clear : (w : Bool) → t ≡ true → w ≡ clear_between r (3 + 10 * n) 163 → DecidesSiteSlots limits s r w
    unfolding ◌and◌
    sites-clear w z q = record {
      decides = λ m last l o. ap₂ ◌and◌ (sym z ∙ d.decides m last l o) q ∙ site_slots m last r n long e h;
    }

pub ruleset site_rules = (follows_decided, type_start, type_turn, type_end, joining_start, joining_turn, differ_test, new_end, site_decided, sites-start, sites-turn, sites_end, sites_many, sites-misfit, sites-clear)
