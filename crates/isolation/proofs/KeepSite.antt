-- A site made of a subject, a flag and the words of a type is in order; so is a site that is turned. Assumes nothing.
use mathlib.Core.Path.{◌≡◌, ap, ◌∙◌}
use mathlib.Core.Logic.{◌⊎◌, ◌≢◌}
use mathlib.Core.List.{List, ◌∷◌}
use Prim.Native.Nat.{ℕ, suc, ◌+◌, ◌≤◌, ◌<◌}
use native.Mathlib.Omega.{arith}
use lib.Dec.{T}
use lib.ListN.{length-set}
use lib.Seq.{get_or-set_same, get_or-set_other}
use Rattle.definitions.specs.Sets.{has}
use Rattle.definitions.specs.Slots.{word}
use Rattle.definitions.specs.Model.{Model, kind_of_name}
use Rattle.definitions.specs.Record.{held_number, subject, type_word, set_flag}
use Rattle.definitions.specs.Start.{type_words}
use Rattle.definitions.proofs.Valid.{TypeSize}
use Rattle.definitions.proofs.StateRules.{HeldFits, SiteFits}
use Rattle.definitions.proofs.TypeWords.{length-type_words, type_each, type_some_lem, type_before_lem, type_ascends_lem}

-- a type word stands two words on
pub type_word-is : (v f : ℕ) (t : List ℕ) (i : ℕ) → type_word (v ∷ f ∷ t) i ≡ word t i
type_word-is v f t i = ap (word (v ∷ f ∷ t)) (let e : 2 + i ≡ suc (suc i) = omega arith in e)

module _ (m : Model) (last : ℕ → ℕ) where
  pub site_fits_lem : (v f : ℕ) (hold : ℕ → ℕ) (type : ℕ) → HeldFits m last v
      → (kind_of_name m.kinds (held_number v) ≡ 0) ⊎ (kind_of_name m.kinds (held_number v) ≡ 3) → f ≤ 1 → TypeSize type
      → ((n : ℕ) → n < 64 → T (has type n) → HeldFits m last (hold n)) → SiteFits m last (v ∷ f ∷ type_words hold type)
  site_fits_lem v f hold type v-fits k h z each =
      let at = type_word-is v f (type_words hold type) in
      let given : (n : ℕ) → n < 64 → T (has type n) → hold n ≢ 0 = λ n l t. (each n l t).given in
      record {
        size = ap (λ (n : ℕ). suc (suc n)) (length-type_words hold type);
        subject_fits = v-fits;
        subject_kind = k;
        flag_fits = h;
        type_some = rw (at 0) (type_some_lem hold type z.some given);
        type_fits = λ i l. rw (at i) (type_each hold type (HeldFits m last) each i l);
        type_before = λ i l. rw (at i, at (i + 1)) (type_before_lem hold type z.some given i l);
        type_ascends = λ i l. rw (at i, at (i + 1)) (type_ascends_lem hold type z.some given i l);
      }

  -- only the flag is another
  pub turned_fits : (x : List ℕ) (f : ℕ) → f ≤ 1 → SiteFits m last x → SiteFits m last (set_flag x f)
  turned_fits x f h s =
      let size = s.size in
      let first : subject (set_flag x f) ≡ subject x = get_or-set_other x 1 0 f 0 (omega arith) in
      let at : (i : ℕ) → type_word (set_flag x f) i ≡ type_word x i = λ i. get_or-set_other x 1 (2 + i) f 0 (omega arith) in
      record {
        size = length-set x 1 f ∙ size;
        subject_fits = rw first s.subject_fits;
        subject_kind = rw first s.subject_kind;
        flag_fits = rw (get_or-set_same x 1 f 0 (omega arith)) h;
        type_some = rw (at 0) s.type_some;
        type_fits = λ i l. rw (at i) (s.type_fits i l);
        type_before = λ i l. rw (at i, at (i + 1)) (s.type_before i l);
        type_ascends = λ i l. rw (at i, at (i + 1)) (s.type_ascends i l);
      }
