-- The state rules as records of facts: each test of the definitions and its record say the same. Assumes nothing.
use mathlib.Core.Path.{◌≡◌, refl, ap, subst, sym, ◌∙◌}
use mathlib.Core.Logic.{◌⊎◌, inl, inr, ◌≢◌, ◌↔◌, ⊎_elim}
use mathlib.Core.Bool.{Bool, false}
use mathlib.Core.List.{List}
use mathlib.Core.Option.{Option, none, some}
use Prim.Native.Nat.{ℕ, ◌+◌, ◌≤◌, ◌<◌}
use native.Mathlib.Omega.{arith}
use lib.Dec.{T}
use lib.ListN.{length}
use lib.Seq.{ext_get_or}
use Rattle.definitions.specs.Bounded.{◌and◌, ◌is◌, ◌below◌, ◌upto◌}
use Rattle.definitions.specs.Slots.{word, zeros}
use Rattle.definitions.specs.Model.{Box, Model, box_at, line_count, box_count, kind_of_name, bound_above, owner}
use Rattle.definitions.specs.Record.{held_number, held_stamp, stamp_limit, stamp, threads, sites, site, thread, subject, flag, type_word, line, binding, state_length, record_of, last_stamps}
use Rattle.definitions.specs.StateRules.{clear, slots_fit, stamp_fits, held_fits, type_words_fit, site_words_fit, thread_words_fit, record_fits, state_fits}
use Rattle.definitions.proofs.Bounded.{choice_iff, tests, and_iff, or_iff, is_iff, below_iff, upto_iff}
use Rattle.definitions.proofs.Slots.{length-zeros, word-zeros}
use Rattle.definitions.proofs.Arrays.{Array, Differ}

pub clear_iff : (n : ℕ) (x : List ℕ) → T (clear n x) ↔ (x ≡ zeros n)
unfolding clear
clear_iff n x = (
  λ t. let u = simp tests at t in
      ext_get_or 0 x (zeros n) (u.0 ∙ sym (length-zeros n)) (λ i h. u.1 i (omega (arith, u.0)) ∙ sym (word-zeros n i)),
  λ e. simp tests (ap length e ∙ length-zeros n, λ i h. ap (λ (y : List ℕ). word y i) e ∙ word-zeros n i),
)

-- ---- slots

module _ (w : ℕ) (ok : List ℕ → Bool) (n : ℕ) (f : ℕ → List ℕ) where
  pub array_of : T (slots_fit w ok n f) → Array w 16 ok n f
  unfolding slots_fit
  array_of t =
      let u = simp (and_iff, upto_iff) at t in
      let most = u.0 in
      let each : (i : ℕ) → i < 16 → (T (i below n) → T (ok (f i))) × ((T (i below n) → ⊥) → T (clear w (f i))) =
      λ i h. (choice_iff (i below n) (ok (f i)) (clear w (f i))).0 ((simp tests at u.1) i h) in
      record {
        most = most;
        live = λ i h. (each i (omega arith)).0 ((below_iff i n).1 h);
        dead = λ i h l. (clear_iff w (f i)).0 ((each i h).1 (λ b. let q = (below_iff i n).0 b in omega arith));
      }

  pub of_array : Array w 16 ok n f → T (slots_fit w ok n f)
  unfolding slots_fit
  of_array k =
      simp tests (
        k.most,
        λ i h. (choice_iff (i below n) (ok (f i)) (clear w (f i))).1
            (λ b. k.live i ((below_iff i n).0 b), λ b. (clear_iff w (f i)).1 (k.dead i h (past i b))),
      )
    where
      past : (i : ℕ) → (T (i below n) → ⊥) → n ≤ i
      past i b = let q : i < n → ⊥ = λ h. b ((below_iff i n).1 h) in omega (arith, q)

-- ---- held names, sites and threads

pub number_low : (v : ℕ) → held_number v < 64
unfolding held_number
number_low v = omega arith

module _ (m : Model) (last : ℕ → ℕ) where
  pub record HeldFits (v : ℕ) : Type 0 where
    pub given : v ≢ 0
    pub listed : held_number v < length m.kinds
    pub not_received : kind_of_name m.kinds (held_number v) ≢ 2
    pub free : kind_of_name m.kinds (held_number v) ≡ 0 → held_stamp v ≡ 0
    pub made : kind_of_name m.kinds (held_number v) ≢ 0
        → (b : ℕ) × (owner m (held_number v) ≡ some b) × (1 ≤ held_stamp v) × (held_stamp v ≤ last b)

  pub stamp_iff : (n s : ℕ) → T (stamp_fits m last n s) ↔ ((b : ℕ) × (owner m n ≡ some b) × (1 ≤ s) × (s ≤ last b))
  unfolding stamp_fits
  stamp_iff n s = go (owner m n) refl
    where
      go : (o : Option ℕ) → owner m n ≡ o
          → T (elim o [ none ↦ false | some b ↦ 1 upto s and s upto last b ]) ↔ ((b : ℕ) × (owner m n ≡ some b) × (1 ≤ s) × (s ≤ last b))
      go none e = (λ t. absurd t, λ x. let z : ◌≡◌ {A = Option ℕ} none (some x.0) = cc (e, x.1) in absurd (apart z))
        where
          apart : {b : ℕ} → ◌≡◌ {A = Option ℕ} none (some b) → ⊥
          apart q = subst (λ (o : Option ℕ). code o) q tt
            where
              code : Option ℕ → Type 0
              code none = Unit
              code (some a) = ⊥
      go (some b) e = (
        λ t. let u = simp tests at t in (b, e, u.0, u.1),
        λ x. let q : b ≡ x.0 = cc (e, x.1) in simp tests (x.2, rw q x.3),
      )

  pub held_iff : (v : ℕ) → T (held_fits m last v) ↔ HeldFits v
  unfolding held_fits
  held_iff v =
      let n = held_number v in
      let k = kind_of_name m.kinds n in (
        λ t.
            let u = simp tests at t in
            let c = (choice_iff (k is 0) (held_stamp v is 0) (stamp_fits m last n (held_stamp v))).0 u.1 in
            record {
              given = u.0.0.0;
              listed = u.0.0.1;
              not_received = u.0.1;
              free = λ e. (is_iff (held_stamp v) 0).0 (c.0 ((is_iff k 0).1 e));
              made = λ e. (stamp_iff n (held_stamp v)).0 (c.1 (λ b. e ((is_iff k 0).0 b)));
            },
        λ h.
            simp tests (
              ((h.given, h.listed), h.not_received),
              (choice_iff (k is 0) (held_stamp v is 0) (stamp_fits m last n (held_stamp v))).1 (
                λ b. (is_iff (held_stamp v) 0).1 (h.free ((is_iff k 0).0 b)),
                λ b. (stamp_iff n (held_stamp v)).1 (h.made (λ e. b ((is_iff k 0).1 e))),
              ),
            ),
      )

  pub record SiteFits (x : List ℕ) : Type 0 where
    pub size : length x ≡ 10
    pub subject_fits : HeldFits (subject x)
    pub subject_kind : (kind_of_name m.kinds (held_number (subject x)) ≡ 0) ⊎ (kind_of_name m.kinds (held_number (subject x)) ≡ 3)
    pub flag_fits : flag x ≤ 1
    pub type_some : type_word x 0 ≢ 0
    pub type_fits : (i : ℕ) → i < 8 → type_word x i ≢ 0 → HeldFits (type_word x i)
    pub type_before : (i : ℕ) → i < 7 → type_word x (i + 1) ≢ 0 → type_word x i ≢ 0
    pub type_ascends : (i : ℕ) → i < 7 → type_word x (i + 1) ≢ 0 → type_word x i < type_word x (i + 1)

  pub site_iff : (x : List ℕ) → T (site_words_fit m last x) ↔ SiteFits x
  unfolding site_words_fit type_words_fit
  site_iff x =
      let k = kind_of_name m.kinds (held_number (subject x)) in (
        λ t.
            let u = simp tests at t in
            record {
              size = u.0.0.0.0;
              subject_fits = (held_iff (subject x)).0 u.0.0.0.1;
              subject_kind = ⊎_elim (λ a. inl ((is_iff k 0).0 a)) (λ a. inr ((is_iff k 3).0 a)) ((or_iff (k is 0) (k is 3)).0 u.0.0.1);
              flag_fits = u.0.1;
              type_some = u.1.0.0;
              type_fits = λ i h e. (held_iff (type_word x i)).0 (u.1.0.1 i h e);
              type_before = λ i h e. (u.1.1 i h e).0;
              type_ascends = λ i h e. (u.1.1 i h e).1;
            },
        λ s.
            simp tests (
              (
                (
                  (s.size, (held_iff (subject x)).1 s.subject_fits),
                  (or_iff (k is 0) (k is 3)).1 (⊎_elim (λ a. inl ((is_iff k 0).1 a)) (λ a. inr ((is_iff k 3).1 a)) s.subject_kind),
                ),
                s.flag_fits,
              ),
              ((s.type_some, λ i h e. (held_iff (type_word x i)).1 (s.type_fits i h e)), λ i h e. (s.type_before i h e, s.type_ascends i h e)),
            ),
      )

  pub record ThreadFits (x : Box) (y : List ℕ) : Type 0 where
    pub size : length y ≡ 61
    pub stands : line y < line_count x
    pub bound : (n : ℕ) → n < 60 → T (bound_above x (line y) n) → HeldFits (binding y n)
    pub unbound : (n : ℕ) → n < 60 → (T (bound_above x (line y) n) → ⊥) → binding y n ≡ 0

  pub thread_iff : (x : Box) (y : List ℕ) → T (thread_words_fit m last x y) ↔ ThreadFits x y
  unfolding thread_words_fit
  thread_iff x y = (
    λ t.
        let u = simp tests at t in
        let c : (n : ℕ) → n < 60 → (T (bound_above x (line y) n) → T (held_fits m last (binding y n))) × ((T (bound_above x (line y) n) → ⊥) → T (binding y n is 0)) =
        λ n h. (choice_iff (bound_above x (line y) n) (held_fits m last (binding y n)) (binding y n is 0)).0 (u.1 n h) in
        record {
          size = u.0.0;
          stands = u.0.1;
          bound = λ n h b. (held_iff (binding y n)).0 ((c n h).0 b);
          unbound = λ n h b. (is_iff (binding y n) 0).0 ((c n h).1 b);
        },
    λ s.
        simp tests (
          (s.size, s.stands),
          λ n h.
              (choice_iff (bound_above x (line y) n) (held_fits m last (binding y n)) (binding y n is 0)).1
              (λ b. (held_iff (binding y n)).1 (s.bound n h b), λ b. (is_iff (binding y n) 0).1 (s.unbound n h b)),
        ),
  )

  -- ---- records

  pub record RecordFits (x : Box) (r : List ℕ) : Type 0 where
    pub size : length r ≡ 1139
    pub stamp_fits : stamp r ≤ stamp_limit
    pub threads_fit : Array 61 16 (thread_words_fit m last x) (threads r) (thread r)
    pub sites_fit : Array 10 16 (site_words_fit m last) (sites r) (site r)
    pub differ : Differ (sites r) (site r)

  pub record_iff : (x : Box) (r : List ℕ) → T (record_fits m last x r) ↔ RecordFits x r
  unfolding record_fits
  record_iff x r = (
    λ t.
        let u = simp tests at t in
        let k = array_of 10 (site_words_fit m last) (sites r) (site r) u.0.1 in
        record {
          size = u.0.0.0.0;
          stamp_fits = u.0.0.0.1;
          threads_fit = array_of 61 (thread_words_fit m last x) (threads r) (thread r) u.0.0.1;
          sites_fit = k;
          differ = λ s q a b. u.1 s (omega (arith, k.most)) q a b;
        },
    λ k.
        simp tests (
          (
            ((k.size, k.stamp_fits), of_array 61 (thread_words_fit m last x) (threads r) (thread r) k.threads_fit),
            of_array 10 (site_words_fit m last) (sites r) (site r) k.sites_fit,
          ),
          λ s _ q a b. k.differ s q a b,
        ),
  )

-- ---- a state

pub record StateFits (m : Model) (st : List ℕ) : Type 0 where
  pub size : length st ≡ state_length
  pub live : (b : ℕ) → b < 8 → b < box_count m → RecordFits m (last_stamps st) (box_at m b) (record_of st b)
  pub dead : (b : ℕ) → b < 8 → box_count m ≤ b → record_of st b ≡ zeros 1139

pub state_iff : (m : Model) (st : List ℕ) → T (state_fits m st) ↔ StateFits m st
unfolding state_fits
state_iff m st = (
  λ t.
      let u = simp tests at t in
      let c : (b : ℕ) → b < 8 → (T (b below box_count m) → T (record_fits m (last_stamps st) (box_at m b) (record_of st b))) × ((T (b below box_count m) → ⊥) → T (clear 1139 (record_of st b))) =
      λ b h. (choice_iff (b below box_count m) (record_fits m (last_stamps st) (box_at m b) (record_of st b)) (clear 1139 (record_of st b))).0 (u.1 b h) in
      record {
        size = u.0;
        live = λ b h l. (record_iff m (last_stamps st) (box_at m b) (record_of st b)).0 ((c b h).0 ((below_iff b (box_count m)).1 l));
        dead = λ b h l. (clear_iff 1139 (record_of st b)).0 ((c b h).1 (λ q. let z = (below_iff b (box_count m)).0 q in omega arith));
      },
  λ k.
      simp tests (
        k.size,
        λ b h.
            (choice_iff (b below box_count m) (record_fits m (last_stamps st) (box_at m b) (record_of st b)) (clear 1139 (record_of st b))).1 (
              λ q. (record_iff m (last_stamps st) (box_at m b) (record_of st b)).1 (k.live b h ((below_iff b (box_count m)).0 q)),
              λ q. (clear_iff 1139 (record_of st b)).1 (k.dead b h (let z : b < box_count m → ⊥ = λ l. q ((below_iff b (box_count m)).1 l) in omega (arith, z))),
            ),
      ),
)
