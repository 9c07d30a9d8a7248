-- Laws of the limits of held names: a held name lies within the limits of its number exactly when it is in order. Assumes nothing.
use Rattle.std.proofs.Common.{◌≡◌, ℕ, ◌+◌, ◌++◌, take, drop, length-take, ◌-◌, ◌%◌, ◌^◌, ◌<◌, ◌≤◌, Bool, true, false, ◌&&◌, T, leb, ◌≢◌, ◌↔◌, List, length, get_or, set, replicate, sym, refl, ap, ◌∙◌, subst, ap₂, arith}
use mathlib.Core.Option.{Option, none, some}
use native.Mathlib.Decide.{ℕ_discrete, dec_lt}
use lib.ListN.{length-replicate, get_or-replicate, get_or-append}
use Rattle.std.proofs.lemmas.List.{get_or-append_right, get_or-drop}
use Rattle.definitions.specs.Bounded.{◌and◌, ◌is◌, ◌below◌, ◌upto◌, some_if}
use Rattle.definitions.specs.Sets.{has}
use Rattle.definitions.specs.Model.{kind_of_name, owner}
use Rattle.definitions.specs.Image.{name_count, kinds_of, model_of}
use Rattle.definitions.specs.Record.{held, held_number, held_stamp, stamp_limit, stamp, record_of, last_stamps}
use Rattle.definitions.specs.StateRules.{held_fits}
use Rattle.definitions.proofs.Bounded.{and_is, and_iff, is_iff, below_iff, upto_iff, all_iff, true_of, of_true, false_of, same_test, first_found, fault_some}
use Rattle.definitions.proofs.Loops.{joining_start, joining_turn, joining_end}
use Rattle.definitions.proofs.Image.{model_kinds, model_names}
use Rattle.definitions.proofs.StateRules.{number_low, HeldFits, held_iff}
use Rattle.layouts.specs.declared.Layout.{Layout}
use Rattle.layouts.specs.declared.BoxPlace.{BoxPlace}
use Rattle.layouts.specs.LayoutOf.{nowhere, OfKind, LayoutOf}
use Rattle.layouts.specs.Owners.{first_binder}
use Rattle.layouts.proofs.LayoutLaws.{set_entry}
use Rattle.layouts.proofs.OwnerLaws.{binder_owner}
use Rattle.held_limits.specs.declared.Limit.{Limit}
use Rattle.held_limits.specs.Limits.{past, entry_of, in_limits, least_held, largest_made, largest_held, last_fits, StampsFit, LimitsFor}

-- ---- one held name

pub entry_is : (v : ℕ) → v < 2 ^ 32 → (v + 4294967295) % 4294967296 % 64 ≡ entry_of v
unfolding entry_of
entry_is v h = omega arith

module _ (v n : ℕ) (e : n ≡ entry_of v) where
  pub entry_below : n < 64
  unfolding entry_of
  entry_below = omega arith

  pub in_limits_lem : (limits : List Limit) → (leb (get_or limits n past).low v && leb v (get_or limits n past).high) ≡ in_limits limits v
  unfolding in_limits ◌upto◌
  in_limits_lem limits =
      and_is (leb (get_or limits n past).low v) (leb v (get_or limits n past).high)
      ∙ ap (λ (i : ℕ). (get_or limits i past).low upto v and v upto (get_or limits i past).high) e

-- ---- the last stamp of a box

module _ (st r : List ℕ) (b : ℕ) (e : r ≡ record_of st b) where
  pub last-is : (w : ℕ) → w ≡ stamp r → w ≡ last_stamps st b
  unfolding last_stamps
  last-is w q = q ∙ ap stamp e

pub last_test : (st : List ℕ) (b w : ℕ) (t : Bool) → t ≡ (w upto stamp_limit) → w ≡ last_stamps st b → t ≡ last_fits st b
unfolding last_fits
last_test st b w t q e = q ∙ ap (λ (v : ℕ). v upto stamp_limit) e

-- ---- the limits of one number

module _ (free n : ℕ) (b : Bool) (e : b ≡ has free n) where
  pub least_free : (w : ℕ) → b ≡ true → w ≡ held n 0 → w ≡ least_held free n
  unfolding least_held
  least_free w t z = z ∙ ap (λ (c : Bool). elim c as (λ _. ℕ) [ true ↦ held n 0 | false ↦ held n 1 ]) (sym t ∙ e)

  pub least_made : (w : ℕ) → b ≡ false → w ≡ held n 1 → w ≡ least_held free n
  unfolding least_held
  least_made w t z = z ∙ ap (λ (c : Bool). elim c as (λ _. ℕ) [ true ↦ held n 0 | false ↦ held n 1 ]) (sym t ∙ e)

-- the box that binds a name is one of the boxes, so its last stamp is at most the limit
module _ (each : List BoxPlace) (boxes n b : ℕ) (found : some b ≡ first_binder each boxes n) where
  binder_inside : b < boxes
  unfolding first_binder
  binder_inside =
      let x = first_found (λ c. some_if (has (get_or each c nowhere).bound n) c) boxes b (sym found) in
      let z = (fault_some (has (get_or each x.0 nowhere).bound n) x.0 b x.2).1 in
      omega (arith, x.1)

  pub binder_below : (st : List ℕ) → StampsFit st boxes → b < 8
  binder_below st f = omega (arith, binder_inside, f.most)

  pub binder_stamp : (st : List ℕ) (w : ℕ) → StampsFit st boxes → w ≡ last_stamps st b → w ≤ stamp_limit
  unfolding last_fits
  binder_stamp st w f z =
      subst (λ (s : ℕ). s ≤ stamp_limit) (sym z) ((upto_iff (last_stamps st b) stamp_limit).0 ((all_iff boxes (last_fits st)).0 (of_true f.stamps) b binder_inside))

  pub largest_some : (last : ℕ → ℕ) (v w : ℕ) → v ≡ held n w → w ≡ last b → v ≡ largest_made each boxes last n
  unfolding largest_made
  largest_some last v w y z =
      y ∙ ap (held n) z ∙ ap (λ (x : Option ℕ). elim x as (λ _. ℕ) [ none ↦ 0 | some c ↦ held n (last c) ]) found

pub largest_none : (each : List BoxPlace) (boxes n : ℕ) → none ≡ first_binder each boxes n → (last : ℕ → ℕ) → 0 ≡ largest_made each boxes last n
unfolding largest_made
largest_none each boxes n found last = ap (λ (x : Option ℕ). elim x as (λ _. ℕ) [ none ↦ 0 | some c ↦ held n (last c) ]) found

module _ (l : Layout) (last : ℕ → ℕ) (n : ℕ) (b : Bool) (e : b ≡ has l.kinds.free n) where
  pub largest_free : (w : ℕ) → b ≡ true → w ≡ held n 0 → w ≡ largest_held l last n
  unfolding largest_held
  largest_free w t z =
      z ∙ ap (λ (c : Bool). elim c as (λ _. ℕ) [
        | true ↦ held n 0
        | false ↦ elim (has l.kinds.received n) [ true ↦ 0 | false ↦ largest_made l.each l.boxes last n ]
      ]) (sym t ∙ e)

  module _ (f : b ≡ false) (c : Bool) (z : c ≡ has l.kinds.received n) where
    not_free_lem : (r : ℕ) → ◌≡◌ {A = ℕ} r (elim c [ true ↦ 0 | false ↦ largest_made l.each l.boxes last n ]) → r ≡ largest_held l last n
    unfolding largest_held
    not_free_lem r q =
        q ∙ ap₂ (λ (x y : Bool). elim x as (λ _. ℕ) [
          | true ↦ held n 0
          | false ↦ elim y [ true ↦ 0 | false ↦ largest_made l.each l.boxes last n ]
        ]) (sym f ∙ e) z

    pub largest_received : c ≡ true → 0 ≡ largest_held l last n
    largest_received t = not_free_lem 0 (ap (λ (y : Bool). elim y as (λ _. ℕ) [ true ↦ 0 | false ↦ largest_made l.each l.boxes last n ]) (sym t))

    pub largest_made_lem : (r : ℕ) → c ≡ false → r ≡ largest_made l.each l.boxes last n → r ≡ largest_held l last n
    largest_made_lem r t q = not_free_lem r (q ∙ ap (λ (y : Bool). elim y as (λ _. ℕ) [ true ↦ 0 | false ↦ largest_made l.each l.boxes last n ]) (sym t))

-- ---- the table

-- the limits of number n
abbrev pub limit_of : Layout → (ℕ → ℕ) → ℕ → Limit
limit_of l last n = record { low = least_held l.kinds.free n; high = largest_held l last n }

-- the limits that admit nothing
abbrev pub shut : Limit
shut = record { low = 1; high = 0 }

-- of the entries of a layout's names, those of the numbers below n are given
pub record LimitsRun (l : Layout) (st : List ℕ) (n : ℕ) (limits : List Limit) : Type 0 where
  pub given : (i : ℕ) → i < n → get_or limits i past ≡ limit_of l (last_stamps st) i

-- the entries of a layout's names are given, and each other admits nothing
record LimitsWhole (l : Layout) (st : List ℕ) (limits : List Limit) : Type 0 where
  few : l.names ≤ 60
  given : (i : ℕ) → i < l.names → get_or limits i past ≡ limit_of l (last_stamps st) i
  rest : (i : ℕ) → l.names ≤ i → i < 64 → get_or limits i past ≡ shut

module _ (l : Layout) (st : List ℕ) where
  pub limits_start : (limits : List Limit) → LimitsRun l st 0 limits
  limits_start limits = record { given = λ i l. absurd (omega arith) }

  pub limits_turn : (n m : ℕ) (limits : List Limit) → LimitsRun l st n limits → length limits ≡ m → n < m → (r : Limit) → r.low ≡ least_held l.kinds.free n → r.high ≡ largest_held l (last_stamps st) n
      → LimitsRun l st (n + 1) (set limits n r)
  limits_turn n m limits p long h r e q = record {
    given = set_entry past (λ i x. x ≡ limit_of l (last_stamps st) i) limits n r (omega (arith, long)) p.given (λ i. record { low = e i; high = q i });
  }

  limits_whole : (n : ℕ) (given limits : List Limit) → l.names ≤ 60 → limits ≡ replicate 64 shut → length given ≡ l.names → LimitsRun l st n given → l.names ≤ n
      → LimitsWhole l st (given ++ drop l.names limits)
  limits_whole n given limits few e long p done = record {
    few = few;
    given = λ i h. get_or-append given (drop l.names limits) past i (omega (arith, long)) ∙ p.given i (omega arith);
    rest = λ i h q.
        get_or-append_right given (drop l.names limits) l.names i past long h ∙ get_or-drop l.names limits (i - l.names) past
        ∙ ap (λ (x : List Limit). get_or x (l.names + (i - l.names)) past) e ∙ get_or-replicate 64 (l.names + (i - l.names)) shut past (omega arith);
  }

-- ---- the limits are those of the held names in order

-- one listed name: its limits by its kind, and by the box that binds it
module _ (image : List ℕ) (l : Layout) (last : ℕ → ℕ) (lay : LayoutOf image l) (few : l.names ≤ 60) (n : ℕ) (inside : n < l.names) where
  abbrev kind : ℕ
  kind = kind_of_name (model_of image).kinds n

  kind_set : (k s : ℕ) → OfKind image k s → (kind is k) ≡ has s n
  unfolding ◌and◌
  kind_set k s o =
      let h : n < name_count image = omega (arith, lay.frame.names) in
      ap (λ (kinds : List ℕ). kind_of_name kinds n is k) (model_kinds image)
      ∙ ap (λ (b : Bool). b and kind_of_name (kinds_of image) n is k) (sym (true_of (n below name_count image) ((below_iff n (name_count image)).1 h)))
      ∙ sym (o n (omega arith))

  is_free_lem : kind ≡ 0 → (kind is 0) ≡ true
  is_free_lem e = true_of (kind is 0) ((is_iff kind 0).1 e)

  isnt_free : kind ≢ 0 → (kind is 0) ≡ false
  isnt_free f = false_of (kind is 0) (λ t. f ((is_iff kind 0).0 t))

  low_free : kind ≡ 0 → held n 0 ≡ least_held l.kinds.free n
  low_free e = least_free l.kinds.free n (kind is 0) (kind_set 0 l.kinds.free lay.frame.free) _ (is_free_lem e) refl

  low_made : kind ≢ 0 → held n 1 ≡ least_held l.kinds.free n
  low_made f = least_made l.kinds.free n (kind is 0) (kind_set 0 l.kinds.free lay.frame.free) _ (isnt_free f) refl

  high_free : kind ≡ 0 → held n 0 ≡ largest_held l last n
  high_free e = largest_free l last n (kind is 0) (kind_set 0 l.kinds.free lay.frame.free) _ (is_free_lem e) refl

  high_received : kind ≡ 2 → 0 ≡ largest_held l last n
  high_received e =
      largest_received l last n (kind is 0) (kind_set 0 l.kinds.free lay.frame.free) (isnt_free (λ z. absurd (omega arith))) (kind is 2) (kind_set 2 l.kinds.received lay.frame.received)
      (true_of (kind is 2) ((is_iff kind 2).1 e))

  high_made : (o : Option ℕ) → owner (model_of image) n ≡ o → kind ≢ 0 → kind ≢ 2 → elim o [ none ↦ 0 | some b ↦ held n (last b) ] ≡ largest_held l last n
  unfolding largest_made
  high_made o e f g =
      largest_made_lem l last n (kind is 0) (kind_set 0 l.kinds.free lay.frame.free) (isnt_free f) (kind is 2) (kind_set 2 l.kinds.received lay.frame.received) _
      (false_of (kind is 2) (λ t. g ((is_iff kind 2).0 t)))
      (ap (λ (x : Option ℕ). elim x as (λ _. ℕ) [ none ↦ 0 | some b ↦ held n (last b) ]) (sym (binder_owner image l n lay (omega arith) ∙ e)))

-- a held name of a listed number
module _ (image : List ℕ) (l : Layout) (last : ℕ → ℕ) (lay : LayoutOf image l) (few : l.names ≤ 60) (v : ℕ) (some-held : v ≢ 0) (inside : held_number v < l.names) where
  abbrev name : ℕ
  name = held_number v

  between_fits : least_held l.kinds.free name ≤ v → v ≤ largest_held l last name → HeldFits (model_of image) last v
  unfolding held held_stamp held_number
  between_fits a b = record {
    given = some-held;
    listed = omega (arith, lay.frame.names, ap length (model_kinds image), model_names image);
    not_received = λ e. absurd (omega (arith, high_received image l last lay few name inside e));
    free = λ e. omega (arith, high_free image l last lay few name inside e);
    made = λ f. by_owner (owner (model_of image) name) refl f (λ e. absurd (omega (arith, high_received image l last lay few name inside e)));
  }
    where
      by_owner : (o : Option ℕ) → owner (model_of image) name ≡ o → kind_of_name (model_of image).kinds name ≢ 0 → kind_of_name (model_of image).kinds name ≢ 2
          → (c : ℕ) × (owner (model_of image) name ≡ some c) × (1 ≤ held_stamp v) × (held_stamp v ≤ last c)
      by_owner none e f g = absurd (omega (arith, high_made image l last lay few name inside none e f g))
      by_owner (some c) e f g =
          let high = high_made image l last lay few name inside (some c) e f g in
          let low = low_made image l last lay few name inside f in
          (c, e, omega arith, omega arith)

  fits_between : HeldFits (model_of image) last v → (least_held l.kinds.free name ≤ v) × (v ≤ largest_held l last name)
  unfolding held held_stamp held_number
  fits_between h = pick (ℕ_discrete (kind_of_name (model_of image).kinds name) 0)
    where
      pick : Dec (kind_of_name (model_of image).kinds name ≡ 0) → (least_held l.kinds.free name ≤ v) × (v ≤ largest_held l last name)
      pick (yes e) =
          let z = h.free e in
          (omega (arith, low_free image l last lay few name inside e), omega (arith, high_free image l last lay few name inside e))
      pick (no f) =
          let x = h.made f in
          let high = high_made image l last lay few name inside (some x.0) x.1 f h.not_received in
          (omega (arith, low_made image l last lay few name inside f, x.2), omega (arith, x.3))

module _ (l : Layout) (st : List ℕ) (limits : List Limit) (p : LimitsWhole l st limits) where
  module _ (image : List ℕ) (lay : LayoutOf image l) where
    last : ℕ → ℕ
    last = last_stamps st

    -- none is in no limits, and not in order
    none_out : (v : ℕ) → v ≡ 0 → T (in_limits limits v) → ⊥
    unfolding in_limits entry_of
    none_out v e t =
        let x = get_or limits (entry_of v) past in
        let a = (upto_iff x.low v).0 ((and_iff (x.low upto v) (v upto x.high)).0 t).0 in
        omega (arith, p.few, ap (λ (y : Limit). y.low) (p.rest (entry_of v) (omega (arith, p.few)) (omega arith)))

    limit_at : (v : ℕ) → v ≢ 0 → T (in_limits limits v) ↔ (((get_or limits (held_number v) past).low ≤ v) × (v ≤ (get_or limits (held_number v) past).high))
    unfolding in_limits entry_of held_number
    limit_at v f =
        let e : (v + 63) % 64 ≡ (v - 1) % 64 = omega arith in
        rw e (λ t. simp (and_iff, upto_iff) at t, λ t. simp (and_iff, upto_iff) t)

    inside_limits : (v : ℕ) → v ≢ 0 → Dec (held_number v < l.names) → T (in_limits limits v) ↔ HeldFits (model_of image) last v
    unfolding last
    inside_limits v f (yes h) =
        let a = ap (λ (y : Limit). y.low) (p.given (held_number v) h) in
        let b = ap (λ (y : Limit). y.high) (p.given (held_number v) h) in (
          λ t. let x = (limit_at v f).0 t in between_fits image l last lay p.few v f h (omega arith) (omega arith),
          λ k. let x = fits_between image l last lay p.few v f h k in (limit_at v f).1 (omega arith, omega arith),
        )
    inside_limits v f (no h) =
        let small : held_number v < 64 = number_low v in
        let b = ap (λ (y : Limit). y.high) (p.rest (held_number v) (omega arith) small) in (
          λ t. absurd (let x = (limit_at v f).0 t in omega arith),
          λ k. absurd (omega (arith, k.listed, lay.frame.names, ap length (model_kinds image), model_names image)),
        )

    same_limits : (v : ℕ) → Dec (v ≡ 0) → in_limits limits v ≡ held_fits (model_of image) last v
    same_limits v (yes e) =
        same_test (in_limits limits v) (held_fits (model_of image) last v) (λ t. absurd (none_out v e t)) (λ t. absurd (((held_iff (model_of image) last v).0 t).given e))
    same_limits v (no f) =
        let x = inside_limits v f (dec_lt (held_number v) l.names) in
        same_test (in_limits limits v) (held_fits (model_of image) last v) (λ t. (held_iff (model_of image) last v).1 (x.0 t)) (λ t. x.1 ((held_iff (model_of image) last v).0 t))

  limits_for : LimitsFor l st limits
  unfolding last
  limits_for = record { are = λ image lay. record { same = λ v. same_limits image lay v (ℕ_discrete v 0) } }

-- the entries of the first names are lent, given one after another, and are back
pub limits_end : (l : Layout) (st : List ℕ) (n : ℕ) (given limits : List Limit) → LimitsRun l st n given → l.names ≤ 60 → limits ≡ replicate 64 shut
    → length given ≡ length (take l.names limits) → length (take l.names limits) ≤ n → LimitsFor l st (given ++ drop l.names limits)
limits_end l st n given limits p few e long done =
    let all : length (take l.names limits) ≡ l.names = simp length-take (omega (arith, ap length e ∙ length-replicate {A = Limit} 64 shut)) in
    limits_for l st (given ++ drop l.names limits) (limits_whole l st n given limits few e (long ∙ all) p (omega (arith, all)))

pub ruleset limits = (entry_is, entry_below, in_limits_lem, last-is, last_test, joining_start, joining_turn, joining_end, least_free, least_made, binder_below, binder_stamp, largest_some, largest_none, largest_free, largest_received, largest_made_lem, limits_start, limits_turn, limits_end)
