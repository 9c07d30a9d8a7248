-- A move in a state: its number is that of the move in its box, or between its boxes. Assumes nothing.
use mathlib.Core.Path.{◌≡◌, refl, ap, sym, ◌∙◌}
use mathlib.Core.Logic.{◌≢◌}
use mathlib.Core.Bool.{Bool, true, false}
use mathlib.Core.List.{List}
use Prim.Native.Nat.{ℕ, zero, suc, ◌+◌, ◌*◌, ◌≤◌, ◌<◌}
use native.Mathlib.Decide.{dec_lt}
use native.Mathlib.Omega.{arith}
use lib.Dec.{T, ltb}
use Rattle.std.proofs.lemmas.Grind.{merely}
use lib.ListN.{length}
use Rattle.definitions.specs.Bounded.{◌and◌, ◌isnt◌, ◌below◌}
use Rattle.definitions.specs.Model.{box_at, box_count}
use Rattle.definitions.specs.Image.{boxes_of, model_of}
use Rattle.definitions.specs.Record.{threads, record_of, put_record, last_stamps}
use Rattle.definitions.specs.Moves.{Kind, inside, inter, unknown, kind_of_move, Outcome, Ends, need, on_made, inside_move, inter_move, inside_act, inter_act, act_as, act}
use Rattle.definitions.specs.Calls.{outcome_number}
use Rattle.definitions.proofs.Bounded.{and_iff, below_iff, true_of, false_of}
use Rattle.definitions.proofs.Image.{model_count}
use Rattle.definitions.proofs.StateRules.{StateFits, state_iff, record_iff}
use Rattle.model.specs.declared.ReadModel.{ReadModel}
use Rattle.lookups.specs.Ready.{BoxReady, Ready}
use Rattle.lookups.specs.Inside.{inside_as, inside_outcome}
use Rattle.lookups.proofs.Ready.{read_boxes}
use Rattle.state.specs.Moves.{move_of}
use Rattle.deciding.specs.Numbers.{blocked_number, unless, inter_number}
use Rattle.deciding.specs.declared.Blocked.{Blocked}
use Rattle.deciding.proofs.Decided.{blocked_not, need_met, need_yes, need_no, need-same, on_made_number}

-- ---- a number below a bound, as the code tests it

pub low_of : (a n : ℕ) → 0 ≡ unless (ltb a n) 12 → a < n
unfolding ◌below◌
low_of a n z = (below_iff a n).0 (need_met (a below n) 11 z)

pub past_of : (b : Blocked) (a n m : ℕ) → blocked_number b ≡ unless (ltb a n) m → (n ≤ a) × (blocked_number b ≡ m)
unfolding ◌below◌
past_of b a n m e = pick (dec_lt a n)
  where
    pick : Dec (a < n) → (n ≤ a) × (blocked_number b ≡ m)
    pick (yes q) = absurd (blocked_not b (sym (e ∙ ap (λ (z : Bool). unless z m) (true_of (a below n) ((below_iff a n).1 q)))))
    pick (no q) = (omega arith, e ∙ ap (λ (z : Bool). unless z m) (false_of (a below n) (λ t. q ((below_iff a n).0 t))))

-- ---- a state that obeys the rules: each box's record is in order

module _ (m : ReadModel) (st : List ℕ) (k : Ready m st) where
  state_fits_lem : StateFits (model_of m.image.now) st
  state_fits_lem = (state_iff (model_of m.image.now) st).0 k.fits

  module _ (b : ℕ) (h : b < m.layout.boxes) where
    listed : b < boxes_of m.image.now
    listed = rw m.of.frame.boxes at h

    pub record_room : 1139 * (b + 1) ≤ length st
    record_room = let q = read_boxes m.image.now b m.read listed in omega (arith, state_fits_lem.size)

    pub record_ready : (r : List ℕ) → r ≡ record_of st b → BoxReady m b r
    record_ready r d = record {
      inside = listed;
      fits = merely (record {
        last = last_stamps st;
        fits = rw d ((record_iff (model_of m.image.now) (last_stamps st) (box_at (model_of m.image.now) b) (record_of st b)).1
            (state_fits_lem.live b (read_boxes m.image.now b m.read listed) (rw (model_count m.image.now) listed)));
      });
    }

-- ---- kind 9 alone is inter

abbrev pub IsInter : Kind → Type 0
IsInter (inside i) = ⊥
IsInter inter = Unit
IsInter unknown = ⊥

pub not-inter : (k : ℕ) → k ≢ 9 → IsInter (kind_of_move k) → ⊥
unfolding kind_of_move
not-inter zero h c = c
not-inter (suc zero) h c = c
not-inter (suc (suc zero)) h c = c
not-inter (suc (suc (suc zero))) h c = c
not-inter (suc (suc (suc (suc zero)))) h c = c
not-inter (suc (suc (suc (suc (suc zero))))) h c = c
not-inter (suc (suc (suc (suc (suc (suc zero)))))) h c = c
not-inter (suc (suc (suc (suc (suc (suc (suc zero))))))) h c = c
not-inter (suc (suc (suc (suc (suc (suc (suc (suc zero)))))))) h c = c
not-inter (suc (suc (suc (suc (suc (suc (suc (suc (suc zero))))))))) h c = h refl
not-inter (suc (suc (suc (suc (suc (suc (suc (suc (suc (suc n)))))))))) h c = c

and_yes : (a z : Bool) → T a → (a and z) ≡ z
unfolding ◌and◌
and_yes true z g = refl
and_yes false z g = absurd g

-- ---- a move in a state

module _ (m : ReadModel) (st : List ℕ) (kind b t c u : ℕ) where
  inside_model : (d : ℕ) → d < m.layout.boxes → T (d below box_count (model_of m.image.now))
  inside_model d h = (below_iff d (box_count (model_of m.image.now))).1 (omega (arith, h, m.of.frame.boxes, model_count m.image.now))

  past : (d : ℕ) → m.layout.boxes ≤ d → T (d below box_count (model_of m.image.now)) → ⊥
  past d h t = let q = (below_iff d (box_count (model_of m.image.now))).0 t in omega (arith, h, m.of.frame.boxes, model_count m.image.now)

  -- both boxes and both threads are there
  abbrev There : Bool
  There = b below box_count (model_of m.image.now) and c below box_count (model_of m.image.now) and t below threads (record_of st b) and u below threads (record_of st c)

  split : T There → T (b below box_count (model_of m.image.now)) × T (c below box_count (model_of m.image.now)) × T (t below threads (record_of st b)) × T (u below threads (record_of st c))
  split z = let p = simp and_iff at z in (p.0.0.0, p.0.0.1, p.0.1, p.1)

  pub act_nobody : (n : Blocked) → blocked_number n ≡ unless (ltb b m.layout.boxes) 12
      → blocked_number n ≡ outcome_number (act (model_of m.image.now) st (move_of kind b t c u))
  unfolding act act_as inside_act inter_act
  act_nobody n e = p.1 ∙ go (kind_of_move kind)
    where
      p : (m.layout.boxes ≤ b) × (blocked_number n ≡ 12)
      p = past_of n b m.layout.boxes 12 e

      go : (k : Kind) → 12 ≡ outcome_number (act_as (model_of m.image.now) st k (move_of kind b t c u))
      go (inside i) = need_no (b below box_count (model_of m.image.now)) 12 _ (past b p.0)
      go inter = need_no There 12 _ (λ z. past b p.0 (split z).0)
      go unknown = refl

  pub act_inside : (x : ℕ) (r : List ℕ) → b < m.layout.boxes → kind ≢ 9 → r ≡ record_of st b
      → x ≡ outcome_number (inside_outcome (model_of m.image.now).kinds (box_at (model_of m.image.now) b) r kind t u)
      → x ≡ outcome_number (act (model_of m.image.now) st (move_of kind b t c u))
  unfolding act act_as inside_act inter_act inside_outcome
  act_inside x r h nine d q =
      go (kind_of_move kind) (not-inter kind nine) (q ∙ ap (λ (s : List ℕ). outcome_number (inside_as (model_of m.image.now).kinds (box_at (model_of m.image.now) b) s (kind_of_move kind) t u)) d)
    where
      go : (k : Kind) → (IsInter k → ⊥) → x ≡ outcome_number (inside_as (model_of m.image.now).kinds (box_at (model_of m.image.now) b) (record_of st b) k t u)
          → x ≡ outcome_number (act_as (model_of m.image.now) st k (move_of kind b t c u))
      go (inside i) f z = z ∙ sym (need_yes (b below box_count (model_of m.image.now)) 12 _ (inside_model b h) ∙ on_made_number (put_record st b) (inside_move (model_of m.image.now).kinds (box_at (model_of m.image.now) b) (record_of st b) i t u))
      go inter f z = absurd (f tt)
      go unknown f z = z

  module _ (nine : kind ≡ 9) where
    as_inter : outcome_number (act (model_of m.image.now) st (move_of kind b t c u)) ≡ outcome_number (inter_act (model_of m.image.now) st b t c u)
    unfolding act act_as kind_of_move
    as_inter = ap (λ (k : ℕ). outcome_number (act_as (model_of m.image.now) st (kind_of_move k) (move_of kind b t c u))) nine

    pub act_nobody2 : (n : Blocked) → blocked_number n ≡ unless (ltb c m.layout.boxes) 12
        → blocked_number n ≡ outcome_number (act (model_of m.image.now) st (move_of kind b t c u))
    unfolding inter_act
    act_nobody2 n e = let p = past_of n c m.layout.boxes 12 e in p.1 ∙ need_no There 12 _ (λ z. past c p.0 (split z).1) ∙ sym as_inter

    pub act_inter : (x : ℕ) (r s : List ℕ) → b < m.layout.boxes → c < m.layout.boxes → r ≡ record_of st b → s ≡ record_of st c
        → x ≡ inter_number (model_of m.image.now).kinds (box_at (model_of m.image.now) b) r (box_at (model_of m.image.now) c) s b t c u
        → x ≡ outcome_number (act (model_of m.image.now) st (move_of kind b t c u))
    unfolding inter_act inter_number
    act_inter x r s hb hc d f q =
        q ∙ ap (λ (z : List ℕ). number z s) d ∙ ap (λ (z : List ℕ). number (record_of st b) z) f ∙ same ∙ sym as_inter
      where
        number : List ℕ → List ℕ → ℕ
        number y z = inter_number (model_of m.image.now).kinds (box_at (model_of m.image.now) b) y (box_at (model_of m.image.now) c) z b t c u

        live : Bool
        live = t below threads (record_of st b) and u below threads (record_of st c)

        -- the boxes are there, so the two tests of 12 say the same
        twelve : (a z w : Bool) {A : Type 0} (o : Outcome A) → T a → outcome_number (need (z and w) 12 o) ≡ outcome_number (need (a and z and w) 12 o)
        twelve a z w o g = ap (λ (k : Bool). outcome_number (need (k and w) 12 o)) (sym (and_yes a z g))

        move : Outcome Ends
        move = inter_move (model_of m.image.now).kinds (box_at (model_of m.image.now) b) (record_of st b) (box_at (model_of m.image.now) c) (record_of st c) t u

        whole : Ends → List ℕ
        whole e = put_record (put_record st b e.input) c e.output

        same : number (record_of st b) (record_of st c) ≡ outcome_number (inter_act (model_of m.image.now) st b t c u)
        same =
            need-same live 12 (need (b isnt c) 13 move) (need (b isnt c) 13 (on_made whole move))
            (need-same (b isnt c) 13 move (on_made whole move) (sym (on_made_number whole move)))
            ∙ twelve (b below box_count (model_of m.image.now) and c below box_count (model_of m.image.now)) (t below threads (record_of st b)) (u below threads (record_of st c)) (need (b isnt c) 13 (on_made whole move))
            ((and_iff (b below box_count (model_of m.image.now)) (c below box_count (model_of m.image.now))).1 (inside_model b hb, inside_model c hc))
