-- Subject reduction (source paper 004, theorem 3.3): a made move leaves a covered state covered. Assumes nothing.
use mathlib.Core.Path.{◌≡◌, ◌∙◌}
use mathlib.Core.List.{List}
use Prim.Native.Nat.{ℕ, ◌≤◌, ◌<◌}
use native.Mathlib.Omega.{arith}
use native.Mathlib.Decide.{ℕ_discrete}
use lib.ListN.{length}
use Rattle.definitions.specs.Model.{Model, box_count}
use Rattle.definitions.specs.Estimate.{Estimate}
use Rattle.definitions.specs.Record.{record_of, put_record, last_stamps}
use Rattle.definitions.specs.Moves.{Inside, Move, made, act}
use Rattle.definitions.proofs.Slots.{length_put_slot, slot_put-same, slot_put_other}
use Rattle.definitions.proofs.Valid.{Valid}
use Rattle.definitions.proofs.StateRules.{StateFits}
use Rattle.definitions.proofs.Made.{InsideMade, InterActMade, act_made}
use Rattle.isolation.specs.Covers.{CoversRecord, Covers}
use Rattle.definitions.proofs.Clauses.{AllClauses}
use Rattle.isolation.proofs.CoverEdits.{Covered}
use Rattle.isolation.proofs.CoverMoves.{Here, inside_covered, inter_covered}

-- a covered record put into a covered state
put_record_lem : (m : Model) (e : Estimate) (st : List ℕ) → length st ≡ 9112 → box_count m ≤ 8 → Covers m e st → (b : ℕ) → b < box_count m → (r : List ℕ) → Covered e b r → Covers m e (put_record st b r)
put_record_lem m e st size most k b h r c = record { records = λ i l. pick i l (ℕ_discrete b i) }
  where
    pick : (i : ℕ) → i < box_count m → Dec (b ≡ i) → CoversRecord e i (record_of (put_record st b r) i)
    pick i l (yes z) = rw (← z, slot_put-same 0 1139 8 st (omega arith) b (omega arith) r c.size) c.covers
    pick i l (no z) = rw (slot_put_other 0 1139 8 st (omega arith) b (omega arith) r c.size i (omega arith) (omega arith)) (k.records i l)

pub act_covered : (m : Model) → Valid m → (e : Estimate) → AllClauses m e → (st : List ℕ) → StateFits m st → Covers m e st → (v : Move) (w : List ℕ) → act m st v ≡ made w → Covers m e w
act_covered m good e acc st fit cov v w z = act_made m st (Covers m e) v w z in_box_lem between
  where
    here : (b : ℕ) → b < box_count m → Here m e b (record_of st b)
    here b h = record { last = last_stamps st; valid = good; accepted = acc; box = h; fits = fit.live b (omega (arith, good.most_boxes)) h; covers = cov.records b h }

    in_box_lem : (k : Inside) → InsideMade m st k v.box v.thread v.thread2 w → Covers m e w
    in_box_lem k d =
        rw d.leaves (put_record_lem m e st fit.size good.most_boxes cov v.box d.box d.new
        (inside_covered (here v.box d.box) k v.thread v.thread2 d.new d.is_made))

    between : InterActMade m st v.box v.thread v.box2 v.thread2 w → Covers m e w
    between d =
        let b = v.box in
        let k = inter_covered (here b d.box) (here v.box2 d.box2) d.differ v.thread d.live v.thread2 d.live2 d.ends d.is_made in
        rw d.leaves (put_record_lem m e (put_record st b d.ends.input)
        (length_put_slot 0 1139 8 st (omega (arith, fit.size)) b (omega (arith, d.box, good.most_boxes)) d.ends.input k.0.size ∙ fit.size) good.most_boxes
        (put_record_lem m e st fit.size good.most_boxes cov b d.box d.ends.input k.0) v.box2 d.box2 d.ends.output k.1)
