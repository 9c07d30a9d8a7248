-- A move that is made keeps the state rules. Assumes nothing.
use mathlib.Core.Path.{◌≡◌, refl, ap, sym, ◌∙◌}
use mathlib.Core.Logic.{◌≢◌}
use mathlib.Core.List.{List}
use Prim.Native.Nat.{ℕ, ◌+◌, ◌*◌, ◌≤◌, ◌<◌}
use native.Mathlib.Nat.{le_refl}
use native.Mathlib.Omega.{arith}
use native.Mathlib.Decide.{ℕ_discrete, dec_lt}
use lib.ListN.{length}
use Rattle.definitions.specs.Slots.{word, put_slot, put}
use Rattle.definitions.specs.Model.{Model, box_at, box_count}
use Rattle.definitions.specs.Record.{stamp, threads, record_of, put_record, last_stamps}
use Rattle.definitions.specs.Moves.{Inside, Move, Ends, made, inside_move, inter_move, act}
use Rattle.definitions.proofs.Slots.{word_slot, word-put-before, word-put-after, length_put_slot, slot_put-same, slot_put_other}
use Rattle.definitions.proofs.Valid.{Valid}
use Rattle.definitions.proofs.StateRules.{RecordFits, StateFits}
use Rattle.definitions.proofs.Made.{InsideMade, InterActMade, act_made, inter-made}
use Rattle.isolation.proofs.KeepRecord.{record_up}
use Rattle.isolation.proofs.KeepMoves.{Kept, inside-kept, receive_kept, send_kept, sent_fits}

-- ---- a state in which one record is put

module _ (st : List ℕ) (l : length st ≡ 9112) (b : ℕ) (h : b < 8) (r : List ℕ) (e : length r ≡ 1139) where
  pub put_record_length : length (put_record st b r) ≡ 9112
  put_record_length = length_put_slot 0 1139 8 st (omega arith) b h r e ∙ l

  pub put_record_same : record_of (put_record st b r) b ≡ r
  put_record_same = slot_put-same 0 1139 8 st (omega arith) b h r e

  pub put_record_other : (c : ℕ) → c < 8 → c ≢ b → record_of (put_record st b r) c ≡ record_of st c
  put_record_other c q n = slot_put_other 0 1139 8 st (omega arith) b h r e c q n

  pub last-same : last_stamps (put_record st b r) b ≡ stamp r
  unfolding last_stamps
  last-same = ap stamp put_record_same

  -- past the eight records too
  pub last_other : (c : ℕ) → c ≢ b → last_stamps (put_record st b r) c ≡ last_stamps st c
  unfolding last_stamps put_slot
  last_other c n =
      word_slot 0 1139 (put_record st b r) c 0 (omega arith) ∙ pick (dec_lt c b) ∙ sym (word_slot 0 1139 st c 0 (omega arith))
    where
      pick : Dec (c < b) → word (put st (0 + 1139 * b) r) (0 + 1139 * c + 0) ≡ word st (0 + 1139 * c + 0)
      pick (yes z) = word-put-before st (0 + 1139 * b) r (omega arith) (0 + 1139 * c + 0) (omega arith)
      pick (no z) = word-put-after st (0 + 1139 * b) r (omega arith) (0 + 1139 * c + 0) (omega arith)

-- one record is replaced by one that is in order: the others are still in order, since no stamp went down
pub put_fits : (m : Model) → Valid m → (st : List ℕ) → StateFits m st → (b : ℕ) → b < box_count m → (r : List ℕ) → Kept m (last_stamps st) b (record_of st b) r
    → StateFits m (put_record st b r)
unfolding last_stamps
put_fits m valid st k b hb r kept = record {
  size = put_record_length st l b h r e;
  live = λ c q live. pick_live c q live (ℕ_discrete b c);
  dead = λ c q past. put_record_other st l b h r e c q (omega arith) ∙ k.dead c q past;
}
  where
    l : length st ≡ 9112
    l = k.size

    h : b < 8
    h = omega (arith, valid.most_boxes)

    e : length r ≡ 1139
    e = kept.size

    grows : (c : ℕ) → Dec (b ≡ c) → last_stamps st c ≤ last_stamps (put_record st b r) c
    grows c (yes z) = rw (← z, last-same st l b h r e) kept.grows
    grows c (no z) = rw (last_other st l b h r e c (omega arith)) (le_refl (last_stamps st c))

    pick_live : (c : ℕ) → c < 8 → c < box_count m → Dec (b ≡ c) → RecordFits m (last_stamps (put_record st b r)) (box_at m c) (record_of (put_record st b r) c)
    pick_live c q live (yes z) =
        rw (← z, put_record_same st l b h r e)
        (kept.fits (last_stamps (put_record st b r)) (λ d. grows d (ℕ_discrete b d)) (last-same st l b h r e))
    pick_live c q live (no z) =
        rw (put_record_other st l b h r e c q (omega arith))
        (record_up m (last_stamps st) (box_at m c) (record_of st c) (k.live c q live) (last_stamps (put_record st b r)) (λ d. grows d (ℕ_discrete b d)))

-- ---- a made move

module _ (m : Model) (valid : Valid m) (st : List ℕ) (k : StateFits m st) where
  record_fits_lem : (b : ℕ) → b < box_count m → RecordFits m (last_stamps st) (box_at m b) (record_of st b)
  record_fits_lem b h = k.live b (omega (arith, valid.most_boxes)) h

  inside_fits : (i : Inside) (b t u : ℕ) (w : List ℕ) → InsideMade m st i b t u w → StateFits m w
  unfolding last_stamps
  inside_fits i b t u w a =
      rw a.leaves
      (put_fits m valid st k b a.box a.new
      (inside-kept m valid b a.box (last_stamps st) (record_of st b) (record_fits_lem b a.box) refl i t u a.new a.is_made))

  pub inside-size : (i : Inside) (b t u : ℕ) (r : List ℕ) → b < box_count m → inside_move m.kinds (box_at m b) (record_of st b) i t u ≡ made r → length r ≡ 1139
  unfolding last_stamps
  inside-size i b t u r h e = (inside-kept m valid b h (last_stamps st) (record_of st b) (record_fits_lem b h) refl i t u r e).size

  pub inter-size : (b t c u : ℕ) (e : Ends) → b < box_count m → c < box_count m → t < threads (record_of st b) → u < threads (record_of st c)
      → inter_move m.kinds (box_at m b) (record_of st b) (box_at m c) (record_of st c) t u ≡ made e
      → (length e.input ≡ 1139) × (length e.output ≡ 1139)
  inter-size b t c u e hb hc lt lu z =
      let i = inter-made m.kinds (box_at m b) (record_of st b) (box_at m c) (record_of st c) t u e z in
      let sent = sent_fits m valid c hc (last_stamps st) (record_of st c) (record_fits_lem c hc) u lu i.op_is2 in (
        ap length i.input_leaves ∙ (receive_kept m valid b hb (last_stamps st) (record_of st b) (record_fits_lem b hb) t lt i.op_is _ sent).size,
        ap length i.output_leaves ∙ (send_kept m valid c hc (last_stamps st) (record_of st c) (record_fits_lem c hc) u lu i.op_is2).size,
      )

  -- the input end first, then the output end in the state that this leaves
  inter_fits : (b t c u : ℕ) (w : List ℕ) → InterActMade m st b t c u w → StateFits m w
  inter_fits b t c u w a =
      let hb = a.box in
      let hc = a.box2 in
      let i = inter-made m.kinds (box_at m b) (record_of st b) (box_at m c) (record_of st c) t u a.ends a.is_made in
      let sent = sent_fits m valid c hc (last_stamps st) (record_of st c) (record_fits_lem c hc) u a.live2 i.op_is2 in
      let one : Kept m (last_stamps st) b (record_of st b) a.ends.input =
      rw i.input_leaves (receive_kept m valid b hb (last_stamps st) (record_of st b) (record_fits_lem b hb) t a.live i.op_is _ sent) in
      let first = put_record st b a.ends.input in
      let k1 = put_fits m valid st k b hb a.ends.input one in
      let low : b < 8 = omega (arith, valid.most_boxes) in
      let low2 : c < 8 = omega (arith, valid.most_boxes) in
      let same : record_of first c ≡ record_of st c = put_record_other st k.size b low a.ends.input one.size c low2 (let f = a.differ in omega arith) in
      let fits : RecordFits m (last_stamps first) (box_at m c) (record_of st c) = rw same at (k1.live c low2 hc) in
      rw a.leaves
      (put_fits m valid first k1 c hc a.ends.output
      (rw (same, i.output_leaves) (send_kept m valid c hc (last_stamps first) (record_of st c) fits u a.live2 i.op_is2)))

-- P2: every made move keeps the state rules, of the records that it writes by its kind, of the others since no stamp goes down
pub act_fits : (m : Model) → Valid m → (st : List ℕ) → StateFits m st → (v : Move) (w : List ℕ) → act m st v ≡ made w → StateFits m w
act_fits m valid st k v w e =
    act_made m st (StateFits m) v w e (λ i a. inside_fits m valid st k i v.box v.thread v.thread2 w a)
    (λ a. inter_fits m valid st k v.box v.thread v.box2 v.thread2 w a)
