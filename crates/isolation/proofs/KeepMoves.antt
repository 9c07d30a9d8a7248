-- A move that is made keeps the rules of the record that it changes. Assumes nothing.
use mathlib.Core.Path.{◌≡◌, refl, ap, subst, sym, ◌∙◌}
use mathlib.Core.Logic.{◌⊎◌, inl, inr, ◌≢◌}
use mathlib.Core.Bool.{Bool}
use mathlib.Core.List.{List, ◌∷◌}
use mathlib.Core.Option.{some}
use Prim.Native.Nat.{ℕ, suc, ◌+◌, ◌≤◌, ◌<◌}
use native.Mathlib.Nat.{le_of_eq}
use native.Mathlib.Omega.{arith}
use lib.Dec.{T}
use lib.ListN.{length, length-set}
use lib.Seq.{get_or-set_other}
use Rattle.definitions.specs.Bounded.{◌or◌, ◌is◌}
use Rattle.definitions.specs.Sets.{has}
use Rattle.definitions.specs.Model.{Line, Model, box_at, box_count, kind_of_name, nil, parallel, replication, restriction, output as op_output, input as op_input, expose as op_expose, hide as op_hide, unhide as op_unhide, binds, bound_above, owner}
use Rattle.definitions.specs.Record.{held, stamp_limit, stamp, threads, sites, site, thread, subject, line, set_stamp, put_thread, push_thread, take_thread, put_site, push_site, set_flag, goto, bind}
use Rattle.definitions.specs.Start.{type_words}
use Rattle.definitions.specs.Moves.{Inside, drop, spread, new, copy, expose, hide, unhide, intra, made, value_in, thread_line, onward, onward_with, value2, inside_move}
use Rattle.definitions.proofs.Bounded.{is_iff, of_true, true_of}
use Rattle.definitions.proofs.Valid.{Valid, ValidLine, ValidTree, ValidReach}
use Rattle.definitions.proofs.StateRules.{HeldFits, ThreadFits, RecordFits, site_iff, thread_iff}
use Rattle.definitions.proofs.Made.{SiteFound, IntraMade, drop-made, spread-made, new_made, copy_made, expose-made, turn-made, intra_made}
use Rattle.isolation.proofs.KeepHeld.{number_held, stamp-held, held_up, made_fits, binds-none, binds-restriction, binds-expose, binds-input, value_fits, goto_fits, bind_fits}
use Rattle.definitions.proofs.TypeWords.{length-type_words}
use Rattle.isolation.proofs.KeepSite.{site_fits_lem, turned_fits}
use Rattle.isolation.proofs.KeepRecord.{put-thread-length, put-thread-word, put-thread-site, set-stamp-length, set-stamp-same, set-stamp-word, set-stamp-site, put-thread_keeps, push_thread_keeps, push_thread-stamp, take-thread_keeps, take-thread-stamp, push_site_keeps, push_site-stamp, push_site-length, put-site_keeps, put-site-stamp, record_up, set-stamp_keeps}

-- the line at which thread t of box b's record stands
abbrev line_for : Model → ℕ → List ℕ → ℕ → Line
line_for m b r t = thread_line m.kinds (box_at m b) r t

-- the record s of box b, in place of r: its stamp has not gone down, and it is in order once its stamp is counted
pub record Kept (m : Model) (last : ℕ → ℕ) (b : ℕ) (r s : List ℕ) : Type 0 where
  pub size : length s ≡ 1139
  pub grows : stamp r ≤ stamp s
  pub fits : (next : ℕ → ℕ) → ((c : ℕ) → last c ≤ next c) → next b ≡ stamp s → RecordFits m next (box_at m b) s

-- the stamp is as it was
pub kept_same : (m : Model) (last : ℕ → ℕ) (b : ℕ) (r s : List ℕ) → RecordFits m last (box_at m b) s → stamp s ≡ stamp r → Kept m last b r s
kept_same m last b r s k e = record {
  size = k.size;
  grows = le_of_eq (sym e);
  fits = λ next up _. record_up m last (box_at m b) s k next up;
}

module _ (m : Model) (valid : Valid m) (b : ℕ) (hb : b < box_count m) (last : ℕ → ℕ) (r : List ℕ) (k : RecordFits m last (box_at m b) r) where
  -- ---- thread t and its line

  module _ (t : ℕ) (h : t < threads r) where
    thread_low : t < 16
    thread_low = omega (arith, k.threads_fit.most)

    here : ThreadFits m last (box_at m b) (thread r t)
    here = (thread_iff m last (box_at m b) (thread r t)).0 (k.threads_fit.live t h)

    line_valid : ValidLine m (line_for m b r t)
    unfolding thread_line
    line_valid = (valid.box b hb).line (line (thread r t)) here.stands

    line-tree : ValidTree (box_at m b) (line (thread r t)) (line_for m b r t)
    unfolding thread_line
    line-tree = (valid.box b hb).tree (line (thread r t)) here.stands

    line-reach : ValidReach m b (line (thread r t)) (line_for m b r t)
    unfolding thread_line
    line-reach = (valid.box b hb).reach (line (thread r t)) here.stands

    -- a line that binds nothing: its children stand below what the line stands below
    module _ (a : (line_for m b r t).op ≢ restriction) (c : (line_for m b r t).op ≢ op_expose) (d : (line_for m b r t).op ≢ op_input) where
      nothing : (n : ℕ) → (binds (line_for m b r t) n or bound_above (box_at m b) (line (thread r t)) n) ≡ bound_above (box_at m b) (line (thread r t)) n
      unfolding ◌or◌
      nothing n = rw (binds-none (line_for m b r t) a c d n)

      pub onward_fits : (line_for m b r t).op ≢ nil → ThreadFits m last (box_at m b) (onward m.kinds (box_at m b) r t)
      unfolding onward
      onward_fits e =
          goto_fits m last (box_at m b) (thread r t) here (line_for m b r t).child1 (line-tree.child1 e)
          (λ n. line-tree.above1 e n ∙ nothing n)

      second_fits : (line_for m b r t).op ≡ parallel → ThreadFits m last (box_at m b) (goto (thread r t) (line_for m b r t).child2)
      second_fits e =
          goto_fits m last (box_at m b) (thread r t) here (line_for m b r t).child2 (line-tree.child2 e)
          (λ n. line-tree.above2 e n ∙ nothing n)

    -- a line that binds name n
    pub onward_with_fits : (n v : ℕ) → (line_for m b r t).op ≢ nil → ((i : ℕ) → binds (line_for m b r t) i ≡ (n is i))
        → n < length m.kinds → HeldFits m last v → ThreadFits m last (box_at m b) (onward_with m.kinds (box_at m b) r t n v)
    unfolding onward_with
    onward_with_fits n v e binds_it l v-fits =
        bind_fits m last (box_at m b) (thread r t) here n v (line_for m b r t).child1 (omega (arith, valid.names)) v-fits (line-tree.child1 e)
        (λ i. line-tree.above1 e i ∙ ap (λ (c : Bool). c or bound_above (box_at m b) (line (thread r t)) i) (binds_it i))

    -- the name that an output sends
    pub sent_fits : (line_for m b r t).op ≡ op_output → HeldFits m last (value2 m.kinds (box_at m b) r t)
    unfolding value2
    sent_fits e =
        value_fits m last (box_at m b) (thread r t) here valid.names (line_for m b r t).name2 (line_valid.sent_listed e) (line-reach.output_sent e)

    -- the names of an expose's type
    pub type_fits_lem : (line_for m b r t).op ≡ op_expose → (n : ℕ) → n < 64 → T (has (line_for m b r t).type n)
        → HeldFits m last (value_in m.kinds (thread r t) n)
    type_fits_lem e n l i =
        value_fits m last (box_at m b) (thread r t) here valid.names n (line_valid.expose_type e n l i) (line-reach.expose_reach e n l i)

  -- ---- the moves

  drop-kept : (t : ℕ) → t < threads r → Kept m last b r (take_thread r t)
  drop-kept t h = kept_same m last b r _ (take-thread_keeps m last (box_at m b) r k t h) (take-thread-stamp r k.size t (thread_low t h))

  spread-kept : (t : ℕ) → t < threads r → threads r < 16 → (line_for m b r t).op ≡ parallel
      → Kept m last b r (push_thread (put_thread r t (onward m.kinds (box_at m b) r t)) (goto (thread r t) (line_for m b r t).child2))
  spread-kept t h room e =
      let one = onward_fits t h (omega arith) (omega arith) (omega arith) (omega arith) in
      let two = second_fits t h (omega arith) (omega arith) (omega arith) e in
      let s = put_thread r t (onward m.kinds (box_at m b) r t) in
      let same = put-thread-word r k.size t (thread_low t h) (onward m.kinds (box_at m b) r t) one.size in
      let k1 = put-thread_keeps m last (box_at m b) r k t h _ one in
      let more : threads s < 16 = omega (arith, same 1 (omega arith)) in
      kept_same m last b r _ (push_thread_keeps m last (box_at m b) s k1 more _ two)
      (push_thread-stamp s k1.size more _ two.size ∙ same 0 (omega arith))

  copy_kept : (t : ℕ) → t < threads r → threads r < 16 → (line_for m b r t).op ≡ replication → Kept m last b r (push_thread r (onward m.kinds (box_at m b) r t))
  copy_kept t h room e =
      let one = onward_fits t h (omega arith) (omega arith) (omega arith) (omega arith) in
      kept_same m last b r _ (push_thread_keeps m last (box_at m b) r k room _ one) (push_thread-stamp r k.size room _ one.size)

  -- the thread goes on: after a line that binds nothing, and after an input
  onward_kept : (t : ℕ) → t < threads r → (y : List ℕ) → ThreadFits m last (box_at m b) y → Kept m last b r (put_thread r t y)
  onward_kept t h y o =
      kept_same m last b r _ (put-thread_keeps m last (box_at m b) r k t h y o) (put-thread-word r k.size t (thread_low t h) y o.size 0 (omega arith))

  received_fits : (t : ℕ) (h : t < threads r) → (line_for m b r t).op ≡ op_input → (v : ℕ) → HeldFits m last v
      → ThreadFits m last (box_at m b) (onward_with m.kinds (box_at m b) r t (line_for m b r t).name2 v)
  received_fits t h e v o =
      onward_with_fits t h (line_for m b r t).name2 v (omega arith) (binds-input (line_for m b r t) e) ((line_valid t h).received_listed e) o

  pub receive_kept : (t : ℕ) → t < threads r → (line_for m b r t).op ≡ op_input → (v : ℕ) → HeldFits m last v
      → Kept m last b r (put_thread r t (onward_with m.kinds (box_at m b) r t (line_for m b r t).name2 v))
  receive_kept t h e v o = onward_kept t h _ (received_fits t h e v o)

  pub send_kept : (t : ℕ) → t < threads r → (line_for m b r t).op ≡ op_output → Kept m last b r (put_thread r t (onward m.kinds (box_at m b) r t))
  send_kept t h e = onward_kept t h _ (onward_fits t h (omega arith) (omega arith) (omega arith) (omega arith))

  intra_kept : (t u : ℕ) (s : List ℕ) → IntraMade m.kinds (box_at m b) r t u s → Kept m last b r s
  intra_kept t u s i =
      let got = received_fits t i.live i.op_is _ (sent_fits u i.live2 i.op_is2) in
      let op = i.op_is2 in
      let gone = onward_fits u i.live2 (omega arith) (omega arith) (omega arith) (omega arith) in
      let y = onward_with m.kinds (box_at m b) r t (line_for m b r t).name2 (value2 m.kinds (box_at m b) r u) in
      let k1 = put-thread_keeps m last (box_at m b) r k t i.live y got in
      let same = put-thread-word r k.size t (thread_low t i.live) y got.size in
      let live : u < threads (put_thread r t y) = omega (arith, same 1 (omega arith), i.live2) in
      rw i.leaves
      (kept_same m last b r _ (put-thread_keeps m last (box_at m b) (put_thread r t y) k1 u live _ gone)
      (put-thread-word (put_thread r t y) k1.size u (thread_low u i.live2) _ gone.size 0 (omega arith) ∙ same 0 (omega arith)))

  -- hide and unhide
  turn-kept : (t i v before after : ℕ) → t < threads r → ((line_for m b r t).op ≡ op_hide) ⊎ ((line_for m b r t).op ≡ op_unhide) → after ≤ 1 → SiteFound r v before i
      → Kept m last b r (put_site (put_thread r t (onward m.kinds (box_at m b) r t)) i (set_flag (site r i) after))
  turn-kept t i v before after h e a f =
      let one = stays e in
      let s = put_thread r t (onward m.kinds (box_at m b) r t) in
      let same = put-thread-word r k.size t (thread_low t h) (onward m.kinds (box_at m b) r t) one.size in
      let k1 = put-thread_keeps m last (box_at m b) r k t h _ one in
      let y = set_flag (site r i) after in
      let site-is = put-thread-site r k.size t (thread_low t h) (onward m.kinds (box_at m b) r t) one.size i f.low in
      let old = (site_iff m last (site r i)).0 (k.sites_fit.live i f.live) in
      let fits = turned_fits m last (site r i) after a old in
      let live : i < sites s = omega (arith, same 2 (omega arith), f.live) in
      kept_same m last b r _
      (put-site_keeps m last (box_at m b) s k1 i live y fits (get_or-set_other (site r i) 1 0 after 0 (omega arith) ∙ ap subject (sym site-is)))
      (put-site-stamp s k1.size i f.low y fits.size ∙ same 0 (omega arith))
    where
      stays : ((line_for m b r t).op ≡ op_hide) ⊎ ((line_for m b r t).op ≡ op_unhide) → ThreadFits m last (box_at m b) (onward m.kinds (box_at m b) r t)
      stays (inl q) = onward_fits t h (omega arith) (omega arith) (omega arith) (omega arith)
      stays (inr q) = onward_fits t h (omega arith) (omega arith) (omega arith) (omega arith)

-- ---- a new stamp

-- a line that made-name a name: it binds a listed name of kind 1 or 3, and only that
record Makes (m : Model) (l : Line) : Type 0 where
  goes_on : l.op ≢ nil
  listed : l.name1 < length m.kinds
  not_received : kind_of_name m.kinds l.name1 ≢ 2
  not_free : kind_of_name m.kinds l.name1 ≢ 0
  only : (n : ℕ) → binds l n ≡ (l.name1 is n)

restriction_acts : (m : Model) (l : Line) → ValidLine m l → l.op ≡ restriction → Makes m l
restriction_acts m l v e =
    let k = v.restrict_kind e in
    record { goes_on = omega arith; listed = v.restrict_listed e; not_received = omega arith; not_free = omega arith; only = binds-restriction l e }

expose_acts : (m : Model) (l : Line) → ValidLine m l → l.op ≡ op_expose → Makes m l
expose_acts m l v e =
    let k = v.expose_kind e in
    record { goes_on = omega arith; listed = v.expose_listed e; not_received = omega arith; not_free = omega arith; only = binds-expose l e }

-- the name that is made, held with the next stamp; the thread that goes on with it; the record with that stamp and that thread
abbrev new_held : Model → ℕ → List ℕ → ℕ → ℕ
new_held m b r t = held (line_for m b r t).name1 (stamp r + 1)

abbrev gone_on : Model → ℕ → List ℕ → ℕ → List ℕ
gone_on m b r t = onward_with m.kinds (box_at m b) r t (line_for m b r t).name1 (new_held m b r t)

abbrev stamped : Model → ℕ → List ℕ → ℕ → List ℕ
stamped m b r t = put_thread (set_stamp r (stamp r + 1)) t (gone_on m b r t)

module _ (m : Model) (valid : Valid m) (b : ℕ) (hb : b < box_count m) (last : ℕ → ℕ) (r : List ℕ) (k : RecordFits m last (box_at m b) r) (t : ℕ) (h : t < threads r) where
  t16 : t < 16
  t16 = thread_low m valid b hb last r k t h

  next-length : length (set_stamp r (stamp r + 1)) ≡ 1139
  next-length = set-stamp-length r k.size (stamp r + 1)

  gone_on-length : length (gone_on m b r t) ≡ 61
  unfolding onward_with
  gone_on-length =
      let n = (line_for m b r t).name1 in
      length-set (bind (thread r t) n (new_held m b r t)) 0 (line_for m b r t).child1 ∙ length-set (thread r t) (1 + n) (new_held m b r t)
      ∙ (here m valid b hb last r k t h).size

  stamped-length : length (stamped m b r t) ≡ 1139
  stamped-length = put-thread-length (set_stamp r (stamp r + 1)) next-length t t16 (gone_on m b r t) gone_on-length

  stamped-stamp : stamp (stamped m b r t) ≡ stamp r + 1
  stamped-stamp =
      put-thread-word (set_stamp r (stamp r + 1)) next-length t t16 (gone_on m b r t) gone_on-length 0 (omega arith)
      ∙ set-stamp-same r k.size (stamp r + 1)

  stamped-sites : sites (stamped m b r t) ≡ sites r
  stamped-sites =
      put-thread-word (set_stamp r (stamp r + 1)) next-length t t16 (gone_on m b r t) gone_on-length 2 (omega arith)
      ∙ set-stamp-word r k.size (stamp r + 1) 2 (omega arith)

  stamped-site : (i : ℕ) → i < 16 → site (stamped m b r t) i ≡ site r i
  stamped-site i l =
      put-thread-site (set_stamp r (stamp r + 1)) next-length t t16 (gone_on m b r t) gone_on-length i l
      ∙ set-stamp-site r k.size (stamp r + 1) i l

  module _ (made_name : Makes m (line_for m b r t)) where
    made64 : (line_for m b r t).name1 < 64
    made64 = omega (arith, valid.names, made_name.listed)

    made_owned : owner m (line_for m b r t).name1 ≡ some b
    made_owned =
        let n = (line_for m b r t).name1 in
        (line-reach m valid b hb last r k t h).owned n (of_true (made_name.only n ∙ true_of (n is n) ((is_iff n n).1 refl)))

    -- under stamps that count the new one
    module _ (next : ℕ → ℕ) (up : (c : ℕ) → last c ≤ next c) (counted : next b ≡ stamp r + 1) where
      new_fits : HeldFits m next (new_held m b r t)
      new_fits =
          made_fits m next (line_for m b r t).name1 (stamp r + 1) b made64 made_name.listed made_name.not_received made_name.not_free made_owned (omega arith)
          (omega arith)

      stamped_fits : stamp r < stamp_limit → RecordFits m next (box_at m b) (stamped m b r t)
      stamped_fits room =
          let k1 = record_up m last (box_at m b) r k next up in
          put-thread_keeps m next (box_at m b) (set_stamp r (stamp r + 1)) (set-stamp_keeps m next (box_at m b) r k1 (stamp r + 1) (omega arith)) t
          (rw (set-stamp-word r k.size (stamp r + 1) 1 (omega arith)) h) (gone_on m b r t)
          (onward_with_fits m valid b hb next r k1 t h (line_for m b r t).name1 (new_held m b r t) made_name.goes_on made_name.only made_name.listed new_fits)

    -- a site's subject has a stamp up to the box's last one, so none is the new name
    fresh : last b ≡ stamp r → (i : ℕ) → i < sites r → subject (site r i) ≢ new_held m b r t
    fresh e i l q =
        let n = (line_for m b r t).name1 in
        let f = subst (HeldFits m last) q ((site_iff m last (site r i)).0 (k.sites_fit.live i l)).subject_fits in
        let x = (rw (number_held n (stamp r + 1) made64, stamp-held n (stamp r + 1) made64) at f.made) made_name.not_free in
        let c : x.0 ≡ b = cc (x.1, made_owned) in
        let most : stamp r + 1 ≤ last b = subst (λ (j : ℕ). stamp r + 1 ≤ last j) c x.3 in
        omega arith

  new_kept : stamp r < stamp_limit → (line_for m b r t).op ≡ restriction → Kept m last b r (stamped m b r t)
  new_kept room e =
      let made_name = restriction_acts m (line_for m b r t) (line_valid m valid b hb last r k t h) e in
      record {
        size = stamped-length;
        grows = rw stamped-stamp (omega arith);
        fits = λ next up q. stamped_fits made_name next up (q ∙ stamped-stamp) room;
      }

  expose-kept : last b ≡ stamp r → sites r < 16 → stamp r < stamp_limit → (line_for m b r t).op ≡ op_expose
      → Kept m last b r (push_site (stamped m b r t) (new_held m b r t ∷ 0 ∷ type_words (value_in m.kinds (thread r t)) (line_for m b r t).type))
  expose-kept counted more room e =
      let good = line_valid m valid b hb last r k t h in
      let made_name = expose_acts m (line_for m b r t) good e in
      let hold = value_in m.kinds (thread r t) in
      let s = stamped m b r t in
      let y = new_held m b r t ∷ 0 ∷ type_words hold (line_for m b r t).type in
      let y_length : length y ≡ 10 = ap (λ (j : ℕ). suc (suc j)) (length-type_words hold (line_for m b r t).type) in
      let more_sites : sites s < 16 = omega (arith, stamped-sites) in
      let stamp-is : stamp (push_site s y) ≡ stamp r + 1 = push_site-stamp s stamped-length more_sites y y_length ∙ stamped-stamp in
      record {
        size = push_site-length s stamped-length more_sites y y_length;
        grows = rw stamp-is (omega arith);
        fits = λ next up q.
            push_site_keeps m next (box_at m b) s (stamped_fits made_name next up (q ∙ stamp-is) room) more_sites y
            (site_fits_lem m next (new_held m b r t) 0 hold (line_for m b r t).type (new_fits made_name next up (q ∙ stamp-is))
            (inr (rw (number_held (line_for m b r t).name1 (stamp r + 1) (made64 made_name)) (good.expose_kind e))) (omega arith) (good.expose_size e)
            (λ i l j. held_up m last next up (hold i) (type_fits_lem m valid b hb last r k t h e i l j)))
            (λ i l. rw (stamped-site i (omega arith)) (fresh made_name counted i (omega (arith, stamped-sites))));
      }

-- ---- every move inside a box

pub inside-kept : (m : Model) → Valid m → (b : ℕ) → b < box_count m → (last : ℕ → ℕ) (r : List ℕ) → RecordFits m last (box_at m b) r → last b ≡ stamp r
    → (i : Inside) (t u : ℕ) (s : List ℕ) → inside_move m.kinds (box_at m b) r i t u ≡ made s → Kept m last b r s
unfolding inside_move
inside-kept m valid b hb last r k q drop t u s e =
    let a = drop-made m.kinds (box_at m b) r t s e in
    rw a.1 (drop-kept m valid b hb last r k t a.0.live)
inside-kept m valid b hb last r k q spread t u s e =
    let a = spread-made m.kinds (box_at m b) r t s e in
    rw a.2 (spread-kept m valid b hb last r k t a.0.live a.1 a.0.op_is)
inside-kept m valid b hb last r k q new t u s e =
    let a = new_made m.kinds (box_at m b) r t s e in
    rw a.2 (new_kept m valid b hb last r k t a.0.live a.1 a.0.op_is)
inside-kept m valid b hb last r k q copy t u s e =
    let a = copy_made m.kinds (box_at m b) r t s e in
    rw a.2 (copy_kept m valid b hb last r k t a.0.live a.1 a.0.op_is)
inside-kept m valid b hb last r k q expose t u s e =
    let a = expose-made m.kinds (box_at m b) r t s e in
    rw a.3 (expose-kept m valid b hb last r k t a.0.live q a.1 a.2 a.0.op_is)
inside-kept m valid b hb last r k q hide t u s e =
    let a = turn-made m.kinds (box_at m b) r op_hide 0 1 t s e in
    rw a.1.2 (turn-kept m valid b hb last r k t a.1.0 _ 0 1 a.0.live (inl a.0.op_is) (omega arith) a.1.1)
inside-kept m valid b hb last r k q unhide t u s e =
    let a = turn-made m.kinds (box_at m b) r op_unhide 1 0 t s e in
    rw a.1.2 (turn-kept m valid b hb last r k t a.1.0 _ 1 0 a.0.live (inr a.0.op_is) (omega arith) a.1.1)
inside-kept m valid b hb last r k q intra t u s e = intra_kept m valid b hb last r k t u s (intra_made m.kinds (box_at m b) r t u s e)
