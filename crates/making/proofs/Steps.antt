-- What the edits of a thread that goes on leave together. Assumes nothing.
use mathlib.Core.Path.{◌≡◌, refl, ap, sym, ◌∙◌}
use mathlib.Core.List.{List, ◌∷◌}
use mathlib.Core.Option.{Option}
use Rattle.std.specs.Prelude as code
use Rattle.std.specs.Prelude.{Some, None, IsSome}
use Prim.Native.Nat.{ℕ, ◌+◌, ◌-◌, ◌<◌}
use native.Mathlib.Omega.{arith}
use lib.Dec.{T}
use lib.ListN.{length, length-set}
use Rattle.definitions.specs.Slots.{word}
use Rattle.definitions.specs.Record.{held, stamp, threads, thread, site, set_stamp, put_thread, push_thread, put_site, push_site, set_flag, goto, bind}
use Rattle.definitions.specs.Start.{type_words}
use Rattle.definitions.specs.Moves.{site_with, found, at, value_in}
use Rattle.definitions.proofs.TypeWords.{length-type_words}
use Rattle.definitions.proofs.Made.{found_at, site-found}
use Rattle.sets.specs.Options.{option_in}
use Rattle.records.specs.declared.Line.{Line}
use Rattle.model.specs.declared.ReadModel.{ReadModel}
use Rattle.lookups.specs.Ready.{kinds_in}
use Rattle.making.specs.Left.{Spreads, Stamps, Turns, Receives}
use Rattle.making.specs.Exposed.{SiteRoom}
use Rattle.making.proofs.Edited.{goto-length, bind-length, put_same, put_other, put_word, put-site, put-goto, stamp-thread, stamp-length, goto_again, push_length, push_thread_lem, push_apart}

-- a name is bound in a thread, which then goes on
pub bound_left : (r : List ℕ) → length r ≡ 1139 → (t : ℕ) → t < 16 → (n v c : ℕ) (r1 : List ℕ) → r1 ≡ put_thread r t (bind (thread r t) n v)
    → (r2 : List ℕ) → r2 ≡ put_thread r1 t (goto (thread r1 t) c) → r2 ≡ put_thread r t (goto (bind (thread r t) n v) c)
bound_left r size t h n v c r1 e r2 p =
    p ∙ ap (λ (y : List ℕ). put_thread y t (goto (thread y t) c)) e ∙ put-goto r size t h (bind (thread r t) n v) (bind-length r size t h n v) c

-- ---- spread

module _ {r : List ℕ} {t : ℕ} {l : Line} (k : Spreads r t l) (c : ℕ) (r1 : List ℕ) (f : r1 ≡ put_thread r t (goto (thread r t) c)) where
  same_word : (i : ℕ) → i < 163 → word r1 i ≡ word r i
  same_word i h =
      ap (λ (y : List ℕ). word y i) f ∙ put_word r k.goes.long t k.goes.slot (goto (thread r t) c) (goto-length r k.goes.long t k.goes.slot c) i h

  pub spread_live : t < threads r1
  spread_live = rw (same_word 1 (omega arith)) k.goes.live

  pub spread_room : threads r1 < 16
  spread_room = rw (same_word 1 (omega arith)) k.room

  pub spread_edits : (d : ℕ) (r2 : List ℕ) → r2 ≡ push_thread r1 (goto (thread r1 t) d) → r2 ≡ push_thread (put_thread r t (goto (thread r t) c)) (goto (thread r t) d)
  spread_edits d r2 p =
      p ∙ ap (push_thread r1)
      (ap (λ (y : List ℕ). goto y d) (ap (λ (y : List ℕ). thread y t) f ∙ put_same r k.goes.long t k.goes.slot (goto (thread r t) c) (goto-length r k.goes.long t k.goes.slot c))
      ∙ goto_again (thread r t) c d)
      ∙ ap (λ (y : List ℕ). push_thread y (goto (thread r t) d)) f

-- ---- new and expose

module _ {r : List ℕ} {t : ℕ} {l : Line} (k : Stamps r t l) (s : ℕ) (e : s ≡ stamp r) (v : ℕ) (g : v ≡ held l.name1.0 (s + 1)) where
  pub new_edits : (r1 : List ℕ) → r1 ≡ set_stamp r (s + 1) → (r2 : List ℕ) → r2 ≡ put_thread r1 t (bind (thread r1 t) l.name1.0 v)
      → (r3 : List ℕ) → r3 ≡ put_thread r2 t (goto (thread r2 t) l.child1)
      → r3 ≡ put_thread (set_stamp r (stamp r + 1)) t (goto (bind (thread r t) l.name1.0 (held l.name1.0 (stamp r + 1))) l.child1)
  new_edits r1 f r2 p r3 z =
      bound_left r1 (ap length f ∙ stamp-length r (s + 1) k.goes.long) t k.goes.slot l.name1.0 v l.child1 r2 p r3 z
      ∙ ap (λ (y : List ℕ). put_thread y t (goto (bind (thread r1 t) l.name1.0 v) l.child1)) f
      ∙ ap (λ (y : List ℕ). put_thread (set_stamp r (s + 1)) t (goto (bind y l.name1.0 v) l.child1))
      (ap (λ (y : List ℕ). thread y t) f ∙ stamp-thread r k.goes.long t k.goes.slot (s + 1))
      ∙ ap (λ (w : ℕ). put_thread (set_stamp r (s + 1)) t (goto (bind (thread r t) l.name1.0 w) l.child1)) g
      ∙ ap (λ (i : ℕ). put_thread (set_stamp r (i + 1)) t (goto (bind (thread r t) l.name1.0 (held l.name1.0 (i + 1))) l.child1)) e

  module _ (kinds : List ℕ) (room : SiteRoom r) (r1 : List ℕ) (f : r1 ≡ push_site r (v ∷ 0 ∷ type_words (value_in kinds (thread r t)) l.names))
      (r2 : List ℕ) (d : r2 ≡ set_stamp r1 (s + 1)) where
    x : List ℕ
    x = v ∷ 0 ∷ type_words (value_in kinds (thread r t)) l.names

    ten : length x ≡ 10
    unfolding x
    ten = omega (arith, length-type_words (value_in kinds (thread r t)) l.names)

    long1 : length r1 ≡ 1139
    unfolding x
    long1 = ap length f ∙ push_length r k.goes.long room.room x ten

    long2 : length r2 ≡ 1139
    long2 = ap length d ∙ stamp-length r1 (s + 1) long1

    same : thread r2 t ≡ thread r t
    unfolding x
    same =
        ap (λ (y : List ℕ). thread y t) d ∙ stamp-thread r1 long1 t k.goes.slot (s + 1)
        ∙ ap (λ (y : List ℕ). thread y t) f ∙ push_thread_lem r k.goes.long room.room x ten t k.goes.slot

    pub expose_edits : (r3 : List ℕ) → r3 ≡ put_thread r2 t (bind (thread r2 t) l.name1.0 v) → (r4 : List ℕ) → r4 ≡ put_thread r3 t (goto (thread r3 t) l.child1)
        → r4 ≡ push_site (put_thread (set_stamp r (stamp r + 1)) t (goto (bind (thread r t) l.name1.0 (held l.name1.0 (stamp r + 1))) l.child1))
        (held l.name1.0 (stamp r + 1) ∷ 0 ∷ type_words (value_in kinds (thread r t)) l.names)
    unfolding x
    expose_edits r3 p r4 w =
        bound_left r2 long2 t k.goes.slot l.name1.0 v l.child1 r3 p r4 w
        ∙ ap (λ (y : List ℕ). put_thread r2 t (goto (bind y l.name1.0 v) l.child1)) same
        ∙ ap (λ (y : List ℕ). put_thread y t (goto (bind (thread r t) l.name1.0 v) l.child1)) d
        ∙ ap (λ (y : List ℕ). put_thread (set_stamp y (s + 1)) t (goto (bind (thread r t) l.name1.0 v) l.child1)) f
        ∙ push_apart r k.goes.long room.room x ten (s + 1) t k.goes.slot (goto (bind (thread r t) l.name1.0 v) l.child1)
        (length-set (bind (thread r t) l.name1.0 v) 0 l.child1 ∙ bind-length r k.goes.long t k.goes.slot l.name1.0 v)
        ∙ ap (λ (i : ℕ). push_site (put_thread (set_stamp r (s + 1)) t (goto (bind (thread r t) l.name1.0 i) l.child1)) (i ∷ 0 ∷ type_words (value_in kinds (thread r t)) l.names)) g
        ∙ ap (λ (i : ℕ). push_site (put_thread (set_stamp r (i + 1)) t (goto (bind (thread r t) l.name1.0 (held l.name1.0 (i + 1))) l.child1)) (held l.name1.0 (i + 1) ∷ 0 ∷ type_words (value_in kinds (thread r t)) l.names)) e

-- ---- hide and unhide

found_some : (o : code.Option ℕ) (p : Option ℕ) → option_in o ≡ p → T (found p) → IsSome o
found_some None p e h = absurd (rw (← e) at h)
found_some (Some i) p e h = refl

module _ {m : ReadModel} {r : List ℕ} {t : ℕ} {l : Line} {before : ℕ} (k : Turns m r t l before) (v : ℕ) (o : code.Option ℕ)
    (e : v ≡ value_in (kinds_in m) (thread r t) l.name1.0) (d : option_in o ≡ site_with r v before) where
  abbrev place : Option ℕ
  place = site_with r (value_in (kinds_in m) (thread r t) l.name1.0) before

  placed : option_in o ≡ place
  placed = d ∙ ap (λ (n : ℕ). site_with r n before) e

  pub turn_found : IsSome o
  turn_found = found_some o place placed k.there

  module _ (i : ℕ) (j : o ≡ Some i) where
    turned : i ≡ at place
    turned = ap (λ (z : code.Option ℕ). at (option_in z)) (sym j) ∙ ap at placed

    pub turn_site : i < 16
    turn_site = rw turned (site-found r (value_in (kinds_in m) (thread r t) l.name1.0) before (at place) (found_at place k.there)).low

    pub turn_edits : (r1 : List ℕ) → r1 ≡ put_thread r t (goto (thread r t) l.child1) → (r2 : List ℕ) → r2 ≡ put_site r1 i (set_flag (site r1 i) (1 - before))
        → r2 ≡ put_site (put_thread r t (goto (thread r t) l.child1)) (at place) (set_flag (site r (at place)) (1 - before))
    turn_edits r1 p r2 z =
        z ∙ ap (λ (y : List ℕ). put_site r1 i (set_flag y (1 - before))) same-site
        ∙ ap (λ (y : List ℕ). put_site y i (set_flag (site r i) (1 - before))) p
        ∙ ap (λ (n : ℕ). put_site (put_thread r t (goto (thread r t) l.child1)) n (set_flag (site r n) (1 - before))) turned
      where
        same-site : site r1 i ≡ site r i
        same-site =
            ap (λ (y : List ℕ). site y i) p
            ∙ put-site r k.goes.long t k.goes.slot (goto (thread r t) l.child1) (goto-length r k.goes.long t k.goes.slot l.child1) i turn_site

-- ---- intra

module _ {m : ReadModel} {r : List ℕ} {t : ℕ} {l : Line} {u : ℕ} {n : Line} (k : Receives m r t l u n) (v : ℕ) (e : v ≡ value_in (kinds_in m) (thread r u) n.name2.0) where
  abbrev y : List ℕ
  y = goto (bind (thread r t) l.name2.0 v) l.child1

  pub intra_edits : (r1 : List ℕ) → r1 ≡ put_thread r t (bind (thread r t) l.name2.0 v) → (r2 : List ℕ) → r2 ≡ put_thread r1 t (goto (thread r1 t) l.child1)
      → (r3 : List ℕ) → r3 ≡ put_thread r2 u (goto (thread r2 u) n.child1)
      → r3 ≡ put_thread (put_thread r t (goto (bind (thread r t) l.name2.0 (value_in (kinds_in m) (thread r u) n.name2.0)) l.child1)) u (goto (thread r u) n.child1)
  intra_edits r1 f r2 g r3 x =
      x ∙ ap (λ (a : List ℕ). put_thread a u (goto (thread a u) n.child1)) (bound_left r k.goes.long t k.goes.slot l.name2.0 v l.child1 r1 f r2 g)
      ∙ ap (λ (a : List ℕ). put_thread (put_thread r t y) u (goto a n.child1)) (put_other r k.goes.long t k.goes.slot y long u k.sends.slot (λ z. k.differ (sym z)))
      ∙ ap (λ (i : ℕ). put_thread (put_thread r t (goto (bind (thread r t) l.name2.0 i) l.child1)) u (goto (thread r u) n.child1)) e
    where
      long : length y ≡ 61
      long = length-set (bind (thread r t) l.name2.0 v) 0 l.child1 ∙ bind-length r k.goes.long t k.goes.slot l.name2.0 v
