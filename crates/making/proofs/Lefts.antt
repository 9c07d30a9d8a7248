-- What the edits of each move leave together is what the move leaves. Assumes nothing.
use mathlib.Core.Path.{◌≡◌, refl, ap, subst, sym, ◌∙◌}
use mathlib.Core.Logic.{◌≢◌}
use mathlib.Core.List.{List, ◌∷◌}
use Prim.Native.Nat.{ℕ, ◌+◌, ◌-◌, ◌≤◌, ◌<◌}
use native.Mathlib.Nat.{le_refl}
use native.Mathlib.Omega.{arith}
use borrow.Author.Rules.{rules}
use Rattle.std.specs.Coded.{Coded-set, coded_ℕ, coded_list}
use lib.Dec.{T}
use mir.Val.{Fits}
use mir.Syntax.{w32}
use Rattle.definitions.specs.Model as model
use Rattle.definitions.specs.Model.{Box, box_at, nil, parallel, replication, restriction, output, input, expose}
use Rattle.definitions.specs.Image.{name_count, model_of}
use Rattle.definitions.specs.Sets.{has}
use Rattle.definitions.specs.Record.{held, stamp_limit, stamp, threads, sites, thread, site, line, set_stamp, put_thread, push_thread, take_thread, put_site, push_site, set_flag, goto, bind}
use Rattle.definitions.specs.Start.{type_words}
use Rattle.definitions.specs.Moves.{Outcome, made, site_with, found, at, value_in, thread_line, onward, onward_with, value1, value2, turn_move}
use Rattle.definitions.proofs.Made.{refused-made, AtLine, drop-made, spread-made, new_made, copy_made, expose-made, TurnMade, turn-found, IntraMade, intra_made}
use Rattle.definitions.proofs.Valid.{ValidLine, ValidTree}
use Rattle.records.specs.declared.Line.{Line}
use Rattle.records.specs.Records.{line_in}
use Rattle.model.specs.declared.ReadModel.{ReadModel}
use Rattle.lookups.specs.Ready.{kinds_in, box_in, BoxReady}
use Rattle.lookups.proofs.Ready.{listed_name, open_ready, ready_valid, ready_inside, ready_length, ready_sites, ready_threads, ready_thread, ready_stands, first_of}
use Rattle.lookups.specs.Inside.{inside_outcome}
use Rattle.lookups.proofs.Inside.{is-drop, is-spread, is_new, is_copy, is-expose, is-hide, is-unhide, is_intra, is_inter}
use Rattle.state.specs.declared.kinds.Kind as code
use Rattle.state.specs.declared.kinds.Kind.TheVariants.{Drop, Spread, New, Copy, Expose, Hide, Unhide, Intra, Inter}
use Rattle.state.specs.Kinds.{kind_number}
use Rattle.state.specs.Edits.{DeadThreads}
use Rattle.isolation.proofs.KeepMoves.{type_fits_lem}
use Rattle.making.specs.Left.{IsMade, Goes, Spreads, Stamps, Turns, Receives}
use Rattle.making.specs.Exposed.{NamesHeld, SiteRoom}
use Rattle.making.proofs.Steps.{bound_left}

-- ---- the line at which a thread stands

module _ {rm : ReadModel} {b : ℕ} {r : List ℕ} (k : BoxReady rm b r) (t op : ℕ)
    (a : AtLine (kinds_in rm) (box_in rm b) r t op) (l : Line)
    (q : line_in l ≡ thread_line (kinds_in rm) (box_in rm b) r t) where
  stands : line (thread r t) < model.line_count (box_in rm b)
  stands = ready_stands k t a.live

  valid_line : ValidLine (model_of rm.image.now) (line_in l)
  unfolding thread_line
  valid_line = subst (ValidLine (model_of rm.image.now)) (sym q) (((ready_valid k).box b (ready_inside k)).line (line (thread r t)) stands)

  valid_tree : ValidTree (box_in rm b) (line (thread r t)) (line_in l)
  unfolding thread_line
  valid_tree =
      subst (ValidTree (box_in rm b) (line (thread r t))) (sym q) (((ready_valid k).box b (ready_inside k)).tree (line (thread r t)) stands)

  op_is_lem : l.op ≡ op
  op_is_lem = ap (λ (n : model.Line). n.op) q ∙ a.op_is

  most : model.line_count (box_in rm b) ≤ 124
  most = ((ready_valid k).box b (ready_inside k)).most_lines

  child1_low : op ≢ 0 → l.child1 < 65536
  child1_low n = omega (arith, valid_tree.child1 (λ e. n (sym op_is_lem ∙ e)), most)

  child2_low : op ≡ 1 → l.child2 < 65536
  child2_low e = omega (arith, valid_tree.child2 (op_is_lem ∙ e), most)

  goes : op ≢ 0 → Goes r t l
  goes n = record { long = ready_length k; live = a.live; slot = ready_thread k t a.live; child = child1_low n }

-- the words of the thread gone on, by the line that was read
module _ (kinds : List ℕ) (x : Box) (r : List ℕ) (t : ℕ) (l : Line) (q : line_in l ≡ thread_line kinds x r t) where
  onward_is : onward kinds x r t ≡ goto (thread r t) l.child1
  unfolding onward
  onward_is = ap (λ (n : model.Line). goto (thread r t) n.child1) (sym q)

  onward_with_is : (n v : ℕ) → onward_with kinds x r t n v ≡ goto (bind (thread r t) n v) l.child1
  unfolding onward_with
  onward_with_is n v = ap (λ (m : model.Line). goto (bind (thread r t) n v) m.child1) (sym q)

-- ---- each kind of move that is made: what is known of its thread, and what it leaves

module _ {rm : ReadModel} {b : ℕ} {r : List ℕ} (k : BoxReady rm b r) (kind t u : ℕ) (m : IsMade (inside_outcome (kinds_in rm) (box_in rm b) r kind t u)) where
  -- it is the move of its kind
  of-kind : {o : Outcome (List ℕ)} → inside_outcome (kinds_in rm) (box_in rm b) r kind t u ≡ o → o ≡ made m.left
  of-kind e = sym e ∙ m.is

  module _ (e : kind ≡ 1) where
    drop_all : AtLine (kinds_in rm) (box_in rm b) r t nil × (m.left ≡ take_thread r t)
    drop_all = drop-made (kinds_in rm) (box_in rm b) r t m.left (of-kind (is-drop (kinds_in rm) (box_in rm b) r kind t u e))

    pub drop_live : t < threads r
    drop_live = drop_all.0.live

    pub drop_left : (s : List ℕ) → s ≡ take_thread r t → inside_outcome (kinds_in rm) (box_in rm b) r kind t u ≡ made s
    drop_left s p = m.is ∙ ap made (drop_all.1 ∙ sym p)

  module _ (l : Line) (q : line_in l ≡ thread_line (kinds_in rm) (box_in rm b) r t) where
    module _ (e : kind ≡ 2) where
      spread_all : AtLine (kinds_in rm) (box_in rm b) r t parallel × (threads r < 16)
          × (m.left ≡ push_thread (put_thread r t (onward (kinds_in rm) (box_in rm b) r t)) (goto (thread r t) (thread_line (kinds_in rm) (box_in rm b) r t).child2))
      spread_all = spread-made (kinds_in rm) (box_in rm b) r t m.left (of-kind (is-spread (kinds_in rm) (box_in rm b) r kind t u e))

      pub spreads : Spreads r t l
      spreads = record {
        goes = goes k t parallel spread_all.0 l q (omega arith);
        room = spread_all.1;
        child2 = child2_low k t parallel spread_all.0 l q (omega arith);
      }

      pub spread_left : (s : List ℕ) → s ≡ push_thread (put_thread r t (goto (thread r t) l.child1)) (goto (thread r t) l.child2)
          → inside_outcome (kinds_in rm) (box_in rm b) r kind t u ≡ made s
      spread_left s p =
          m.is ∙ ap made (spread_all.2
          ∙ ap (λ (y : List ℕ). push_thread (put_thread r t y) (goto (thread r t) (thread_line (kinds_in rm) (box_in rm b) r t).child2)) (onward_is (kinds_in rm) (box_in rm b) r t l q)
          ∙ ap (λ (n : model.Line). push_thread (put_thread r t (goto (thread r t) l.child1)) (goto (thread r t) n.child2)) (sym q)
          ∙ sym p)

    module _ (e : kind ≡ 3) where
      new_all : AtLine (kinds_in rm) (box_in rm b) r t restriction × (stamp r < stamp_limit)
          × (m.left ≡ put_thread (set_stamp r (stamp r + 1)) t (onward_with (kinds_in rm) (box_in rm b) r t (thread_line (kinds_in rm) (box_in rm b) r t).name1 (held (thread_line (kinds_in rm) (box_in rm b) r t).name1 (stamp r + 1))))
      new_all = new_made (kinds_in rm) (box_in rm b) r t m.left (of-kind (is_new (kinds_in rm) (box_in rm b) r kind t u e))

      pub news : Stamps r t l
      news = record {
        goes = goes k t restriction new_all.0 l q (omega arith);
        left = new_all.1;
        listed = omega (arith, (valid_line k t restriction new_all.0 l q).restrict_listed (op_is_lem k t restriction new_all.0 l q), (ready_valid k).names);
      }

      pub new_left : (s : List ℕ) → s ≡ put_thread (set_stamp r (stamp r + 1)) t (goto (bind (thread r t) l.name1.0 (held l.name1.0 (stamp r + 1))) l.child1)
          → inside_outcome (kinds_in rm) (box_in rm b) r kind t u ≡ made s
      new_left s p =
          m.is ∙ ap made (new_all.2
          ∙ ap (put_thread (set_stamp r (stamp r + 1)) t) (ap (λ (n : model.Line). onward_with (kinds_in rm) (box_in rm b) r t n.name1 (held n.name1 (stamp r + 1))) (sym q)
          ∙ onward_with_is (kinds_in rm) (box_in rm b) r t l q l.name1.0 (held l.name1.0 (stamp r + 1)))
          ∙ sym p)

    module _ (e : kind ≡ 4) where
      copy_all : AtLine (kinds_in rm) (box_in rm b) r t replication × (threads r < 16) × (m.left ≡ push_thread r (onward (kinds_in rm) (box_in rm b) r t))
      copy_all = copy_made (kinds_in rm) (box_in rm b) r t m.left (of-kind (is_copy (kinds_in rm) (box_in rm b) r kind t u e))

      pub copy_goes : Goes r t l
      copy_goes = goes k t replication copy_all.0 l q (omega arith)

      pub copy_room : threads r < 16
      copy_room = copy_all.1

      pub copy_left : (s : List ℕ) → s ≡ push_thread r (goto (thread r t) l.child1) → inside_outcome (kinds_in rm) (box_in rm b) r kind t u ≡ made s
      copy_left s p = m.is ∙ ap made (copy_all.2 ∙ ap (push_thread r) (onward_is (kinds_in rm) (box_in rm b) r t l q) ∙ sym p)

    module _ (e : kind ≡ 5) where
      expose_all : AtLine (kinds_in rm) (box_in rm b) r t expose × (sites r < 16) × (stamp r < stamp_limit)
          × (m.left ≡ push_site (put_thread (set_stamp r (stamp r + 1)) t (onward_with (kinds_in rm) (box_in rm b) r t (thread_line (kinds_in rm) (box_in rm b) r t).name1 (held (thread_line (kinds_in rm) (box_in rm b) r t).name1 (stamp r + 1))))
          (held (thread_line (kinds_in rm) (box_in rm b) r t).name1 (stamp r + 1) ∷ 0 ∷ type_words (value_in (kinds_in rm) (thread r t)) (thread_line (kinds_in rm) (box_in rm b) r t).type))
      expose_all = expose-made (kinds_in rm) (box_in rm b) r t m.left (of-kind (is-expose (kinds_in rm) (box_in rm b) r kind t u e))

      pub exposes : Stamps r t l × NamesHeld rm.image.now r t l.names × SiteRoom r
      unfolding thread_line
      exposes = (
        record {
          goes = goes k t expose expose_all.0 l q (omega arith);
          left = expose_all.2;
          listed = omega (arith, (valid_line k t expose expose_all.0 l q).expose_listed (op_is_lem k t expose expose_all.0 l q), (ready_valid k).names);
        },
        record {
          read = rm.read;
          long = ready_length k;
          slot = ready_thread k t expose_all.0.live;
          listed = λ n h z. listed_name rm.image.now n ((valid_line k t expose expose_all.0 l q).expose_type (op_is_lem k t expose expose_all.0 l q) n h z);
          given = λ n h z w. open_ready k (λ (x y : ⊥). absurd x) (λ last f.
              (type_fits_lem (model_of rm.image.now) (ready_valid k) b (ready_inside k) last r f t expose_all.0.live expose_all.0.op_is n h
              (subst (λ (i : model.Line). T (has i.type n)) q z)).given w);
        },
        record { room = expose_all.1; clear = open_ready k (Coded-set (coded_list coded_ℕ) _ _) (λ last f. f.sites_fit.dead (sites r) expose_all.1 (le_refl (sites r))) },
      )

      pub expose_left : (s : List ℕ)
          → s ≡ push_site (put_thread (set_stamp r (stamp r + 1)) t (goto (bind (thread r t) l.name1.0 (held l.name1.0 (stamp r + 1))) l.child1))
          (held l.name1.0 (stamp r + 1) ∷ 0 ∷ type_words (value_in (kinds_in rm) (thread r t)) l.names)
          → inside_outcome (kinds_in rm) (box_in rm b) r kind t u ≡ made s
      expose_left s p =
          m.is ∙ ap made (expose_all.3
          ∙ ap (λ (n : model.Line). push_site (put_thread (set_stamp r (stamp r + 1)) t (onward_with (kinds_in rm) (box_in rm b) r t n.name1 (held n.name1 (stamp r + 1)))) (held n.name1 (stamp r + 1) ∷ 0 ∷ type_words (value_in (kinds_in rm) (thread r t)) n.type)) (sym q)
          ∙ ap (λ (y : List ℕ). push_site (put_thread (set_stamp r (stamp r + 1)) t y) (held l.name1.0 (stamp r + 1) ∷ 0 ∷ type_words (value_in (kinds_in rm) (thread r t)) l.names))
          (onward_with_is (kinds_in rm) (box_in rm b) r t l q l.name1.0 (held l.name1.0 (stamp r + 1)))
          ∙ sym p)

    -- hide and unhide
    module _ (before : ℕ) (e : inside_outcome (kinds_in rm) (box_in rm b) r kind t u ≡ turn_move (kinds_in rm) (box_in rm b) r (7 + before) before (1 - before) t) where
      turn_all : TurnMade (kinds_in rm) (box_in rm b) r (7 + before) before (1 - before) t m.left
      turn_all = turn-found (kinds_in rm) (box_in rm b) r (7 + before) before (1 - before) t m.left (of-kind e)

      channel : value1 (kinds_in rm) (box_in rm b) r t ≡ value_in (kinds_in rm) (thread r t) l.name1.0
      unfolding value1
      channel = ap (λ (n : model.Line). value_in (kinds_in rm) (thread r t) n.name1) (sym q)

      turns_by : 3 ≤ l.op → Turns rm r t l before
      turns_by h = record {
        goes = goes k t (7 + before) turn_all.at_line l q (omega arith);
        most = ready_sites k;
        listed = listed_name rm.image.now l.name1.0 (first_of (model_of rm.image.now) (line_in l) (valid_line k t (7 + before) turn_all.at_line l q) h);
        there = subst (λ (n : ℕ). T (found (site_with r n before))) channel turn_all.is_found;
      }

      pub turns : Turns rm r t l before
      turns = turns_by (omega (arith, op_is_lem k t (7 + before) turn_all.at_line l q))

      pub turn_left : (s : List ℕ)
          → s ≡ put_site (put_thread r t (goto (thread r t) l.child1)) (at (site_with r (value_in (kinds_in rm) (thread r t) l.name1.0) before))
          (set_flag (site r (at (site_with r (value_in (kinds_in rm) (thread r t) l.name1.0) before))) (1 - before))
          → inside_outcome (kinds_in rm) (box_in rm b) r kind t u ≡ made s
      turn_left s p =
          m.is ∙ ap made (turn_all.leaves
          ∙ ap (λ (y : List ℕ). put_site (put_thread r t y) (at (site_with r (value1 (kinds_in rm) (box_in rm b) r t) before)) (set_flag (site r (at (site_with r (value1 (kinds_in rm) (box_in rm b) r t) before))) (1 - before)))
          (onward_is (kinds_in rm) (box_in rm b) r t l q)
          ∙ ap (λ (n : ℕ). put_site (put_thread r t (goto (thread r t) l.child1)) (at (site_with r n before)) (set_flag (site r (at (site_with r n before))) (1 - before))) channel
          ∙ sym p)

    module _ (e : kind ≡ 8) where
      intra_all : IntraMade (kinds_in rm) (box_in rm b) r t u m.left
      intra_all = intra_made (kinds_in rm) (box_in rm b) r t u m.left (of-kind (is_intra (kinds_in rm) (box_in rm b) r kind t u e))

      pub intra_live2 : u < threads r
      intra_live2 = intra_all.live2

      at-input : AtLine (kinds_in rm) (box_in rm b) r t input
      at-input = record { live = intra_all.live; op_is = intra_all.op_is }

      at-output : AtLine (kinds_in rm) (box_in rm b) r u output
      at-output = record { live = intra_all.live2; op_is = intra_all.op_is2 }

      module _ (n : Line) (p : line_in n ≡ thread_line (kinds_in rm) (box_in rm b) r u) where
        pub receives : Receives rm r t l u n
        receives = record {
          goes = goes k t input at-input l q (omega arith);
          sends = goes k u output at-output n p (omega arith);
          differ = intra_all.differ;
          channel = omega (arith, (valid_line k t input at-input l q).input_listed (op_is_lem k t input at-input l q), (ready_valid k).names);
          binds = omega (arith, (valid_line k t input at-input l q).received_listed (op_is_lem k t input at-input l q), (ready_valid k).names);
          listed = listed_name rm.image.now n.name2.0 ((valid_line k u output at-output n p).sent_listed (op_is_lem k u output at-output n p));
        }

        pub intra_left : (s : List ℕ)
            → s ≡ put_thread (put_thread r t (goto (bind (thread r t) l.name2.0 (value_in (kinds_in rm) (thread r u) n.name2.0)) l.child1)) u (goto (thread r u) n.child1)
            → inside_outcome (kinds_in rm) (box_in rm b) r kind t u ≡ made s
        unfolding value2
        intra_left s x =
            m.is ∙ ap made (intra_all.leaves
            ∙ ap (λ (i : model.Line). put_thread (put_thread r t (onward_with (kinds_in rm) (box_in rm b) r t (thread_line (kinds_in rm) (box_in rm b) r t).name2 (value_in (kinds_in rm) (thread r u) i.name2))) u (onward (kinds_in rm) (box_in rm b) r u)) (sym p)
            ∙ ap (λ (a : List ℕ). put_thread (put_thread r t a) u (onward (kinds_in rm) (box_in rm b) r u))
            (ap (λ (i : model.Line). onward_with (kinds_in rm) (box_in rm b) r t i.name2 (value_in (kinds_in rm) (thread r u) n.name2.0)) (sym q)
            ∙ onward_with_is (kinds_in rm) (box_in rm b) r t l q l.name2.0 (value_in (kinds_in rm) (thread r u) n.name2.0))
            ∙ ap (λ (a : List ℕ). put_thread (put_thread r t (goto (bind (thread r t) l.name2.0 (value_in (kinds_in rm) (thread r u) n.name2.0)) l.child1)) u a)
            (onward_is (kinds_in rm) (box_in rm b) r u n p)
            ∙ sym x)

  -- the thread of each of these is there
  pub stays_live : (q : code.Kind) → kind ≡ kind_number q → kind_number q ≢ 1 → t < threads r
  stays_live Drop e n = absurd (n refl)
  stays_live Spread e n = (spread-made (kinds_in rm) (box_in rm b) r t m.left (of-kind (is-spread (kinds_in rm) (box_in rm b) r kind t u e))).0.live
  stays_live New e n = (new_made (kinds_in rm) (box_in rm b) r t m.left (of-kind (is_new (kinds_in rm) (box_in rm b) r kind t u e))).0.live
  stays_live Copy e n = (copy_made (kinds_in rm) (box_in rm b) r t m.left (of-kind (is_copy (kinds_in rm) (box_in rm b) r kind t u e))).0.live
  stays_live Expose e n = (expose-made (kinds_in rm) (box_in rm b) r t m.left (of-kind (is-expose (kinds_in rm) (box_in rm b) r kind t u e))).0.live
  stays_live Hide e n = (turn-found (kinds_in rm) (box_in rm b) r 7 0 1 t m.left (of-kind (is-hide (kinds_in rm) (box_in rm b) r kind t u e))).at_line.live
  stays_live Unhide e n = (turn-found (kinds_in rm) (box_in rm b) r 8 1 0 t m.left (of-kind (is-unhide (kinds_in rm) (box_in rm b) r kind t u e))).at_line.live
  stays_live Intra e n = (intra_made (kinds_in rm) (box_in rm b) r t u m.left (of-kind (is_intra (kinds_in rm) (box_in rm b) r kind t u e))).live
  stays_live Inter e n = absurd (refused-made (of-kind (is_inter (kinds_in rm) (box_in rm b) r kind t u e)))

  -- an inter is not made in one box
  pub not_made : kind ≡ 9 → ⊥
  not_made e = refused-made (of-kind (is_inter (kinds_in rm) (box_in rm b) r kind t u e))

-- a kind that is not a drop has another number
pub other_number : (q : code.Kind) → (q ≡ Drop → ⊥) → kind_number q ≢ 1
other_number Drop h e = h refl
other_number Spread h e = absurd (omega arith)
other_number New h e = absurd (omega arith)
other_number Copy h e = absurd (omega arith)
other_number Expose h e = absurd (omega arith)
other_number Hide h e = absurd (omega arith)
other_number Unhide h e = absurd (omega arith)
other_number Intra h e = absurd (omega arith)
other_number Inter h e = absurd (omega arith)

pub drop_dead : {rm : ReadModel} {b : ℕ} {r : List ℕ} → BoxReady rm b r → DeadThreads r
drop_dead k = record {
  most = ready_threads k;
  dead = λ i h q. open_ready k (Coded-set (coded_list coded_ℕ) _ _) (λ last f. f.threads_fit.dead i h q);
}

-- ---- the ends of an inter move

module _ {rm : ReadModel} {b : ℕ} {r : List ℕ} (k : BoxReady rm b r) (t : ℕ) (h : t < threads r) (l : Line)
    (q : line_in l ≡ thread_line (kinds_in rm) (box_in rm b) r t) where
  module _ (o : (thread_line (kinds_in rm) (box_in rm b) r t).op ≡ output) where
    sends : AtLine (kinds_in rm) (box_in rm b) r t output
    sends = record { live = h; op_is = o }

    pub sent_value : (v : ℕ) → v ≡ value_in (kinds_in rm) (thread r t) l.name2.0 → v ≡ value2 (kinds_in rm) (box_in rm b) r t
    unfolding value2
    sent_value v e = e ∙ ap (λ (n : model.Line). value_in (kinds_in rm) (thread r t) n.name2) q

    pub onward_child : Fits w32 l.child1
    onward_child = record { fits = omega (arith, child1_low k t output sends l q (omega arith)) }

    pub onward_left : (s : List ℕ) → s ≡ put_thread r t (goto (thread r t) l.child1) → s ≡ put_thread r t (onward (kinds_in rm) (box_in rm b) r t)
    onward_left s p = p ∙ ap (λ (y : List ℕ). put_thread r t y) (sym (onward_is (kinds_in rm) (box_in rm b) r t l q))

  module _ (o : (thread_line (kinds_in rm) (box_in rm b) r t).op ≡ input) where
    gets : AtLine (kinds_in rm) (box_in rm b) r t input
    gets = record { live = h; op_is = o }

    pub receive_child : Fits w32 l.child1
    receive_child = record { fits = omega (arith, child1_low k t input gets l q (omega arith)) }

    pub receive_name : l.name2.0 < 60
    receive_name = omega (arith, (valid_line k t input gets l q).received_listed (op_is_lem k t input gets l q), (ready_valid k).names)

    module _ (v : ℕ) (r1 : List ℕ) (f : r1 ≡ put_thread r t (bind (thread r t) l.name2.0 v)) where
      pub receive_left : (s : List ℕ) → s ≡ put_thread r1 t (goto (thread r1 t) l.child1)
          → s ≡ put_thread r t (onward_with (kinds_in rm) (box_in rm b) r t (thread_line (kinds_in rm) (box_in rm b) r t).name2 v)
      receive_left s p =
          bound_left r (ready_length k) t (ready_thread k t h) l.name2.0 v l.child1 r1 f s p
          ∙ ap (λ (y : List ℕ). put_thread r t y) (sym (ap (λ (n : model.Line). onward_with (kinds_in rm) (box_in rm b) r t n.name2 v) (sym q)
          ∙ onward_with_is (kinds_in rm) (box_in rm b) r t l q l.name2.0 v))

pub ruleset ends = (rules, ready_thread, sent_value)
