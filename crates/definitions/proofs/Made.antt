-- What a move that is made shows: the tests that it passed, and the words that it leaves. Assumes nothing.
use mathlib.Core.Path.{◌≡◌, refl, ap, subst, sym}
use mathlib.Core.Logic.{◌≢◌}
use mathlib.Core.Bool.{Bool, true, false}
use mathlib.Core.List.{List, ◌∷◌}
use mathlib.Core.Option.{Option, none, some}
use Prim.Native.Nat.{ℕ, ◌+◌, ◌<◌}
use lib.Dec.{T}
use Rattle.definitions.specs.Bounded.{◌and◌, ◌is◌, ◌isnt◌, ◌below◌, some_if}
use Rattle.definitions.specs.Model.{Box, Model, box_at, box_count, kind_of_name, nil, parallel, replication, restriction, output as op_output, input as op_input, expose as op_expose}
use Rattle.definitions.specs.Record.{held, held_number, stamp_limit, stamp, threads, sites, site, thread, subject, flag, set_stamp, put_thread, push_thread, take_thread, put_site, push_site, set_flag, goto, record_of, put_record}
use Rattle.definitions.specs.Start.{type_words}
use Rattle.definitions.specs.Moves.{Inside, Kind, inside, inter, unknown, kind_of_move, Move, Outcome, refused, made, Ends, need, on_made, site_with, found, at, types_share, value_in, thread_line, onward, onward_with, value1, value2, at_line, drop_move, spread_move, new_move, copy_move, expose_move, turn_move, intra_move, inside_move, inter_move, inside_act, inter_act, act_as, act}
use Rattle.definitions.proofs.Bounded.{tests, first_found, fault_some}

-- ---- a refused move is not made; what a test in front of a move shows

pub refused-made : {A : Type 0} {n : ℕ} {a : A} → ◌≡◌ {A = Outcome A} (refused n) (made a) → ⊥
refused-made {A} e = subst (λ (o : Outcome A). code o) e tt
  where
    code : Outcome A → Type 0
    code (refused n) = Unit
    code (made a) = ⊥

pub made-same : {A : Type 0} {a b : A} → ◌≡◌ {A = Outcome A} (made a) (made b) → a ≡ b
made-same e = cc

pub need-made : {A : Type 0} (b : Bool) (n : ℕ) (o : Outcome A) (a : A) → need b n o ≡ made a → T b × (o ≡ made a)
need-made true n o a e = (tt, e)
need-made false n o a e = absurd (refused-made e)

pub on_made_lem : {A B : Type 0} (f : A → B) (o : Outcome A) (b : B) → on_made f o ≡ made b → (a : A) × (o ≡ made a) × (b ≡ f a)
on_made_lem f (refused n) b e = absurd (refused-made e)
on_made_lem f (made a) b e = (a, refl, sym (made-same e))

pub found_at : (o : Option ℕ) → T (found o) → o ≡ some (at o)
found_at none t = absurd t
found_at (some i) t = refl

-- a site that is found is live, and has that subject and that flag
pub record SiteFound (r : List ℕ) (v f i : ℕ) : Type 0 where
  pub live : i < sites r
  pub low : i < 16
  pub subject_is : subject (site r i) ≡ v
  pub flag_is : flag (site r i) ≡ f

pub site-found : (r : List ℕ) (v f i : ℕ) → site_with r v f ≡ some i → SiteFound r v f i
unfolding site_with
site-found r v f i e =
    let g : ℕ → Option ℕ = λ j. some_if (j below sites r and subject (site r j) is v and flag (site r j) is f) j in
    let x = first_found g 16 i e in
    let y = fault_some (x.0 below sites r and subject (site r x.0) is v and flag (site r x.0) is f) x.0 i x.2 in
    let t = subst (λ (j : ℕ). T (j below sites r and subject (site r j) is v and flag (site r j) is f)) y.1 y.0 in
    let u = simp tests at t in
    record { live = u.0.0; low = subst (λ (j : ℕ). j < 16) y.1 x.1; subject_is = u.0.1; flag_is = u.1 }

-- ---- the moves inside a box

module _ (kinds : List ℕ) (x : Box) (r : List ℕ) where
  pub record AtLine (t op : ℕ) : Type 0 where
    pub live : t < threads r
    pub op_is : (thread_line kinds x r t).op ≡ op

  pub at-line : (t op : ℕ) (o : Outcome (List ℕ)) (s : List ℕ) → at_line kinds x r t op o ≡ made s → AtLine t op × (o ≡ made s)
  unfolding at_line
  at-line t op o s e =
      let a = need-made (t below threads r) _ _ s e in
      let b = need-made ((thread_line kinds x r t).op is op) _ o s a.1 in
      (record { live = simp tests at a.0; op_is = simp tests at b.0 }, b.1)

  pub drop-made : (t : ℕ) (s : List ℕ) → drop_move kinds x r t ≡ made s → AtLine t nil × (s ≡ take_thread r t)
  unfolding drop_move
  drop-made t s e = let a = at-line t nil (made (take_thread r t)) s e in (a.0, sym (made-same a.1))

  pub spread-made : (t : ℕ) (s : List ℕ) → spread_move kinds x r t ≡ made s
      → AtLine t parallel × (threads r < 16)
      × (s ≡ push_thread (put_thread r t (onward kinds x r t)) (goto (thread r t) (thread_line kinds x r t).child2))
  unfolding spread_move
  spread-made t s e =
      let a = at-line t parallel _ s e in
      let b = need-made (threads r below 16) _ _ s a.1 in
      (a.0, simp tests at b.0, sym (made-same b.1))

  pub new_made : (t : ℕ) (s : List ℕ) → new_move kinds x r t ≡ made s
      → AtLine t restriction × (stamp r < stamp_limit)
      × (s ≡ put_thread (set_stamp r (stamp r + 1)) t (onward_with kinds x r t (thread_line kinds x r t).name1 (held (thread_line kinds x r t).name1 (stamp r + 1))))
  unfolding new_move
  new_made t s e =
      let a = at-line t restriction _ s e in
      let b = need-made (stamp r below stamp_limit) _ _ s a.1 in
      (a.0, simp tests at b.0, sym (made-same b.1))

  pub copy_made : (t : ℕ) (s : List ℕ) → copy_move kinds x r t ≡ made s
      → AtLine t replication × (threads r < 16) × (s ≡ push_thread r (onward kinds x r t))
  unfolding copy_move
  copy_made t s e =
      let a = at-line t replication _ s e in
      let b = need-made (threads r below 16) _ _ s a.1 in
      (a.0, simp tests at b.0, sym (made-same b.1))

  pub expose-made : (t : ℕ) (s : List ℕ) → expose_move kinds x r t ≡ made s
      → AtLine t op_expose × (sites r < 16) × (stamp r < stamp_limit)
      × (s ≡ push_site (put_thread (set_stamp r (stamp r + 1)) t (onward_with kinds x r t (thread_line kinds x r t).name1 (held (thread_line kinds x r t).name1 (stamp r + 1))))
      (held (thread_line kinds x r t).name1 (stamp r + 1) ∷ 0 ∷ type_words (value_in kinds (thread r t)) (thread_line kinds x r t).type))
  unfolding expose_move
  expose-made t s e =
      let a = at-line t op_expose _ s e in
      let b = need-made (sites r below 16) _ _ s a.1 in
      let c = need-made (stamp r below stamp_limit) _ _ s b.1 in
      (a.0, simp tests at b.0, simp tests at c.0, sym (made-same c.1))

  pub record TurnMade (op before after t : ℕ) (s : List ℕ) : Type 0 where
    pub at_line : AtLine t op
    pub is_found : T (found (site_with r (value1 kinds x r t) before))
    pub leaves : s ≡ put_site (put_thread r t (onward kinds x r t)) (at (site_with r (value1 kinds x r t) before))
        (set_flag (site r (at (site_with r (value1 kinds x r t) before))) after)

  pub turn-found : (op before after t : ℕ) (s : List ℕ) → turn_move kinds x r op before after t ≡ made s → TurnMade op before after t s
  unfolding turn_move
  turn-found op before after t s e =
      let a = at-line t op _ s e in
      let b = need-made (found (site_with r (value1 kinds x r t) before)) _ _ s a.1 in
      record { at_line = a.0; is_found = b.0; leaves = sym (made-same b.1) }

  pub turn-made : (op before after t : ℕ) (s : List ℕ) → turn_move kinds x r op before after t ≡ made s
      → AtLine t op × ((i : ℕ) × SiteFound r (value1 kinds x r t) before i × (s ≡ put_site (put_thread r t (onward kinds x r t)) i (set_flag (site r i) after)))
  turn-made op before after t s e =
      let a = turn-found op before after t s e in
      let o = site_with r (value1 kinds x r t) before in
      (a.at_line, (at o, site-found r (value1 kinds x r t) before (at o) (found_at o a.is_found), a.leaves))

  pub record IntraMade (t u : ℕ) (s : List ℕ) : Type 0 where
    pub live : t < threads r
    pub live2 : u < threads r
    pub differ : t ≢ u
    pub op_is : (thread_line kinds x r t).op ≡ op_input
    pub op_is2 : (thread_line kinds x r u).op ≡ op_output
    pub channel : value1 kinds x r t ≡ value1 kinds x r u
    pub leaves : s ≡ put_thread (put_thread r t (onward_with kinds x r t (thread_line kinds x r t).name2 (value2 kinds x r u))) u (onward kinds x r u)

  pub intra_made : (t u : ℕ) (s : List ℕ) → intra_move kinds x r t u ≡ made s → IntraMade t u s
  unfolding intra_move
  intra_made t u s e =
      let a = need-made (t below threads r and u below threads r) _ _ s e in
      let b = need-made (t isnt u) _ _ s a.1 in
      let c = need-made ((thread_line kinds x r t).op is op_input and (thread_line kinds x r u).op is op_output) _ _ s b.1 in
      let d = need-made (value1 kinds x r t is value1 kinds x r u) _ _ s c.1 in
      let p = simp tests at a.0 in
      let q = simp tests at c.0 in
      record {
        live = p.0;
        live2 = p.1;
        differ = simp tests at b.0;
        op_is = q.0;
        op_is2 = q.1;
        channel = simp tests at d.0;
        leaves = sym (made-same d.1);
      }

-- ---- inter

module _ (kinds : List ℕ) (x : Box) (r : List ℕ) (y : Box) (s : List ℕ) where
  pub record InterMade (t u : ℕ) (e : Ends) : Type 0 where
    pub op_is : (thread_line kinds x r t).op ≡ op_input
    pub op_is2 : (thread_line kinds y s u).op ≡ op_output
    pub site_in : ℕ
    pub site_out : ℕ
    pub found_in : SiteFound r (value1 kinds x r t) 0 site_in
    pub found_out : SiteFound s (value1 kinds y s u) 0 site_out
    pub share : T (types_share (site r site_in) (site s site_out))
    pub not_private : kind_of_name kinds (held_number (value2 kinds y s u)) ≢ 1
    pub input_leaves : e.input ≡ put_thread r t (onward_with kinds x r t (thread_line kinds x r t).name2 (value2 kinds y s u))
    pub output_leaves : e.output ≡ put_thread s u (onward kinds y s u)

  pub inter-made : (t u : ℕ) (e : Ends) → inter_move kinds x r y s t u ≡ made e → InterMade t u e
  unfolding inter_move
  inter-made t u e z =
      let i = site_with r (value1 kinds x r t) 0 in
      let j = site_with s (value1 kinds y s u) 0 in
      let a = need-made ((thread_line kinds x r t).op is op_input and (thread_line kinds y s u).op is op_output) _ _ e z in
      let b = need-made (kind_of_name kinds (held_number (value2 kinds y s u)) isnt 1) _ _ e a.1 in
      let c = need-made (found i and found j) _ _ e b.1 in
      let d = need-made (types_share (site r (at i)) (site s (at j))) _ _ e c.1 in
      let ops = simp tests at a.0 in
      let both = simp tests at c.0 in
      let q = made-same d.1 in
      record {
        op_is = ops.0;
        op_is2 = ops.1;
        site_in = at i;
        site_out = at j;
        found_in = site-found r (value1 kinds x r t) 0 (at i) (found_at i both.0);
        found_out = site-found s (value1 kinds y s u) 0 (at j) (found_at j both.1);
        share = d.0;
        not_private = simp tests at b.0;
        input_leaves = ap (λ (k : Ends). k.input) (sym q);
        output_leaves = ap (λ (k : Ends). k.output) (sym q);
      }

-- ---- a move in a state

module _ (m : Model) (st : List ℕ) where
  pub record InsideMade (k : Inside) (b t u : ℕ) (w : List ℕ) : Type 0 where
    pub box : b < box_count m
    pub new : List ℕ
    pub is_made : inside_move m.kinds (box_at m b) (record_of st b) k t u ≡ made new
    pub leaves : w ≡ put_record st b new

  pub inside_act_lem : (k : Inside) (b t u : ℕ) (w : List ℕ) → inside_act m st k b t u ≡ made w → InsideMade k b t u w
  unfolding inside_act
  inside_act_lem k b t u w e =
      let a = need-made (b below box_count m) _ _ w e in
      let c = on_made_lem (put_record st b) (inside_move m.kinds (box_at m b) (record_of st b) k t u) w a.1 in
      record { box = simp tests at a.0; new = c.0; is_made = c.1; leaves = c.2 }

  pub record InterActMade (b t c u : ℕ) (w : List ℕ) : Type 0 where
    pub box : b < box_count m
    pub box2 : c < box_count m
    pub live : t < threads (record_of st b)
    pub live2 : u < threads (record_of st c)
    pub differ : b ≢ c
    pub ends : Ends
    pub is_made : inter_move m.kinds (box_at m b) (record_of st b) (box_at m c) (record_of st c) t u ≡ made ends
    pub leaves : w ≡ put_record (put_record st b ends.input) c ends.output

  pub inter_act_lem : (b t c u : ℕ) (w : List ℕ) → inter_act m st b t c u ≡ made w → InterActMade b t c u w
  unfolding inter_act
  inter_act_lem b t c u w e =
      let a = need-made (b below box_count m and c below box_count m and t below threads (record_of st b) and u below threads (record_of st c)) _ _ w e in
      let d = need-made (b isnt c) _ _ w a.1 in
      let f = on_made_lem (λ (g : Ends). put_record (put_record st b g.input) c g.output) (inter_move m.kinds (box_at m b) (record_of st b) (box_at m c) (record_of st c) t u) w d.1 in
      let p = simp tests at a.0 in
      record {
        box = p.0.0.0;
        box2 = p.0.0.1;
        live = p.0.1;
        live2 = p.1;
        differ = simp tests at d.0;
        ends = f.0;
        is_made = f.1;
        leaves = f.2;
      }

  -- a made move is a made move inside a box, or a made inter move
  pub act_made : (P : List ℕ → Type 0) (v : Move) (w : List ℕ) → act m st v ≡ made w
      → ((k : Inside) → InsideMade k v.box v.thread v.thread2 w → P w)
      → (InterActMade v.box v.thread v.box2 v.thread2 w → P w) → P w
  unfolding act act_as
  act_made P v w e f g = go (kind_of_move v.kind) e
    where
      go : (k : Kind) → act_as m st k v ≡ made w → P w
      go (inside i) z = f i (inside_act_lem i v.box v.thread v.thread2 w z)
      go inter z = g (inter_act_lem v.box v.thread v.box2 v.thread2 w z)
      go unknown z = absurd (refused-made z)
