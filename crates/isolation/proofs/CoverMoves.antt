-- Each made move inside a box leaves its record covered; so does each end of an inter move. Assumes nothing.
use mathlib.Core.Path.{◌≡◌, refl, sym, ◌∙◌}
use mathlib.Core.Logic.{◌⊎◌, inl, inr, ◌≢◌}
use mathlib.Core.Bool.{Bool, true, false}
use mathlib.Core.List.{List}
use Prim.Native.Nat.{ℕ, ◌+◌, ◌<◌}
use native.Mathlib.Omega.{arith}
use lib.Dec.{T}
use lib.ListN.{length, length-set}
use lib.Seq.{get_or-set_other}
use Rattle.definitions.specs.Bounded.{◌is◌, ◌isnt◌, ◌and◌, any_below}
use Rattle.definitions.specs.Sets.{has, meets}
use Rattle.definitions.specs.Model.{Line, Box, Model, box_at, box_count, kind_of_name, bound_above, output as op_output, input as op_input, hide as op_hide, unhide as op_unhide}
use Rattle.definitions.specs.Estimate.{Estimate}
use Rattle.definitions.specs.Record.{held, held_number, stamp, threads, sites, site, thread, subject, type_word, line, binding, set_stamp, put_thread, goto, bind}
use Rattle.definitions.specs.Start.{free_held}
use Rattle.definitions.specs.Moves.{Inside, drop, spread, new, copy, expose, hide, unhide, intra, made, Ends, types_share, value_in, thread_line, onward, onward_with, value1, value2, drop_move, spread_move, new_move, copy_move, expose_move, turn_move, intra_move, inside_move, inter_move}
use Rattle.definitions.proofs.Bounded.{and_iff, any_iff, is_iff, isnt_iff, of_true, not-false}
use Rattle.definitions.proofs.Sets.{meets_iff}
use Rattle.definitions.proofs.Valid.{ValidLine, ValidReach, Valid}
use Rattle.definitions.proofs.StateRules.{number_low, ThreadFits, thread_iff, site_iff, RecordFits}
use Rattle.isolation.proofs.KeepHeld.{number_held}
use Rattle.definitions.proofs.Made.{InterMade, drop-made, spread-made, new_made, copy_made, expose-made, turn-made, intra_made, inter-made}
use Rattle.isolation.specs.Covers.{CoversThread, CoversSite, CoversRecord}
use Rattle.definitions.proofs.Clauses.{LineClauses, AllClauses}
use Rattle.isolation.proofs.CoverEdits.{goto_covered, bind_covered, turn_covered, site-length, site_covered, Covered, set-stamp, put-threads, put-sites, put-thread, take-thread, push_thread_lem, put-site, push_site_lem}

-- ---- one box of a valid model with an accepted estimate: its record obeys the state rules and is covered

pub record Here (m : Model) (e : Estimate) (b : ℕ) (r : List ℕ) : Type 0 where
  pub last : ℕ → ℕ
  pub valid : Valid m
  pub accepted : AllClauses m e
  pub box : b < box_count m
  pub fits : RecordFits m last (box_at m b) r
  pub covers : CoversRecord e b r

-- thread t's line, and the numbers of what its first and its second name stand for
abbrev pub line_here : Model → ℕ → List ℕ → ℕ → Line
line_here m b r t = thread_line m.kinds (box_at m b) r t

abbrev pub number1 : Model → ℕ → List ℕ → ℕ → ℕ
number1 m b r t = held_number (value1 m.kinds (box_at m b) r t)

abbrev pub number2 : Model → ℕ → List ℕ → ℕ → ℕ
number2 m b r t = held_number (value2 m.kinds (box_at m b) r t)

-- name n is free, or bound strictly above thread t's line
abbrev InReach : Model → ℕ → List ℕ → ℕ → ℕ → Type 0
InReach m b r t n = (kind_of_name m.kinds n ≡ 0) ⊎ T (bound_above (box_at m b) (line (thread r t)) n)

module _ {m : Model} {e : Estimate} {b : ℕ} {r : List ℕ} (k : Here m e b r) where
  here : Covered e b r
  here = record { size = k.fits.size; most_threads = k.fits.threads_fit.most; most_sites = k.fits.sites_fit.most; covers = k.covers }

  module _ (t : ℕ) (h : t < threads r) where
    fits : ThreadFits m k.last (box_at m b) (thread r t)
    fits = (thread_iff m k.last (box_at m b) (thread r t)).0 (k.fits.threads_fit.live t h)

    covered : CoversThread e (thread r t)
    covered = k.covers.threads_covered t h

    met : LineClauses m e b (line_here m b r t)
    unfolding thread_line
    met = k.accepted.lines b k.box (line (thread r t)) fits.stands

    valid : ValidLine m (line_here m b r t)
    unfolding thread_line
    valid = (k.valid.box b k.box).line (line (thread r t)) fits.stands

    reach : ValidReach m b (line (thread r t)) (line_here m b r t)
    unfolding thread_line
    reach = (k.valid.box b k.box).reach (line (thread r t)) fits.stands

    -- what a name stands for is in its rho: a free name stands for itself (clause 1), any other for what it is bound to
    value_in_lem : (n : ℕ) → n < length m.kinds → InReach m b r t n → T (has (e.rho n) (held_number (value_in m.kinds (thread r t) n)))
    unfolding value_in
    value_in_lem n l = pick (kind_of_name m.kinds n is 0) refl
      where
        low : n < 60
        low = omega (arith, k.valid.names)

        pick : (c : Bool) → (kind_of_name m.kinds n is 0) ≡ c → InReach m b r t n
            → T (has (e.rho n) (held_number (elim c [ true ↦ free_held n | false ↦ binding (thread r t) n ])))
        pick true q z = rw (number_held n 0 (omega (arith, low))) (k.accepted.names n l ((is_iff (kind_of_name m.kinds n) 0).0 (of_true q)))
        pick false q (inl z) = absurd (not-false q ((is_iff (kind_of_name m.kinds n) 0).1 z))
        pick false q (inr z) = covered.bindings n low (fits.bound n low z).given

    value1_in : (line_here m b r t).name1 < length m.kinds → InReach m b r t (line_here m b r t).name1 → T (has (e.rho (line_here m b r t).name1) (number1 m b r t))
    unfolding value1
    value1_in = value_in_lem (line_here m b r t).name1

    input_on : (line_here m b r t).op ≡ op_input → T (has (e.rho (line_here m b r t).name1) (number1 m b r t))
    input_on o = value1_in (valid.input_listed o) (reach.input_channel o)

    output_on : (line_here m b r t).op ≡ op_output → T (has (e.rho (line_here m b r t).name1) (number1 m b r t))
    output_on o = value1_in (valid.output_listed o) (reach.output_channel o)

    output_of : (line_here m b r t).op ≡ op_output → T (has (e.rho (line_here m b r t).name2) (number2 m b r t))
    unfolding value2
    output_of o = value_in_lem (line_here m b r t).name2 (valid.sent_listed o) (reach.output_sent o)

    -- clause 4: what is sent is in kap at the channel (source paper 004, theorem 3.4)
    pub sent_in_lem : (line_here m b r t).op ≡ op_output → T (has (e.kap b (number1 m b r t)) (number2 m b r t))
    sent_in_lem o = met.sent o (number1 m b r t) (number_low _) (output_on o) (number2 m b r t) (number_low _) (output_of o)

    -- the words that a thread goes on with
    goto-length : (l : ℕ) → length (goto (thread r t) l) ≡ 61
    goto-length l = length-set (thread r t) 0 l ∙ fits.size

    onward_length : length (onward m.kinds (box_at m b) r t) ≡ 61
    unfolding onward
    onward_length = goto-length _

    onward_covered : CoversThread e (onward m.kinds (box_at m b) r t)
    unfolding onward
    onward_covered = goto_covered e (thread r t) _ covered

    with_length : (n v : ℕ) → length (onward_with m.kinds (box_at m b) r t n v) ≡ 61
    unfolding onward_with
    with_length n v = length-set (bind (thread r t) n v) 0 _ ∙ length-set (thread r t) (1 + n) v ∙ fits.size

    with_covered : (n v : ℕ) → n < length m.kinds → T (has (e.rho n) (held_number v)) → CoversThread e (onward_with m.kinds (box_at m b) r t n v)
    unfolding onward_with
    with_covered n v l p =
        goto_covered e (bind (thread r t) n v) _ (bind_covered e (thread r t) n v fits.size (omega (arith, k.valid.names)) p covered)

    -- the record where the thread has gone on
    put_onward : Covered e b (put_thread r t (onward m.kinds (box_at m b) r t))
    put_onward = put-thread here t h (onward m.kinds (box_at m b) r t) onward_length onward_covered

    -- a restriction or an expose: the stamp goes up, and a name that may stand for itself is bound
    made_name : (n : ℕ) → n < length m.kinds → T (has (e.rho n) n)
        → Covered e b (put_thread (set_stamp r (stamp r + 1)) t (onward_with m.kinds (box_at m b) r t n (held n (stamp r + 1))))
    made_name n l p =
        put-thread (set-stamp here (stamp r + 1)) t (rw (get_or-set_other r 0 1 (stamp r + 1) 0 (omega arith)) h) _ (with_length n _)
        (with_covered n _ l (rw (number_held n (stamp r + 1) (omega (arith, k.valid.names))) p))

    made-sites : (n v : ℕ) → sites (put_thread (set_stamp r (stamp r + 1)) t (onward_with m.kinds (box_at m b) r t n v)) ≡ sites r
    made-sites n v =
        put-sites (set-stamp here (stamp r + 1)) t (rw (get_or-set_other r 0 1 (stamp r + 1) 0 (omega arith)) h) _ (with_length n v)
        ∙ get_or-set_other r 0 2 (stamp r + 1) 0 (omega arith)

  -- ---- the moves

  drop_covered : (t : ℕ) (s : List ℕ) → drop_move m.kinds (box_at m b) r t ≡ made s → Covered e b s
  drop_covered t s z =
      let d = drop-made m.kinds (box_at m b) r t s z in
      rw d.1 (take-thread here t d.0.live)

  spread_covered : (t : ℕ) (s : List ℕ) → spread_move m.kinds (box_at m b) r t ≡ made s → Covered e b s
  spread_covered t s z =
      let d = spread-made m.kinds (box_at m b) r t s z in
      let h = d.0.live in
      let n = put-threads here t h (onward m.kinds (box_at m b) r t) (onward_length t h) in
      rw d.2 (push_thread_lem (put_onward t h) (omega (arith, d.1)) _ (goto-length t h _) (goto_covered e (thread r t) _ (covered t h)))

  -- clause 3: a restricted name may stand for itself
  new_covered : (t : ℕ) (s : List ℕ) → new_move m.kinds (box_at m b) r t ≡ made s → Covered e b s
  new_covered t s z =
      let d = new_made m.kinds (box_at m b) r t s z in
      let h = d.0.live in
      let o = d.0.op_is in
      rw d.2 (made_name t h _ ((valid t h).restrict_listed o) ((met t h).restricted o))

  copy_covered : (t : ℕ) (s : List ℕ) → copy_move m.kinds (box_at m b) r t ≡ made s → Covered e b s
  copy_covered t s z =
      let d = copy_made m.kinds (box_at m b) r t s z in
      let h = d.0.live in
      rw d.2 (push_thread_lem here d.1 _ (onward_length t h) (onward_covered t h))

  -- clause 7: an exposed name may stand for itself and is shown, and what its type's names stand for is in its eps
  expose_covered : (t : ℕ) (s : List ℕ) → expose_move m.kinds (box_at m b) r t ≡ made s → Covered e b s
  expose_covered t s z =
      let d = expose-made m.kinds (box_at m b) r t s z in
      let h = d.0.live in
      let o = d.0.op_is in
      let n = (line_here m b r t).name1 in
      let v = held n (stamp r + 1) in
      let l = (valid t h).expose_listed o in
      let q = number_held n (stamp r + 1) (omega (arith, k.valid.names)) in
      let hold = value_in m.kinds (thread r t) in
      let type = (line_here m b r t).type in
      let c = made-sites t h n v in
      let site =
      site_covered e b v 0 hold type (λ _. rw q ((met t h).exposed o).shown) (λ f. absurd (f refl))
      (λ g a p. rw q (((met t h).exposed o).type g a p _ (number_low (hold g)) (value_in_lem t h g ((valid t h).expose_type o g a p) ((reach t h).expose_reach o g a p)))) in
      rw d.3 (push_site_lem (made_name t h n l ((met t h).exposed o).self) (omega (arith, d.1)) _ (site-length v 0 hold type) site)

  -- a site turned by hide or unhide: its subject, which is where its old flag says, is where its new flag says
  turn_move_lem : (op before after t : ℕ) (s : List ℕ) → turn_move m.kinds (box_at m b) r op before after t ≡ made s
      → (t < threads r → (line_here m b r t).op ≡ op → (before ≢ 0 → T (has (e.hidden b) (number1 m b r t))) → after ≡ 0 → T (has (e.shown b) (number1 m b r t)))
      → (t < threads r → (line_here m b r t).op ≡ op → (before ≡ 0 → T (has (e.shown b) (number1 m b r t))) → after ≢ 0 → T (has (e.hidden b) (number1 m b r t)))
      → Covered e b s
  turn_move_lem op before after t s z f g =
      let d = turn-made m.kinds (box_at m b) r op before after t s z in
      let h = d.0.live in
      let o = d.0.op_is in
      let i = d.1.0 in
      let found = d.1.1 in
      let c = put-sites here t h (onward m.kinds (box_at m b) r t) (onward_length t h) in
      let size = ((site_iff m k.last (site r i)).0 (k.fits.sites_fit.live i found.live)).size in
      let old = k.covers.sites_covered i found.live in
      let was_hidden : before ≢ 0 → T (has (e.hidden b) (number1 m b r t)) = λ n. rw found.subject_is at (old.hidden (λ q. n (sym found.flag_is ∙ q))) in
      let was_shown : before ≡ 0 → T (has (e.shown b) (number1 m b r t)) = λ n. rw found.subject_is at (old.shown (found.flag_is ∙ n)) in
      rw d.1.2 (put-site (put_onward t h) i (omega (arith, found.live)) _ (length-set (site r i) 1 after ∙ size)
      (turn_covered e b (site r i) after size (rw found.subject_is (f h o was_hidden)) (rw found.subject_is (g h o was_shown)) old))

  -- clause 8: the site is shown before, so its subject is in shown(b)
  hide_covered : (t : ℕ) (s : List ℕ) → turn_move m.kinds (box_at m b) r op_hide 0 1 t ≡ made s → Covered e b s
  hide_covered t s z =
      turn_move_lem op_hide 0 1 t s z (λ h o w n. absurd (omega arith))
      (λ h o w _. (met t h).hid o (number1 m b r t) (number_low _) (value1_in t h ((valid t h).hide_listed o) ((reach t h).hide_reach o)) (w refl))

  -- clause 9: the site is hidden before, so its subject is in hidden(b)
  unhide_covered : (t : ℕ) (s : List ℕ) → turn_move m.kinds (box_at m b) r op_unhide 1 0 t ≡ made s → Covered e b s
  unhide_covered t s z =
      turn_move_lem op_unhide 1 0 t s z
      (λ h o w _. (met t h).unhid o (number1 m b r t) (number_low _) (value1_in t h ((valid t h).unhide_listed o) ((reach t h).unhide_reach o)) (w (omega arith)))
      (λ h o w n. absurd (n refl))

  -- clauses 4 and 5: what is sent is in kap at the channel, and from there in rho of what receives
  intra_covered : (t u : ℕ) (s : List ℕ) → intra_move m.kinds (box_at m b) r t u ≡ made s → Covered e b s
  intra_covered t u s z =
      let d = intra_made m.kinds (box_at m b) r t u s z in
      let h = d.live in
      let g = d.live2 in
      let o = d.op_is in
      let v = value2 m.kinds (box_at m b) r u in
      let q = (line_here m b r t).name2 in
      let sent : T (has (e.kap b (number1 m b r t)) (held_number v)) = rw d.channel (sent_in_lem u g d.op_is2) in
      let got = (met t h).received o (number1 m b r t) (number_low _) (input_on t h o) (held_number v) (number_low v) sent in
      let x = onward_with m.kinds (box_at m b) r t q v in
      let n = put-threads here t h x (with_length t h q v) in
      rw d.leaves (put-thread (put-thread here t h x (with_length t h q v) (with_covered t h q v ((valid t h).received_listed o) got)) u (omega arith) _
      (onward_length u g) (onward_covered u g))

  pub inside_covered : (i : Inside) (t u : ℕ) (s : List ℕ) → inside_move m.kinds (box_at m b) r i t u ≡ made s → Covered e b s
  unfolding inside_move
  inside_covered drop t u s z = drop_covered t s z
  inside_covered spread t u s z = spread_covered t s z
  inside_covered new t u s z = new_covered t s z
  inside_covered copy t u s z = copy_covered t s z
  inside_covered expose t u s z = expose_covered t s z
  inside_covered hide t u s z = hide_covered t s z
  inside_covered unhide t u s z = unhide_covered t s z
  inside_covered intra t u s z = intra_covered t u s z

-- ---- inter

-- two covered sites whose types share a held name: the estimate's types of their subjects share its number
pub share_meet : (e : Estimate) (b c : ℕ) (x y : List ℕ) → CoversSite e b x → CoversSite e c y → T (types_share x y)
    → T (meets (e.eps b (held_number (subject x))) (e.eps c (held_number (subject y))))
unfolding types_share
share_meet e b c x y k l z =
    let p = (any_iff 8 (λ i. type_word x i isnt 0 and any_below 8 (λ j. type_word x i is type_word y j))).0 z in
    let i = p.0 in
    let q = (and_iff (type_word x i isnt 0) (any_below 8 (λ j. type_word x i is type_word y j))).0 p.2 in
    let u = (any_iff 8 (λ j. type_word x i is type_word y j)).0 q.1 in
    let j = u.0 in
    let given : type_word x i ≢ 0 = (isnt_iff (type_word x i) 0).0 q.0 in
    let same : type_word x i ≡ type_word y j = (is_iff (type_word x i) (type_word y j)).0 u.2 in
    (meets_iff (e.eps b (held_number (subject x))) (e.eps c (held_number (subject y)))).1
    (held_number (type_word x i), number_low (type_word x i), k.types i p.1 given, rw same (l.types j u.1 (rw same at given)))

-- the ends of a made inter move between covered records: both channels are shown, and their types in the estimate meet
pub record Linked (e : Estimate) (b c v w : ℕ) : Type 0 where
  pub shown_in : T (has (e.shown b) (held_number v))
  pub shown_out : T (has (e.shown c) (held_number w))
  pub meet : T (meets (e.eps b (held_number v)) (e.eps c (held_number w)))

pub inter-linked : (kinds : List ℕ) (x y : Box) (e : Estimate) (b c : ℕ) (r s : List ℕ) → CoversRecord e b r → CoversRecord e c s → (t u : ℕ) (w : Ends)
    → InterMade kinds x r y s t u w → Linked e b c (value1 kinds x r t) (value1 kinds y s u)
inter-linked kinds x y e b c r s k l t u w d =
    let p = k.sites_covered d.site_in d.found_in.live in
    let q = l.sites_covered d.site_out d.found_out.live in
    record {
      shown_in = rw d.found_in.subject_is at (p.shown d.found_in.flag_is);
      shown_out = rw d.found_out.subject_is at (q.shown d.found_out.flag_is);
      meet = rw (d.found_in.subject_is, d.found_out.subject_is) at (share_meet e b c (site r d.site_in) (site s d.site_out) p q d.share);
    }

-- clauses 4 and 6: what is sent is in kap at the output's channel, and from there in rho of what receives
pub inter_covered : {m : Model} {e : Estimate} {b c : ℕ} {r s : List ℕ} → Here m e b r → Here m e c s → b ≢ c → (t : ℕ) → t < threads r → (u : ℕ) → u < threads s → (w : Ends)
    → inter_move m.kinds (box_at m b) r (box_at m c) s t u ≡ made w → Covered e b w.input × Covered e c w.output
inter_covered {m} {e} {b} {c} {r} {s} k l differ t h u g w z =
    let d = inter-made m.kinds (box_at m b) r (box_at m c) s t u w z in
    let o = d.op_is in
    let both = inter-linked m.kinds (box_at m b) (box_at m c) e b c r s k.covers l.covers t u w d in
    let v = value2 m.kinds (box_at m c) s u in
    let q = (line_here m b r t).name2 in
    let got =
    (met k t h).crossed o (number1 m b r t) (number_low _) (input_on k t h o) both.shown_in c l.box (λ n. differ (sym n))
    (number1 m c s u) (number_low _) both.shown_out ((meets_iff (e.eps b (number1 m b r t)) (e.eps c (number1 m c s u))).0 both.meet) (held_number v) (number_low v) (sent_in_lem l u g d.op_is2) in (
      rw d.input_leaves (put-thread (here k) t h _ (with_length k t h q v) (with_covered k t h q v ((valid k t h).received_listed o) got)),
      rw d.output_leaves (put_onward l u g),
    )
