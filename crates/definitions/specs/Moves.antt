-- The nine moves. A move inside a box is a function of the name kinds, that box's contents and its record; inter of two such boxes.
-- Assumes nothing.
use Rattle.std.specs.Prelude.{Bool, true, false, List, ◌∷◌, ℕ, zero, suc, ◌+◌}
use Rattle.std.proofs.Math.Option.{Option, none, some}
use Rattle.definitions.specs.Bounded.{◌and◌, ◌is◌, ◌isnt◌, ◌below◌, any_below, some_if, first_below}
use Rattle.definitions.specs.Limits.{slot_limit, type_limit}
use Rattle.definitions.specs.Model.{Line, Box, Model, line_at, box_at, box_count, kind_of_name, nil, parallel, replication, restriction, output as op_output, input as op_input, expose as op_expose, hide as op_hide, unhide as op_unhide}
use Rattle.definitions.specs.Record.{held, held_number, stamp_limit, stamp, threads, sites, site, thread, subject, flag, type_word, line, binding, set_stamp, put_thread, push_thread, take_thread, put_site, push_site, set_flag, goto, bind, record_of, put_record}
use Rattle.definitions.specs.Start.{type_words, free_held}

-- the kinds of moves inside one box, 1 to 8; and all kinds
pub data Inside : Type 0 where
  drop spread new copy expose hide unhide intra : Inside

pub data Kind : Type 0 where
  inside : Inside → Kind
  inter : Kind
  unknown : Kind

unfoldable pub kind_of_move : ℕ → Kind
kind_of_move zero = unknown
kind_of_move (suc zero) = inside drop
kind_of_move (suc (suc zero)) = inside spread
kind_of_move (suc (suc (suc zero))) = inside new
kind_of_move (suc (suc (suc (suc zero)))) = inside copy
kind_of_move (suc (suc (suc (suc (suc zero))))) = inside expose
kind_of_move (suc (suc (suc (suc (suc (suc zero)))))) = inside hide
kind_of_move (suc (suc (suc (suc (suc (suc (suc zero))))))) = inside unhide
kind_of_move (suc (suc (suc (suc (suc (suc (suc (suc zero)))))))) = inside intra
kind_of_move (suc (suc (suc (suc (suc (suc (suc (suc (suc zero))))))))) = inter
kind_of_move (suc (suc (suc (suc (suc (suc (suc (suc (suc (suc n)))))))))) = unknown

-- a move: five numbers; a kind ignores those it does not use
pub record Move : Type 0 where
  pub kind : ℕ
  pub box : ℕ
  pub thread : ℕ
  pub box2 : ℕ
  pub thread2 : ℕ

-- a move is refused with a number, or made
pub data Outcome (A : Type 0) : Type 0 where
  refused : ℕ → Outcome A
  made : A → Outcome A

-- the records of the two ends of an inter move
pub record Ends : Type 0 where
  pub input : List ℕ
  pub output : List ℕ

-- refused with a number, unless a test passes
abbrev pub need : {A : Type 0} → Bool → ℕ → Outcome A → Outcome A
need true n o = o
need false n o = refused n

abbrev pub on_made : {A B : Type 0} → (A → B) → Outcome A → Outcome B
on_made f (refused n) = refused n
on_made f (made a) = made (f a)

-- the site of a record that has the held name v as its subject, and is shown (0) or hidden (1): found by its held name
unfoldable pub site_with : List ℕ → ℕ → ℕ → Option ℕ
site_with r v f = first_below slot_limit (λ i. some_if (i below sites r and subject (site r i) is v and flag (site r i) is f) i)

-- there is such a site; its place
abbrev pub found : Option ℕ → Bool
found none = false
found (some i) = true

abbrev pub at : Option ℕ → ℕ
at none = 0
at (some i) = i

-- two sites' types share a held name
unfoldable pub types_share : List ℕ → List ℕ → Bool
types_share x y = any_below type_limit (λ i. type_word x i isnt 0 and any_below type_limit (λ j. type_word x i is type_word y j))

module _ (kinds : List ℕ) where
  -- what name n stands for in a thread: a free name holds itself, any other is bound
  unfoldable pub value_in : List ℕ → ℕ → ℕ
  value_in y n = elim (kind_of_name kinds n is 0) [ true ↦ free_held n | false ↦ binding y n ]

  module _ (x : Box) (r : List ℕ) where
    -- the line at which thread t stands
    unfoldable pub thread_line : ℕ → Line
    thread_line t = line_at x (line (thread r t))

    -- thread t's words, gone on to its line's first child; the same with name n bound to v
    unfoldable pub onward : ℕ → List ℕ
    onward t = goto (thread r t) (thread_line t).child1

    unfoldable pub onward_with : ℕ → ℕ → ℕ → List ℕ
    onward_with t n v = goto (bind (thread r t) n v) (thread_line t).child1

    -- what the first and the second name of thread t's line stand for
    unfoldable pub value1 : ℕ → ℕ
    value1 t = value_in (thread r t) (thread_line t).name1

    unfoldable pub value2 : ℕ → ℕ
    value2 t = value_in (thread r t) (thread_line t).name2

    -- 12 no such thread, 14 not at the line that the move needs
    unfoldable pub at_line : ℕ → ℕ → Outcome (List ℕ) → Outcome (List ℕ)
    at_line t op o = need (t below threads r) 12 (need ((thread_line t).op is op) 14 o)

    -- 1 drop: nil; removed, later threads move down, the freed last record is zeroed
    unfoldable pub drop_move : ℕ → Outcome (List ℕ)
    drop_move t = at_line t nil (made (take_thread r t))

    -- 2 spread: first child in place, second appended, both with the thread's bindings; 19 full
    unfoldable pub spread_move : ℕ → Outcome (List ℕ)
    spread_move t =
        at_line t parallel (need (threads r below slot_limit) 19
        (made (push_thread (put_thread r t (onward t)) (goto (thread r t) (thread_line t).child2))))

    -- 3 new: stamp up by one, name bound, child; 20 spent
    unfoldable pub new_move : ℕ → Outcome (List ℕ)
    new_move t =
        let n = (thread_line t).name1 in
        let s = stamp r + 1 in
        at_line t restriction (need (stamp r below stamp_limit) 20 (made (put_thread (set_stamp r s) t (onward_with t n (held n s)))))

    -- 4 copy: the replication stays, its child is appended with the same bindings; 19 full
    unfoldable pub copy_move : ℕ → Outcome (List ℕ)
    copy_move t = at_line t replication (need (threads r below slot_limit) 19 (made (push_thread r (onward t))))

    -- 5 expose: stamp up by one, site appended, shown, with the type's held names; subject bound, child; 19 full, 20 spent
    unfoldable pub expose_move : ℕ → Outcome (List ℕ)
    expose_move t =
        let n = (thread_line t).name1 in
        let s = stamp r + 1 in
        at_line t op_expose (need (sites r below slot_limit) 19 (need (stamp r below stamp_limit) 20
        (made (push_site (put_thread (set_stamp r s) t (onward_with t n (held n s)))
        (held n s ∷ 0 ∷ type_words (value_in (thread r t)) (thread_line t).type)))))

    -- 6 hide, 7 unhide: the site whose subject is the held name changes from one flag to the other, child; 16 no such site
    unfoldable pub turn_move : ℕ → ℕ → ℕ → ℕ → Outcome (List ℕ)
    turn_move op before after t =
        let i = site_with r (value1 t) before in
        at_line t op (need (found i) 16 (made (put_site (put_thread r t (onward t)) (at i) (set_flag (site r (at i)) after))))

    -- 8 intra: first thread input, second output, one channel; the sent name is bound, both go to their children; 13 self, 15 channel
    unfoldable pub intra_move : ℕ → ℕ → Outcome (List ℕ)
    intra_move t u =
        need (t below threads r and u below threads r) 12 (need (t isnt u) 13
        (need ((thread_line t).op is op_input and (thread_line u).op is op_output) 14 (need (value1 t is value1 u) 15
        (made (put_thread (put_thread r t (onward_with t (thread_line t).name2 (value2 u))) u (onward u))))))

    -- a move of kinds 1 to 8, with its thread and second thread
    unfoldable pub inside_move : Inside → ℕ → ℕ → Outcome (List ℕ)
    inside_move drop t u = drop_move t
    inside_move spread t u = spread_move t
    inside_move new t u = new_move t
    inside_move copy t u = copy_move t
    inside_move expose t u = expose_move t
    inside_move hide t u = turn_move op_hide 0 1 t
    inside_move unhide t u = turn_move op_unhide 1 0 t
    inside_move intra t u = intra_move t u

  -- 9 inter, the input end first: thread t of the box x with record r, thread u of the box y with record s; 14 wrong line, 18
  -- private, 16 no site, 17 unfit
  module _ (x : Box) (r : List ℕ) (y : Box) (s : List ℕ) where
    unfoldable pub inter_move : ℕ → ℕ → Outcome Ends
    inter_move t u =
        let i = site_with r (value1 x r t) 0 in
        let j = site_with s (value1 y s u) 0 in
        let sent = value2 y s u in
        need ((thread_line x r t).op is op_input and (thread_line y s u).op is op_output) 14
        (need (kind_of_name kinds (held_number sent) isnt 1) 18
        (need (found i and found j) 16
        (need (types_share (site r (at i)) (site s (at j))) 17
        (made (record {
          input = put_thread r t (onward_with x r t (thread_line x r t).name2 sent);
          output = put_thread s u (onward y s u);
        })))))

-- ---- a move in a state

module _ (m : Model) (st : List ℕ) where
  unfoldable pub inside_act : Inside → ℕ → ℕ → ℕ → Outcome (List ℕ)
  inside_act k b t u =
      need (b below box_count m) 12 (on_made (put_record st b) (inside_move m.kinds (box_at m b) (record_of st b) k t u))

  unfoldable pub inter_act : ℕ → ℕ → ℕ → ℕ → Outcome (List ℕ)
  inter_act b t c u =
      need (b below box_count m and c below box_count m and t below threads (record_of st b) and u below threads (record_of st c)) 12
      (need (b isnt c) 13
      (on_made (λ e. put_record (put_record st b e.input) c e.output)
      (inter_move m.kinds (box_at m b) (record_of st b) (box_at m c) (record_of st c) t u)))

  -- a move as a move of some kind
  unfoldable pub act_as : Kind → Move → Outcome (List ℕ)
  act_as (inside k) v = inside_act k v.box v.thread v.thread2
  act_as inter v = inter_act v.box v.thread v.box2 v.thread2
  act_as unknown v = refused 12

  unfoldable pub act : Move → Outcome (List ℕ)
  act v = act_as (kind_of_move v.kind) v
