-- When a move gets each of 12 to 20: a move is refused with n exactly when n is the first number, in the order of the tests, that it
-- meets. Assumes nothing.
use mathlib.Core.Path.{◌≡◌, refl, sym, ap, subst, ◌∙◌}
use mathlib.Core.Bool.{Bool, true, false, not}
use mathlib.Core.List.{List, [], ◌∷◌}
use mathlib.Core.Logic.{◌↔◌}
use mathlib.Core.Option.{Option, none, some}
use Prim.Native.Nat.{ℕ, ◌<◌}
use lib.Dec.{T}
use lib.ListN.{get_or}
use Rattle.definitions.specs.Bounded.{◌and◌, ◌or◌, ◌is◌, ◌isnt◌, ◌below◌, some_if, first_below}
use Rattle.definitions.specs.Limits.{slot_limit}
use Rattle.definitions.specs.Model.{Model, box_at, box_count, kind_of_name, nil, parallel, replication, restriction, output as op_output, input as op_input, expose as op_expose, hide as op_hide, unhide as op_unhide}
use Rattle.definitions.specs.Record.{held_number, stamp_limit, stamp, threads, sites, site, record_of}
use Rattle.definitions.specs.Moves.{Inside, drop, spread, new, copy, expose, hide, unhide, intra, Kind, inside, inter, unknown, kind_of_move, Move, Outcome, refused, made, need, on_made, site_with, found, at, types_share, thread_line, value1, value2, at_line, drop_move, spread_move, new_move, copy_move, expose_move, turn_move, intra_move, inside_move, inter_move, inside_act, inter_act, act_as, act}
use Rattle.definitions.proofs.Bounded.{first_found, first_stop, each_none, none_each, fault_some, fault_none, none_fault, true_of}

-- whether number n, from 12 to 20, is met, given which of them are
unfoldable pub meets : Bool → Bool → Bool → Bool → Bool → Bool → Bool → Bool → Bool → ℕ → Bool
meets nobody self wrong_line channel no_site unfit private full spent n =
    (n is 12 and nobody) or (n is 13 and self) or (n is 14 and wrong_line) or (n is 15 and channel) or (n is 16 and no_site)
    or (n is 17 and unfit) or (n is 18 and private) or (n is 19 and full) or (n is 20 and spent)

-- the order of a move's tests: 12 to 20 ascending, but 18 before 16 and 17; the number at place i
abbrev pub order : List ℕ
order = 12 ∷ 13 ∷ 14 ∷ 15 ∷ 18 ∷ 16 ∷ 17 ∷ 19 ∷ 20 ∷ []

abbrev pub test_at : ℕ → ℕ
test_at i = get_or order i 0

-- the first number in that order that is met
abbrev pub first : (ℕ → Bool) → Option ℕ
first met = first_below 9 (λ i. some_if (met (test_at i)) (test_at i))

pub record FirstMet (met : ℕ → Bool) (n : ℕ) : Type 0 where
  pub place : ℕ
  pub listed : place < 9
  pub is_at : test_at place ≡ n
  pub is_met : T (met n)
  pub none_before : (k : ℕ) → k < place → T (met (test_at k)) → ⊥

abbrev pub refused_with : {A : Type 0} → Outcome A → Option ℕ
refused_with (refused n) = some n
refused_with (made a) = none

-- tests in the order of a move, each with its number, give the first number that is met
module _ {A B : Type 0} (f : A → B) (w : A) where
  line_first : (b t l : Bool) → refused_with (need b 12 (on_made f (need t 12 (need l 14 (made w)))))
      ≡ first (meets (not (b and (t and true))) false (not (l and true)) false false false false false false)
  unfolding first_below meets ◌and◌ ◌or◌ ◌is◌
  line_first false t l = refl
  line_first true false l = refl
  line_first true true false = refl
  line_first true true true = refl

  full-first : (b t l n : Bool) → refused_with (need b 12 (on_made f (need t 12 (need l 14 (need n 19 (made w))))))
      ≡ first (meets (not (b and (t and true))) false (not (l and true)) false false false false (not n) false)
  unfolding first_below meets ◌and◌ ◌or◌ ◌is◌
  full-first false t l n = refl
  full-first true false l n = refl
  full-first true true false n = refl
  full-first true true true false = refl
  full-first true true true true = refl

  spent_first : (b t l n : Bool) → refused_with (need b 12 (on_made f (need t 12 (need l 14 (need n 20 (made w))))))
      ≡ first (meets (not (b and (t and true))) false (not (l and true)) false false false false false (not n))
  unfolding first_below meets ◌and◌ ◌or◌ ◌is◌
  spent_first false t l n = refl
  spent_first true false l n = refl
  spent_first true true false n = refl
  spent_first true true true false = refl
  spent_first true true true true = refl

  site-first : (b t l n : Bool) → refused_with (need b 12 (on_made f (need t 12 (need l 14 (need n 16 (made w))))))
      ≡ first (meets (not (b and (t and true))) false (not (l and true)) false (not n) false false false false)
  unfolding first_below meets ◌and◌ ◌or◌ ◌is◌
  site-first false t l n = refl
  site-first true false l n = refl
  site-first true true false n = refl
  site-first true true true false = refl
  site-first true true true true = refl

  expose-first : (b t l n z : Bool) → refused_with (need b 12 (on_made f (need t 12 (need l 14 (need n 19 (need z 20 (made w)))))))
      ≡ first (meets (not (b and (t and true))) false (not (l and true)) false false false false (not n) (not z))
  unfolding first_below meets ◌and◌ ◌or◌ ◌is◌
  expose-first false t l n z = refl
  expose-first true false l n z = refl
  expose-first true true false n z = refl
  expose-first true true true false z = refl
  expose-first true true true true false = refl
  expose-first true true true true true = refl

  intra_first : (b t d l c : Bool) → refused_with (need b 12 (on_made f (need t 12 (need d 13 (need l 14 (need c 15 (made w)))))))
      ≡ first (meets (not (b and t)) (not d) (not l) (not c) false false false false false)
  unfolding first_below meets ◌and◌ ◌or◌ ◌is◌
  intra_first false t d l c = refl
  intra_first true false d l c = refl
  intra_first true true false l c = refl
  intra_first true true true false c = refl
  intra_first true true true true false = refl
  intra_first true true true true true = refl

  inter-first : (b d l p n h : Bool) → refused_with (need b 12 (need d 13 (on_made f (need l 14 (need p 18 (need n 16 (need h 17 (made w))))))))
      ≡ first (meets (not b) (not d) (not l) false (not n) (n and not h) (not p) false false)
  unfolding first_below meets ◌and◌ ◌or◌ ◌is◌
  inter-first false d l p n h = refl
  inter-first true false l p n h = refl
  inter-first true true false p n h = refl
  inter-first true true true false n h = refl
  inter-first true true true true false h = refl
  inter-first true true true true true false = refl
  inter-first true true true true true true = refl

unknown-first : some 12 ≡ first (meets true false false false false false false false false)
unfolding first_below meets ◌and◌ ◌or◌ ◌is◌
unknown-first = refl

some-refused : {A : Type 0} (o : Outcome A) (n : ℕ) → refused_with o ≡ some n → o ≡ refused n
some-refused (refused k) n e = ap (λ (x : Option ℕ). refused (elim x [ none ↦ k | some i ↦ i ])) e
some-refused (made a) n e = absurd (subst (λ (x : Option ℕ). code x) e tt)
  where
    code : Option ℕ → Type 0
    code none = Unit
    code (some i) = ⊥

module _ (m : Model) (st : List ℕ) (v : Move) where
  abbrev b : ℕ
  b = v.box

  abbrev c : ℕ
  c = v.box2

  abbrev t : ℕ
  t = v.thread

  abbrev u : ℕ
  u = v.thread2

  abbrev r : List ℕ
  r = record_of st b

  abbrev s : List ℕ
  s = record_of st c

  -- the line at which thread i of the first box stands, and thread i of the second; what each stands for
  abbrev op_in : ℕ → ℕ
  op_in i = (thread_line m.kinds (box_at m b) r i).op

  abbrev op_at : ℕ → ℕ
  op_at i = (thread_line m.kinds (box_at m c) s i).op

  abbrev channel_in : ℕ → ℕ
  channel_in i = value1 m.kinds (box_at m b) r i

  abbrev channel_at : ℕ → ℕ
  channel_at i = value1 m.kinds (box_at m c) s i

  -- the operation at which a move inside a box needs its first thread
  abbrev pub op_of : Inside → ℕ
  op_of drop = nil
  op_of spread = parallel
  op_of new = restriction
  op_of copy = replication
  op_of expose = op_expose
  op_of hide = op_hide
  op_of unhide = op_unhide
  op_of intra = op_input

  -- intra alone uses a second thread
  abbrev pub second : Inside → Bool → Bool
  second intra test = test
  second drop test = true
  second spread test = true
  second new test = true
  second copy test = true
  second expose test = true
  second hide test = true
  second unhide test = true

  -- 12 no such move kind, box or thread
  abbrev pub nobody : Kind → Bool
  nobody (inside k) = not (b below box_count m and (t below threads r and second k (u below threads r)))
  nobody inter = not (b below box_count m and c below box_count m and t below threads r and u below threads s)
  nobody unknown = true

  -- 13 intra with one thread twice, inter with one box twice
  abbrev pub self : Kind → Bool
  self (inside k) = not (second k (t isnt u))
  self inter = not (b isnt c)
  self unknown = false

  -- 14 a thread is not at the line that the move needs
  abbrev pub wrong_line : Kind → Bool
  wrong_line (inside k) = not (op_in t is op_of k and second k (op_in u is op_output))
  wrong_line inter = not (op_in t is op_input and op_at u is op_output)
  wrong_line unknown = false

  -- 15 intra: channels differ
  abbrev pub channel : Kind → Bool
  channel (inside k) = not (second k (channel_in t is channel_in u))
  channel inter = false
  channel unknown = false

  -- 16 inter: a channel is not a shown site of its own box; hide: not a shown site; unhide: not a hidden one
  abbrev pub no_site : Kind → Bool
  no_site (inside hide) = not (found (site_with r (channel_in t) 0))
  no_site (inside unhide) = not (found (site_with r (channel_in t) 1))
  no_site (inside drop) = false
  no_site (inside spread) = false
  no_site (inside new) = false
  no_site (inside copy) = false
  no_site (inside expose) = false
  no_site (inside intra) = false
  no_site inter = not (found (site_with r (channel_in t) 0) and found (site_with s (channel_at u) 0))
  no_site unknown = false

  -- 17 inter: both sites are there, and their types share no held name
  abbrev pub unfit : Kind → Bool
  unfit (inside k) = false
  unfit inter =
      (found (site_with r (channel_in t) 0) and found (site_with s (channel_at u) 0))
      and not (types_share (site r (at (site_with r (channel_in t) 0))) (site s (at (site_with s (channel_at u) 0))))
  unfit unknown = false

  -- 18 inter: the name sent is of kind 1
  abbrev pub private : Kind → Bool
  private (inside k) = false
  private inter = not (kind_of_name m.kinds (held_number (value2 m.kinds (box_at m c) s u)) isnt 1)
  private unknown = false

  -- 19 16 threads or 16 sites already
  abbrev pub full : Kind → Bool
  full (inside spread) = not (threads r below slot_limit)
  full (inside copy) = not (threads r below slot_limit)
  full (inside expose) = not (sites r below slot_limit)
  full (inside drop) = false
  full (inside new) = false
  full (inside hide) = false
  full (inside unhide) = false
  full (inside intra) = false
  full inter = false
  full unknown = false

  -- 20 the box's stamp is the largest
  abbrev pub spent : Kind → Bool
  spent (inside new) = not (stamp r below stamp_limit)
  spent (inside expose) = not (stamp r below stamp_limit)
  spent (inside drop) = false
  spent (inside spread) = false
  spent (inside copy) = false
  spent (inside hide) = false
  spent (inside unhide) = false
  spent (inside intra) = false
  spent inter = false
  spent unknown = false

  -- the move, as a move of some kind, meets refusal n
  unfoldable pub met_as : Kind → ℕ → Bool
  met_as k n =
      meets (nobody k) (self k) (wrong_line k) (channel k) (no_site k) (unfit k) (private k) (full k) (spent k) n

  unfoldable pub met : ℕ → Bool
  met n = met_as (kind_of_move v.kind) n

  -- as a move of each kind, the number with which it is refused is the first that it meets
  first_as : (k : Kind) → refused_with (act_as m st k v) ≡ first (met_as k)
  unfolding act_as met_as inside_act inter_act inside_move inter_move at_line drop_move spread_move new_move copy_move expose_move turn_move intra_move
  first_as (inside drop) = line_first _ _ (b below box_count m) (t below threads r) (op_in t is nil)
  first_as (inside spread) = full-first _ _ (b below box_count m) (t below threads r) (op_in t is parallel) (threads r below slot_limit)
  first_as (inside new) = spent_first _ _ (b below box_count m) (t below threads r) (op_in t is restriction) (stamp r below stamp_limit)
  first_as (inside copy) = full-first _ _ (b below box_count m) (t below threads r) (op_in t is replication) (threads r below slot_limit)
  first_as (inside expose) =
      expose-first _ _ (b below box_count m) (t below threads r) (op_in t is op_expose) (sites r below slot_limit) (stamp r below stamp_limit)
  first_as (inside hide) = site-first _ _ (b below box_count m) (t below threads r) (op_in t is op_hide) (found (site_with r (channel_in t) 0))
  first_as (inside unhide) = site-first _ _ (b below box_count m) (t below threads r) (op_in t is op_unhide) (found (site_with r (channel_in t) 1))
  first_as (inside intra) =
      intra_first _ _ (b below box_count m) (t below threads r and u below threads r) (t isnt u)
      (op_in t is op_input and op_in u is op_output) (channel_in t is channel_in u)
  first_as inter =
      inter-first _ _ (b below box_count m and c below box_count m and t below threads r and u below threads s) (b isnt c)
      (op_in t is op_input and op_at u is op_output) (kind_of_name m.kinds (held_number (value2 m.kinds (box_at m c) s u)) isnt 1)
      (found (site_with r (channel_in t) 0) and found (site_with s (channel_at u) 0))
      (types_share (site r (at (site_with r (channel_in t) 0))) (site s (at (site_with s (channel_at u) 0))))
  first_as unknown = unknown-first

  pub move_first : refused_with (act m st v) ≡ first met
  unfolding act met
  move_first = first_as (kind_of_move v.kind)

  -- a move is refused with n exactly when n is the first number, in the order of the tests, that it meets
  pub refused_iff : (n : ℕ) → (act m st v ≡ refused n) ↔ FirstMet met n
  refused_iff n = (out, back)
    where
      test : ℕ → Option ℕ
      test i = some_if (met (test_at i)) (test_at i)

      out : act m st v ≡ refused n → FirstMet met n
      out e =
          let x = first_found test 9 n (sym move_first ∙ ap refused_with e) in
          let y = fault_some (met (test_at x.0)) (test_at x.0) n x.2 in
          record {
            place = x.0;
            listed = x.1;
            is_at = y.1;
            is_met = subst (λ (i : ℕ). T (met i)) y.1 y.0;
            none_before = λ k l. fault_none (met (test_at k)) (test_at k) (none_each test x.0 x.3 k l);
          }

      back : FirstMet met n → act m st v ≡ refused n
      back p =
          some-refused (act m st v) n
          (move_first
          ∙ first_stop test 9 p.listed (each_none test p.place (λ k l. none_fault (met (test_at k)) (test_at k) (p.none_before k l)))
          (ap (λ (i : ℕ). some_if (met i) i) p.is_at ∙ ap (λ (x : Bool). some_if x n) (true_of (met n) p.is_met)))
