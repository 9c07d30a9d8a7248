-- Laws of the numbers with which moves are refused: each test by what the code finds. Assumes nothing.
use mathlib.Core.Path.{◌≡◌, refl, ap, sym, ◌∙◌}
use mathlib.Core.Bool.{Bool, true, false, not, ◌&&◌}
use mathlib.Core.List.{List, []}
use mathlib.Core.Option.{Option, none, some}
use Prim.Native.Nat.{ℕ, suc, ◌≤◌, ◌<◌}
use native.Mathlib.Omega.{arith}
use lib.Dec.{T, eqb, ltb}
use Rattle.definitions.specs.Bounded.{◌and◌, ◌is◌, ◌isnt◌, ◌below◌}
use Rattle.definitions.specs.Model.{Box, nil, parallel, replication, restriction, output, input, expose}
use Rattle.definitions.specs.Model as model
use Rattle.definitions.specs.Record.{stamp_limit, stamp, threads, sites, take_thread}
use Rattle.definitions.specs.Moves.{Outcome, refused, made, need, on_made, site_with, found, thread_line, value1, at_line, drop_move, spread_move, new_move, copy_move, expose_move, turn_move, intra_move}
use Rattle.definitions.specs.Calls.{outcome_number}
use Rattle.definitions.proofs.Bounded.{and_is, and_iff, is_iff, below_iff, true_of, of_true, false_of, not-false}
use Rattle.records.specs.declared.Line.{Line}
use Rattle.records.specs.Records.{line_in}
use Rattle.deciding.specs.declared.Blocked.{Blocked}
use Rattle.deciding.specs.declared.Blocked.TheVariants.{Nobody, WithSelf, WrongLine, Channel, NoSite, Unfit, Private, Full, Spent}
use Rattle.deciding.specs.Numbers.{blocked_number, unless, passed, line_number, turn_number}

-- ---- a test in front of others

module _ {A : Type 0} where
  pub need_yes : (b : Bool) (n : ℕ) (o : Outcome A) → T b → outcome_number (need b n o) ≡ outcome_number o
  need_yes b n o t = ap (λ (c : Bool). outcome_number (need c n o)) (true_of b t)

  pub need_no : (b : Bool) (n : ℕ) (o : Outcome A) → (T b → ⊥) → n ≡ outcome_number (need b n o)
  need_no b n o t = sym (ap (λ (c : Bool). outcome_number (need c n o)) (false_of b t))

  pub need-last : (b : Bool) (n : ℕ) (w : A) → outcome_number (need b n (made w)) ≡ unless b n
  need-last true n w = refl
  need-last false n w = refl

  -- the number of a move does not go by what it would leave
  pub need-same : {B : Type 0} (b : Bool) (n : ℕ) (o : Outcome A) (q : Outcome B) → outcome_number o ≡ outcome_number q
      → outcome_number (need b n o) ≡ outcome_number (need b n q)
  need-same true n o q e = e
  need-same false n o q e = refl

  pub on_made_number : {B : Type 0} (f : A → B) (o : Outcome A) → outcome_number (on_made f o) ≡ outcome_number o
  on_made_number f (refused n) = refl
  on_made_number f (made a) = refl

-- ---- a reason's number

-- it is not 0
pub blocked_not : (n : Blocked) → 0 ≡ blocked_number n → ⊥
blocked_not Nobody e = omega (arith, e)
blocked_not WithSelf e = omega (arith, e)
blocked_not WrongLine e = omega (arith, e)
blocked_not Channel e = omega (arith, e)
blocked_not NoSite e = omega (arith, e)
blocked_not Unfit e = omega (arith, e)
blocked_not Private e = omega (arith, e)
blocked_not Full e = omega (arith, e)
blocked_not Spent e = omega (arith, e)

-- a test in front of others, as the code gives its number: refused, or as what comes next
pub need_stop : {A : Type 0} (n : Blocked) (b : Bool) (m : ℕ) (o : Outcome A) → blocked_number n ≡ unless b m → blocked_number n ≡ outcome_number (need b m o)
need_stop n true m o e = absurd (blocked_not n (sym e))
need_stop n false m o e = e

pub need_met : (b : Bool) (m : ℕ) → 0 ≡ unless b (suc m) → T b
need_met true m e = tt
need_met false m e = absurd (omega (arith, e))

-- the code's test is the definition's, in front of others or alone
pub tested_stop : {A : Type 0} (n : Blocked) (b c : Bool) (m : ℕ) (o : Outcome A) → b ≡ c → blocked_number n ≡ unless b m → blocked_number n ≡ outcome_number (need c m o)
tested_stop n b c m o q e = need_stop n c m o (e ∙ ap (λ (z : Bool). unless z m) q)

pub tested_goes : {A : Type 0} (b c : Bool) (m v : ℕ) (o : Outcome A) → b ≡ c → 0 ≡ unless b (suc m) → v ≡ outcome_number o → v ≡ outcome_number (need c (suc m) o)
tested_goes b c m v o q z e = e ∙ sym (need_yes c (suc m) o (need_met c m (z ∙ ap (λ (y : Bool). unless y (suc m)) q)))

-- ---- room for a thread, and a stamp

pub room_is : (m n v : ℕ) → m ≡ n → v ≡ unless (ltb m 16) 19 → v ≡ unless (n below 16) 19
unfolding ◌below◌
room_is m n v e h = h ∙ ap (λ (k : ℕ). unless (ltb k 16) 19) e

pub stamp_is : (s n v : ℕ) (b : Bool) → s ≡ n → b ≡ (s below stamp_limit) → v ≡ unless b 20 → v ≡ unless (n below stamp_limit) 20
stamp_is s n v b e d h = h ∙ ap (λ (c : Bool). unless c 20) d ∙ ap (λ (m : ℕ). unless (m below stamp_limit) 20) e

-- ---- a thread at a line

pub op_met : (a op : ℕ) → 0 ≡ unless (eqb a op) 14 → a ≡ op
unfolding ◌is◌
op_met a op z = (is_iff a op).0 (need_met (a is op) 13 z)

module _ (kinds : List ℕ) (x : Box) (r : List ℕ) (t op : ℕ) where
  tests : Bool → Bool → Outcome (List ℕ) → Outcome (List ℕ)
  tests a b o = need a 12 (need b 14 o)

  pub line-nobody : threads r ≤ t → 12 ≡ line_number kinds x r t op
  unfolding line_number at_line
  line-nobody h = need_no (t below threads r) 12 _ (λ u. let q = (below_iff t (threads r)).0 u in omega arith)

  module _ (l : Line) (h : t < threads r) (q : line_in l ≡ thread_line kinds x r t) where
    live : T (t below threads r)
    live = (below_iff t (threads r)).1 h

    op_is : eqb l.op op ≡ ((thread_line kinds x r t).op is op)
    unfolding ◌is◌
    op_is = ap (λ (k : model.Line). eqb k.op op) q

    pub line-is : 0 ≡ unless (eqb l.op op) 14 → 0 ≡ line_number kinds x r t op
    unfolding line_number at_line
    line-is z = tested_goes (eqb l.op op) ((thread_line kinds x r t).op is op) 13 0 passed op_is z refl ∙ sym (need_yes (t below threads r) 12 _ live)

    pub line-wrong : (n : Blocked) → blocked_number n ≡ unless (eqb l.op op) 14 → blocked_number n ≡ line_number kinds x r t op
    unfolding line_number at_line
    line-wrong n z = tested_stop n (eqb l.op op) ((thread_line kinds x r t).op is op) 14 passed op_is z ∙ sym (need_yes (t below threads r) 12 _ live)

  -- an allowed line says that the thread is there, at the line
  zero_of : (a b : Bool) → 0 ≡ outcome_number (tests a b passed) → T a × T b
  unfolding tests
  zero_of true true e = (tt, tt)
  zero_of true false e = let z : ◌≡◌ {A = ℕ} 0 14 = e in absurd (omega arith)
  zero_of false b e = let z : ◌≡◌ {A = ℕ} 0 12 = e in absurd (omega arith)

  at_zero : 0 ≡ line_number kinds x r t op → T (t below threads r) × T ((thread_line kinds x r t).op is op)
  unfolding line_number at_line tests
  at_zero z = zero_of (t below threads r) ((thread_line kinds x r t).op is op) z

  -- a move that asks for a line first: refused for the line, or as what comes next
  pub line_stops : (n : Blocked) (o : Outcome (List ℕ)) → blocked_number n ≡ line_number kinds x r t op
      → blocked_number n ≡ outcome_number (at_line kinds x r t op o)
  unfolding line_number at_line tests
  line_stops n o e = go (t below threads r) ((thread_line kinds x r t).op is op) e
    where
      go : (a b : Bool) → blocked_number n ≡ outcome_number (tests a b passed) → blocked_number n ≡ outcome_number (tests a b o)
      go true true e = absurd (blocked_not n (sym e))
      go true false e = e
      go false b e = e

  pub line_goes : (v : ℕ) (o : Outcome (List ℕ)) → 0 ≡ line_number kinds x r t op → v ≡ outcome_number o → v ≡ outcome_number (at_line kinds x r t op o)
  unfolding line_number at_line tests
  line_goes v o z e = e ∙ sym (need_yes (t below threads r) 12 _ (at_zero z).0 ∙ need_yes ((thread_line kinds x r t).op is op) 14 o (at_zero z).1)

-- ---- the moves inside a box, by the line's number and the test that comes next

module _ (kinds : List ℕ) (x : Box) (r : List ℕ) (t : ℕ) where
  pub drop_number : (a : ℕ) → a ≡ line_number kinds x r t nil → a ≡ outcome_number (drop_move kinds x r t)
  unfolding drop_move line_number at_line
  drop_number a e = e ∙ same (t below threads r) ((thread_line kinds x r t).op is nil) []
    where
      same : (c d : Bool) (w : List ℕ) → outcome_number (need c 12 (need d 14 (made w))) ≡ outcome_number (need c 12 (need d 14 (made (take_thread r t))))
      same true true w = refl
      same true false w = refl
      same false d w = refl

  module _ (n : Blocked) where
    pub spread_stop : blocked_number n ≡ line_number kinds x r t parallel → blocked_number n ≡ outcome_number (spread_move kinds x r t)
    unfolding spread_move
    spread_stop e = line_stops kinds x r t parallel n _ e

    pub new_stop : blocked_number n ≡ line_number kinds x r t restriction → blocked_number n ≡ outcome_number (new_move kinds x r t)
    unfolding new_move
    new_stop e = line_stops kinds x r t restriction n _ e

    pub copy_stop : blocked_number n ≡ line_number kinds x r t replication → blocked_number n ≡ outcome_number (copy_move kinds x r t)
    unfolding copy_move
    copy_stop e = line_stops kinds x r t replication n _ e

    pub expose_stop : blocked_number n ≡ line_number kinds x r t expose → blocked_number n ≡ outcome_number (expose_move kinds x r t)
    unfolding expose_move
    expose_stop e = line_stops kinds x r t expose n _ e

    pub turn_stop : (op before : ℕ) → blocked_number n ≡ line_number kinds x r t op → blocked_number n ≡ turn_number kinds x r op before t
    unfolding turn_number
    turn_stop op before e = line_stops kinds x r t op n _ e

  pub spread_number : (v : ℕ) → 0 ≡ line_number kinds x r t parallel → v ≡ unless (threads r below 16) 19 → v ≡ outcome_number (spread_move kinds x r t)
  unfolding spread_move
  spread_number v z e = line_goes kinds x r t parallel v _ z (e ∙ sym (need-last (threads r below 16) 19 _))

  pub new_number_lem : (v : ℕ) → 0 ≡ line_number kinds x r t restriction → v ≡ unless (stamp r below stamp_limit) 20
      → v ≡ outcome_number (new_move kinds x r t)
  unfolding new_move
  new_number_lem v z e = line_goes kinds x r t restriction v _ z (e ∙ sym (need-last (stamp r below stamp_limit) 20 _))

  pub copy_number : (v : ℕ) → 0 ≡ line_number kinds x r t replication → v ≡ unless (threads r below 16) 19 → v ≡ outcome_number (copy_move kinds x r t)
  unfolding copy_move
  copy_number v z e = line_goes kinds x r t replication v _ z (e ∙ sym (need-last (threads r below 16) 19 _))

  module _ (n : ℕ) (z : 0 ≡ line_number kinds x r t expose) (d : n ≡ sites r) where
    same_sites : ltb n 16 ≡ (sites r below 16)
    unfolding ◌below◌
    same_sites = ap (λ (k : ℕ). ltb k 16) d

    pub expose_full : (b : Blocked) → blocked_number b ≡ unless (ltb n 16) 19 → blocked_number b ≡ outcome_number (expose_move kinds x r t)
    unfolding expose_move
    expose_full b h = line_goes kinds x r t expose (blocked_number b) _ z (tested_stop b (ltb n 16) (sites r below 16) 19 _ same_sites h)

    pub expose_number : (v : ℕ) → 0 ≡ unless (ltb n 16) 19 → v ≡ unless (stamp r below stamp_limit) 20 → v ≡ outcome_number (expose_move kinds x r t)
    unfolding expose_move
    expose_number v h e =
        line_goes kinds x r t expose v _ z
        (tested_goes (ltb n 16) (sites r below 16) 18 v _ same_sites h (e ∙ sym (need-last (stamp r below stamp_limit) 20 _)))

  pub turn_number_lem : (op before after v : ℕ) → v ≡ turn_number kinds x r op before t → v ≡ outcome_number (turn_move kinds x r op before after t)
  unfolding turn_number turn_move at_line
  turn_number_lem op before after v q =
      let lined = (thread_line kinds x r t).op is op in
      let sited = found (site_with r (value1 kinds x r t) before) in
      q ∙ need-same (t below threads r) 12 (need lined 14 (need sited 16 passed)) _
      (need-same lined 14 (need sited 16 passed) _ (need-same sited 16 passed (made _) refl))

module _ (kinds : List ℕ) (x : Box) (r : List ℕ) (op before t v : ℕ) (z : 0 ≡ line_number kinds x r t op) (channel : v ≡ value1 kinds x r t) where
  there : (o : Option ℕ) → o ≡ site_with r v before → found o ≡ found (site_with r (value1 kinds x r t) before)
  there o w = ap found (w ∙ ap (λ (n : ℕ). site_with r n before) channel)

  pub turn_yes : (i : ℕ) → some i ≡ site_with r v before → 0 ≡ turn_number kinds x r op before t
  unfolding turn_number
  turn_yes i w =
      line_goes kinds x r t op 0 _ z
      (sym (need_yes (found (site_with r (value1 kinds x r t) before)) 16 passed (of_true (sym (there (some i) w)))))

  pub turn-none : none ≡ site_with r v before → 16 ≡ turn_number kinds x r op before t
  unfolding turn_number
  turn-none w =
      line_goes kinds x r t op 16 _ z
      (need_no (found (site_with r (value1 kinds x r t) before)) 16 passed (not-false (sym (there none w))))

-- ---- the lines of an input and an output, as they are read

module _ (l k : Line) (n m : model.Line) (q : line_in l ≡ n) (p : line_in k ≡ m) where
  -- the lines that are read are those of the threads
  same-lines : (l.op is input and k.op is output) ≡ (n.op is input and m.op is output)
  same-lines = ap (λ (z : model.Line). z.op is input and k.op is output) q ∙ ap (λ (z : model.Line). n.op is input and z.op is output) p

  module _ {A : Type 0} (o : Outcome A) where
    pub lines_stop : (b : Blocked) → blocked_number b ≡ unless (l.op is input and k.op is output) 14
        → blocked_number b ≡ outcome_number (need (n.op is input and m.op is output) 14 o)
    lines_stop b e = need_stop b (n.op is input and m.op is output) 14 o (e ∙ ap (λ (z : Bool). unless z 14) same-lines)

    pub lines_go : (v : ℕ) → 0 ≡ unless (l.op is input and k.op is output) 14 → v ≡ outcome_number o
        → v ≡ outcome_number (need (n.op is input and m.op is output) 14 o)
    lines_go v z e =
        e ∙ sym (need_yes (n.op is input and m.op is output) 14 o
        (need_met (n.op is input and m.op is output) 13 (z ∙ ap (λ (y : Bool). unless y 14) same-lines)))

pub lines_is : (a b v : ℕ) (t : Bool) → v ≡ unless t 14 → t ≡ (eqb a 5 && eqb b 4) → v ≡ unless (a is input and b is output) 14
unfolding ◌is◌
lines_is a b v t e d = e ∙ ap (λ (z : Bool). unless z 14) (d ∙ and_is (eqb a 5) (eqb b 4))

module _ (a b : ℕ) (z : 0 ≡ unless (eqb a 5 && eqb b 4) 14) where
  lines_met : T (a is input) × T (b is output)
  unfolding ◌is◌
  lines_met = (and_iff (eqb a 5) (eqb b 4)).0 (need_met (eqb a 5 and eqb b 4) 13 (z ∙ ap (λ (y : Bool). unless y 14) (and_is (eqb a 5) (eqb b 4))))

  pub first_met : a ≡ 5
  first_met = (is_iff a 5).0 lines_met.0

  pub second_met : b ≡ 4
  second_met = (is_iff b 4).0 lines_met.1

-- ---- intra

module _ (kinds : List ℕ) (x : Box) (r : List ℕ) (t u : ℕ) where
  pub intra_nobody : threads r ≤ t → 12 ≡ outcome_number (intra_move kinds x r t u)
  unfolding intra_move
  intra_nobody h =
      need_no (t below threads r and u below threads r) 12 _
      (λ z. let q = (below_iff t (threads r)).0 ((and_iff (t below threads r) (u below threads r)).0 z).0 in omega arith)

  pub intra_nobody2 : threads r ≤ u → 12 ≡ outcome_number (intra_move kinds x r t u)
  unfolding intra_move
  intra_nobody2 h =
      need_no (t below threads r and u below threads r) 12 _
      (λ z. let q = (below_iff u (threads r)).0 ((and_iff (t below threads r) (u below threads r)).0 z).1 in omega arith)

  module _ (h : t < threads r) (g : u < threads r) where
    goes : (v : ℕ) (o : Outcome (List ℕ)) → v ≡ outcome_number o → v ≡ outcome_number (need (t below threads r and u below threads r) 12 o)
    goes v o e =
        e ∙ sym (need_yes (t below threads r and u below threads r) 12 o
        ((and_iff (t below threads r) (u below threads r)).1 ((below_iff t (threads r)).1 h, (below_iff u (threads r)).1 g)))

    differ : not (eqb t u) ≡ (t isnt u)
    unfolding ◌isnt◌
    differ = refl

    pub intra_self : (n : Blocked) → blocked_number n ≡ unless (not (eqb t u)) 13 → blocked_number n ≡ outcome_number (intra_move kinds x r t u)
    unfolding intra_move
    intra_self n e = goes (blocked_number n) _ (tested_stop n (not (eqb t u)) (t isnt u) 13 _ differ e)

    module _ (l k : Line) (q : line_in l ≡ thread_line kinds x r t) (p : line_in k ≡ thread_line kinds x r u) (s : 0 ≡ unless (not (eqb t u)) 13) where
      pub intra_wrong : (n : Blocked) → blocked_number n ≡ unless (l.op is input and k.op is output) 14
          → blocked_number n ≡ outcome_number (intra_move kinds x r t u)
      unfolding intra_move
      intra_wrong n e =
          goes (blocked_number n) _
          (tested_goes (not (eqb t u)) (t isnt u) 12 (blocked_number n) _ differ s (lines_stop l k (thread_line kinds x r t) (thread_line kinds x r u) q p _ n e))

      pub intra_number : (v w a : ℕ) (b : Bool) → 0 ≡ unless (l.op is input and k.op is output) 14 → v ≡ value1 kinds x r t → w ≡ value1 kinds x r u
          → b ≡ eqb v w → a ≡ unless b 15 → a ≡ outcome_number (intra_move kinds x r t u)
      unfolding intra_move ◌is◌
      intra_number v w a b z first second f e =
          goes a _
          (tested_goes (not (eqb t u)) (t isnt u) 12 a _ differ s
          (lines_go l k (thread_line kinds x r t) (thread_line kinds x r u) q p _ a z
          (e ∙ ap (λ (c : Bool). unless c 15) (f ∙ ap (λ (n : ℕ). eqb n w) first ∙ ap (λ (n : ℕ). eqb (value1 kinds x r t) n) second)
          ∙ sym (need-last (eqb (value1 kinds x r t) (value1 kinds x r u)) 15 _))))
