-- What is held stays in order while stamps go up; what a name stands for is in order; a thread that goes on to a child stays in order.
-- Assumes nothing.
use mathlib.Core.Path.{◌≡◌, refl, ◌∙◌}
use mathlib.Core.Logic.{◌⊎◌, inl, inr, ◌≢◌}
use mathlib.Core.Bool.{true, false}
use mathlib.Core.List.{List}
use mathlib.Core.Option.{some}
use Prim.Native.Nat.{ℕ, ◌+◌, ◌≤◌, ◌<◌}
use native.Mathlib.Nat.{le_trans}
use native.Mathlib.Omega.{arith}
use native.Mathlib.Decide.{ℕ_discrete}
use lib.Dec.{T}
use lib.ListN.{length, length-set}
use lib.Seq.{get_or-set_same, get_or-set_other}
use Rattle.definitions.specs.Bounded.{◌and◌, ◌or◌, ◌is◌}
use Rattle.definitions.specs.Model.{Line, Box, Model, line_count, kind_of_name, restriction, input, expose, binds, bound_above, owner}
use Rattle.definitions.specs.Record.{held, held_number, held_stamp, subject, type_word, line, binding, goto, bind}
use Rattle.definitions.specs.Start.{free_held}
use Rattle.definitions.specs.StateRules.{site_words_fit, thread_words_fit}
use Rattle.definitions.specs.Moves.{value_in}
use Rattle.definitions.proofs.Bounded.{is_iff, decide, true_of, false_of}
use Rattle.definitions.proofs.Sets.{or-false}
use Rattle.definitions.proofs.StateRules.{HeldFits, ThreadFits, site_iff, thread_iff}

-- ---- a held name's number and stamp

pub number_held : (n s : ℕ) → n < 64 → held_number (held n s) ≡ n
unfolding held_number held
number_held n s h = omega arith

pub stamp-held : (n s : ℕ) → n < 64 → held_stamp (held n s) ≡ s
unfolding held_stamp held
stamp-held n s h = omega arith

pub held_given : (n s : ℕ) → held n s ≢ 0
unfolding held
held_given n s = omega arith

module _ (m : Model) (last : ℕ → ℕ) where
  -- stamp 0 for a free name, 1 up to its box's last stamp for a made one
  pub held_fits_lem : (n s : ℕ) → n < 64 → n < length m.kinds → kind_of_name m.kinds n ≢ 2 → (kind_of_name m.kinds n ≡ 0 → s ≡ 0)
      → (kind_of_name m.kinds n ≢ 0 → (b : ℕ) × (owner m n ≡ some b) × (1 ≤ s) × (s ≤ last b)) → HeldFits m last (held n s)
  held_fits_lem n s h l k f g =
      let e = number_held n s h in
      let d = stamp-held n s h in
      record { given = held_given n s; listed = rw e l; not_received = rw e k; free = rw (e, d) f; made = rw (e, d) g }

  pub free_fits : (n : ℕ) → n < 64 → n < length m.kinds → kind_of_name m.kinds n ≡ 0 → HeldFits m last (free_held n)
  free_fits n h l k = held_fits_lem n 0 h l (omega arith) (λ _. refl) (λ f. absurd (f k))

  pub made_fits : (n s b : ℕ) → n < 64 → n < length m.kinds → kind_of_name m.kinds n ≢ 2 → kind_of_name m.kinds n ≢ 0 → owner m n ≡ some b
      → 1 ≤ s → s ≤ last b → HeldFits m last (held n s)
  made_fits n s b h l k z o p q = held_fits_lem n s h l k (λ e. absurd (z e)) (λ _. (b, o, p, q))

-- ---- stamps go up: a last stamp bounds from above only, so what was in order stays so

module _ (m : Model) (last next : ℕ → ℕ) (up : (b : ℕ) → last b ≤ next b) where
  pub held_up : (v : ℕ) → HeldFits m last v → HeldFits m next v
  held_up v h = record {
    given = h.given;
    listed = h.listed;
    not_received = h.not_received;
    free = h.free;
    made = λ e. let x = h.made e in (x.0, x.1, x.2, le_trans x.3 (up x.0));
  }

  pub site_up : (x : List ℕ) → T (site_words_fit m last x) → T (site_words_fit m next x)
  site_up x t =
      let s = (site_iff m last x).0 t in
      (site_iff m next x).1 (record {
        size = s.size;
        subject_fits = held_up (subject x) s.subject_fits;
        subject_kind = s.subject_kind;
        flag_fits = s.flag_fits;
        type_some = s.type_some;
        type_fits = λ i h e. held_up (type_word x i) (s.type_fits i h e);
        type_before = s.type_before;
        type_ascends = s.type_ascends;
      })

  pub thread_fits_up : (x : Box) (y : List ℕ) → ThreadFits m last x y → ThreadFits m next x y
  thread_fits_up x y s = record {
    size = s.size;
    stands = s.stands;
    bound = λ n h b. held_up (binding y n) (s.bound n h b);
    unbound = s.unbound;
  }

  pub thread_up : (x : Box) (y : List ℕ) → T (thread_words_fit m last x y) → T (thread_words_fit m next x y)
  thread_up x y t = (thread_iff m next x y).1 (thread_fits_up x y ((thread_iff m last x y).0 t))

-- ---- what a line binds

pub binds-none : (l : Line) → l.op ≢ restriction → l.op ≢ expose → l.op ≢ input → (n : ℕ) → binds l n ≡ false
unfolding binds ◌or◌ ◌and◌
binds-none l a b c n =
    rw (
      false_of (l.op is restriction) (λ t. a ((is_iff l.op restriction).0 t)),
      false_of (l.op is expose) (λ t. b ((is_iff l.op expose).0 t)),
      false_of (l.op is input) (λ t. c ((is_iff l.op input).0 t)),
    )

pub binds-restriction : (l : Line) → l.op ≡ restriction → (n : ℕ) → binds l n ≡ (l.name1 is n)
unfolding binds ◌or◌ ◌and◌ ◌is◌
binds-restriction l e n = rw e (or-false (l.name1 is n))

pub binds-expose : (l : Line) → l.op ≡ expose → (n : ℕ) → binds l n ≡ (l.name1 is n)
unfolding binds ◌or◌ ◌and◌ ◌is◌
binds-expose l e n = rw e (or-false (l.name1 is n))

pub binds-input : (l : Line) → l.op ≡ input → (n : ℕ) → binds l n ≡ (l.name2 is n)
unfolding binds ◌or◌ ◌and◌ ◌is◌
binds-input l e n = rw e

-- ---- threads

module _ (m : Model) (last : ℕ → ℕ) (x : Box) (y : List ℕ) (s : ThreadFits m last x y) where
  -- a free name holds itself; any other that is bound above the line has a binding
  pub value_fits : length m.kinds ≤ 60 → (n : ℕ) → n < length m.kinds → (kind_of_name m.kinds n ≡ 0) ⊎ T (bound_above x (line y) n)
      → HeldFits m last (value_in m.kinds y n)
  unfolding value_in
  value_fits most n h reach = pick (decide (kind_of_name m.kinds n is 0)) reach
    where
      pick : T (kind_of_name m.kinds n is 0) ⊎ (T (kind_of_name m.kinds n is 0) → ⊥) → (kind_of_name m.kinds n ≡ 0) ⊎ T (bound_above x (line y) n)
          → HeldFits m last (elim (kind_of_name m.kinds n is 0) [ true ↦ free_held n | false ↦ binding y n ])
      pick (inl t) o = rw (true_of (kind_of_name m.kinds n is 0) t) (free_fits m last n (omega arith) h ((is_iff (kind_of_name m.kinds n) 0).0 t))
      pick (inr f) (inl e) = absurd (f ((is_iff (kind_of_name m.kinds n) 0).1 e))
      pick (inr f) (inr b) = rw (false_of (kind_of_name m.kinds n is 0) f) (s.bound n (omega arith) b)

  -- a thread goes on to a line above which the same is bound
  pub goto_fits : (l : ℕ) → l < line_count x → ((n : ℕ) → bound_above x l n ≡ bound_above x (line y) n) → ThreadFits m last x (goto y l)
  goto_fits l h a =
      let size = s.size in
      let e : line (goto y l) ≡ l = get_or-set_same y 0 l 0 (omega arith) in
      let other : (n : ℕ) → binding (goto y l) n ≡ binding y n = λ n. get_or-set_other y 0 (1 + n) l 0 (omega arith) in
      record {
        size = length-set y 0 l ∙ size;
        stands = rw e h;
        bound = λ n q. rw (e, a n, other n) (s.bound n q);
        unbound = λ n q. rw (e, a n, other n) (s.unbound n q);
      }

  -- a name is bound, and the thread goes on to a line above which that name and the same others are bound
  pub bind_fits : (k v l : ℕ) → k < 60 → HeldFits m last v → l < line_count x
      → ((n : ℕ) → bound_above x l n ≡ (k is n or bound_above x (line y) n)) → ThreadFits m last x (goto (bind y k v) l)
  unfolding ◌or◌
  bind_fits k v l low v-fits h a =
      let size = s.size in
      let e : line (goto (bind y k v) l) ≡ l = get_or-set_same (bind y k v) 0 l 0 (omega (arith, length-set y (1 + k) v)) in
      record {
        size = length-set (bind y k v) 0 l ∙ length-set y (1 + k) v ∙ size;
        stands = rw e h;
        bound = λ n q. rw (e, a n, after n) (bound n q (ℕ_discrete k n));
        unbound = λ n q. rw (e, a n, after n) (unbound n q (ℕ_discrete k n));
      }
    where
      after : (n : ℕ) → binding (goto (bind y k v) l) n ≡ binding (bind y k v) n
      after n = get_or-set_other (bind y k v) 0 (1 + n) l 0 (omega arith)

      here : binding (bind y k v) k ≡ v
      here = get_or-set_same y (1 + k) v 0 (omega (arith, s.size))

      there : (n : ℕ) → k ≢ n → binding (bind y k v) n ≡ binding y n
      there n f = get_or-set_other y (1 + k) (1 + n) v 0 (omega arith)

      bound : (n : ℕ) → n < 60 → Dec (k ≡ n) → T (k is n or bound_above x (line y) n) → HeldFits m last (binding (bind y k v) n)
      bound n q (yes z) t = rw (← z, here) v-fits
      bound n q (no f) t =
          rw (there n f) (s.bound n q (rw (false_of (k is n) (λ u. f ((is_iff k n).0 u))) at t))

      unbound : (n : ℕ) → n < 60 → Dec (k ≡ n) → (T (k is n or bound_above x (line y) n) → ⊥) → binding (bind y k v) n ≡ 0
      unbound n q (yes z) t = absurd (t (rw (true_of (k is n) ((is_iff k n).1 z)) tt))
      unbound n q (no f) t =
          there n f ∙ s.unbound n q (rw (false_of (k is n) (λ u. f ((is_iff k n).0 u))) at t)
