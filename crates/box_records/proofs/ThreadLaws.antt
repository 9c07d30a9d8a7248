-- Laws of the threads of a record, decided by tables: as many bindings as names bound strictly above, each of those in order, are the
-- bindings of those names and no others. Assumes nothing.
use mathlib.Core.Path.{◌≡◌, refl, sym, ap, ap₂, subst, ◌∙◌}
use mathlib.Core.Bool.{Bool, true, false, not, ◌&&◌}
use mathlib.Core.List.{List, [], ◌∷◌, ◌++◌}
use mathlib.Core.Logic.{◌↔◌, ◌⊎◌, inl, inr}
use Prim.Native.Nat.{ℕ, zero, suc, ◌+◌, ◌-◌, ◌*◌, ◌^◌, ◌≤◌, ◌<◌, max, zero-le}
use native.Mathlib.Nat.{le_antisymm, le_refl}
use native.Mathlib.Omega.{arith}
use native.Mathlib.Decide.{ℕ_discrete}
use lib.Dec.{T, eqb}
use lib.ListN.{length, get_or, take, drop}
use lib.Seq.{get_or-take, get_or-drop}
use mir.Syntax.{w32}
use mir.Val.{Fits, bool_byte}
use Rattle.std.specs.Prelude.{MatchBool}
use Rattle.std.specs.List.{range_with_len, All, AllWithin, HoldsAt}
use Rattle.std.proofs.lemmas.List.Elements.{All-nil, All-push, All-weaker, All-get_or}
use Rattle.std.proofs.lemmas.List.FromFn.{length-range_with_len, get_or-range_with_len}
use Rattle.definitions.specs.Bounded.{◌and◌, ◌is◌, ◌isnt◌, all_below}
use Rattle.definitions.specs.Sets.{has, for_each, size_below, size}
use Rattle.definitions.specs.Slots.{word}
use Rattle.definitions.specs.Model.{Box, Model, line_count, bound_above}
use Rattle.definitions.specs.Record.{threads, thread, line, binding}
use Rattle.definitions.specs.StateRules.{slots_fit, held_fits, thread_words_fit}
use Rattle.definitions.proofs.Bounded.{tests, and_is, is_iff, isnt_iff, all_iff, true_of, of_true, false_of, not-false, same_test, decide}
use Rattle.definitions.proofs.Loops.{passing_stop}
use Rattle.definitions.proofs.Sets.{and-true, and_assoc, for_each_iff, size_out}
use Rattle.definitions.proofs.Slots.{word_slot, slot_length}
use Rattle.definitions.proofs.StateRules.{HeldFits, held_iff, ThreadFits, thread_iff}
use Rattle.sets.specs.Ascending.{LowestOf}
use Rattle.sets.specs.Names.{NamesOnly}
use Rattle.sets.proofs.Ranges.{Each, One, each_in, one_in}
use Rattle.sets.proofs.Walk.{Left, left_start, left_turn, left_name, split_each, none_each}
use Rattle.records.specs.NameSets.{SetOf}
use Rattle.held_limits.specs.declared.Limit.{Limit}
use Rattle.held_limits.specs.Limits.{in_limits, LimitsOf}
use Rattle.box_records.specs.Rules.{clear_between, count_below, has_binding, binding_fits, DecidesBindings, AboveOf, AboveEach, Covering, StandBelow, NamesAbove, DecidesThread, thread_fits_at, DecidesThreads, thread_slots_fit, DecidesThreadSlots}
use Rattle.box_records.proofs.WordLaws.{count_more, count_most, count_cong, count_same, slots_fit_lem}

-- ---- how many names have a binding

pub record CountRun (y : List ℕ) (i c : ℕ) : Type 0 where
  pub so_far : i ≤ 60
  pub same : c ≡ count_below i (has_binding y)

pub count-start : (y : List ℕ) → CountRun y 0 0
unfolding count_below
count-start y = record { so_far = zero-le; same = refl }

-- the bindings of thread t, as a part of the record
abbrev pub binding_words : List ℕ → ℕ → List ℕ
binding_words r t = take (164 + 61 * t + 60 - (164 + 61 * t)) (drop (164 + 61 * t) r)

pub count_turn : (r : List ℕ) (t i c b : ℕ) → CountRun (thread r t) i c → i < 60 → b ≡ bool_byte (not (eqb (get_or (binding_words r t) i 0) 0))
    → CountRun (thread r t) (i + 1) (c + b)
unfolding has_binding ◌isnt◌
count_turn r t i c b p h e = record {
  so_far = omega arith;
  same = ap₂ ◌+◌ p.same (e ∙ ap (λ (v : ℕ). bool_byte (not (eqb v 0))) at ∙ one (not (eqb (binding (thread r t) i) 0)))
      ∙ sym (count_more (has_binding (thread r t)) i);
}
  where
    at : get_or (binding_words r t) i 0 ≡ binding (thread r t) i
    at =
        get_or-take (164 + 61 * t + 60 - (164 + 61 * t)) (drop (164 + 61 * t) r) i 0 (omega arith) ∙ get_or-drop (164 + 61 * t) r i 0
        ∙ ap (word r) (omega arith) ∙ sym (word_slot 163 61 r t (1 + i) (omega arith))

    one : (b : Bool) → bool_byte b ≡ elim b [ true ↦ 1 | false ↦ 0 ]
    one true = refl
    one false = refl

pub count_room : (y : List ℕ) (i c : ℕ) (b : Bool) → CountRun y i c → i < 60 → Fits w32 (c + bool_byte b)
count_room y i c true p h = omega (arith, p.same, count_most (has_binding y) i)
count_room y i c false p h = omega (arith, p.same, count_most (has_binding y) i)

pub count_end : (y : List ℕ) (i c : ℕ) → CountRun y i c → 60 ≤ i → c ≡ count_below 60 (has_binding y)
count_end y i c p h = p.same ∙ ap (λ (n : ℕ). count_below n (has_binding y)) (le_antisymm p.so_far h)

-- ---- the bindings of a set of names

pub record BindingsRun (limits : List Limit) (y : List ℕ) (s left : ℕ) (ok : Bool) : Type 0 where
  pub there : Left s left
  pub known : (m : Model) (last : ℕ → ℕ) → LimitsOf m last limits → (ok and for_each left (binding_fits m last y)) ≡ for_each s (binding_fits m last y)

module _ (limits : List Limit) (y : List ℕ) (s : ℕ) where
  pub bindings_start : s < 2 ^ 64 → BindingsRun limits y s s true
  unfolding ◌and◌
  bindings_start h = record { there = left_start s h; known = λ m last l. refl }

  module _ (left : ℕ) (ok : Bool) (p : BindingsRun limits y s left ok) where
    pub bindings_name : (n rest : ℕ) → NamesOnly s → LowestOf left n rest → n < 60
    bindings_name n rest f w = left_name s left n f p.there (λ z. absurd (omega (arith, w.some_left))) w.lowest

    pub bindings_turn : (n v rest : ℕ) (a : Bool) → LowestOf left n rest → v ≡ binding y n → a ≡ in_limits limits v → BindingsRun limits y s rest (ok && a)
    unfolding binding_fits
    bindings_turn n v rest a w q d = record {
      there = left_turn s left rest p.there (λ z. absurd (omega (arith, w.some_left))) w.others;
      known = λ m last l.
          ap (λ (b : Bool). b and for_each rest (binding_fits m last y)) (and_is ok a ∙ ap (λ (b : Bool). ok and b) (d ∙ l.same v ∙ ap (held_fits m last) q))
          ∙ and_assoc ok (binding_fits m last y n) (for_each rest (binding_fits m last y))
          ∙ ap (λ (b : Bool). ok and b) (sym (split_each (binding_fits m last y) left rest n p.there.fit (λ z. absurd (omega (arith, w.some_left))) w.lowest w.others)) ∙ p.known m last l;
    }

    pub bindings_end : left ≡ 0 → DecidesBindings limits y s ok
    bindings_end z = record {
      decides = λ m last l.
          sym (and-true ok) ∙ ap (λ (b : Bool). ok and b) (sym (none_each (binding_fits m last y) left z)) ∙ p.known m last l;
    }

-- ---- one thread

size-count : (s n : ℕ) → size_below n s ≡ count_below n (has s)
unfolding size_below count_below
size-count s zero = refl
size-count s (suc n) = ap (λ (c : ℕ). c + elim (has s n) [ true ↦ 1 | false ↦ 0 ]) (size-count s n)

-- a set of names below 60 has as many members as numbers below 60 are in it
size_names : (s : ℕ) → NamesOnly s → size s ≡ count_below 60 (has s)
unfolding size
size_names s f = size_out s 63 (out 63 (omega arith) (omega arith)) ∙ size_out s 62 (out 62 (omega arith) (omega arith))
    ∙ size_out s 61 (out 61 (omega arith) (omega arith)) ∙ size_out s 60 (out 60 (omega arith) (omega arith)) ∙ size-count s 60
  where
    out : (n : ℕ) → 60 ≤ n → n < 64 → has s n ≡ false
    out n h l = false_of (has s n) (λ t. absurd (omega (arith, f.below n l t)))

module _ (m : Model) (last : ℕ → ℕ) (x : Box) (y : List ℕ) (long : length y ≡ 61) (stands : line y < line_count x) (s : ℕ) (only : NamesOnly s)
    (above : SetOf s (bound_above x (line y))) where
  member : (n : ℕ) → n < 60 → T (has s n) ↔ T (bound_above x (line y) n)
  member n h = let e = above.at n (omega arith) in (λ t. subst T e t, λ t. subst T (sym e) t)

  -- a thread in order has as many bindings as names are bound strictly above
  thread_counts : T (thread_words_fit m last x y) → count_below 60 (has_binding y) ≡ size s
  unfolding has_binding
  thread_counts t =
      let f = (thread_iff m last x y).0 t in
      count_cong 60 (has_binding y) (has s)
      (λ n h. same_test (has_binding y n) (has s n) (λ b. bound f n h b (decide (has s n)))
      (λ b. (isnt_iff (binding y n) 0).1 (f.bound n h ((member n h).0 b)).given))
      ∙ sym (size_names s only)
    where
      bound : ThreadFits m last x y → (n : ℕ) → n < 60 → T (binding y n isnt 0) → T (has s n) ⊎ (T (has s n) → ⊥) → T (has s n)
      bound f n h b (inl u) = u
      bound f n h b (inr u) = absurd ((isnt_iff (binding y n) 0).0 b (f.unbound n h (λ k. u ((member n h).1 k))))

  -- and where it has as many, it is in order exactly when those names have bindings in order
  thread_words : count_below 60 (has_binding y) ≡ size s → for_each s (binding_fits m last y) ≡ thread_words_fit m last x y
  unfolding binding_fits has_binding
  thread_words e =
      same_test (for_each s (binding_fits m last y)) (thread_words_fit m last x y)
      (λ t. let f : (n : ℕ) → n < 60 → T (has s n) → HeldFits m last (binding y n) =
      λ n h u. (held_iff m last (binding y n)).0 ((for_each_iff s (binding_fits m last y)).0 t n (omega arith) u) in
      (thread_iff m last x y).1 (record {
        size = long;
        stands = stands;
        bound = λ n h b. f n h ((member n h).1 b);
        unbound = λ n h b. unbound n h b f (ℕ_discrete (binding y n) 0);
      }))
      (λ t. let f = (thread_iff m last x y).0 t in
      (for_each_iff s (binding_fits m last y)).1
      (λ n l u. let h : n < 60 = only.below n l u in (held_iff m last (binding y n)).1 (f.bound n h ((member n h).0 u))))
    where
      unbound : (n : ℕ) → n < 60 → (T (bound_above x (line y) n) → ⊥) → ((n : ℕ) → n < 60 → T (has s n) → HeldFits m last (binding y n)) → Dec (binding y n ≡ 0) → binding y n ≡ 0
      unbound n h b f (yes z) = z
      unbound n h b f (no z) =
          absurd (b ((member n h).0 (count_same (has_binding y) (has s) 60 (λ i l u. (isnt_iff (binding y i) 0).1 (f i l u).given) (e ∙ size_names s only) n h ((isnt_iff (binding y n) 0).1 z))))

module _ (limits : List Limit) (up : List ℕ) (lines : ℕ) (r : List ℕ) (t l : ℕ) (at : l ≡ line (thread r t)) where
  pub thread_past : lines ≤ l → DecidesThread limits up lines (thread r t) false
  thread_past h = record {
    decides = λ m last x k a.
        sym (false_of (thread_words_fit m last x (thread r t)) (λ u. let f = (thread_iff m last x (thread r t)).0 u in omega (arith, f.stands, a.count)));
  }

  module _ (long : length r ≡ 1139) (h : t < 16) (inside : l < lines) (names : NamesAbove lines up) where
    pub above_names : NamesOnly (get_or up l 0)
    above_names = names.names l inside

    module _ (c k : ℕ) (counted : c ≡ count_below 60 (has_binding (thread r t))) (sized : k ≡ size (get_or up l 0)) where
      module _ (m : Model) (last : ℕ → ℕ) (x : Box) (a : AboveOf x lines up (thread r t)) where
        here : SetOf (get_or up l 0) (bound_above x (line (thread r t)))
        here = subst (λ (j : ℕ). SetOf (get_or up j 0) (bound_above x (line (thread r t)))) (sym at) (a.at (omega arith))

        long_thread : length (thread r t) ≡ 61
        long_thread = slot_length 163 61 16 r (omega arith) t h

        on_line : line (thread r t) < line_count x
        on_line = omega (arith, a.count)

      pub thread_count : (eqb c k ≡ false) → DecidesThread limits up lines (thread r t) (eqb c k)
      unfolding ◌is◌
      thread_count z = record {
        decides = λ m last x _ a.
            z ∙ sym (false_of (thread_words_fit m last x (thread r t))
            (λ u. not-false z ((is_iff c k).1 (counted ∙ thread_counts m last x (thread r t) (long_thread m last x a) (on_line m last x a) (get_or up l 0) above_names (here m last x a) u ∙ sym sized))));
      }

      pub thread_bound : (w : Bool) → c ≡ k → DecidesBindings limits (thread r t) (get_or up l 0) w → DecidesThread limits up lines (thread r t) w
      thread_bound w e d = record {
        decides = λ m last x b a.
            d.decides m last b
            ∙ thread_words m last x (thread r t) (long_thread m last x a) (on_line m last x a) (get_or up l 0) above_names (here m last x a) (sym counted ∙ e ∙ sized);
      }

-- ---- the lines at which threads stand

module _ (lines used l k : ℕ) (at : l ≡ k) where
  pub covering : l < lines → used ≤ lines → Covering lines used k (max used (l + 1))
  covering h few = record { few = omega arith; most = omega arith; here = λ _. omega (arith, at) }

  pub not_covering : lines ≤ l → used ≤ lines → Covering lines used k used
  not_covering h few = record { few = few; most = le_refl used; here = λ q. absurd (omega (arith, at)) }

-- thread t stands below line n where it stands below `lines`
abbrev Low : List ℕ → ℕ → ℕ → ℕ → Type 0
Low r lines n t = line (thread r t) < lines → line (thread r t) < n

-- so does each of these threads
pub record EachLow (r : List ℕ) (lines : ℕ) (ts : List ℕ) (n : ℕ) : Type 0 where
  pub few : n ≤ lines
  pub each : All (Low r lines n) ts

module _ (r : List ℕ) (lines : ℕ) where
  pub stand_start : EachLow r lines [] 0
  stand_start = record { few = zero-le; each = All-nil (Low r lines 0) }

  pub stand_turn : (ts : List ℕ) (t n m : ℕ) → EachLow r lines ts n → (n ≤ lines → Covering lines n (line (thread r t)) m) → EachLow r lines (ts ++ t ∷ []) m
  stand_turn ts t n m p f =
      let c = f p.few in
      record {
        few = c.few;
        each = All-push (Low r lines m) ts t (All-weaker (Low r lines n) (Low r lines m) (λ i g k. omega (arith, g k, c.most)) ts p.each) c.here;
      }

  pub stand_end : (n : ℕ) → EachLow r lines (range_with_len 0 16) n → StandBelow r lines 16 n
  stand_end n p = record {
    few = p.few;
    each = λ i k. subst (Low r lines n) (omega (arith, get_or-range_with_len 0 16 i 0 k)) (All-get_or (Low r lines n) (range_with_len 0 16) i 0 k p.each);
  }

-- ---- the threads of a record

-- thread t of a record is decided so
abbrev pub decided : List Limit → List ℕ → ℕ → List ℕ → Bool → ℕ → Type 0
decided limits up lines r b t = DecidesThread limits up lines (thread r t) b

module _ (limits : List Limit) (up : List ℕ) (lines : ℕ) (r : List ℕ) (n : ℕ) (few : n ≤ 16) where
  -- the first n threads are decided so, as an iterator over their numbers says
  pub threads_all : (b : Bool) → MatchBool b (Each (decided limits up lines r true) 0 n) (One (decided limits up lines r false) 0 n) → DecidesThreads limits up lines r n b
  unfolding thread_fits_at
  threads_all true h = record {
    decides = λ m last x l a.
        sym (true_of (all_below n (thread_fits_at m last x r)) ((all_iff n (thread_fits_at m last x r)).1
        (λ t k. of_true (sym ((each_in (decided limits up lines r true) 0 n h t zero-le (omega (arith, k))).decides m last x l (a.each t k (omega arith)))))));
  }
  threads_all false h = record {
    decides = λ m last x l a.
        let o = one_in (decided limits up lines r false) 0 n h in
        let i : o.0 < n = omega (arith, o.2) in
        passing_stop n (thread_fits_at m last x r) o.0 false i (o.3.decides m last x l (a.each o.0 i (omega (arith, i)))) refl;
  }

-- each of the first n threads fits, and the other words are zero
thread_slots : (m : Model) (last : ℕ → ℕ) (x : Box) (r : List ℕ) (n : ℕ) → length r ≡ 1139 → n ≡ threads r → n ≤ 16
    → (all_below n (thread_fits_at m last x r) and clear_between r (163 + 61 * n) 1139) ≡ thread_slots_fit m last x r
unfolding thread_slots_fit thread_fits_at
thread_slots m last x r n long e h =
    sym (ap (λ (k : ℕ). slots_fit 61 (thread_words_fit m last x) k (thread r)) (sym e) ∙ slots_fit_lem 163 61 (omega arith) r (omega arith) (thread_words_fit m last x) n h)

-- more than 16 threads; a thread that does not fit; and else the words past the threads
module _ (limits : List Limit) (up : List ℕ) (lines : ℕ) (r : List ℕ) (n : ℕ) (e : n ≡ threads r) where
  pub threads_many : 16 < n → DecidesThreadSlots limits up lines r false
  unfolding thread_slots_fit slots_fit
  threads_many h = record {
    decides = λ m last x l a. sym (false_of (thread_slots_fit m last x r) (λ t. let u = simp tests at t in omega (arith, u.0)));
  }

  module _ (long : length r ≡ 1139) (h : n ≤ 16) (t : Bool) (d : DecidesThreads limits up lines r n t) where
    first : (x : Box) → AboveEach x lines up r (threads r) → AboveEach x lines up r n
    first x a = subst (λ (k : ℕ). AboveEach x lines up r k) (sym e) a

    pub threads-misfit : t ≡ false → DecidesThreadSlots limits up lines r false
    unfolding ◌and◌
    threads-misfit z = record {
      decides = λ m last x l a.
          ap (λ (b : Bool). b and clear_between r (163 + 61 * n) 1139) (sym z ∙ d.decides m last x l (first x a)) ∙ thread_slots m last x r n long e h;
    }

    pub threads-clear : (w : Bool) → t ≡ true → w ≡ clear_between r (163 + 61 * n) 1139 → DecidesThreadSlots limits up lines r w
    unfolding ◌and◌
    threads-clear w z q = record {
      decides = λ m last x l a. ap₂ ◌and◌ (sym z ∙ d.decides m last x l (first x a)) q ∙ thread_slots m last x r n long e h;
    }

pub ruleset stand_rules = (covering, not_covering)

pub ruleset thread_rules = (count-start, count_turn, count_room, count_end, bindings_start, bindings_name, bindings_turn, bindings_end, thread_past, above_names, thread_count, thread_bound, threads_many, threads-misfit, threads-clear)
