-- A group of boxes is shut off: in a covered state no inter move between a box inside and one outside is made. Assumes nothing.
use mathlib.Core.Path.{◌≡◌, refl, ap, sym, ◌∙◌}
use mathlib.Core.Logic.{◌≢◌}
use mathlib.Core.Bool.{Bool, true, false, not}
use mathlib.Core.List.{List}
use Prim.Native.Nat.{ℕ, ◌<◌}
use lib.Dec.{T, T_not}
use Rattle.definitions.specs.Bounded.{◌is◌}
use Rattle.definitions.specs.Sets.{has, for_some, meets}
use Rattle.definitions.specs.Model.{Model, box_at, box_count}
use Rattle.definitions.specs.Estimate.{Estimate}
use Rattle.isolation.specs.Group.{only}
use Rattle.definitions.specs.ShutOff.{linked, shut_off}
use Rattle.definitions.specs.Record.{record_of, held_number}
use Rattle.definitions.specs.Moves.{made, value1, inter_act}
use Rattle.definitions.proofs.Bounded.{tests, is_iff, of_true, not-false}
use Rattle.definitions.proofs.Sets.{for_some_iff, meets_comm}
use Rattle.definitions.proofs.Made.{inter_act_lem, inter-made}
use Rattle.definitions.proofs.StateRules.{number_low}
use Rattle.isolation.specs.Covers.{Covers}
use Rattle.isolation.proofs.CoverMoves.{Linked, inter-linked}

-- of the boxes below `boxes`, none inside shares a type name with one outside
pub record GroupShut (e : Estimate) (boxes : ℕ) (inside : ℕ → Bool) : Type 0 where
  pub apart : (h : ℕ) → h < boxes → inside h ≡ true → (k : ℕ) → k < boxes → inside k ≡ false
      → (a : ℕ) → a < 64 → T (has (e.shown h) a) → (c : ℕ) → c < 64 → T (has (e.shown k) c) → T (meets (e.eps h a) (e.eps k c)) → ⊥

-- a box that is shut off is a group of one
pub shut_group : (e : Estimate) (boxes h : ℕ) → T (shut_off e boxes h) → GroupShut e boxes (only h)
unfolding shut_off linked only
shut_group e boxes h t = record {
  apart = λ b hb eb k hk ek a la pa c lc pc q.
      let z : b ≡ h = (is_iff b h).0 (of_true eb) in
      let n : k ≢ h = λ y. not-false ek ((is_iff k h).1 y) in
      let u = (simp tests at t) k hk n in
      T_not (linked e h k) u ((for_some_iff (e.shown h) (λ a. for_some (e.shown k) (λ c. meets (e.eps h a) (e.eps k c)))).1
      (a, la, (rw z at pa), (for_some_iff (e.shown k) (λ c. meets (e.eps h a) (e.eps k c))).1 (c, lc, pc, (rw z at q))));
}

-- two ends that are linked are not on two sides of a shut group; sharing has no direction
linked_shut : (e : Estimate) (boxes : ℕ) (inside : ℕ → Bool) → GroupShut e boxes inside → (b c v w : ℕ) → b < boxes → c < boxes → inside b ≡ not (inside c) → Linked e b c v w → ⊥
linked_shut e boxes inside g b c v w hb hc d k = pick (inside b) refl (inside c) refl d
  where
    pick : (x : Bool) → inside b ≡ x → (y : Bool) → inside c ≡ y → x ≡ not y → ⊥
    pick true p false q d = g.apart b hb p c hc q (held_number v) (number_low v) k.shown_in (held_number w) (number_low w) k.shown_out k.meet
    pick false p true q d =
        g.apart c hc q b hb p (held_number w) (number_low w) k.shown_out (held_number v) (number_low v) k.shown_in
        (rw (meets_comm (e.eps b (held_number v)) (e.eps c (held_number w))) at k.meet)
    pick true p true q d = not-false d tt
    pick false p false q d = not-false (sym d) tt

pub inter-refused : (m : Model) (e : Estimate) (inside : ℕ → Bool) → GroupShut e (box_count m) inside → (st : List ℕ) → Covers m e st
    → (b t c u : ℕ) (w : List ℕ) → inside b ≡ not (inside c) → inter_act m st b t c u ≡ made w → ⊥
inter-refused m e inside g st cov b t c u w d z =
    let i = inter_act_lem m st b t c u w z in
    let k =
    inter-linked m.kinds (box_at m b) (box_at m c) e b c (record_of st b) (record_of st c) (cov.records b i.box) (cov.records c i.box2) t u i.ends
    (inter-made m.kinds (box_at m b) (record_of st b) (box_at m c) (record_of st c) t u i.ends i.is_made) in
    linked_shut e (box_count m) inside g b c (value1 m.kinds (box_at m b) (record_of st b) t) (value1 m.kinds (box_at m c) (record_of st c) u) i.box i.box2 d k

-- the same, as it is used: a made inter move has both its ends inside, or both outside
pub inter-same_side : (m : Model) (e : Estimate) (inside : ℕ → Bool) → GroupShut e (box_count m) inside → (st : List ℕ) → Covers m e st
    → (b t c u : ℕ) (w : List ℕ) → inter_act m st b t c u ≡ made w → inside b ≡ inside c
inter-same_side m e inside g st cov b t c u w z = pick (inside b) refl (inside c) refl
  where
    pick : (x : Bool) → inside b ≡ x → (y : Bool) → inside c ≡ y → inside b ≡ inside c
    pick true p true q = p ∙ sym q
    pick false p false q = p ∙ sym q
    pick true p false q = absurd (inter-refused m e inside g st cov b t c u w (p ∙ sym (ap not q)) z)
    pick false p true q = absurd (inter-refused m e inside g st cov b t c u w (p ∙ sym (ap not q)) z)
