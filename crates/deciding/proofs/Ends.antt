-- Laws of the numbers of an inter move, by what the code finds at its two ends. Assumes nothing.
use mathlib.Core.Path.{◌≡◌, refl, ap, sym, ◌∙◌}
use mathlib.Core.Bool.{Bool, not}
use mathlib.Core.List.{List, []}
use mathlib.Core.Option.{none, some}
use Prim.Native.Nat.{ℕ, ◌≤◌, ◌<◌}
use native.Mathlib.Omega.{arith}
use lib.Dec.{T, eqb}
use Rattle.definitions.specs.Bounded.{◌and◌, ◌is◌, ◌isnt◌, ◌below◌}
use Rattle.definitions.specs.Model.{Box, kind_of_name, output, input}
use Rattle.definitions.specs.Image.{kinds_of, model_of}
use Rattle.definitions.specs.Record.{held_number, threads, site, put_thread}
use Rattle.definitions.specs.Moves.{Ends, made, need, onward, onward_with, site_with, found, at, types_share, thread_line, value1, value2, inter_move}
use Rattle.definitions.specs.Calls.{outcome_number}
use Rattle.definitions.proofs.Bounded.{and_iff, below_iff, of_true, not-false}
use Rattle.definitions.proofs.Image.{model_kinds}
use Rattle.definitions.proofs.Made.{site-found}
use Rattle.records.specs.declared.Line.{Line}
use Rattle.records.specs.Records.{line_in}
use Rattle.deciding.specs.declared.Blocked.{Blocked}
use Rattle.deciding.specs.Numbers.{blocked_number, unless, passed, is_private, site_tests, channels_number, inter_number}
use Rattle.deciding.proofs.Decided.{need_yes, need_no, need-last, need-same, tested_stop, tested_goes, lines_stop, lines_go}

-- ---- 16 and 17

module _ (r s : List ℕ) (v w : ℕ) where
  both : Bool
  both = found (site_with r v 0) and found (site_with s w 0)

  fit : Bool
  fit = types_share (site r (at (site_with r v 0))) (site s (at (site_with s w 0)))

  module _ (i j : ℕ) (d : some i ≡ site_with r v 0) (g : some j ≡ site_with s w 0) (b : Bool) (z : b ≡ types_share (site r i) (site s j)) where
    there : T both
    unfolding both
    there = (and_iff (found (site_with r v 0)) (found (site_with s w 0))).1 (of_true (sym (ap found d)), of_true (sym (ap found g)))

    fits : b ≡ fit
    unfolding fit
    fits =
        z ∙ ap (λ (n : ℕ). types_share (site r n) (site s j)) (ap at d)
        ∙ ap (λ (n : ℕ). types_share (site r (at (site_with r v 0))) (site s n)) (ap at g)

    pub meet : (n : ℕ) → n ≡ unless b 17 → n ≡ outcome_number (site_tests r s v w)
    unfolding site_tests both fit
    meet n q =
        q ∙ ap (λ (y : Bool). unless y 17) fits ∙ sym (need_yes both 16 (need fit 17 passed) there ∙ need-last fit 17 [])

-- the sites that are looked for by what the channels stand for, if there are such
pub site_low : (r : List ℕ) (v i : ℕ) → some i ≡ site_with r v 0 → i < 16
site_low r v i e = (site-found r v 0 i (sym e)).low

module _ (r s : List ℕ) (v w a : ℕ) (e : a ≡ v) where
  one : site_with r a 0 ≡ site_with r v 0
  one = ap (λ (n : ℕ). site_with r n 0) e

  pub ends_none : none ≡ site_with r a 0 → 16 ≡ outcome_number (site_tests r s v w)
  unfolding site_tests
  ends_none d =
      need_no (found (site_with r v 0) and found (site_with s w 0)) 16 _
      (λ t. not-false (sym (ap found (d ∙ one))) ((and_iff (found (site_with r v 0)) (found (site_with s w 0))).0 t).0)

  module _ (c : ℕ) (f : c ≡ w) where
    two : site_with s c 0 ≡ site_with s w 0
    two = ap (λ (n : ℕ). site_with s n 0) f

    pub ends_none2 : none ≡ site_with s c 0 → 16 ≡ outcome_number (site_tests r s v w)
    unfolding site_tests
    ends_none2 g =
        need_no (found (site_with r v 0) and found (site_with s w 0)) 16 _
        (λ t. not-false (sym (ap found (g ∙ two))) ((and_iff (found (site_with r v 0)) (found (site_with s w 0))).0 t).1)

pub ends_meet : (r s : List ℕ) (v w n : ℕ) (b : Bool) → n ≡ unless b 17 → (i j : ℕ) → b ≡ types_share (site r i) (site s j)
    → (a : ℕ) → some i ≡ site_with r a 0 → a ≡ v → (c : ℕ) → some j ≡ site_with s c 0 → c ≡ w → n ≡ outcome_number (site_tests r s v w)
ends_meet r s v w n b q i j z a d e c g f =
    meet r s v w i j (d ∙ ap (λ (k : ℕ). site_with r k 0) e) (g ∙ ap (λ (k : ℕ). site_with s k 0) f) b z n q

-- ---- 18, and then the sites

pub sent_private : (image : List ℕ) (x k n y : ℕ) → k ≡ kind_of_name (kinds_of image) n → n ≡ held_number y → y ≡ x
    → eqb k 1 ≡ is_private (model_of image).kinds x
unfolding is_private ◌is◌
sent_private image x k n y e d q =
    ap (λ (i : ℕ). eqb i 1)
    (e ∙ ap (λ (l : List ℕ). kind_of_name l n) (sym (model_kinds image)) ∙ ap (kind_of_name (model_of image).kinds) (d ∙ ap held_number q))

module _ (kinds r s : List ℕ) (v w x : ℕ) (b : Bool) (e : b ≡ is_private kinds x) where
  pub channels_private : (n : Blocked) → blocked_number n ≡ unless (not b) 18 → blocked_number n ≡ channels_number kinds r s v w x
  unfolding channels_number
  channels_private n q = tested_stop n (not b) (not (is_private kinds x)) 18 (site_tests r s v w) (ap not e) q

  pub channels_sites : (n : ℕ) → 0 ≡ unless (not b) 18 → n ≡ outcome_number (site_tests r s v w) → n ≡ channels_number kinds r s v w x
  unfolding channels_number
  channels_sites n q d = tested_goes (not b) (not (is_private kinds x)) 17 n (site_tests r s v w) (ap not e) q d

-- ---- 14, and then the channels

module _ (kinds : List ℕ) (x : Box) (r : List ℕ) (y : Box) (s : List ℕ) (t u : ℕ) (l k : Line) (q : line_in l ≡ thread_line kinds x r t)
    (p : line_in k ≡ thread_line kinds y s u) where
  pub between_wrong : (n : Blocked) → blocked_number n ≡ unless (l.op is input and k.op is output) 14
      → blocked_number n ≡ outcome_number (inter_move kinds x r y s t u)
  unfolding inter_move
  between_wrong n e = lines_stop l k (thread_line kinds x r t) (thread_line kinds y s u) q p _ n e

  pub between_number : (n : ℕ) → 0 ≡ unless (l.op is input and k.op is output) 14
      → n ≡ channels_number kinds r s (value1 kinds x r t) (value1 kinds y s u) (value2 kinds y s u)
      → n ≡ outcome_number (inter_move kinds x r y s t u)
  unfolding inter_move channels_number site_tests is_private ◌is◌ ◌isnt◌
  between_number n z e =
      lines_go l k (thread_line kinds x r t) (thread_line kinds y s u) q p _ n z
      (e ∙ need-same public 18 (need sited 16 (need meet 17 passed)) (need sited 16 (need meet 17 (made ends)))
      (need-same sited 16 (need meet 17 passed) (need meet 17 (made ends)) (need-same meet 17 passed (made ends) refl)))
    where
      sited : Bool
      sited = found (site_with r (value1 kinds x r t) 0) and found (site_with s (value1 kinds y s u) 0)

      meet : Bool
      meet = types_share (site r (at (site_with r (value1 kinds x r t) 0))) (site s (at (site_with s (value1 kinds y s u) 0)))

      public : Bool
      public = kind_of_name kinds (held_number (value2 kinds y s u)) isnt 1

      ends : Ends
      ends = record {
        input = put_thread r t (onward_with kinds x r t (thread_line kinds x r t).name2 (value2 kinds y s u));
        output = put_thread s u (onward kinds y s u);
      }

-- ---- 12 and 13

module _ (kinds : List ℕ) (x : Box) (r : List ℕ) (y : Box) (s : List ℕ) (b t c u : ℕ) where
  pub inter-nobody : threads r ≤ t → 12 ≡ inter_number kinds x r y s b t c u
  unfolding inter_number
  inter-nobody h =
      need_no (t below threads r and u below threads s) 12 _
      (λ z. let q = (below_iff t (threads r)).0 ((and_iff (t below threads r) (u below threads s)).0 z).0 in omega arith)

  pub inter_nobody2 : threads s ≤ u → 12 ≡ inter_number kinds x r y s b t c u
  unfolding inter_number
  inter_nobody2 h =
      need_no (t below threads r and u below threads s) 12 _
      (λ z. let q = (below_iff u (threads s)).0 ((and_iff (t below threads r) (u below threads s)).0 z).1 in omega arith)

  module _ (h : t < threads r) (l : u < threads s) where
    live : T (t below threads r and u below threads s)
    live = (and_iff (t below threads r) (u below threads s)).1 ((below_iff t (threads r)).1 h, (below_iff u (threads s)).1 l)

    differ : not (eqb b c) ≡ (b isnt c)
    unfolding ◌isnt◌
    differ = refl

    pub inter_self : (n : Blocked) → blocked_number n ≡ unless (not (eqb b c)) 13 → blocked_number n ≡ inter_number kinds x r y s b t c u
    unfolding inter_number
    inter_self n e =
        tested_stop n (not (eqb b c)) (b isnt c) 13 (inter_move kinds x r y s t u) differ e
        ∙ sym (need_yes (t below threads r and u below threads s) 12 (need (b isnt c) 13 (inter_move kinds x r y s t u)) live)

    pub inter_number_lem : (v : ℕ) → 0 ≡ unless (not (eqb b c)) 13 → v ≡ outcome_number (inter_move kinds x r y s t u)
        → v ≡ inter_number kinds x r y s b t c u
    unfolding inter_number
    inter_number_lem v z q =
        tested_goes (not (eqb b c)) (b isnt c) 12 v (inter_move kinds x r y s t u) differ z q
        ∙ sym (need_yes (t below threads r and u below threads s) 12 (need (b isnt c) 13 (inter_move kinds x r y s t u)) live)
