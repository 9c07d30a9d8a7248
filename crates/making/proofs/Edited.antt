-- Edits of a thread one after the other: what they leave together. Assumes nothing.
use mathlib.Core.Path.{◌≡◌, ap, sym, ◌∙◌}
use mathlib.Core.Logic.{inl, inr, ◌≢◌}
use mathlib.Core.List.{List}
use Prim.Native.Nat.{ℕ, ◌+◌, ◌*◌, ◌≤◌, ◌<◌}
use native.Mathlib.Omega.{arith}
use lib.ListN.{length, set, length-set}
use lib.Seq.{set-set, set_comm, get_or-set_other}
use Rattle.definitions.specs.Slots.{word, put, slot, put_slot, push_slot}
use Rattle.definitions.specs.Record.{sites, thread, site, set_stamp, put_thread, push_site, goto, bind}
use Rattle.definitions.proofs.Arrays.{slots_frame}
use Rattle.definitions.proofs.Slots.{length-put, word-put-before, part-put_other, part-set_other, put-set, put-apart, slot_length, length_put_slot, slot_put-same, slot_put_other, word_put_slot, slot_set_other, put-put}

module _ (r : List ℕ) (size : length r ≡ 1139) (t : ℕ) (h : t < 16) where
  fits : 163 + 61 * 16 ≤ length r
  fits = omega arith

  pub thread-length : length (thread r t) ≡ 61
  thread-length = slot_length 163 61 16 r fits t h

  pub goto-length : (l : ℕ) → length (goto (thread r t) l) ≡ 61
  goto-length l = length-set (thread r t) 0 l ∙ thread-length

  pub bind-length : (n v : ℕ) → length (bind (thread r t) n v) ≡ 61
  bind-length n v = length-set (thread r t) (1 + n) v ∙ thread-length

  module _ (y : List ℕ) (e : length y ≡ 61) where
    pub put-length : length (put_thread r t y) ≡ 1139
    put-length = length_put_slot 163 61 16 r fits t h y e ∙ size

    pub put_same : thread (put_thread r t y) t ≡ y
    put_same = slot_put-same 163 61 16 r fits t h y e

    pub put_other : (u : ℕ) → u < 16 → u ≢ t → thread (put_thread r t y) u ≡ thread r u
    put_other u l n = slot_put_other 163 61 16 r fits t h y e u l n

    pub put_word : (k : ℕ) → k < 163 → word (put_thread r t y) k ≡ word r k
    put_word k l = word_put_slot 163 61 16 r fits t h y e k (inl (omega arith))

    pub put-site : (i : ℕ) → i < 16 → site (put_thread r t y) i ≡ site r i
    put-site i l =
        slots_frame 3 10 16 r (put_thread r t y) (omega arith) (put-length ∙ sym size) (λ j _ m. put_word j (omega arith)) i l

    pub put_again : (z : List ℕ) → length z ≡ 61 → put_thread (put_thread r t y) t z ≡ put_thread r t z
    unfolding put_slot
    put_again z d = put-put r (163 + 61 * t) y z (omega arith) (omega arith)

    -- the thread that was put goes on to a line
    pub put-goto : (l : ℕ) → put_thread (put_thread r t y) t (goto (thread (put_thread r t y) t) l) ≡ put_thread r t (goto y l)
    put-goto l =
        ap (λ (x : List ℕ). put_thread (put_thread r t y) t (goto x l)) put_same ∙ put_again (goto y l) (length-set y 0 l ∙ e)

  -- another stamp leaves the threads as they are
  pub stamp-thread : (s : ℕ) → thread (set_stamp r s) t ≡ thread r t
  stamp-thread s = slot_set_other 163 61 16 r fits 0 s (inl (omega arith)) t h

pub stamp-length : (r : List ℕ) (s : ℕ) → length r ≡ 1139 → length (set_stamp r s) ≡ 1139
stamp-length r s e = length-set r 0 s ∙ e

pub goto_again : (y : List ℕ) (l m : ℕ) → goto (goto y l) m ≡ goto y m
goto_again y l m = set-set y 0 l m

-- ---- a site behind the others, and a thread: neither matters to the other

module _ (r : List ℕ) (size : length r ≡ 1139) (room : sites r < 16) (x : List ℕ) (ten : length x ≡ 10) where
  at : ℕ
  at = 3 + 10 * sites r

  whole : at + length x ≤ length r
  unfolding at
  whole = omega (arith, ten)

  pub push_length : length (push_site r x) ≡ 1139
  unfolding push_slot put_slot at
  push_length = length-set (put r at x) 2 (sites r + 1) ∙ length-put r at x whole ∙ size

  pub push_thread_lem : (t : ℕ) → t < 16 → thread (push_site r x) t ≡ thread r t
  unfolding push_slot put_slot slot at
  push_thread_lem t h =
      part-set_other (put r at x) 2 (sites r + 1) (163 + 61 * t) 61 (omega (arith, length-put r at x whole)) (inr (omega arith))
      ∙ part-put_other r at x (163 + 61 * t) 61 whole (omega arith) (inr (omega (arith, ten)))

  pub push_apart : (s t : ℕ) → t < 16 → (y : List ℕ) → length y ≡ 61 → put_thread (set_stamp (push_site r x) s) t y ≡ push_site (put_thread (set_stamp r s) t y) x
  unfolding push_slot put_slot at
  push_apart s t h y e =
      ap (λ (z : List ℕ). put z off y) (set_comm (put r at x) 2 0 (sites r + 1) s (omega arith)
      ∙ ap (λ (z : List ℕ). set z 2 (sites r + 1)) (sym (put-set r at x 0 s whole (inl (omega arith)))))
      ∙ put-set (put (set r 0 s) at x) off y 2 (sites r + 1) (omega (arith, length-put (set r 0 s) at x whole0, stamped)) (inl (omega arith))
      ∙ ap (λ (z : List ℕ). set z 2 (sites r + 1)) (put-apart (set r 0 s) at x off y whole0 (omega (arith, stamped)) (inl (omega (arith, ten))))
      ∙ ap (λ (n : ℕ). set (put (put (set r 0 s) off y) (3 + 10 * n) x) 2 (n + 1)) (sym count)
    where
      off : ℕ
      off = 163 + 61 * t

      stamped : length (set r 0 s) ≡ 1139
      stamped = length-set r 0 s ∙ size

      whole0 : at + length x ≤ length (set r 0 s)
      whole0 = omega (arith, stamped, ten)

      count : sites (put (set r 0 s) off y) ≡ sites r
      count = word-put-before (set r 0 s) off y (omega (arith, stamped)) 2 (omega arith) ∙ get_or-set_other r 0 2 s 0 (omega arith)
