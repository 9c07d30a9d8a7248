-- The edits of a record keep its rules. Assumes nothing.
use mathlib.Core.Path.{◌≡◌, ap, sym, ◌∙◌}
use mathlib.Core.Logic.{inl, inr, ◌≢◌}
use mathlib.Core.List.{List}
use Prim.Native.Nat.{ℕ, ◌+◌, ◌*◌, ◌≤◌, ◌<◌}
use native.Mathlib.Omega.{arith}
use native.Mathlib.Decide.{ℕ_discrete}
use lib.ListN.{length, length-set}
use lib.Seq.{get_or-set_same, get_or-set_other}
use Rattle.definitions.specs.Slots.{word}
use Rattle.definitions.specs.Model.{Box, Model}
use Rattle.definitions.specs.Record.{stamp_limit, stamp, threads, sites, site, thread, subject, set_stamp, put_thread, push_thread, take_thread, put_site, push_site}
use Rattle.definitions.specs.StateRules.{site_words_fit, thread_words_fit}
use Rattle.definitions.proofs.Slots.{Apart, length_put_slot, word_put_slot, slot_put-same, slot_put_other}
use Rattle.definitions.proofs.Arrays.{Array, Differ, Outside, array_imp, array_same, differ_same, differ_push, slots_frame, put_array, push_array, take_array, push_length, push_outside, push_count, push_same, push_other, take-length, take_outside}
use Rattle.definitions.proofs.StateRules.{SiteFits, ThreadFits, RecordFits, site_iff, thread_iff}
use Rattle.isolation.proofs.KeepHeld.{site_up, thread_up}

-- the counts stand outside the arrays, and the sites outside the threads
threads-apart : Apart 1 1 163 (61 * 16)
threads-apart = inl (omega arith)

sites-apart : Apart 2 1 3 (10 * 16)
sites-apart = inl (omega arith)

-- ---- what an edit leaves as it was: the words that it does not write, and so the slots that they make up

module _ (r : List ℕ) (l : length r ≡ 1139) where
  module _ (t : ℕ) (h : t < 16) (y : List ℕ) (e : length y ≡ 61) where
    pub put-thread-length : length (put_thread r t y) ≡ 1139
    put-thread-length = length_put_slot 163 61 16 r (omega arith) t h y e ∙ l

    pub put-thread-word : (k : ℕ) → k < 163 → word (put_thread r t y) k ≡ word r k
    put-thread-word k q = word_put_slot 163 61 16 r (omega arith) t h y e k (inl (omega arith))

    pub put-thread-site : (i : ℕ) → i < 16 → site (put_thread r t y) i ≡ site r i
    put-thread-site = slots_frame 3 10 16 r (put_thread r t y) (omega arith) (put-thread-length ∙ sym l) (λ j a b. put-thread-word j (omega arith))

  -- word 0 lies outside both arrays
  pub push_thread-stamp : threads r < 16 → (y : List ℕ) → length y ≡ 61 → stamp (push_thread r y) ≡ stamp r
  push_thread-stamp h y e = push_outside 163 61 16 1 threads-apart r (omega arith) (omega arith) h y e 0 (omega arith) (inl (omega arith))

  pub take-thread-stamp : (t : ℕ) → t < 16 → stamp (take_thread r t) ≡ stamp r
  take-thread-stamp t h = take_outside 163 61 16 1 threads-apart r (omega arith) (omega arith) t h 0 (omega arith) (inl (omega arith))

  pub put-site-stamp : (i : ℕ) → i < 16 → (y : List ℕ) → length y ≡ 10 → stamp (put_site r i y) ≡ stamp r
  put-site-stamp i h y e = word_put_slot 3 10 16 r (omega arith) i h y e 0 (inl (omega arith))

  pub push_site-stamp : sites r < 16 → (y : List ℕ) → length y ≡ 10 → stamp (push_site r y) ≡ stamp r
  push_site-stamp h y e = push_outside 3 10 16 2 sites-apart r (omega arith) (omega arith) h y e 0 (omega arith) (inl (omega arith))

  pub push_site-length : sites r < 16 → (y : List ℕ) → length y ≡ 10 → length (push_site r y) ≡ 1139
  push_site-length h y e = push_length 3 10 16 2 sites-apart r (omega arith) (omega arith) h y e ∙ l

  module _ (v : ℕ) where
    pub set-stamp-length : length (set_stamp r v) ≡ 1139
    set-stamp-length = length-set r 0 v ∙ l

    pub set-stamp-same : stamp (set_stamp r v) ≡ v
    set-stamp-same = get_or-set_same r 0 v 0 (omega arith)

    pub set-stamp-word : (k : ℕ) → k ≢ 0 → word (set_stamp r v) k ≡ word r k
    set-stamp-word k q = get_or-set_other r 0 k v 0 q

    pub set-stamp-site : (i : ℕ) → i < 16 → site (set_stamp r v) i ≡ site r i
    set-stamp-site = slots_frame 3 10 16 r (set_stamp r v) (omega arith) (length-set r 0 v) (λ j a b. set-stamp-word j (omega arith))

    pub set-stamp-thread : (i : ℕ) → i < 16 → thread (set_stamp r v) i ≡ thread r i
    set-stamp-thread = slots_frame 163 61 16 r (set_stamp r v) (omega arith) (length-set r 0 v) (λ j a b. set-stamp-word j (omega arith))

-- ---- the edits keep the rules

module _ (m : Model) (last : ℕ → ℕ) (x : Box) (r : List ℕ) (k : RecordFits m last x r) where
  thread-room : 163 + 61 * 16 ≤ length r
  thread-room = omega (arith, k.size)

  site-room : 3 + 10 * 16 ≤ length r
  site-room = omega (arith, k.size)

  thread-count : 1 < length r
  thread-count = omega (arith, k.size)

  site-count : 2 < length r
  site-count = omega (arith, k.size)

  -- an edit of the threads alone, and of the sites alone: the other array's words are as they were
  edit_threads : (s : List ℕ) → length s ≡ length r → Outside 163 61 16 1 r s → Array 61 16 (thread_words_fit m last x) (threads s) (thread s)
      → RecordFits m last x s
  edit_threads s e o a =
      let w : (j : ℕ) → j ≢ 1 → j < 163 → word s j ≡ word r j = λ j n h. o j n (inl (omega arith)) in
      let v = slots_frame 3 10 16 r s site-room e (λ j a b. w j (omega arith) (omega arith)) in
      let n = w 2 (omega arith) (omega arith) in
      record {
        size = e ∙ k.size;
        stamp_fits = rw (w 0 (omega arith) (omega arith)) k.stamp_fits;
        threads_fit = a;
        sites_fit = array_same 10 16 _ k.sites_fit _ _ n v;
        differ = differ_same k.differ _ _ n (λ i h. v i (omega (arith, k.sites_fit.most)));
      }

  edit_sites : (s : List ℕ) → length s ≡ length r → Outside 3 10 16 2 r s → Array 10 16 (site_words_fit m last) (sites s) (site s)
      → Differ (sites s) (site s) → RecordFits m last x s
  edit_sites s e o a d =
      let w : (j : ℕ) → 163 ≤ j → word s j ≡ word r j = λ j h. o j (omega arith) (inr (omega arith)) in
      record {
        size = e ∙ k.size;
        stamp_fits = rw (o 0 (omega arith) (inl (omega arith))) k.stamp_fits;
        threads_fit = array_same 61 16 _ k.threads_fit _ _ (o 1 (omega arith) (inl (omega arith))) (slots_frame 163 61 16 r s thread-room e (λ j a b. w j a));
        sites_fit = a;
        differ = d;
      }

  pub put-thread_keeps : (t : ℕ) → t < threads r → (y : List ℕ) → ThreadFits m last x y → RecordFits m last x (put_thread r t y)
  put-thread_keeps t h y o =
      let e = o.size in
      let b : t < 16 = omega (arith, k.threads_fit.most) in
      edit_threads _ (length_put_slot 163 61 16 r thread-room t b y e) (λ j _ a. word_put_slot 163 61 16 r thread-room t b y e j a)
      (put_array 163 61 16 1 threads-apart r thread-room thread-count _ k.threads_fit t h y e ((thread_iff m last x y).1 o))

  pub push_thread_keeps : threads r < 16 → (y : List ℕ) → ThreadFits m last x y → RecordFits m last x (push_thread r y)
  push_thread_keeps h y o =
      let e = o.size in
      edit_threads _ (push_length 163 61 16 1 threads-apart r thread-room thread-count h y e)
      (push_outside 163 61 16 1 threads-apart r thread-room thread-count h y e)
      (push_array 163 61 16 1 threads-apart r thread-room thread-count _ k.threads_fit h y e ((thread_iff m last x y).1 o))

  pub take-thread_keeps : (t : ℕ) → t < threads r → RecordFits m last x (take_thread r t)
  take-thread_keeps t h =
      let b : t < 16 = omega (arith, k.threads_fit.most) in
      edit_threads _ (take-length 163 61 16 1 threads-apart r thread-room thread-count t b)
      (take_outside 163 61 16 1 threads-apart r thread-room thread-count t b)
      (take_array 163 61 16 1 threads-apart r thread-room thread-count _ k.threads_fit t h)

  pub push_site_keeps : sites r < 16 → (y : List ℕ) → SiteFits m last y → ((i : ℕ) → i < sites r → subject (site r i) ≢ subject y)
      → RecordFits m last x (push_site r y)
  push_site_keeps h y o d =
      let e = o.size in
      let q = push_other 3 10 16 2 sites-apart r site-room site-count h y e in
      edit_sites _ (push_length 3 10 16 2 sites-apart r site-room site-count h y e)
      (push_outside 3 10 16 2 sites-apart r site-room site-count h y e)
      (push_array 3 10 16 2 sites-apart r site-room site-count _ k.sites_fit h y e ((site_iff m last y).1 o))
      (differ_push k.differ _ _ (push_count 3 10 16 2 sites-apart r site-room site-count h y e) (λ i a. q i (omega arith) (omega arith))
      (λ i a. rw (push_same 3 10 16 2 sites-apart r site-room site-count h y e) (d i a)))

  -- a site is put where one with the same subject stood
  pub put-site_keeps : (i : ℕ) → i < sites r → (y : List ℕ) → SiteFits m last y → subject y ≡ subject (site r i)
      → RecordFits m last x (put_site r i y)
  put-site_keeps i h y o same =
      let e = o.size in
      let b : i < 16 = omega (arith, k.sites_fit.most) in
      let n = word_put_slot 3 10 16 r site-room i b y e 2 sites-apart in
      let subjects : (j : ℕ) → j < sites r → subject (site (put_site r i y) j) ≡ subject (site r j) = λ j q. after j (omega (arith, k.sites_fit.most)) b e (ℕ_discrete i j) in
      edit_sites _ (length_put_slot 3 10 16 r site-room i b y e) (λ j _ a. word_put_slot 3 10 16 r site-room i b y e j a)
      (put_array 3 10 16 2 sites-apart r site-room site-count _ k.sites_fit i h y e ((site_iff m last y).1 o))
      (λ s q a c. rw (subjects q (omega arith), subjects s (omega arith)) (k.differ s q a (omega arith)))
    where
      after : (j : ℕ) → j < 16 → i < 16 → length y ≡ 10 → Dec (i ≡ j) → subject (site (put_site r i y) j) ≡ subject (site r j)
      after j q b e (yes z) = rw (← z) (ap subject (slot_put-same 3 10 16 r site-room i b y e) ∙ same)
      after j q b e (no f) = ap subject (slot_put_other 3 10 16 r site-room i b y e j q (omega arith))

  -- stamps go up: those of the other boxes, and this record's own
  pub record_up : (next : ℕ → ℕ) → ((b : ℕ) → last b ≤ next b) → RecordFits m next x r
  record_up next up = record {
    size = k.size;
    stamp_fits = k.stamp_fits;
    threads_fit = array_imp 61 16 _ _ (thread_up m last next up x) k.threads_fit;
    sites_fit = array_imp 10 16 _ _ (site_up m last next up) k.sites_fit;
    differ = k.differ;
  }

  pub set-stamp_keeps : (v : ℕ) → v ≤ stamp_limit → RecordFits m last x (set_stamp r v)
  set-stamp_keeps v h =
      let f = set-stamp-site r k.size v in
      let n = set-stamp-word r k.size v 2 (omega arith) in
      record {
        size = set-stamp-length r k.size v;
        stamp_fits = rw (set-stamp-same r k.size v) h;
        threads_fit = array_same 61 16 _ k.threads_fit _ _ (set-stamp-word r k.size v 1 (omega arith)) (set-stamp-thread r k.size v);
        sites_fit = array_same 10 16 _ k.sites_fit _ _ n f;
        differ = differ_same k.differ _ _ n (λ i h. f i (omega (arith, k.sites_fit.most)));
      }
