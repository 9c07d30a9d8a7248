-- The edits of a record keep it covered: what stands in a slot is covered where what was put there is. Assumes nothing.
use mathlib.Core.Path.{◌≡◌, ◌∙◌}
use mathlib.Core.Logic.{inl, inr, ◌≢◌}
use mathlib.Core.List.{List, ◌∷◌}
use Prim.Native.Nat.{ℕ, ◌+◌, ◌-◌, ◌*◌, ◌≤◌, ◌<◌}
use native.Mathlib.Omega.{arith}
use native.Mathlib.Decide.{ℕ_discrete, dec_lt}
use lib.Dec.{T}
use lib.ListN.{length, length-set}
use lib.Seq.{get_or-set_same, get_or-set_other}
use Rattle.definitions.specs.Sets.{has}
use Rattle.definitions.specs.Slots.{word, slot, put_slot, push_slot, take_slot}
use Rattle.definitions.specs.Estimate.{Estimate}
use Rattle.definitions.specs.Record.{held_number, threads, sites, site, thread, subject, binding, set_stamp, put_thread, push_thread, take_thread, put_site, push_site, set_flag, goto, bind}
use Rattle.definitions.specs.Start.{type_words}
use Rattle.definitions.proofs.Slots.{Apart, length_put_slot, slot_put-same, slot_put_other, word_put_slot}
use Rattle.definitions.proofs.Arrays.{Outside, slots_frame, push_length, push_outside, push_count, push_same, push_other, take-length, take_outside, take_count, take_below, take_above}
use Rattle.isolation.specs.Covers.{CoversThread, CoversSite, CoversRecord}
use Rattle.definitions.proofs.TypeWords.{length-type_words, type_each}
use Rattle.isolation.proofs.KeepSite.{type_word-is}

-- ---- the live slots of an array: each has a property

module _ (base w cap c : ℕ) (out : Apart c 1 base (w * cap)) (r : List ℕ) (fits : base + w * cap ≤ length r) (cin : c < length r) where
  module _ (P : List ℕ → Type 0) (most : word r c ≤ cap) (k : (i : ℕ) → i < word r c → P (slot base w r i)) where
    pub put_live : (t : ℕ) → t < word r c → (x : List ℕ) → length x ≡ w → P x → (i : ℕ) → i < word (put_slot base w r t x) c → P (slot base w (put_slot base w r t x) i)
    put_live t h x e p i l =
        let n = word_put_slot base w cap r fits t (omega arith) x e c out in
        pick (ℕ_discrete t i) (omega arith)
      where
        pick : Dec (t ≡ i) → i < word r c → P (slot base w (put_slot base w r t x) i)
        pick (yes z) q = rw (← z, slot_put-same base w cap r fits t (omega arith) x e) p
        pick (no z) q = rw (slot_put_other base w cap r fits t (omega arith) x e i (omega arith) (omega arith)) (k i q)

    pub push_live : word r c < cap → (x : List ℕ) → length x ≡ w → P x → (i : ℕ) → i < word (push_slot base w c r x) c → P (slot base w (push_slot base w c r x) i)
    push_live h x e p i l =
        let n = push_count base w cap c out r fits cin h x e in
        pick (ℕ_discrete (word r c) i) (omega arith)
      where
        pick : Dec (word r c ≡ i) → i < word r c + 1 → P (slot base w (push_slot base w c r x) i)
        pick (yes z) q = rw (← z, push_same base w cap c out r fits cin h x e) p
        pick (no z) q = rw (push_other base w cap c out r fits cin h x e i (omega arith) (omega arith)) (k i (omega arith))

    pub take_live : (t : ℕ) → t < word r c → (i : ℕ) → i < word (take_slot base w cap c r t) c → P (slot base w (take_slot base w cap c r t) i)
    take_live t h i l =
        let n = take_count base w cap c out r fits cin t (omega arith) in
        pick (dec_lt i t) (omega arith)
      where
        pick : Dec (i < t) → i < word r c - 1 → P (slot base w (take_slot base w cap c r t) i)
        pick (yes q) a = rw (take_below base w cap c out r fits cin t (omega arith) i q) (k i (omega arith))
        pick (no q) a = rw (take_above base w cap c out r fits cin t (omega arith) i (omega arith) (omega arith)) (k (i + 1) (omega arith))

-- ---- a thread's words and a site's

pub goto_covered : (e : Estimate) (y : List ℕ) (l : ℕ) → CoversThread e y → CoversThread e (goto y l)
goto_covered e y l k = record {
  bindings = λ n h. rw (get_or-set_other y 0 (1 + n) l 0 (omega arith)) (k.bindings n h);
}

pub bind_covered : (e : Estimate) (y : List ℕ) (n v : ℕ) → length y ≡ 61 → n < 60 → T (has (e.rho n) (held_number v)) → CoversThread e y → CoversThread e (bind y n v)
bind_covered e y n v z h p k = record { bindings = λ i l. pick i l (ℕ_discrete n i) }
  where
    pick : (i : ℕ) → i < 60 → Dec (n ≡ i) → binding (bind y n v) i ≢ 0 → T (has (e.rho i) (held_number (binding (bind y n v) i)))
    pick i l (yes q) = rw (← q, get_or-set_same y (1 + n) v 0 (omega arith)) (λ _. p)
    pick i l (no q) = rw (get_or-set_other y (1 + n) (1 + i) v 0 (omega arith)) (k.bindings i l)

pub turn_covered : (e : Estimate) (b : ℕ) (x : List ℕ) (f : ℕ) → length x ≡ 10
    → (f ≡ 0 → T (has (e.shown b) (held_number (subject x)))) → (f ≢ 0 → T (has (e.hidden b) (held_number (subject x))))
    → CoversSite e b x → CoversSite e b (set_flag x f)
turn_covered e b x f z p q k = record {
  shown = rw (get_or-set_same x 1 f 0 (omega arith), get_or-set_other x 1 0 f 0 (omega arith)) p;
  hidden = rw (get_or-set_same x 1 f 0 (omega arith), get_or-set_other x 1 0 f 0 (omega arith)) q;
  types = λ j h. rw (get_or-set_other x 1 (2 + j) f 0 (omega arith), get_or-set_other x 1 0 f 0 (omega arith)) (k.types j h);
}

-- a site's words made of a subject, a flag and a type: covered where the subject is, and the held name of each of the type
pub site-length : (v f : ℕ) (hold : ℕ → ℕ) (type : ℕ) → length (v ∷ f ∷ type_words hold type) ≡ 10
site-length v f hold type = omega (arith, length-type_words hold type)

pub site_covered : (e : Estimate) (b v f : ℕ) (hold : ℕ → ℕ) (type : ℕ) → (f ≡ 0 → T (has (e.shown b) (held_number v))) → (f ≢ 0 → T (has (e.hidden b) (held_number v)))
    → ((g : ℕ) → g < 64 → T (has type g) → T (has (e.eps b (held_number v)) (held_number (hold g)))) → CoversSite e b (v ∷ f ∷ type_words hold type)
site_covered e b v f hold type p q k = record {
  shown = p;
  hidden = q;
  types = λ j h. rw (type_word-is v f (type_words hold type) j) (type_each hold type (λ w. T (has (e.eps b (held_number v)) (held_number w))) k j h);
}

-- ---- a record: its length, its counts within their limits, and all covered

pub record Covered (e : Estimate) (b : ℕ) (r : List ℕ) : Type 0 where
  pub size : length r ≡ 1139
  pub most_threads : threads r ≤ 16
  pub most_sites : sites r ≤ 16
  pub covers : CoversRecord e b r

-- the counts stand outside the arrays
tc : Apart 1 1 163 (61 * 16)
tc = inl (omega arith)

sc : Apart 2 1 3 (10 * 16)
sc = inl (omega arith)

module _ {e : Estimate} {b : ℕ} {r : List ℕ} (k : Covered e b r) where
  ts : 163 + 61 * 16 ≤ length r
  ts = omega (arith, k.size)

  ss : 3 + 10 * 16 ≤ length r
  ss = omega (arith, k.size)

  ti : 1 < length r
  ti = omega (arith, k.size)

  si : 2 < length r
  si = omega (arith, k.size)

  -- an edit of the threads alone, and of the sites alone
  edit_threads : (s : List ℕ) → length s ≡ length r → Outside 163 61 16 1 r s → threads s ≤ 16 → ((t : ℕ) → t < threads s → CoversThread e (thread s t)) → Covered e b s
  edit_threads s z o h f =
      let n : sites s ≡ sites r = o 2 (omega arith) (inl (omega arith)) in
      let v = slots_frame 3 10 16 r s ss z (λ j a c. o j (omega arith) (inl (omega arith))) in
      record {
        size = z ∙ k.size;
        most_threads = h;
        most_sites = omega (arith, k.most_sites);
        covers = record { threads_covered = f; sites_covered = λ i l. rw (v i (omega (arith, k.most_sites))) (k.covers.sites_covered i (omega arith)) };
      }

  edit_sites : (s : List ℕ) → length s ≡ length r → Outside 3 10 16 2 r s → sites s ≤ 16 → ((i : ℕ) → i < sites s → CoversSite e b (site s i)) → Covered e b s
  edit_sites s z o h g =
      let n : threads s ≡ threads r = o 1 (omega arith) (inl (omega arith)) in
      let v = slots_frame 163 61 16 r s ts z (λ j a c. o j (omega arith) (inr (omega arith))) in
      record {
        size = z ∙ k.size;
        most_threads = omega (arith, k.most_threads);
        most_sites = h;
        covers = record { threads_covered = λ t l. rw (v t (omega (arith, k.most_threads))) (k.covers.threads_covered t (omega arith)); sites_covered = g };
      }

  pub set-stamp : (v : ℕ) → Covered e b (set_stamp r v)
  set-stamp v =
      let w : (j : ℕ) → j ≢ 0 → word (set_stamp r v) j ≡ word r j = λ j n. get_or-set_other r 0 j v 0 n in
      let n = w 1 (omega arith) in
      let q = w 2 (omega arith) in
      let f = slots_frame 163 61 16 r (set_stamp r v) ts (length-set r 0 v) (λ j a c. w j (omega arith)) in
      let g = slots_frame 3 10 16 r (set_stamp r v) ss (length-set r 0 v) (λ j a c. w j (omega arith)) in
      record {
        size = length-set r 0 v ∙ k.size;
        most_threads = omega (arith, k.most_threads);
        most_sites = omega (arith, k.most_sites);
        covers =
            record {
              threads_covered = λ t l. rw (f t (omega (arith, k.most_threads))) (k.covers.threads_covered t (omega arith));
              sites_covered = λ i l. rw (g i (omega (arith, k.most_sites))) (k.covers.sites_covered i (omega arith));
            };
      }

  module _ (t : ℕ) (h : t < threads r) where
    low : t < 16
    low = omega (arith, k.most_threads)

    module _ (x : List ℕ) (z : length x ≡ 61) where
      pub put-threads : threads (put_thread r t x) ≡ threads r
      put-threads = word_put_slot 163 61 16 r ts t low x z 1 tc

      pub put-sites : sites (put_thread r t x) ≡ sites r
      put-sites = word_put_slot 163 61 16 r ts t low x z 2 (inl (omega arith))

      pub put-thread : CoversThread e x → Covered e b (put_thread r t x)
      put-thread p =
          edit_threads (put_thread r t x) (length_put_slot 163 61 16 r ts t low x z) (λ j _ a. word_put_slot 163 61 16 r ts t low x z j a) (omega (arith, put-threads, k.most_threads))
          (put_live 163 61 16 1 tc r ts ti (CoversThread e) k.most_threads k.covers.threads_covered t h x z p)

    pub take-thread : Covered e b (take_thread r t)
    take-thread =
        edit_threads (take_thread r t) (take-length 163 61 16 1 tc r ts ti t low) (take_outside 163 61 16 1 tc r ts ti t low) (omega (arith, take_count 163 61 16 1 tc r ts ti t low, k.most_threads))
        (take_live 163 61 16 1 tc r ts ti (CoversThread e) k.most_threads k.covers.threads_covered t h)

  pub push_thread_lem : threads r < 16 → (x : List ℕ) → length x ≡ 61 → CoversThread e x → Covered e b (push_thread r x)
  push_thread_lem h x z p =
      edit_threads (push_thread r x) (push_length 163 61 16 1 tc r ts ti h x z) (push_outside 163 61 16 1 tc r ts ti h x z) (omega (arith, push_count 163 61 16 1 tc r ts ti h x z))
      (push_live 163 61 16 1 tc r ts ti (CoversThread e) k.most_threads k.covers.threads_covered h x z p)

  pub put-site : (i : ℕ) → i < sites r → (x : List ℕ) → length x ≡ 10 → CoversSite e b x → Covered e b (put_site r i x)
  put-site i h x z p =
      let low : i < 16 = omega (arith, k.most_sites) in
      edit_sites (put_site r i x) (length_put_slot 3 10 16 r ss i low x z) (λ j _ a. word_put_slot 3 10 16 r ss i low x z j a) (omega (arith, word_put_slot 3 10 16 r ss i low x z 2 sc, k.most_sites))
      (put_live 3 10 16 2 sc r ss si (CoversSite e b) k.most_sites k.covers.sites_covered i h x z p)

  pub push_site_lem : sites r < 16 → (x : List ℕ) → length x ≡ 10 → CoversSite e b x → Covered e b (push_site r x)
  push_site_lem h x z p =
      edit_sites (push_site r x) (push_length 3 10 16 2 sc r ss si h x z) (push_outside 3 10 16 2 sc r ss si h x z) (omega (arith, push_count 3 10 16 2 sc r ss si h x z))
      (push_live 3 10 16 2 sc r ss si (CoversSite e b) k.most_sites k.covers.sites_covered h x z p)
