-- A started state obeys the state rules. Assumes nothing.
use mathlib.Core.Path.{◌≡◌, refl}
use mathlib.Core.Logic.{inl, ◌≢◌}
use mathlib.Core.Bool.{false}
use Prim.Native.Nat.{ℕ, ◌+◌, ◌≤◌}
use native.Mathlib.Omega.{arith}
use lib.ListN.{length}
use Rattle.definitions.specs.Slots.{zeros}
use Rattle.definitions.specs.Model.{Site, Box, Model, site_at, box_at, line_count, bound_within, bound_above}
use Rattle.definitions.specs.Record.{held, subject, last_stamps}
use Rattle.definitions.specs.Start.{free_held, start_site, start_record, start_state}
use Rattle.definitions.proofs.Slots.{length-zeros, word-zeros}
use Rattle.definitions.proofs.Valid.{Valid, ValidBox, ValidSite}
use Rattle.definitions.proofs.StateRules.{SiteFits, ThreadFits, RecordFits, StateFits, site_iff, thread_iff}
use Rattle.isolation.proofs.KeepHeld.{number_held, free_fits}
use Rattle.isolation.proofs.KeepSite.{site_fits_lem}
use Rattle.definitions.proofs.Start.{start-length, start-stamp, start-threads, start-sites, start-site, start_past, start-thread, start_state_length, start_record_lem, start_lacking}

-- ---- they obey the rules, whatever the last stamps

-- sites of different names have different subjects
apart : (s u : Site) → s.subject ≢ u.subject → subject (start_site s) ≢ subject (start_site u)
unfolding start_site held
apart s u f e = f (omega arith)

-- nothing stands above line 0
root : (x : Box) (n : ℕ) → bound_above x 0 n ≡ false
unfolding bound_above bound_within
root x n = refl

module _ (m : Model) (last : ℕ → ℕ) (most : length m.kinds ≤ 60) where
  zeros_fit : (x : Box) → 1 ≤ line_count x → ThreadFits m last x (zeros 61)
  zeros_fit x h =
      let z = word-zeros 61 in
      record {
        size = length-zeros 61;
        stands = rw (z 0) h;
        bound = λ n l. rw (z 0, root x n) (λ e. absurd e);
        unbound = λ n l _. z (1 + n);
      }

  start-site_fits : (b i : ℕ) (s : Site) → ValidSite m b i s → SiteFits m last (start_site s)
  unfolding start_site
  start-site_fits b i s v =
      let listed = v.listed in
      site_fits_lem m last (free_held s.subject) s.flag free_held s.type
      (free_fits m last s.subject (omega arith) listed v.free) (inl (rw (number_held s.subject 0 (omega arith)) v.free)) v.flag_fits v.type_size
      (λ n l t. free_fits m last n l (v.type_listed n l t) (v.type_free n l t))

  pub start_record_fits : (b : ℕ) → ValidBox m b (box_at m b) → RecordFits m last (box_at m b) (start_record (box_at m b))
  start_record_fits b v =
      let x = box_at m b in
      let n = start-sites x in
      let few = v.most_sites in
      record {
        size = start-length x;
        stamp_fits = rw (start-stamp x) (omega arith);
        threads_fit = record {
          most = rw (start-threads x) (omega arith);
          live = λ t h. let q = start-threads x in rw (start-thread x t (omega arith)) ((thread_iff m last x (zeros 61)).1 (zeros_fit x v.some_line));
          dead = λ t h _. start-thread x t h;
        };
        sites_fit = record {
          most = rw n few;
          live = λ i h. rw (start-site x i (omega arith) (omega arith)) ((site_iff m last (start_site (site_at x i))).1 (start-site_fits b i (site_at x i) (v.site i (omega arith))));
          dead = λ i h l. start_past x i h (omega arith);
        };
        differ = λ i j h l. rw (start-site x j (omega arith) (omega arith), start-site x i (omega arith) (omega arith)) (apart (site_at x j) (site_at x i) ((v.site i (omega arith)).fresh j h));
      }

-- P1: a started state obeys the state rules: every held name in it is free, and no name is bound above line 0
pub start_fits : (m : Model) → Valid m → StateFits m (start_state m)
start_fits m valid = record {
  size = start_state_length m;
  live = λ b h l. rw (start_record_lem m b h l) (start_record_fits m (last_stamps (start_state m)) valid.names b (valid.box b l));
  dead = λ b h l. start_lacking m b h l;
}
