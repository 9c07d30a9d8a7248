-- An accepted estimate covers the started state. Assumes nothing.
use Prim.Native.Nat.{ℕ, ◌+◌, ◌<◌}
use native.Mathlib.Omega.{arith}
use lib.ListN.{length}
use Rattle.definitions.specs.Model.{Site, Box, Model, site_at, box_at, site_count, box_count}
use Rattle.definitions.specs.Estimate.{Estimate}
use Rattle.definitions.specs.Record.{thread}
use Rattle.definitions.specs.Start.{free_held, start_site, start_record, start_state}
use Rattle.definitions.proofs.Slots.{word-zeros}
use Rattle.definitions.proofs.Valid.{Valid}
use Rattle.isolation.specs.Covers.{CoversThread, CoversSite, CoversRecord, Covers}
use Rattle.definitions.proofs.Clauses.{Clause2, AllClauses}
use Rattle.isolation.proofs.CoverEdits.{site_covered}
use Rattle.isolation.proofs.KeepHeld.{number_held}
use Rattle.definitions.proofs.Start.{start-threads, start-sites, start-site, start-thread, start_record_lem}

-- clause 2: a starting site is covered; no name is bound yet
pub start_covered : (m : Model) → Valid m → (e : Estimate) → AllClauses m e → Covers m e (start_state m)
unfolding start_site
start_covered m good e acc = record { records = λ b h. rw (start_record_lem m b (omega (arith, good.most_boxes)) h) (at b h) }
  where
    unbound : (x : Box) (t : ℕ) → t < 16 → CoversThread e (thread (start_record x) t)
    unbound x t h = rw (start-thread x t h) (record { bindings = λ n _ f. absurd (f (word-zeros 61 (1 + n))) })

    site-start : (b : ℕ) (s : Site) → s.subject < length m.kinds → Clause2 e b s → CoversSite e b (start_site s)
    site-start b s l k =
        let q = number_held s.subject 0 (omega (arith, good.names)) in
        site_covered e b (free_held s.subject) s.flag free_held s.type (rw q k.shown) (rw q k.hidden) (λ g h p. rw (q, number_held g 0 h) (k.type g h p))

    at : (b : ℕ) → b < box_count m → CoversRecord e b (start_record (box_at m b))
    at b h =
        let x = box_at m b in
        let valid = good.box b h in
        record {
          threads_covered = λ t l. unbound x t (omega (arith, start-threads x));
          sites_covered = λ i l. let k : i < site_count x = rw (start-sites x) at l in rw (start-site x i (omega (arith, valid.most_sites)) k) (site-start b (site_at x i) (valid.site i k).listed (acc.sites b h i k));
        }
