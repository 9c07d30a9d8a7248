-- A state that an estimate covers: what subject reduction says of every state that is reached. Assumes nothing.
use Rattle.std.specs.Prelude.{◌≡◌, ◌≢◌, List, ℕ, ◌<◌, T}
use Rattle.definitions.specs.Limits.{name_limit, type_limit}
use Rattle.definitions.specs.Sets.{has}
use Rattle.definitions.specs.Model.{Model, box_count}
use Rattle.definitions.specs.Estimate.{Estimate}
use Rattle.definitions.specs.Record.{held_number, threads, sites, site, thread, subject, flag, type_word, binding, record_of}

-- a thread is covered: what is bound to n is in rho(n)
pub record CoversThread (e : Estimate) (y : List ℕ) : Type 0 where
  pub bindings : (n : ℕ) → n < name_limit → binding y n ≢ 0 → T (has (e.rho n) (held_number (binding y n)))

-- a site of box b is covered: its subject is in shown or hidden, and each held name of its type is in eps
pub record CoversSite (e : Estimate) (b : ℕ) (x : List ℕ) : Type 0 where
  pub shown : flag x ≡ 0 → T (has (e.shown b) (held_number (subject x)))
  pub hidden : flag x ≢ 0 → T (has (e.hidden b) (held_number (subject x)))
  pub types : (j : ℕ) → j < type_limit → type_word x j ≢ 0 → T (has (e.eps b (held_number (subject x))) (held_number (type_word x j)))

-- the record of box b is covered: each of its threads and sites is
pub record CoversRecord (e : Estimate) (b : ℕ) (r : List ℕ) : Type 0 where
  pub threads_covered : (t : ℕ) → t < threads r → CoversThread e (thread r t)
  pub sites_covered : (i : ℕ) → i < sites r → CoversSite e b (site r i)

-- an estimate covers a state: it covers the record of each box of the model
pub record Covers (m : Model) (e : Estimate) (st : List ℕ) : Type 0 where
  pub records : (b : ℕ) → b < box_count m → CoversRecord e b (record_of st b)
