-- A move that is made, with the words that it leaves, and what is known of a thread whose move is made. Assumes nothing.
use Rattle.std.specs.Prelude.{◌≡◌, ◌≢◌, List, ℕ, ◌≤◌, ◌<◌, T, length}
use Rattle.definitions.specs.Limits.{name_limit, slot_limit}
use Rattle.definitions.specs.Image.{name_count}
use Rattle.definitions.specs.Record.{record_length, stamp_limit, stamp, threads, sites, thread}
use Rattle.definitions.specs.Moves.{Outcome, made, site_with, found, value_in}
use Rattle.records.specs.declared.Line.{Line}
use Rattle.model.specs.declared.ReadModel.{ReadModel}
use Rattle.lookups.specs.Ready.{kinds_in}

-- the move is made: it is not refused
pub record IsMade {A : Type 0} (o : Outcome A) : Type 0 where
  pub left : A
  pub is : o ≡ made left

-- thread t is there, and goes on to the first child of its line l
pub record Goes (r : List ℕ) (t : ℕ) (l : Line) : Type 0 where
  pub long : length r ≡ record_length
  pub live : t < threads r
  pub slot : t < slot_limit
  pub child : l.child1 < 65536

-- the same, and there is room for a thread at the second child
pub record Spreads (r : List ℕ) (t : ℕ) (l : Line) : Type 0 where
  pub goes : Goes r t l
  pub room : threads r < slot_limit
  pub child2 : l.child2 < 65536

-- the same, and it binds its line's name with the next stamp
pub record Stamps (r : List ℕ) (t : ℕ) (l : Line) : Type 0 where
  pub goes : Goes r t l
  pub left : stamp r < stamp_limit
  pub listed : l.name1.0 < name_limit

-- the same, and its line's name stands for the subject of a site that is shown (0) or hidden (1)
pub record Turns (m : ReadModel) (r : List ℕ) (t : ℕ) (l : Line) (before : ℕ) : Type 0 where
  pub goes : Goes r t l
  pub most : sites r ≤ slot_limit
  pub listed : l.name1.0 < name_count m.image.now
  pub there : T (found (site_with r (value_in (kinds_in m) (thread r t) l.name1.0) before))

-- two threads go on, and the first binds what the second, at line k, sends
pub record Receives (m : ReadModel) (r : List ℕ) (t : ℕ) (l : Line) (u : ℕ) (k : Line) : Type 0 where
  pub goes : Goes r t l
  pub sends : Goes r u k
  pub differ : t ≢ u
  pub channel : l.name1.0 < name_limit
  pub binds : l.name2.0 < name_limit
  pub listed : k.name2.0 < name_count m.image.now
