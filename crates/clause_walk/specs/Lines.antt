-- What one walk over a box's lines may show: that no line breaks a clause. Assumes nothing.
use Rattle.std.specs.Prelude.{◌≡◌, Bool, List, ℕ, ◌<◌, T, length, get_or}
use Rattle.std.proofs.Math.Option.{none}
use Rattle.definitions.specs.Bounded.{◌implies◌}
use Rattle.definitions.specs.Sets.{has, for_each, within}
use Rattle.definitions.specs.Model.{Line, restriction, output, input, expose, hide, unhide}
use Rattle.definitions.specs.Estimate.{Estimate}
use Rattle.definitions.specs.Clauses.{clause3, clause4, clause5, clause6, clause7, clause8, clause9}
use Rattle.records.specs.Places.{line_record_at}
use Rattle.sets.specs.Names.{NamesOnly}
use Rattle.sharing.specs.declared.Gathered.{Gathered}
use Rattle.sharing.specs.Shared.{GatheredOf}

-- each set of first names has names below 60
pub record OpsOfNames (ops : List ℕ) : Type 0 where
  pub each : (o : ℕ) → o < 16 → NamesOnly (get_or ops o 0)

-- the numbers of a list are below n
pub record ListBelow (listed : List ℕ) (n : ℕ) : Type 0 where
  pub each : (m : ℕ) → m < length listed → get_or listed m 0 < n

pub record NotExpose (l : Line) : Type 0 where
  pub other : l.op ≡ expose → ⊥

-- ---- what the tests show

module _ (e : Estimate) where
  -- the names of restrictions, exposes, hides and unhides
  pub record NamesPass (b : ℕ) (ops : List ℕ) : Type 0 where
    pub restricted : T (for_each (get_or ops 3 0) (λ n. has (e.rho n) n))
    pub exposed : T (for_each (get_or ops 6 0) (λ n. has (e.rho n) n))
    pub shown : T (within (get_or ops 6 0) (e.shown b))
    pub hides : T (for_each (get_or ops 7 0) (λ p. for_each (e.rho p) (λ a. has (e.shown b) a implies has (e.hidden b) a)))
    pub unhides : T (for_each (get_or ops 8 0) (λ p. for_each (e.rho p) (λ a. has (e.hidden b) a implies has (e.shown b) a)))

  pub record ShowsNames (b : ℕ) (ops : List ℕ) (r : Bool) : Type 0 where
    pub shows : T r → NamesPass b ops

  -- clauses 5 and 6 at an input, and the type of an expose
  pub record ListedPass (boxes b : ℕ) (l : Line) : Type 0 where
    pub five : l.op ≡ input → clause5 e b l ≡ none
    pub six : l.op ≡ input → clause6 e boxes b l ≡ none
    pub type : l.op ≡ expose → T (for_each l.type (λ g. within (e.rho g) (e.eps b l.name1)))

  -- the same, with what clauses 4, 5 and 6 ask for the sets that it was gathered for
  pub record PassesWith (boxes b : ℕ) (l : Line) (g : Gathered) : Type 0 where
    pub passes : ListedPass boxes b l
    pub gathered : GatheredOf e boxes b g

  -- no clause is broken at a line
  pub record LinePasses (boxes b : ℕ) (l : Line) : Type 0 where
    pub three : l.op ≡ restriction → clause3 e l ≡ none
    pub four : l.op ≡ output → clause4 e b l ≡ none
    pub five : l.op ≡ input → clause5 e b l ≡ none
    pub six : l.op ≡ input → clause6 e boxes b l ≡ none
    pub seven : l.op ≡ expose → clause7 e b l ≡ none
    pub eight : l.op ≡ hide → clause8 e b l ≡ none
    pub nine : l.op ≡ unhide → clause9 e b l ≡ none

-- the lines of a list
pub record ShowsList (model : List ℕ) (e : Estimate) (boxes b k : ℕ) (listed : List ℕ) (r : Bool) : Type 0 where
  pub shows : T r → (m : ℕ) → m < length listed → ListedPass e boxes b (line_record_at model k (get_or listed m 0))

-- the n lines after block k
pub record ShowsLines (model : List ℕ) (e : Estimate) (boxes b k n : ℕ) (r : Bool) : Type 0 where
  pub shows : T r → (i : ℕ) → i < n → LinePasses e boxes b (line_record_at model k i)
