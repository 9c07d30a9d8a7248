-- The rules 6 to 9 at one record: each over tests of names, and what a test of a record decides. Assumes nothing.
use Rattle.std.specs.Prelude.{◌≡◌, Bool, not, List, ℕ, ◌≤◌, ◌<◌, length}
use Rattle.definitions.specs.Bounded.{◌and◌, ◌implies◌, ◌is◌, ◌isnt◌, ◌below◌, ◌upto◌}
use Rattle.definitions.specs.Model.{Site, Line, Model, listed, kind_of_name, line_at, box_at, site_at, is_free, bound_above, nil, parallel, restriction, input, expose}
use Rattle.definitions.specs.ReadModel.{uses_name1, uses_name2, uses_child1, type_fits, site_fits, line_fits, reach_fits, used_before, bound_before}
use Rattle.record_rules.specs.declared.line_sets.LineSet.{LineSet}
use Rattle.records.specs.NameSets.{SetOf}
use Rattle.record_rules.specs.LineSets.{LineSetOf}

-- the listed names, and those of kinds 1, 2 and 3
pub record KindsIn (kinds : List ℕ) (a r c e : ℕ) : Type 0 where
  pub few : length kinds ≤ 60
  pub all : SetOf a (listed kinds)
  pub restricted : SetOf r (λ n. listed kinds n and kind_of_name kinds n is 1)
  pub received : SetOf c (λ n. listed kinds n and kind_of_name kinds n is 2)
  pub exposed : SetOf e (λ n. listed kinds n and kind_of_name kinds n is 3)

-- the name m needs no binding
unfoldable pub is_free_or_unlisted : List ℕ → ℕ → Bool
is_free_or_unlisted kinds m = kind_of_name kinds m is 0

-- 6, over a test of names that says which are free, and whether the subject is used before
unfoldable pub site_ok : (ℕ → Bool) → Bool → Site → Bool
site_ok free used s =
    free s.subject and not used and s.flag upto 1 and s.spare is 0 and type_fits free s.subject s.type

-- 7, in four parts: the operation, spare byte and children; the names; the kinds of the names bound; an expose
unfoldable pub shape_fit : Line → Bool
shape_fit l =
    (l.op upto 8 and l.spare is 0)
    and ((not (uses_child1 l.op) implies l.child1 is 0) and (l.op isnt parallel implies l.child2 is 0))

unfoldable pub names_fit : (ℕ → Bool) → Line → Bool
names_fit all l =
    ((uses_name1 l.op implies all l.name1) and (not (uses_name1 l.op) implies l.name1 is 0))
    and ((uses_name2 l.op implies all l.name2) and (not (uses_name2 l.op) implies l.name2 is 0))

unfoldable pub bound_fit : (ℕ → Bool) → (ℕ → Bool) → Line → Bool
bound_fit restricted received l = (l.op is restriction implies restricted l.name1) and (l.op is input implies received l.name2)

unfoldable pub expose_fit : (ℕ → Bool) → (ℕ → Bool) → Line → Bool
expose_fit all exposed l =
    (l.op is expose implies exposed l.name1 and type_fits all l.name1 l.type) and (l.op isnt expose implies l.type is 0)

unfoldable pub line_ok : (ℕ → Bool) → (ℕ → Bool) → (ℕ → Bool) → (ℕ → Bool) → Line → Bool
line_ok all restricted received exposed l =
    shape_fit l and names_fit all l and bound_fit restricted received l and expose_fit all exposed l

-- 8, of a line l as line i of n, over the children of the lines before it and those of all lines
unfoldable pub tree_ok : Line → ℕ → ℕ → (ℕ → Bool) → (ℕ → Bool) → Bool
tree_ok l i n before all =
    (l.op isnt nil implies (i below l.child1 and l.child1 below n and not (before l.child1)))
    and (l.op is parallel implies (i below l.child2 and l.child2 below n and not (before l.child2)) and l.child1 isnt l.child2)
    and (i isnt 0 implies all i)

-- ---- whatever model a record stands in, the answer is that of the rule

pub record DecidesSite (s : Site) (free used : ℕ) (r : Bool) : Type 0 where
  pub decides : (m : Model) (b i : ℕ) → length m.kinds ≤ 60 → SetOf free (is_free m.kinds) → SetOf used (used_before m b i)
      → s ≡ site_at (box_at m b) i → r ≡ site_fits m b i

pub record DecidesLine (l : Line) (a r c e : ℕ) (fits : Bool) : Type 0 where
  pub decides : (m : Model) → KindsIn m.kinds a r c e → fits ≡ line_fits m.kinds l

pub record DecidesChild (i c n : ℕ) (seen : LineSet) (r : Bool) : Type 0 where
  pub decides : (p : ℕ → Bool) → LineSetOf seen p → n ≤ 124 → r ≡ (i below c and c below n and not (p c))

-- whatever the children of the lines before and those of all lines are
pub record DecidesTree (l : Line) (i n : ℕ) (seen all : LineSet) (r : Bool) : Type 0 where
  pub decides : (p q : ℕ → Bool) → n ≤ 124 → i < n → LineSetOf seen p → LineSetOf all q → r ≡ tree_ok l i n p q

pub record DecidesReach (l : Line) (free-or-unlisted above bound : ℕ) (r : Bool) : Type 0 where
  pub decides : (m : Model) (b i : ℕ) → SetOf free-or-unlisted (is_free_or_unlisted m.kinds) → SetOf above (bound_above (box_at m b) i)
      → SetOf bound (bound_before m b i) → l ≡ line_at (box_at m b) i → r ≡ reach_fits m b i
