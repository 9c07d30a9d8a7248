-- Laws of the lookups. Assumes nothing.
use mathlib.Core.Path.{◌≡◌, refl, ap, sym, ◌∙◌}
use mathlib.Core.Logic.{◌≢◌}
use mathlib.Core.Bool.{Bool, true, false, ◌&&◌, ◌||◌}
use mathlib.Core.List.{List}
use mathlib.Core.Option.{Option, none, some}
use Prim.Native.Nat.{ℕ, ◌+◌, ◌≤◌, ◌<◌}
use native.Mathlib.Omega.{arith}
use native.Mathlib.Decide.{dec_lt}
use borrow.Author.Rules.{rules}
use lib.Dec.{eqb}
use Rattle.std.specs.Prelude as code
use Rattle.std.specs.Prelude.{Some, None, MatchOption, MatchBool}
use Rattle.definitions.specs.Bounded.{◌and◌, ◌is◌, ◌isnt◌, ◌below◌, any_below, some_if, first_below}
use Rattle.definitions.specs.Model.{kind_of_name}
use Rattle.definitions.specs.Image.{kinds_of, model_of}
use Rattle.definitions.specs.Record.{held, sites, site, subject, flag, type_word, binding}
use Rattle.definitions.specs.Moves.{site_with, types_share, value_in}
use Rattle.definitions.proofs.Bounded.{and_is, and_iff, is_iff, isnt_iff, below_iff, or_is, true_of, of_true, false_of, first_stop, each_none, none_each, none_fault, not-false}
use Rattle.definitions.proofs.Loops.{Missing, any_start, any_turn}
use Rattle.definitions.proofs.Image.{model_kinds}
use Rattle.sets.specs.Options.{option_in}
use Rattle.sets.proofs.Ranges.{Each, One, any_numbers}
use Rattle.lookups.specs.Found.{site_is, type_is, type_has, shared_at}
use Rattle.lookups.proofs.Ready.{read_head, ready_box, ready_thread, line-there, line-found, first_listed, sent_listed, subject_is, sent_is}

-- a name's value, by its kind
module _ (image y : List ℕ) (n k : ℕ) (e : k ≡ kind_of_name (kinds_of image) n) where
  same : kind_of_name (model_of image).kinds n ≡ k
  same = ap (λ (l : List ℕ). kind_of_name l n) (model_kinds image) ∙ sym e

  pub value_free : (v : ℕ) → k ≡ 0 → v ≡ held n 0 → v ≡ value_in (model_of image).kinds y n
  unfolding value_in
  value_free v z q =
      q ∙ sym (ap (λ (b : Bool). elim b as (λ _. ℕ) [ true ↦ held n 0 | false ↦ binding y n ])
      (true_of (kind_of_name (model_of image).kinds n is 0) ((is_iff (kind_of_name (model_of image).kinds n) 0).1 (same ∙ z))))

  pub value_bound : (v : ℕ) → k ≢ 0 → v ≡ binding y n → v ≡ value_in (model_of image).kinds y n
  unfolding value_in
  value_bound v z q =
      q ∙ sym (ap (λ (b : Bool). elim b as (λ _. ℕ) [ true ↦ held n 0 | false ↦ binding y n ])
      (false_of (kind_of_name (model_of image).kinds n is 0) (λ t. z (sym same ∙ (is_iff (kind_of_name (model_of image).kinds n) 0).0 t))))

-- ---- the site with a held name

pub site_tested : (r : List ℕ) (i v f w g : ℕ) (a : Bool) → w ≡ subject (site r i) → g ≡ flag (site r i) → a ≡ eqb w v
    → (a && eqb g f) ≡ site_is r v f i
unfolding site_is ◌is◌
site_tested r i v f w g a e d p =
    and_is a (eqb g f) ∙ ap (λ (x : Bool). x and eqb g f) p ∙ ap (λ (x : ℕ). eqb x v and eqb g f) e ∙ ap (λ (x : ℕ). eqb (subject (site r i)) v and eqb x f) d

module _ (r : List ℕ) (v f : ℕ) where
  wanted : ℕ → Option ℕ
  wanted j = some_if (j below sites r and subject (site r j) is v and flag (site r j) is f) j

  before : (i : ℕ) → Missing (site_is r v f) i → first_below i wanted ≡ none
  unfolding site_is wanted
  before i k =
      each_none wanted i (λ j h. none_fault (j below sites r and subject (site r j) is v and flag (site r j) is f) j
      (λ t. k.each j h (let p = (and_iff (j below sites r and subject (site r j) is v) (flag (site r j) is f)).0 t in
      (and_iff (subject (site r j) is v) (flag (site r j) is f)).1 (((and_iff (j below sites r) (subject (site r j) is v)).0 p.0).1, p.1))))

  pub site_found : (i n : ℕ) (b : Bool) → Missing (site_is r v f) i → n ≡ sites r → sites r ≤ 16 → i < n → b ≡ site_is r v f i → b ≡ true
      → some i ≡ site_with r v f
  unfolding site_is site_with wanted
  site_found i n b k z most h e d =
      let p = (and_iff (subject (site r i) is v) (flag (site r i) is f)).0 (of_true (sym e ∙ d)) in
      let live : i < sites r = omega arith in
      let t = (and_iff (i below sites r and subject (site r i) is v) (flag (site r i) is f)).1
      ((and_iff (i below sites r) (subject (site r i) is v)).1 ((below_iff i (sites r)).1 live, p.0), p.1) in
      sym (first_stop wanted 16 (omega arith) (before i k)
      (ap (λ (x : Bool). some_if x i) (true_of (i below sites r and subject (site r i) is v and flag (site r i) is f) t)))

  pub site_none : (i n : ℕ) → Missing (site_is r v f) i → n ≡ sites r → n ≤ i → none ≡ site_with r v f
  unfolding site_is site_with wanted
  site_none i n k z h = sym (each_none wanted 16 (λ j l. pick j (dec_lt j (sites r))))
    where
      pick : (j : ℕ) → Dec (j < sites r) → wanted j ≡ none
      pick j (yes q) = none_each wanted i (before i k) j (omega arith)
      pick j (no q) =
          none_fault (j below sites r and subject (site r j) is v and flag (site r j) is f) j
          (λ t. q ((below_iff j (sites r)).0 ((and_iff (j below sites r) (subject (site r j) is v)).0
          ((and_iff (j below sites r and subject (site r j) is v) (flag (site r j) is f)).0 t).0).0))

  -- what a search of all sites finds
  pub site_first : (o : code.Option ℕ) (n : ℕ) → n ≡ sites r → sites r ≤ 16
      → MatchOption o ((k : ℕ) → 0 ≤ k → k < n → false ≡ site_is r v f k) (λ i. (0 ≤ i) × (i < n) × (true ≡ site_is r v f i) × ((k : ℕ) → 0 ≤ k → k < i → false ≡ site_is r v f k))
      → option_in o ≡ site_with r v f
  site_first None n z most h = site_none n n (record { each = λ j l t. not-false (sym (h j (omega arith) l)) t }) z (omega arith)
  site_first (Some i) n z most h =
      site_found i n true (record { each = λ j l t. not-false (sym (h.3 j (omega arith) l)) t }) z most h.1 h.2 refl

-- ---- types that share a held name

pub type_turn : (y : List ℕ) (v j w : ℕ) (b a : Bool) → b ≡ any_below j (type_is y v) → w ≡ type_word y j → a ≡ eqb v w
    → (b || a) ≡ any_below (j + 1) (type_is y v)
unfolding type_is ◌is◌
type_turn y v j w b a k h e = any_turn (type_is y v) j b a (b || a) k (e ∙ ap (eqb v) h) (or_is b a)

pub type_end : (y : List ℕ) (v : ℕ) (b : Bool) → b ≡ any_below 8 (type_is y v) → b ≡ type_has y v
unfolding type_has
type_end y v b k = k

pub shared_none : (x y : List ℕ) (j v : ℕ) → v ≡ type_word x j → v ≡ 0 → false ≡ shared_at x y j
unfolding shared_at
shared_none x y j v e z =
    sym (false_of (type_word x j isnt 0 and type_has y (type_word x j))
    (λ t. (isnt_iff (type_word x j) 0).0 ((and_iff (type_word x j isnt 0) (type_has y (type_word x j))).0 t).0 (sym e ∙ z)))

pub shared_by : (x y : List ℕ) (j v : ℕ) (b : Bool) → v ≡ type_word x j → v ≢ 0 → b ≡ type_has y v → b ≡ shared_at x y j
unfolding shared_at ◌and◌
shared_by x y j v b e n q =
    q ∙ ap (type_has y) e
    ∙ sym (ap (λ (c : Bool). c and type_has y (type_word x j)) (true_of (type_word x j isnt 0) ((isnt_iff (type_word x j) 0).1 (λ z. n (e ∙ z)))))

pub share_all : (x y : List ℕ) (b : Bool) → b ≡ any_below 8 (shared_at x y) → b ≡ types_share x y
unfolding types_share shared_at type_has type_is
share_all x y b e = e

-- what a search of all words finds
pub share_any : (x y : List ℕ) (b : Bool) → MatchBool b (One (λ j. true ≡ shared_at x y j) 0 8) (Each (λ j. false ≡ shared_at x y j) 0 8) → b ≡ types_share x y
share_any x y b h = share_all x y b (any_numbers (shared_at x y) 8 b h)

pub ruleset lines = (rules, ready_box, ready_thread, line-there, line-found)

pub ruleset values = (rules, read_head, value_free, value_bound)

pub ruleset threads = (rules, first_listed, sent_listed, subject_is, sent_is)

pub ruleset finds = (rules, site_tested)

pub ruleset types = (rules, any_start, type_turn, type_end, shared_none, shared_by)
