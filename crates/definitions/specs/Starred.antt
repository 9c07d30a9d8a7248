-- Model K, estimate E, and the starred lines of document 01 as a list of cases with what must come out. Assumes nothing.
use Rattle.std.specs.Prelude.{Bool, true, false, List, [], ◌∷◌, ℕ, ◌+◌, ◌^◌, get_or}
use Rattle.std.proofs.Math.Option.{Option, none, some}
use Rattle.definitions.specs.Bounded.{◌and◌, ◌is◌, tabulate}
use Rattle.definitions.specs.Model.{Site, Line, Box, Model}
use Rattle.definitions.specs.Estimate.{Estimate}
use Rattle.definitions.specs.Clauses.{Broken, broken, first_broken}
use Rattle.definitions.specs.Record.{thread, threads, line, binding, record_of}
use Rattle.definitions.specs.Start.{start_state, free_held}
use Rattle.definitions.specs.Moves.{Move}
use Rattle.definitions.specs.Calls.{act_all}

-- ---- model K. Names: 0 x, 1 z, 3 u, 4 v, 5 c are free, 2 y is received

abbrev pub shown_site : ℕ → ℕ → Site
shown_site n type = record { subject = n; flag = 0; spare = 0; type = type }

abbrev pub untyped_line : ℕ → ℕ → ℕ → ℕ → ℕ → Line
untyped_line op n1 n2 c1 c2 = record { op = op; name1 = n1; name2 = n2; spare = 0; child1 = c1; child2 = c2; type = 0 }

-- box 0: site x shown, type {c}; 0 parallel (1, 3); 1 input on x into y; 2 nil; 3 output on x of z; 4 nil
unfoldable pub box_k0 : Box
box_k0 = record {
  sites = shown_site 0 (2 ^ 5) ∷ [];
  lines = untyped_line 1 0 0 1 3 ∷ untyped_line 5 0 2 2 0 ∷ untyped_line 0 0 0 0 0 ∷ untyped_line 4 0 1 4 0 ∷ untyped_line 0 0 0 0 0 ∷ [];
}

-- box 1: site u shown, type {c}; 0 output on u of v; 1 nil
unfoldable pub box_k1 : Box
box_k1 = record { sites = shown_site 3 (2 ^ 5) ∷ []; lines = untyped_line 4 3 4 1 0 ∷ untyped_line 0 0 0 0 0 ∷ [] }

unfoldable pub K : Model
K = record { kinds = 0 ∷ 0 ∷ 2 ∷ 0 ∷ 0 ∷ 0 ∷ []; boxes = box_k0 ∷ box_k1 ∷ [] }

-- ---- estimate E: each free n has rho(n) = {n}; the other sets are given: rho(y), eps(1,u) and kap(0,x), which the cases change

unfoldable pub estimate_k : ℕ → ℕ → ℕ → Estimate
estimate_k rho_y eps1u kap0x = record {
  rho = λ n. get_or (2 ^ 0 ∷ 2 ^ 1 ∷ rho_y ∷ 2 ^ 3 ∷ 2 ^ 4 ∷ 2 ^ 5 ∷ []) n 0;
  eps = λ b n. get_or (get_or ((2 ^ 5 ∷ []) ∷ (0 ∷ 0 ∷ 0 ∷ eps1u ∷ []) ∷ []) b []) n 0;
  kap = λ b n. get_or (get_or ((kap0x ∷ []) ∷ (0 ∷ 0 ∷ 0 ∷ 2 ^ 4 ∷ []) ∷ []) b []) n 0;
  shown = λ b. get_or (2 ^ 0 ∷ 2 ^ 3 ∷ []) b 0;
  hidden = λ b. 0;
}

unfoldable pub E : Estimate
E = estimate_k (2 ^ 1 + 2 ^ 4) (2 ^ 5) (2 ^ 1)

-- ---- the cases

-- what is seen of a state: the lines at which a box's threads stand; what a name is bound to in a thread of a box
pub data Seen : Type 0 where
  standing : ℕ → List ℕ → Seen
  bound : ℕ → ℕ → ℕ → ℕ → Seen

-- an estimate for K with the first broken clause; moves from the start of K with their answers and what is then seen
pub data Case : Type 0 where
  estimate : Estimate → Option Broken → Case
  moves : List Move → List ℕ → List Seen → Case

abbrev pub spread_of : ℕ → ℕ → Move
spread_of b t = record { kind = 2; box = b; thread = t; box2 = 0; thread2 = 0 }

abbrev pub intra_of : ℕ → ℕ → ℕ → Move
intra_of b t u = record { kind = 8; box = b; thread = t; box2 = 0; thread2 = u }

abbrev pub inter_of : ℕ → ℕ → ℕ → ℕ → Move
inter_of b t k u = record { kind = 9; box = b; thread = t; box2 = k; thread2 = u }

unfoldable pub starred : List Case
starred =
    estimate E none
    ∷ estimate (estimate_k (2 ^ 4) (2 ^ 5) (2 ^ 1)) (some (broken 5 0 1 1))
    ∷ estimate (estimate_k (2 ^ 1) (2 ^ 5) (2 ^ 1)) (some (broken 6 0 1 4))
    ∷ estimate (estimate_k (2 ^ 4) (2 ^ 5) 0) (some (broken 4 0 3 1))
    ∷ estimate (estimate_k (2 ^ 1 + 2 ^ 4) 0 (2 ^ 1)) (some (broken 2 1 0 5))
    ∷ moves (spread_of 0 0 ∷ []) (0 ∷ []) (standing 0 (1 ∷ 3 ∷ []) ∷ [])
    ∷ moves (spread_of 0 0 ∷ intra_of 0 0 1 ∷ []) (0 ∷ 0 ∷ []) (standing 0 (2 ∷ 4 ∷ []) ∷ bound 0 0 2 (free_held 1) ∷ [])
    ∷ moves (spread_of 0 0 ∷ inter_of 0 0 1 0 ∷ inter_of 0 0 1 0 ∷ []) (0 ∷ 0 ∷ 14 ∷ []) (bound 0 0 2 (free_held 4) ∷ standing 1 (1 ∷ []) ∷ [])
    ∷ moves (spread_of 0 0 ∷ intra_of 0 0 0 ∷ intra_of 0 1 0 ∷ []) (0 ∷ 13 ∷ 14 ∷ []) (standing 0 (1 ∷ 3 ∷ []) ∷ [])
    ∷ moves (spread_of 0 1 ∷ inter_of 0 0 1 0 ∷ []) (12 ∷ 14 ∷ []) (standing 0 (0 ∷ []) ∷ standing 1 (0 ∷ []) ∷ [])
    ∷ []

-- ---- a case agrees with the clauses, or with the step rules

unfoldable pub same_numbers : List ℕ → List ℕ → Bool
same_numbers [] [] = true
same_numbers [] (b ∷ k) = false
same_numbers (a ∷ l) [] = false
same_numbers (a ∷ l) (b ∷ k) = a is b and same_numbers l k

unfoldable pub same_broken : Option Broken → Option Broken → Bool
same_broken none none = true
same_broken none (some b) = false
same_broken (some a) none = false
same_broken (some a) (some b) = a.clause is b.clause and a.box is b.box and a.place is b.place and a.name is b.name

unfoldable pub is_seen : List ℕ → Seen → Bool
is_seen st (standing b lines) = let r = record_of st b in same_numbers (tabulate (threads r) (λ t. line (thread r t))) lines
is_seen st (bound b t n v) = binding (thread (record_of st b) t) n is v

unfoldable pub all_seen : List ℕ → List Seen → Bool
all_seen st [] = true
all_seen st (s ∷ ss) = is_seen st s and all_seen st ss

unfoldable pub agrees : Case → Bool
agrees (estimate e expected) = same_broken (first_broken K e) expected
agrees (moves vs answers seen) = let ran = act_all K (start_state K) vs in same_numbers ran.answers answers and all_seen ran.words seen

unfoldable pub all_agree : List Case → Bool
all_agree [] = true
all_agree (x ∷ xs) = agrees x and all_agree xs
