-- A walk over the members of a set, up to the first name that is missing. Assumes nothing.
use mathlib.Core.Path.{◌≡◌, sym}
use mathlib.Core.Option.{Option}
use Prim.Native.Nat.{ℕ, ◌^◌, ◌<◌}
use borrow.Author.Rules.{rules}
use Rattle.std.specs.Prelude.{Result, Ok, Err}
use Rattle.sets.specs.declared.NameNo.{NameNo}
use Rattle.sets.specs.Ascending.{LowestOf}
use Rattle.sets.proofs.Each.{some_left}
use Rattle.sets.proofs.Walk.{Left, left_start, left_turn}
use Rattle.subsets.specs.Within.{within_in}
use Rattle.subsets.proofs.Walk.{ShortLeft, short_start, short_turn, short_stop, short_end}
use Rattle.clauses.specs.Each.{ShortAtEach}

-- what is left of s gives the answer that s gives
pub record EachLeft (post : NameNo → Result (Unit {0}) NameNo → Type 0) (s left : ℕ) : Type 0 where
  pub there : Left s left
  pub same : (g : ℕ → Option ℕ) → ((n : NameNo) (t : Result (Unit {0}) NameNo) → post n t → within_in t ≡ g n.0) → ShortLeft g s left

module _ (post : NameNo → Result (Unit {0}) NameNo → Type 0) (s : ℕ) where
  pub each_start : s < 2 ^ 64 → EachLeft post s s
  each_start h = record { there = left_start s h; same = λ g e. short_start g s h }

  module _ (left : ℕ) (w : EachLeft post s left) where
    module _ (n : NameNo) (t : ℕ) (d : LowestOf left n.0 t) where
      pub each_turn : post n (Ok tt) → EachLeft post s t
      each_turn p = record {
        there = left_turn s left t w.there (some_left left n.0 t d) d.others;
        same = λ g e. short_turn g s left n.0 t (w.same g e) d (sym (e n (Ok tt) p));
      }

      pub each_stop : (m : NameNo) → post n (Err m) → ShortAtEach post s (Err m)
      each_stop m p = record { same = λ g e. sym (short_stop g s left n.0 t (w.same g e) d m.0 (sym (e n (Err m) p))) }

    pub each_end : left ≡ 0 → ShortAtEach post s (Ok tt)
    each_end z = record { same = λ g e. sym (short_end g s left (w.same g e) z) }

pub ruleset shorts = (rules, each_start, each_turn, each_stop, each_end)
