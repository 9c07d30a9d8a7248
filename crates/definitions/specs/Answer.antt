-- What a call answers: a refusal with its number and two places. Assumes nothing.
use Rattle.std.proofs.Math.Option.{Option, none, some}
use Rattle.std.specs.Prelude.{ℕ}

-- a refusal: its number in the table, and its two places
pub record Refusal : Type 0 where
  pub number : ℕ
  pub place : ℕ
  pub second : ℕ

-- refusal n at places a and b; a refusal that has no place
abbrev pub refusal : ℕ → ℕ → ℕ → Refusal
refusal n a b = record { number = n; place = a; second = b }

abbrev pub unplaced : ℕ → Refusal
unplaced n = refusal n 0 0

-- an answer as one number: 0, or the refusal's
abbrev pub answer_number : Option Refusal → ℕ
answer_number none = 0
answer_number (some r) = r.number
