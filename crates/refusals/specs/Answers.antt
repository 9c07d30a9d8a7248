-- What the code's answer says, as the paper has it: none, or a refusal with its number and two places. Assumes nothing.
use Rattle.std.proofs.Math.Option.{Option, none, some}
use Rattle.std.specs.Prelude.{ℕ, Result, Ok, Err}
use Rattle.definitions.specs.Answer as paper
use Rattle.refusals.specs.declared.Refusal.{Refusal}
use Rattle.refusals.specs.declared.Rule.{Rule}
use Rattle.refusals.specs.declared.Rule.TheVariants.{Length, Check, Heading, Count, Stray, Site, Line, Tree, Reach, Room, Spoilt}

-- the paper's number of a rule
abbrev pub rule_number : Rule → ℕ
rule_number Length = 1
rule_number Check = 2
rule_number Heading = 3
rule_number Count = 4
rule_number Stray = 5
rule_number Site = 6
rule_number Line = 7
rule_number Tree = 8
rule_number Reach = 9
rule_number Room = 10
rule_number Spoilt = 11

abbrev pub refusal_in : Refusal → paper.Refusal
refusal_in r = paper.refusal r.number r.place r.second

-- the refusal, whatever is given where there is none
abbrev pub answer_in : {A : Type 0} → Result A Refusal → Option paper.Refusal
answer_in (Ok _) = none
answer_in (Err r) = some (refusal_in r)
