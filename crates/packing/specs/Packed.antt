-- The answers of the exported calls as one number. Assumes nothing.
use Rattle.std.specs.Prelude.{true, false, ℕ, ◌+◌, ◌*◌, ◌%◌}
use Rattle.std.proofs.Math.Option.{Option, none, some}
use Rattle.definitions.specs.Bounded.{◌is◌, ◌below◌}
use Rattle.definitions.specs.Answer.{Refusal}
use Rattle.definitions.specs.Clauses.{Verdict, accepted, breaks, refused_model, refused_estimate}
use Rattle.definitions.specs.ShutOff.{Reply, not_accepted, nobody, is_shut_off}

-- what kind of answer, a number, and two places: 8, 8, 16 and 16 bits
abbrev pub pack : ℕ → ℕ → ℕ → ℕ → ℕ
pack tag n a b = tag + 0x100 * n + 0x1_0000 * (a % 65536) + 0x1_0000_0000 * (b % 65536)

-- a broken clause has the name that is missing besides, in the 8 bits after those
abbrev pub pack_named : ℕ → ℕ → ℕ → ℕ → ℕ → ℕ
pack_named tag n a b name = pack tag n a b + 0x1_0000_0000_0000 * name

-- 0 accepted, 1 a broken clause, 2 the model refused, 3 the estimate refused
unfoldable pub pack_verdict : Verdict → ℕ
pack_verdict accepted = 0
pack_verdict (breaks b) = pack_named 1 b.clause b.box b.place b.name
pack_verdict (refused_model r) = pack 2 r.number r.place r.second
pack_verdict (refused_estimate r) = pack 3 r.number r.place r.second

-- a refusal below 10 is the model's (2); from 10 on it is the call's own (6)
abbrev pub call_tag : ℕ → ℕ
call_tag n = elim (n below 10) [ true ↦ 2 | false ↦ 6 ]

-- a model read, or a call on a lent state: 0 where nothing is refused
unfoldable pub pack_call : Option Refusal → ℕ
pack_call none = 0
pack_call (some r) = pack (call_tag r.number) r.number r.place r.second

-- 4 yes, 5 no, 6 no such box
unfoldable pub pack_reply : Reply → ℕ
pack_reply (not_accepted v) = pack_verdict v
pack_reply (nobody r) = pack 6 r.number r.place r.second
pack_reply (is_shut_off true) = 4
pack_reply (is_shut_off false) = 5

-- where a refused block of n bytes stands: 2 the model, 3 the estimate; the refusal's number, the block, and n. No block: the model, and 0 bytes
abbrev pub no_part : ℕ
no_part = pack 2 0 0 0

abbrev pub pack_block : Verdict → ℕ → ℕ
pack_block accepted n = no_part
pack_block (breaks b) n = no_part
pack_block (refused_model r) n = pack 2 r.number r.place n
pack_block (refused_estimate r) n = pack 3 r.number r.place n

unfoldable pub pack_part : Verdict → ℕ → ℕ
pack_part v n = elim (n is 0) [ true ↦ no_part | false ↦ pack_block v n ]
