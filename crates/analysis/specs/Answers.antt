-- What each case of the code's answers says, as the definitions have it. Assumes nothing.
use Rattle.std.specs.Prelude.{Bool, Result, Ok, Err}
use Rattle.definitions.specs.Answer.{unplaced}
use Rattle.definitions.specs.Clauses as clauses
use Rattle.definitions.specs.ShutOff as shut
use Rattle.refusals.specs.Answers.{refusal_in}
use Rattle.record_clauses.specs.Found.{broken_in}
use Rattle.analysis.specs.declared.NotAccepted.{NotAccepted}
use Rattle.analysis.specs.declared.NotAccepted.TheVariants.{RefusedModel, RefusedEstimate, Breaks}
use Rattle.analysis.specs.declared.NoReply.{NoReply}
use Rattle.analysis.specs.declared.NoReply.TheVariants as no

-- a refusal of the model; a refusal of the estimate; the first broken clause
abbrev pub not_accepted_in : NotAccepted → clauses.Verdict
not_accepted_in (RefusedModel r) = clauses.refused_model (refusal_in r)
not_accepted_in (RefusedEstimate r) = clauses.refused_estimate (refusal_in r)
not_accepted_in (Breaks x) = clauses.breaks (broken_in x)

-- the checker's answer, whatever is given where the estimate is accepted
abbrev pub verdict_in : {A : Type 0} → Result A NotAccepted → clauses.Verdict
verdict_in (Ok a) = clauses.accepted
verdict_in (Err e) = not_accepted_in e

-- the question's answer: the checker's where that is not accepted; 12 for a box that the model lacks; yes or no
abbrev pub no_reply_in : NoReply → shut.Reply
no_reply_in (no.NotAccepted e) = shut.not_accepted (not_accepted_in e)
no_reply_in no.Nobody = shut.nobody (unplaced 12)

abbrev pub reply_in : Result Bool NoReply → shut.Reply
reply_in (Ok b) = shut.is_shut_off b
reply_in (Err e) = no_reply_in e
