-- What the names of a thread's line stand for. Assumes nothing.
use Rattle.std.specs.Prelude.{ℕ}
use Rattle.definitions.specs.Moves.{value1, value2}
use Rattle.lookups.specs.Ready.{kinds_in, box_in}
use Rattle.lookups.specs.declared.ReadyThread.{ReadyThread}

-- the first name: a channel, or the site that is hidden or shown
abbrev pub subject_of : ReadyThread → ℕ
subject_of y = value1 (kinds_in y.of.now.model.now) (box_in y.of.now.model.now y.of.now.b) y.of.now.r.now y.t

-- the second name, which is sent at an output
abbrev pub sent_of : ReadyThread → ℕ
sent_of y = value2 (kinds_in y.of.now.model.now) (box_in y.of.now.model.now y.of.now.b) y.of.now.r.now y.t
