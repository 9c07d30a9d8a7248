-- `making::ends::onward` meets its contract. Assumes nothing.
use Rattle.making.proofs.Lefts.{onward_child, onward_left}
use Rattle.making.proofs.ends.onward.Goals as goal

pub overflow_cast-l : goal.overflow_cast-l
overflow_cast-l c = onward_child c.requires.ready _ c.requires.live c.thread_line-l.result c.thread_line-l.ensures c.requires.there

pub returns : goal.returns
returns c = onward_left c.requires.ready _ c.requires.live c.thread_line-l.result c.thread_line-l.ensures c.requires.there _ c.set_line.ensures
