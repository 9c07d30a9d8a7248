-- `making::ends::receive` meets its contract. Assumes nothing.
use Rattle.making.proofs.Lefts.{receive_child, receive_name, receive_left}
use Rattle.making.proofs.ends.receive.Goals as goal

pub bind-requires-clause-listed : goal.bind-requires-clause-listed
bind-requires-clause-listed c = receive_name c.requires.ready _ c.requires.live c.thread_line-l.result c.thread_line-l.ensures c.requires.there

pub overflow_cast-l : goal.overflow_cast-l
overflow_cast-l c = receive_child c.requires.ready _ c.requires.live c.thread_line-l.result c.thread_line-l.ensures c.requires.there

pub returns : goal.returns
returns c = receive_left c.requires.ready _ c.requires.live c.thread_line-l.result c.thread_line-l.ensures c.requires.there _ _ c.bind.ensures _ c.set_line.ensures
