-- `making::inside::go_on` meets its contract. Assumes nothing.
use mathlib.Core.Path.{refl, ap}
use mathlib.Core.Logic.{⊎_elim}
use native.Mathlib.Omega.{arith}
use Rattle.state.specs.Kinds.{kind_number}
use Rattle.lookups.proofs.Inside.{is-hide, is-unhide}
use Rattle.making.proofs.Lefts.{stays_live, not_made, spreads, spread_left, news, new_left, copy_goes, copy_room, copy_left, exposes, expose_left, turns, turn_left, intra_live2, receives, intra_left}
use Rattle.making.proofs.inside.go_on.Goals as goal

pub thread_line-l-requires-clause-live : goal.thread_line-l-requires-clause-live
thread_line-l-requires-clause-live c = stays_live c.requires.ready _ _ _ c.requires.made _ refl c.requires.stays

pub spread-requires : goal.spread-requires
spread-requires c = spreads c.requires.ready _ _ _ c.requires.made c.thread_line-l.result c.thread_line-l.ensures (ap kind_number c.in-Spread.is)

pub new-requires : goal.new-requires
new-requires c = news c.requires.ready _ _ _ c.requires.made c.thread_line-l.result c.thread_line-l.ensures (ap kind_number c.in-New.is)

pub overflow_cast-l : goal.overflow_cast-l
overflow_cast-l c = record { fits = omega (arith, (copy_goes c.requires.ready _ _ _ c.requires.made c.thread_line-l.result c.thread_line-l.ensures (ap kind_number c.in-Copy.is)).child) }

pub append_thread-requires-clause-live : goal.append_thread-requires-clause-live
append_thread-requires-clause-live c = (copy_goes c.requires.ready _ _ _ c.requires.made c.thread_line-l.result c.thread_line-l.ensures (ap kind_number c.in-Copy.is)).live

pub append_thread-requires-clause-room : goal.append_thread-requires-clause-room
append_thread-requires-clause-room c = copy_room c.requires.ready _ _ _ c.requires.made c.thread_line-l.result c.thread_line-l.ensures (ap kind_number c.in-Copy.is)

pub expose-requires-clause-stamps : goal.expose-requires-clause-stamps
expose-requires-clause-stamps c = (exposes c.requires.ready _ _ _ c.requires.made c.thread_line-l.result c.thread_line-l.ensures (ap kind_number c.in-Expose.is)).0

pub expose-requires-clause-names : goal.expose-requires-clause-names
expose-requires-clause-names c = (exposes c.requires.ready _ _ _ c.requires.made c.thread_line-l.result c.thread_line-l.ensures (ap kind_number c.in-Expose.is)).1

pub expose-requires-clause-room : goal.expose-requires-clause-room
expose-requires-clause-room c = (exposes c.requires.ready _ _ _ c.requires.made c.thread_line-l.result c.thread_line-l.ensures (ap kind_number c.in-Expose.is)).2

pub turn-requires-clause-turns : goal.turn-requires-clause-turns
turn-requires-clause-turns c = turns c.requires.ready _ _ _ c.requires.made c.thread_line-l.result c.thread_line-l.ensures 0 (is-hide _ _ _ _ _ _ (ap kind_number c.in-Hide.is))

pub turn-requires-in-Unhide-clause-turns : goal.turn-requires-in-Unhide-clause-turns
turn-requires-in-Unhide-clause-turns c = turns c.requires.ready _ _ _ c.requires.made c.thread_line-l.result c.thread_line-l.ensures 1 (is-unhide _ _ _ _ _ _ (ap kind_number c.in-Unhide.is))

pub thread_line-k-requires-clause-live : goal.thread_line-k-requires-clause-live
thread_line-k-requires-clause-live c = intra_live2 c.requires.ready _ _ _ c.requires.made c.thread_line-l.result c.thread_line-l.ensures (ap kind_number c.in-Intra.is)

pub intra-requires : goal.intra-requires
intra-requires c = receives c.requires.ready _ _ _ c.requires.made c.thread_line-l.result c.thread_line-l.ensures (ap kind_number c.in-Intra.is) c.thread_line-k.result c.thread_line-k.ensures

pub unreachable-requires : goal.unreachable-requires
unreachable-requires c =
    ⊎_elim (λ e. c.requires.stays (ap kind_number e)) (λ e. not_made c.requires.ready _ _ _ c.requires.made (ap kind_number e)) c.in-Drop.is

pub returns-in-Spread : goal.returns-in-Spread
returns-in-Spread c = spread_left c.requires.ready _ _ _ c.requires.made c.thread_line-l.result c.thread_line-l.ensures (ap kind_number c.in-Spread.is) _ c.spread.ensures

pub returns-in-New : goal.returns-in-New
returns-in-New c = new_left c.requires.ready _ _ _ c.requires.made c.thread_line-l.result c.thread_line-l.ensures (ap kind_number c.in-New.is) _ c.new.ensures

pub returns-in-Copy : goal.returns-in-Copy
returns-in-Copy c = copy_left c.requires.ready _ _ _ c.requires.made c.thread_line-l.result c.thread_line-l.ensures (ap kind_number c.in-Copy.is) _ c.append_thread.ensures

pub returns-in-Expose : goal.returns-in-Expose
returns-in-Expose c = expose_left c.requires.ready _ _ _ c.requires.made c.thread_line-l.result c.thread_line-l.ensures (ap kind_number c.in-Expose.is) _ c.expose.ensures

pub returns-in-Hide : goal.returns-in-Hide
returns-in-Hide c = turn_left c.requires.ready _ _ _ c.requires.made c.thread_line-l.result c.thread_line-l.ensures 0 (is-hide _ _ _ _ _ _ (ap kind_number c.in-Hide.is)) _ c.turn.ensures

pub returns-in-Unhide : goal.returns-in-Unhide
returns-in-Unhide c = turn_left c.requires.ready _ _ _ c.requires.made c.thread_line-l.result c.thread_line-l.ensures 1 (is-unhide _ _ _ _ _ _ (ap kind_number c.in-Unhide.is)) _ c.turn-in-Unhide.ensures

pub returns-in-Intra : goal.returns-in-Intra
returns-in-Intra c = intra_left c.requires.ready _ _ _ c.requires.made c.thread_line-l.result c.thread_line-l.ensures (ap kind_number c.in-Intra.is) c.thread_line-k.result c.thread_line-k.ensures _ c.intra.ensures
