-- `making::expose::type_names` meets its contract. Assumes nothing.
use native.Mathlib.Omega.{arith}
use Rattle.making.proofs.Exposes.{typed_rest, typed_listed, typed_left}
use Rattle.making.proofs.expose.+type_names.Goals as goal

pub type_names-requires : goal.type_names-requires
type_names-requires t c = (
  omega (arith, c.without_lowest.ensures.less c.in-Some.ensures.0),
  (typed_rest c.requires.names c.requires.room (omega arith) c.in-Some.ensures.0 c.in-Some.n.0 _ c.without_lowest.ensures, c.requires.room),
)

pub value-v-requires-clause-listed : goal.value-v-requires-clause-listed
value-v-requires-clause-listed t c =
    typed_listed c.requires.names c.requires.room (omega arith) c.in-Some.ensures.0 c.in-Some.n.0 _ c.without_lowest.ensures _ c.type_names.ensures c.in-Some.ensures.1

pub returns-in-Some : goal.returns-in-Some
returns-in-Some t c =
    typed_left c.requires.names c.requires.room (omega arith) c.in-Some.ensures.0 c.in-Some.n.0 _ c.without_lowest.ensures _ c.type_names.ensures c.in-Some.ensures.1
    c.value-v.result.0 c.value-v.ensures _ c.insert_name.ensures
