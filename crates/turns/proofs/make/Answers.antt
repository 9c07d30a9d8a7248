-- `turns::make` meets its contract. Assumes nothing.
use mathlib.Core.Path.{ap}
use native.Mathlib.Omega.{arith}
use Rattle.state.specs.Kinds.{kind_number}
use Rattle.turns.proofs.Acts.{lent_first, split_back, make_inter, make_inter_left, make_box, make_room, make_ready, make_inside, make_left, other_number}
use Rattle.turns.proofs.make.Goals as goal

pub inter-requires-clause-made : goal.inter-requires-clause-made
inter-requires-clause-made c = make_inter c.requires.ready _ _ _ _ _ c.requires.made (ap kind_number c.in-Inter.is)

pub overflow_mul-m : goal.overflow_mul-m
overflow_mul-m c = record { fits = omega (arith, make_box c.requires.ready _ _ _ _ _ c.requires.made (other_number _ c.in_default.not-Inter)) }

pub split_at_mut-words-requires : goal.split_at_mut-words-requires
split_at_mut-words-requires c = omega (arith, make_room c.requires.ready _ _ _ _ _ c.requires.made (other_number _ c.in_default.not-Inter))

pub first_record-requires : goal.first_record-requires
first_record-requires c = omega (arith, make_room c.requires.ready _ _ _ _ _ c.requires.made (other_number _ c.in_default.not-Inter), c.split_at_mut-words.ensures.back_len)

pub make-requires : goal.make-requires
make-requires c =
    let d = lent_first _ _ _ _ c.split_at_mut-words.ensures.back c.first_record.ensures.value in
    record {
      ready = make_ready c.requires.ready _ _ _ _ _ c.requires.made (other_number _ c.in_default.not-Inter) _ d;
      made = make_inside c.requires.ready _ _ _ _ _ c.requires.made (other_number _ c.in_default.not-Inter) _ d;
    }

pub returns-in-Inter : goal.returns-in-Inter
returns-in-Inter c = make_inter_left c.requires.ready _ _ _ _ _ c.requires.made (ap kind_number c.in-Inter.is) _ c.inter.ensures

pub returns-in_default : goal.returns-in_default
returns-in_default c =
    make_left c.requires.ready _ _ _ _ _ c.requires.made (other_number _ c.in_default.not-Inter) _ (lent_first _ _ _ _ c.split_at_mut-words.ensures.back c.first_record.ensures.value) _ _ c.make.ensures
    (split_back _ _ _ _ _ c.split_at_mut-words.ensures.front c.split_at_mut-words.ensures.back)
