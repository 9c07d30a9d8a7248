-- `turns::inter` meets its contract. Assumes nothing.
use native.Mathlib.Omega.{arith}
use Rattle.turns.proofs.Acts.{lent_first, split_back, inter_box, inter_box2, inter_room, inter_room2, sent_ready, sent_live, sent_op, first_ready, first_live, first_op, second_room, second_ready, second_live, second_op, inter_left}
use Rattle.turns.proofs.inter.Goals as goal

pub record-requires : goal.record-requires
record-requires c = inter_room2 c.requires.ready _ _ _ _ c.requires.made

pub invariant_of-y : goal.invariant_of-y
invariant_of-y c = record { ready = sent_ready c.requires.ready _ _ _ _ c.requires.made _ c.record.ensures }

pub sent-v-requires : goal.sent-v-requires
sent-v-requires c = record {
  live = sent_live c.requires.ready _ _ _ _ c.requires.made _ c.record.ensures;
  there = sent_op c.requires.ready _ _ _ _ c.requires.made _ c.record.ensures;
}

pub overflow_mul-m : goal.overflow_mul-m
overflow_mul-m c = record { fits = omega (arith, inter_box c.requires.ready _ _ _ _ c.requires.made) }

pub split_at_mut-first-requires : goal.split_at_mut-first-requires
split_at_mut-first-requires c = omega (arith, inter_room c.requires.ready _ _ _ _ c.requires.made)

pub first_record-requires : goal.first_record-requires
first_record-requires c = omega (arith, inter_room c.requires.ready _ _ _ _ c.requires.made, c.split_at_mut-first.ensures.back_len)

pub receive-requires : goal.receive-requires
receive-requires c =
    let d = lent_first _ _ _ _ c.split_at_mut-first.ensures.back c.first_record.ensures.value in
    record {
      ready = first_ready c.requires.ready _ _ _ _ c.requires.made _ d;
      live = first_live c.requires.ready _ _ _ _ c.requires.made _ d;
      there = first_op c.requires.ready _ _ _ _ c.requires.made _ d;
    }

pub overflow_mul-m-2 : goal.overflow_mul-m-2
overflow_mul-m-2 c = record { fits = omega (arith, inter_box2 c.requires.ready _ _ _ _ c.requires.made) }

pub split_at_mut-second-requires : goal.split_at_mut-second-requires
split_at_mut-second-requires c =
    omega (arith, second_room c.requires.ready _ _ _ _ c.requires.made _ (lent_first _ _ _ _ c.split_at_mut-first.ensures.back c.first_record.ensures.value) _ c.record.ensures c.sent-v.result.0 c.sent-v.ensures _ _ c.receive.ensures (split_back _ _ _ _ _ c.split_at_mut-first.ensures.front c.split_at_mut-first.ensures.back))

pub first_record-requires-2 : goal.first_record-requires-2
first_record-requires-2 c =
    omega (arith, second_room c.requires.ready _ _ _ _ c.requires.made _ (lent_first _ _ _ _ c.split_at_mut-first.ensures.back c.first_record.ensures.value) _ c.record.ensures c.sent-v.result.0 c.sent-v.ensures _ _ c.receive.ensures (split_back _ _ _ _ _ c.split_at_mut-first.ensures.front c.split_at_mut-first.ensures.back), c.split_at_mut-second.ensures.back_len)

pub onward-requires : goal.onward-requires
onward-requires c =
    let d = lent_first _ _ _ _ c.split_at_mut-first.ensures.back c.first_record.ensures.value in
    let e = lent_first _ _ _ _ c.split_at_mut-second.ensures.back c.first_record-2.ensures.value in
    record {
      ready = second_ready c.requires.ready _ _ _ _ c.requires.made _ d _ c.record.ensures c.sent-v.result.0 c.sent-v.ensures _ _ c.receive.ensures (split_back _ _ _ _ _ c.split_at_mut-first.ensures.front c.split_at_mut-first.ensures.back) _ e;
      live = second_live c.requires.ready _ _ _ _ c.requires.made _ d _ c.record.ensures c.sent-v.result.0 c.sent-v.ensures _ _ c.receive.ensures (split_back _ _ _ _ _ c.split_at_mut-first.ensures.front c.split_at_mut-first.ensures.back) _ e;
      there = second_op c.requires.ready _ _ _ _ c.requires.made _ d _ c.record.ensures c.sent-v.result.0 c.sent-v.ensures _ _ c.receive.ensures (split_back _ _ _ _ _ c.split_at_mut-first.ensures.front c.split_at_mut-first.ensures.back) _ e;
    }

pub returns : goal.returns
returns c =
    let d = lent_first _ _ _ _ c.split_at_mut-first.ensures.back c.first_record.ensures.value in
    let e = lent_first _ _ _ _ c.split_at_mut-second.ensures.back c.first_record-2.ensures.value in
    inter_left c.requires.ready _ _ _ _ c.requires.made _ d _ c.record.ensures c.sent-v.result.0 c.sent-v.ensures _ _ c.receive.ensures (split_back _ _ _ _ _ c.split_at_mut-first.ensures.front c.split_at_mut-first.ensures.back) _ e _ _ c.onward.ensures
    (split_back _ _ _ _ _ c.split_at_mut-second.ensures.front c.split_at_mut-second.ensures.back)
