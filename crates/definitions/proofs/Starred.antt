-- The starred lines of document 01 agree with the clauses and the step rules, by computation. Assumes nothing.
use lib.Dec.{T}
use Rattle.definitions.specs.Bounded.{◌and◌, ◌or◌, ◌implies◌, ◌is◌, ◌isnt◌, ◌below◌, ◌upto◌, all_below, any_below, first_below, tabulate, flat}
use Rattle.definitions.specs.Sets.{has, for_each, for_some, absent, first_short, missing, within, meets, members_below, members, size_below, size}
use Rattle.definitions.specs.Model.{site_at, line_at, box_at, kind_of_name, has_child, binds, parent, bound_within, bound_above, binds_in, owner}
use Rattle.definitions.specs.Clauses.{clause1, clause2, clause3, clause4, clause5, clause6, clause7, clause8, clause9, line_broken, name_broken, site_broken, box_broken, first_broken, check}
use Rattle.definitions.specs.Slots.{zeros, part, put, slot, put_slot, drop_slot, push_slot, take_slot}
use Rattle.definitions.specs.Record.{held, held_number, held_stamp, last_stamps}
use Rattle.definitions.specs.Start.{insert, ascending, type_words, start_site, start_record, start_state}
use Rattle.definitions.specs.Moves.{kind_of_move, site_with, types_share, value_in, thread_line, onward, onward_with, value1, value2, at_line, drop_move, spread_move, new_move, copy_move, expose_move, turn_move, intra_move, inside_move, inter_move, inside_act, inter_act, act_as, act}
use Rattle.definitions.specs.Calls.{start_refusal, start, moves_refusal, state_refusal, step, steps, act_all, run_refusal, run}
use Rattle.definitions.specs.Starred.{box_k0, box_k1, K, estimate_k, E, starred, same_numbers, same_broken, is_seen, all_seen, agrees, all_agree}

pub starred_agree : T (all_agree starred)
unfolding ◌and◌ ◌or◌ ◌implies◌ ◌is◌ ◌isnt◌ ◌below◌ ◌upto◌ all_below any_below first_below tabulate flat has for_each for_some absent first_short missing within meets members_below members size_below size site_at line_at box_at kind_of_name has_child binds parent bound_within bound_above binds_in owner clause1 clause2 clause3 clause4 clause5 clause6 clause7 clause8 clause9 line_broken name_broken site_broken box_broken first_broken check zeros part put slot put_slot drop_slot push_slot take_slot held held_number held_stamp last_stamps insert ascending type_words start_site start_record start_state kind_of_move site_with types_share value_in thread_line onward onward_with value1 value2 at_line drop_move spread_move new_move copy_move expose_move turn_move intra_move inside_move inter_move inside_act inter_act act_as act start_refusal start moves_refusal state_refusal step steps act_all run_refusal run box_k0 box_k1 K estimate_k E starred same_numbers same_broken is_seen all_seen agrees all_agree
starred_agree = tt
