-- What the examples compute: the question, the checker, the models of the images, and moves made from their starts. Assumes nothing.
use mathlib.Core.Path.{◌≡◌, refl}
use mathlib.Core.Bool.{true, false}
use mathlib.Core.List.{[], ◌∷◌}
use mathlib.Core.Option.{none}
use lib.Dec.{T}
use Rattle.definitions.specs.Bounded.{◌and◌, ◌or◌, ◌implies◌, ◌is◌, ◌isnt◌, ◌below◌, ◌upto◌, all_below, any_below, first_below, tabulate, flat}
use Rattle.definitions.specs.Sets.{has, for_each, for_some, absent, first_short, missing, within, meets, members_below, members, size_below, size, no_bit_past}
use Rattle.definitions.specs.Words.{byte_at, word_at, words_of, block_of, number_of, kind_of_block, box_of, count_of, spare_of, data_word}
use Rattle.definitions.specs.Check.{check_from, check_of, stored_check}
use Rattle.definitions.specs.Model.{site_at, line_at, box_at, kind_of_name, has_child, binds, parent, bound_within, bound_above, binds_in, owner}
use Rattle.definitions.specs.Image.{site_record, line_record, name_count, boxes_of, kinds_of, line_blocks, sites_block, lines_of, box_of_image, model_of}
use Rattle.definitions.specs.ReadModel.{block_fault, clear_from, head_counts, head_fault, sites_fault, lines_fault, box_fault, left_over_fault, length_fault, blocks_fault, type_fits, used_before, site_fits, uses_name1, uses_name2, uses_child1, line_fits, child_fits, tree_fits, uses, bound_before, reach_fits, first_misfit, model_fault, read_model}
use Rattle.definitions.specs.Estimate.{eps_block, kap_block, estimate_of}
use Rattle.definitions.specs.ReadEstimate.{sets_fit, table_fault, read_estimate}
use Rattle.definitions.specs.Clauses.{clause1, clause2, clause3, clause4, clause5, clause6, clause7, clause8, clause9, line_broken, name_broken, site_broken, box_broken, first_broken, check, accepted}
use Rattle.definitions.specs.ShutOff.{linked, shut_off, question, refused_part, refused_block, is_shut_off, box_reply}
use Rattle.definitions.specs.Slots.{zeros, part, put, slot, put_slot, drop_slot, push_slot, take_slot}
use Rattle.image_examples.specs.Encode.{bytes, word_bytes, encode_block, site_words, line_words, encode_lines, encode_box, encode_boxes, join_blocks, encode_model, encode_estimate}
use Rattle.definitions.specs.Starred.{box_k0, box_k1, K, estimate_k, E, starred, same_numbers, same_broken, is_seen, all_seen, agrees, all_agree, spread_of}
use Rattle.image_examples.specs.Images.{image_k, image_e, same_sets}
use Rattle.isolation_examples.specs.Example.{quiet, busy, filled, estimate_for, quiet_image, busy_image, quiet_estimate, busy_estimate, quiet_moves, busy_moves, sending, estimate_sending, sending_image, sending_estimate, meeting}
use Rattle.definitions.specs.Record.{held, held_number, held_stamp, last_stamps, record_of, thread, threads, binding}
use Rattle.definitions.specs.Start.{insert, ascending, type_words, start_site, start_record, start_state}
use Rattle.definitions.specs.Moves.{kind_of_move, site_with, types_share, value_in, thread_line, onward, onward_with, value1, value2, at_line, drop_move, spread_move, new_move, copy_move, expose_move, turn_move, intra_move, inside_move, inter_move, inside_act, inter_act, act_as, act}
use Rattle.definitions.specs.Calls.{start_refusal, start, moves_refusal, state_refusal, step, steps, act_all, run_refusal, run}
use Rattle.isolation.specs.Group.{only, names_as, names, struck, answers_left}

pub quiet_yes : question quiet_image quiet_estimate 2 ≡ is_shut_off true
unfolding ◌and◌ ◌or◌ ◌implies◌ ◌is◌ ◌isnt◌ ◌below◌ ◌upto◌ all_below any_below first_below tabulate flat has for_each for_some absent first_short missing within meets members_below members size_below size byte_at word_at words_of block_of number_of kind_of_block box_of count_of spare_of data_word check_from check_of stored_check site_at line_at box_at kind_of_name has_child binds parent bound_within bound_above binds_in owner site_record line_record name_count boxes_of kinds_of line_blocks sites_block lines_of box_of_image model_of block_fault clear_from head_counts head_fault sites_fault lines_fault box_fault left_over_fault length_fault blocks_fault type_fits used_before site_fits uses_name1 uses_name2 uses_child1 line_fits child_fits tree_fits uses bound_before reach_fits first_misfit model_fault read_model eps_block kap_block estimate_of no_bit_past sets_fit table_fault read_estimate clause1 clause2 clause3 clause4 clause5 clause6 clause7 clause8 clause9 line_broken name_broken site_broken box_broken first_broken check linked shut_off question refused_part refused_block zeros part put slot put_slot drop_slot push_slot take_slot bytes word_bytes encode_block site_words line_words encode_lines encode_box encode_boxes join_blocks encode_model encode_estimate box_k0 box_k1 K estimate_k E starred same_numbers same_broken is_seen all_seen agrees all_agree image_k image_e same_sets quiet busy filled estimate_for quiet_image busy_image quiet_estimate busy_estimate quiet_moves busy_moves sending estimate_sending sending_image sending_estimate meeting
quiet_yes = refl

pub busy_yes : question busy_image busy_estimate 2 ≡ is_shut_off true
unfolding ◌and◌ ◌or◌ ◌implies◌ ◌is◌ ◌isnt◌ ◌below◌ ◌upto◌ all_below any_below first_below tabulate flat has for_each for_some absent first_short missing within meets members_below members size_below size byte_at word_at words_of block_of number_of kind_of_block box_of count_of spare_of data_word check_from check_of stored_check site_at line_at box_at kind_of_name has_child binds parent bound_within bound_above binds_in owner site_record line_record name_count boxes_of kinds_of line_blocks sites_block lines_of box_of_image model_of block_fault clear_from head_counts head_fault sites_fault lines_fault box_fault left_over_fault length_fault blocks_fault type_fits used_before site_fits uses_name1 uses_name2 uses_child1 line_fits child_fits tree_fits uses bound_before reach_fits first_misfit model_fault read_model eps_block kap_block estimate_of no_bit_past sets_fit table_fault read_estimate clause1 clause2 clause3 clause4 clause5 clause6 clause7 clause8 clause9 line_broken name_broken site_broken box_broken first_broken check linked shut_off question refused_part refused_block zeros part put slot put_slot drop_slot push_slot take_slot bytes word_bytes encode_block site_words line_words encode_lines encode_box encode_boxes join_blocks encode_model encode_estimate box_k0 box_k1 K estimate_k E starred same_numbers same_broken is_seen all_seen agrees all_agree image_k image_e same_sets quiet busy filled estimate_for quiet_image busy_image quiet_estimate busy_estimate quiet_moves busy_moves sending estimate_sending sending_image sending_estimate meeting
busy_yes = refl

pub quiet_model : model_of quiet_image ≡ filled quiet
unfolding ◌and◌ ◌or◌ ◌implies◌ ◌is◌ ◌isnt◌ ◌below◌ ◌upto◌ all_below any_below first_below tabulate flat has for_each for_some absent first_short missing within meets members_below members size_below size byte_at word_at words_of block_of number_of kind_of_block box_of count_of spare_of data_word check_from check_of stored_check site_at line_at box_at kind_of_name has_child binds parent bound_within bound_above binds_in owner site_record line_record name_count boxes_of kinds_of line_blocks sites_block lines_of box_of_image model_of block_fault clear_from head_counts head_fault sites_fault lines_fault box_fault left_over_fault length_fault blocks_fault type_fits used_before site_fits uses_name1 uses_name2 uses_child1 line_fits child_fits tree_fits uses bound_before reach_fits first_misfit model_fault read_model eps_block kap_block estimate_of no_bit_past sets_fit table_fault read_estimate clause1 clause2 clause3 clause4 clause5 clause6 clause7 clause8 clause9 line_broken name_broken site_broken box_broken first_broken check linked shut_off question refused_part refused_block zeros part put slot put_slot drop_slot push_slot take_slot bytes word_bytes encode_block site_words line_words encode_lines encode_box encode_boxes join_blocks encode_model encode_estimate box_k0 box_k1 K estimate_k E starred same_numbers same_broken is_seen all_seen agrees all_agree image_k image_e same_sets quiet busy filled estimate_for quiet_image busy_image quiet_estimate busy_estimate quiet_moves busy_moves sending estimate_sending sending_image sending_estimate meeting
quiet_model = refl

pub busy_model : model_of busy_image ≡ filled busy
unfolding ◌and◌ ◌or◌ ◌implies◌ ◌is◌ ◌isnt◌ ◌below◌ ◌upto◌ all_below any_below first_below tabulate flat has for_each for_some absent first_short missing within meets members_below members size_below size byte_at word_at words_of block_of number_of kind_of_block box_of count_of spare_of data_word check_from check_of stored_check site_at line_at box_at kind_of_name has_child binds parent bound_within bound_above binds_in owner site_record line_record name_count boxes_of kinds_of line_blocks sites_block lines_of box_of_image model_of block_fault clear_from head_counts head_fault sites_fault lines_fault box_fault left_over_fault length_fault blocks_fault type_fits used_before site_fits uses_name1 uses_name2 uses_child1 line_fits child_fits tree_fits uses bound_before reach_fits first_misfit model_fault read_model eps_block kap_block estimate_of no_bit_past sets_fit table_fault read_estimate clause1 clause2 clause3 clause4 clause5 clause6 clause7 clause8 clause9 line_broken name_broken site_broken box_broken first_broken check linked shut_off question refused_part refused_block zeros part put slot put_slot drop_slot push_slot take_slot bytes word_bytes encode_block site_words line_words encode_lines encode_box encode_boxes join_blocks encode_model encode_estimate box_k0 box_k1 K estimate_k E starred same_numbers same_broken is_seen all_seen agrees all_agree image_k image_e same_sets quiet busy filled estimate_for quiet_image busy_image quiet_estimate busy_estimate quiet_moves busy_moves sending estimate_sending sending_image sending_estimate meeting
busy_model = refl

pub quiet_acts : ((act_all (filled quiet) (start_state (filled quiet)) quiet_moves).answers ≡ 0 ∷ 0 ∷ 0 ∷ [])
    × (last_stamps (act_all (filled quiet) (start_state (filled quiet)) quiet_moves).words 2 ≡ 0)
unfolding ◌and◌ ◌or◌ ◌implies◌ ◌is◌ ◌isnt◌ ◌below◌ ◌upto◌ all_below any_below first_below tabulate flat has for_each for_some absent first_short missing within meets members_below members size_below size site_at line_at box_at kind_of_name has_child binds parent bound_within bound_above binds_in owner zeros part put slot put_slot drop_slot push_slot take_slot held held_number held_stamp last_stamps insert ascending type_words start_site start_record start_state kind_of_move site_with types_share value_in thread_line onward onward_with value1 value2 at_line drop_move spread_move new_move copy_move expose_move turn_move intra_move inside_move inter_move inside_act inter_act act_as act names_as names start_refusal start moves_refusal state_refusal step steps act_all run_refusal run only struck answers_left box_k0 box_k1 K estimate_k E starred same_numbers same_broken is_seen all_seen agrees all_agree image_k image_e same_sets quiet busy filled estimate_for quiet_image busy_image quiet_estimate busy_estimate quiet_moves busy_moves sending estimate_sending sending_image sending_estimate meeting
quiet_acts = (refl, refl)

pub busy_acts : ((act_all (filled busy) (start_state (filled busy)) busy_moves).answers ≡ 0 ∷ 0 ∷ 0 ∷ 0 ∷ [])
    × (last_stamps (act_all (filled busy) (start_state (filled busy)) busy_moves).words 2 ≡ 1)
unfolding ◌and◌ ◌or◌ ◌implies◌ ◌is◌ ◌isnt◌ ◌below◌ ◌upto◌ all_below any_below first_below tabulate flat has for_each for_some absent first_short missing within meets members_below members size_below size site_at line_at box_at kind_of_name has_child binds parent bound_within bound_above binds_in owner zeros part put slot put_slot drop_slot push_slot take_slot held held_number held_stamp last_stamps insert ascending type_words start_site start_record start_state kind_of_move site_with types_share value_in thread_line onward onward_with value1 value2 at_line drop_move spread_move new_move copy_move expose_move turn_move intra_move inside_move inter_move inside_act inter_act act_as act names_as names start_refusal start moves_refusal state_refusal step steps act_all run_refusal run only struck answers_left box_k0 box_k1 K estimate_k E starred same_numbers same_broken is_seen all_seen agrees all_agree image_k image_e same_sets quiet busy filled estimate_for quiet_image busy_image quiet_estimate busy_estimate quiet_moves busy_moves sending estimate_sending sending_image sending_estimate meeting
busy_acts = (refl, refl)

pub struck_same : struck (only 2) quiet_moves ≡ struck (only 2) busy_moves
unfolding ◌and◌ ◌or◌ ◌implies◌ ◌is◌ ◌isnt◌ ◌below◌ ◌upto◌ all_below any_below first_below tabulate flat has for_each for_some absent first_short missing within meets members_below members size_below size site_at line_at box_at kind_of_name has_child binds parent bound_within bound_above binds_in owner zeros part put slot put_slot drop_slot push_slot take_slot held held_number held_stamp last_stamps insert ascending type_words start_site start_record start_state kind_of_move site_with types_share value_in thread_line onward onward_with value1 value2 at_line drop_move spread_move new_move copy_move expose_move turn_move intra_move inside_move inter_move inside_act inter_act act_as act names_as names start_refusal start moves_refusal state_refusal step steps act_all run_refusal run only struck answers_left box_k0 box_k1 K estimate_k E starred same_numbers same_broken is_seen all_seen agrees all_agree image_k image_e same_sets quiet busy filled estimate_for quiet_image busy_image quiet_estimate busy_estimate quiet_moves busy_moves sending estimate_sending sending_image sending_estimate meeting
struck_same = refl

-- the box that sends v is K's own
pub sending_K : (sending 4 ≡ K) × (sending_image 4 ≡ image_k) × (sending_estimate 4 ≡ image_e)
unfolding box_k1 K estimate_k E image_k image_e sending estimate_sending sending_image sending_estimate
sending_K = (refl, refl, refl)

pub sending-accepted : check (sending_image 5) (sending_estimate 5) ≡ accepted
unfolding ◌and◌ ◌or◌ ◌implies◌ ◌is◌ ◌isnt◌ ◌below◌ ◌upto◌ all_below any_below first_below tabulate flat has for_each for_some absent first_short missing within meets members_below members size_below size byte_at word_at words_of block_of number_of kind_of_block box_of count_of spare_of data_word check_from check_of stored_check site_at line_at box_at kind_of_name has_child binds parent bound_within bound_above binds_in owner site_record line_record name_count boxes_of kinds_of line_blocks sites_block lines_of box_of_image model_of block_fault clear_from head_counts head_fault sites_fault lines_fault box_fault left_over_fault length_fault blocks_fault type_fits used_before site_fits uses_name1 uses_name2 uses_child1 line_fits child_fits tree_fits uses bound_before reach_fits first_misfit model_fault read_model eps_block kap_block estimate_of no_bit_past sets_fit table_fault read_estimate clause1 clause2 clause3 clause4 clause5 clause6 clause7 clause8 clause9 line_broken name_broken site_broken box_broken first_broken check linked shut_off question refused_part refused_block zeros part put slot put_slot drop_slot push_slot take_slot bytes word_bytes encode_block site_words line_words encode_lines encode_box encode_boxes join_blocks encode_model encode_estimate box_k0 box_k1 K estimate_k E starred same_numbers same_broken is_seen all_seen agrees all_agree image_k image_e same_sets quiet busy filled estimate_for quiet_image busy_image quiet_estimate busy_estimate quiet_moves busy_moves sending estimate_sending sending_image sending_estimate meeting
sending-accepted = refl

pub sending_model : model_of (sending_image 5) ≡ sending 5
unfolding ◌and◌ ◌or◌ ◌implies◌ ◌is◌ ◌isnt◌ ◌below◌ ◌upto◌ all_below any_below first_below tabulate flat has for_each for_some absent first_short missing within meets members_below members size_below size byte_at word_at words_of block_of number_of kind_of_block box_of count_of spare_of data_word check_from check_of stored_check site_at line_at box_at kind_of_name has_child binds parent bound_within bound_above binds_in owner site_record line_record name_count boxes_of kinds_of line_blocks sites_block lines_of box_of_image model_of block_fault clear_from head_counts head_fault sites_fault lines_fault box_fault left_over_fault length_fault blocks_fault type_fits used_before site_fits uses_name1 uses_name2 uses_child1 line_fits child_fits tree_fits uses bound_before reach_fits first_misfit model_fault read_model eps_block kap_block estimate_of no_bit_past sets_fit table_fault read_estimate clause1 clause2 clause3 clause4 clause5 clause6 clause7 clause8 clause9 line_broken name_broken site_broken box_broken first_broken check linked shut_off question refused_part refused_block zeros part put slot put_slot drop_slot push_slot take_slot bytes word_bytes encode_block site_words line_words encode_lines encode_box encode_boxes join_blocks encode_model encode_estimate box_k0 box_k1 K estimate_k E starred same_numbers same_broken is_seen all_seen agrees all_agree image_k image_e same_sets quiet busy filled estimate_for quiet_image busy_image quiet_estimate busy_estimate quiet_moves busy_moves sending estimate_sending sending_image sending_estimate meeting
sending_model = refl

-- name 2 of thread 0 of box 0 holds what box 1 sent
pub sending_acts : (binding (thread (record_of (act_all (sending 4) (start_state (sending 4)) meeting).words 0) 0) 2 ≡ 5)
    × (binding (thread (record_of (act_all (sending 5) (start_state (sending 5)) meeting).words 0) 0) 2 ≡ 6)
unfolding ◌and◌ ◌or◌ ◌implies◌ ◌is◌ ◌isnt◌ ◌below◌ ◌upto◌ all_below any_below first_below tabulate flat has for_each for_some absent first_short missing within meets members_below members size_below size site_at line_at box_at kind_of_name has_child binds parent bound_within bound_above binds_in owner zeros part put slot put_slot drop_slot push_slot take_slot held held_number held_stamp last_stamps insert ascending type_words start_site start_record start_state kind_of_move site_with types_share value_in thread_line onward onward_with value1 value2 at_line drop_move spread_move new_move copy_move expose_move turn_move intra_move inside_move inter_move inside_act inter_act act_as act names_as names start_refusal start moves_refusal state_refusal step steps act_all run_refusal run only struck answers_left box_k0 box_k1 K estimate_k E starred same_numbers same_broken is_seen all_seen agrees all_agree image_k image_e same_sets quiet busy filled estimate_for quiet_image busy_image quiet_estimate busy_estimate quiet_moves busy_moves sending estimate_sending sending_image sending_estimate meeting
sending_acts = (refl, refl)

-- the sets of E that are asked for, where they stand in its image
pub E_links : T (linked (estimate_of image_e) 1 0) × (box_reply image_k image_e 1 ≡ is_shut_off false)
unfolding ◌and◌ ◌or◌ ◌implies◌ ◌is◌ ◌isnt◌ ◌below◌ ◌upto◌ all_below any_below first_below tabulate flat has for_each for_some absent first_short missing within meets members_below members size_below size byte_at word_at words_of block_of number_of kind_of_block box_of count_of spare_of data_word check_from check_of stored_check site_at line_at box_at kind_of_name has_child binds parent bound_within bound_above binds_in owner site_record line_record name_count boxes_of kinds_of line_blocks sites_block lines_of box_of_image model_of block_fault clear_from head_counts head_fault sites_fault lines_fault box_fault left_over_fault length_fault blocks_fault type_fits used_before site_fits uses_name1 uses_name2 uses_child1 line_fits child_fits tree_fits uses bound_before reach_fits first_misfit model_fault read_model eps_block kap_block estimate_of no_bit_past sets_fit table_fault read_estimate clause1 clause2 clause3 clause4 clause5 clause6 clause7 clause8 clause9 line_broken name_broken site_broken box_broken first_broken check linked shut_off question refused_part refused_block zeros part put slot put_slot drop_slot push_slot take_slot bytes word_bytes encode_block site_words line_words encode_lines encode_box encode_boxes join_blocks encode_model encode_estimate box_k0 box_k1 K estimate_k E starred same_numbers same_broken is_seen all_seen agrees all_agree image_k image_e same_sets quiet busy filled estimate_for quiet_image busy_image quiet_estimate busy_estimate quiet_moves busy_moves sending estimate_sending sending_image sending_estimate meeting
E_links = (tt, refl)

pub E_unbroken : first_broken K E ≡ none
unfolding ◌and◌ ◌or◌ ◌implies◌ ◌is◌ ◌isnt◌ ◌below◌ ◌upto◌ all_below any_below first_below tabulate flat has for_each for_some absent first_short missing within meets members_below members size_below size byte_at word_at words_of block_of number_of kind_of_block box_of count_of spare_of data_word check_from check_of stored_check site_at line_at box_at kind_of_name has_child binds parent bound_within bound_above binds_in owner site_record line_record name_count boxes_of kinds_of line_blocks sites_block lines_of box_of_image model_of block_fault clear_from head_counts head_fault sites_fault lines_fault box_fault left_over_fault length_fault blocks_fault type_fits used_before site_fits uses_name1 uses_name2 uses_child1 line_fits child_fits tree_fits uses bound_before reach_fits first_misfit model_fault read_model eps_block kap_block estimate_of no_bit_past sets_fit table_fault read_estimate clause1 clause2 clause3 clause4 clause5 clause6 clause7 clause8 clause9 line_broken name_broken site_broken box_broken first_broken check linked shut_off question refused_part refused_block zeros part put slot put_slot drop_slot push_slot take_slot bytes word_bytes encode_block site_words line_words encode_lines encode_box encode_boxes join_blocks encode_model encode_estimate box_k0 box_k1 K estimate_k E starred same_numbers same_broken is_seen all_seen agrees all_agree image_k image_e same_sets quiet busy filled estimate_for quiet_image busy_image quiet_estimate busy_estimate quiet_moves busy_moves sending estimate_sending sending_image sending_estimate meeting
E_unbroken = refl

pub spread_acts : ((act_all K (start_state K) (spread_of 0 0 ∷ [])).answers ≡ 0 ∷ []) × (threads (record_of (act_all K (start_state K) (spread_of 0 0 ∷ [])).words 0) ≡ 2)
    × (threads (record_of (start_state K) 0) ≡ 1)
unfolding ◌and◌ ◌or◌ ◌implies◌ ◌is◌ ◌isnt◌ ◌below◌ ◌upto◌ all_below any_below first_below tabulate flat has for_each for_some absent first_short missing within meets members_below members size_below size site_at line_at box_at kind_of_name has_child binds parent bound_within bound_above binds_in owner zeros part put slot put_slot drop_slot push_slot take_slot held held_number held_stamp last_stamps insert ascending type_words start_site start_record start_state kind_of_move site_with types_share value_in thread_line onward onward_with value1 value2 at_line drop_move spread_move new_move copy_move expose_move turn_move intra_move inside_move inter_move inside_act inter_act act_as act names_as names start_refusal start moves_refusal state_refusal step steps act_all run_refusal run only struck answers_left box_k0 box_k1 K estimate_k E starred same_numbers same_broken is_seen all_seen agrees all_agree image_k image_e same_sets quiet busy filled estimate_for quiet_image busy_image quiet_estimate busy_estimate quiet_moves busy_moves sending estimate_sending sending_image sending_estimate meeting
spread_acts = (refl, refl, refl)
