-- The images of K and E, built from the data: reading them back gives K and E, and the checker's answer on the images is the
-- clauses' answer on the data, by computation. Assumes nothing.
use mathlib.Core.Path.{◌≡◌, refl}
use lib.Dec.{T}
use Rattle.definitions.specs.Bounded.{◌and◌, ◌or◌, ◌implies◌, ◌is◌, ◌isnt◌, ◌below◌, ◌upto◌, all_below, any_below, first_below, tabulate, flat}
use Rattle.definitions.specs.Sets.{has, for_each, for_some, absent, first_short, missing, within, meets, members_below, members, size_below, size, no_bit_past}
use Rattle.definitions.specs.Words.{byte_at, word_at, words_of, block_of, number_of, kind_of_block, box_of, count_of, spare_of, data_word}
use Rattle.definitions.specs.Check.{check_from, check_of, stored_check}
use Rattle.definitions.specs.Model.{site_at, line_at, box_at, kind_of_name, has_child, binds, parent, bound_within, bound_above, binds_in, owner}
use Rattle.definitions.specs.Image.{site_record, line_record, name_count, boxes_of, kinds_of, line_blocks, sites_block, lines_of, box_of_image, model_of}
use Rattle.definitions.specs.ReadModel.{block_fault, clear_from, head_counts, head_fault, sites_fault, lines_fault, box_fault, left_over_fault, length_fault, blocks_fault, type_fits, used_before, site_fits, uses_name1, uses_name2, uses_child1, line_fits, child_fits, tree_fits, uses, bound_before, reach_fits, first_misfit, model_fault, read_model}
use Rattle.definitions.specs.Estimate.{eps_block, kap_block, estimate_of}
use Rattle.definitions.specs.ReadEstimate.{sets_fit, table_fault, read_estimate}
use Rattle.definitions.specs.Clauses.{clause1, clause2, clause3, clause4, clause5, clause6, clause7, clause8, clause9, line_broken, name_broken, site_broken, box_broken, first_broken, check, verdict_of}
use Rattle.definitions.specs.Slots.{zeros, part, put, slot, put_slot, drop_slot, push_slot, take_slot}
use Rattle.image_examples.specs.Encode.{bytes, word_bytes, encode_block, site_words, line_words, encode_lines, encode_box, encode_boxes, join_blocks, encode_model, encode_estimate}
use Rattle.definitions.specs.Starred.{box_k0, box_k1, K, estimate_k, E, starred, same_numbers, same_broken, is_seen, all_seen, agrees, all_agree}
use Rattle.image_examples.specs.Images.{image_k, image_e, same_sets}

pub images_agree : (model_of image_k ≡ K) × T (same_sets 6 2 (estimate_of image_e) E) × (check image_k image_e ≡ verdict_of (first_broken K E))
unfolding ◌and◌ ◌or◌ ◌implies◌ ◌is◌ ◌isnt◌ ◌below◌ ◌upto◌ all_below any_below first_below tabulate flat has for_each for_some absent first_short missing within meets members_below members size_below size byte_at word_at words_of block_of number_of kind_of_block box_of count_of spare_of data_word check_from check_of stored_check site_at line_at box_at kind_of_name has_child binds parent bound_within bound_above binds_in owner site_record line_record name_count boxes_of kinds_of line_blocks sites_block lines_of box_of_image model_of block_fault clear_from head_counts head_fault sites_fault lines_fault box_fault left_over_fault length_fault blocks_fault type_fits used_before site_fits uses_name1 uses_name2 uses_child1 line_fits child_fits tree_fits uses bound_before reach_fits first_misfit model_fault read_model eps_block kap_block estimate_of no_bit_past sets_fit table_fault read_estimate clause1 clause2 clause3 clause4 clause5 clause6 clause7 clause8 clause9 line_broken name_broken site_broken box_broken first_broken check zeros part put slot put_slot drop_slot push_slot take_slot bytes word_bytes encode_block site_words line_words encode_lines encode_box encode_boxes join_blocks encode_model encode_estimate box_k0 box_k1 K estimate_k E starred same_numbers same_broken is_seen all_seen agrees all_agree image_k image_e same_sets
images_agree = (refl, tt, refl)
