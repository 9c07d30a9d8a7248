-- The laws that each function's proof is searched in. Assumes nothing.
use borrow.Author.Rules.{rules}
use Rattle.lookups.proofs.Ready.{ready_sites}
use Rattle.lookups.proofs.Inside.{is-drop, is-spread, is_new, is_copy, is-expose, is-hide, is-unhide, is_intra, is_inter, is-unknown}
use Rattle.deciding.proofs.Decided.{blocked_not, room_is, stamp_is, line-nobody, line-is, line-wrong, op_met, drop_number, spread_stop, spread_number, new_stop, new_number_lem, copy_stop, copy_number, expose_stop, expose_full, expose_number, turn_stop, turn_yes, turn-none, lines_is, first_met, second_met, intra_nobody, intra_nobody2, intra_self, intra_wrong, intra_number, turn_number_lem}
use Rattle.deciding.proofs.Facts.{input-names, output-names, turn_named, model_head, number_listed, number_60, pair_self, pair_wrong, pair_number}
use Rattle.deciding.proofs.Ends.{site_low, ends_none, ends_none2, ends_meet, sent_private, channels_private, channels_sites, inter-nobody, inter_nobody2}
use Rattle.deciding.proofs.States.{low_of, record_room, record_ready, act_nobody, act_inside, act_nobody2, act_inter}

pub ruleset lines = (rules, line-nobody, line-is, line-wrong, op_met)

pub ruleset room = (rules, room_is, stamp_is)

pub ruleset turns = (rules, ready_sites, turn_named, turn_stop, turn_yes, turn-none)

pub ruleset meets = (rules, lines_is, first_met, second_met)

pub ruleset threads = (rules, input-names, output-names, intra_nobody, intra_nobody2, intra_self, intra_wrong, intra_number)

pub ruleset kinds = (rules, drop_number, spread_stop, spread_number, new_stop, new_number_lem, copy_stop, copy_number, expose_stop, expose_full, expose_number, turn_number_lem, is-drop, is-spread, is_new, is_copy, is-expose, is-hide, is-unhide, is_intra, is_inter, is-unknown)

pub ruleset sends = (rules, model_head, number_listed, number_60, sent_private)

pub ruleset ends = (rules, input-names, output-names, ready_sites, site_low, ends_none, ends_none2, ends_meet, channels_private, channels_sites)

pub ruleset inters = (rules, inter-nobody, inter_nobody2, pair_self, pair_wrong, pair_number)

pub ruleset states = (rules, low_of, record_room, record_ready, act_nobody, act_inside, act_nobody2, act_inter)

pub ruleset numbers = (rules, blocked_not, is-unknown)
