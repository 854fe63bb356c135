-- P1 to P10 hold of the definitions, and so do the examples of shared constants, of faults and of what is read elsewhere: each is computed.
-- Assumes nothing.
use mathlib.Core.Path.{refl}
use Rattle.definitions.specs.Lists.{all_below, any_below, lowest, total, count, tabulate, build, all, any, filter, padded, foldl, concat_map, all_pairs, first_some, member, position, distinct, range}
use Rattle.definitions.specs.Fields.{u16_at, u32_at, filled, mark_fits, signed, word_of, u16_bytes, u32_bytes}
use Rattle.definitions.specs.Operators.{operators, counts_of, kinds, row_of, shape_fits}
use Rattle.definitions.specs.Reply.{answered, refusal_at, flag, place, judged, first_refusal, where_done}
use Rattle.definitions.specs.Paths.{grown, grown_by, reaching, on_cycle, visit}
use Rattle.definitions.specs.Graph.{empty_slot, renamed, slot_from, graph_of, slot_of, is_vertex, reads_of, true_count, count_tail, slot_block, header_block, block_as, output_places_fit, header_fits, at_least_one, zeros_offset, record_fits, bad_record, bad_inputs, bad_output, lowest_on_cycle, has_cycle, bad_count, name_faults, cycle_faults, faults_as, count_faults, reply_as, graph_reply}
use Rattle.definitions.specs.Rule.{origin_of, operations, node_from, expressions, expression_of, pattern_from, rule_by, rule_of, wildcard, source_of, target_of, input_kind, is_rule_input, rule_sizes_fit, rule_output_places_fit, rule_header_fits, pattern_fits, origin_fits, source_inputs_fit, target_inputs_fit, bad_vertex, traversal, out_of_order, reached, reaches, source_outputs_fit, connected, same_origin, named, all_named, outputs_fit, operand_fits, node_fits, bad_node, accesses_below, use_fits, bad_use, rule_faults, rule_reply, source_inputs, bad_vertex_of, origin_by, node_by}
use Rattle.definitions.specs.Attributes.{in_range, fit, quotient, is_zero, operate, combine, result_of, same_number, gives, agrees}
use Rattle.definitions.specs.Match.{image_of, attribute_of, read_attribute, is_interior, is_const, must_be_private, images_where, inner_images, takes, is_private, is_match, from_reader, images_from, images_for, choices_of, choices, attempt, least_match}
use Rattle.definitions.specs.Rewriting.{results, index_fits, vertex_results, target_results, goes, is_removed, stays, free_slots, place_of, resolve, has_room, redirect, target_slot, staying_slot, new_slot, new_graph}
use Rattle.definitions.specs.Operations.{map_block, images_in, map_reply, blocks_reply, matched, find_match, rewritten_with, rewritten, replaced, rewrite}
use Rattle.definitions.specs.Import.{import_reply, import_graph}
use Rattle.definitions.specs.ReadElsewhere.{is_read_elsewhere, is_match_map, is_inner, elsewhere_answer, asked_reply, elsewhere_reply}
use Rattle.theory.specs.Examples.{AllHold, examples}
use Rattle.theory.specs.SharedConstants.{shared_constants}
use Rattle.theory.specs.Faults.{AllTold, fault_examples}
use Rattle.theory.specs.ReadElsewhere.{AllReply, ask_examples}

computed : AllHold examples × AllHold shared_constants × AllTold fault_examples × AllReply ask_examples
unfolding examples shared_constants fault_examples ask_examples all_below any_below lowest total count tabulate build all any filter padded foldl concat_map all_pairs first_some member position distinct range u16_at u32_at filled mark_fits signed word_of u16_bytes u32_bytes operators counts_of kinds row_of shape_fits refusal_at flag place judged first_refusal where_done grown grown_by reaching on_cycle empty_slot slot_from graph_of slot_of is_vertex reads_of true_count count_tail slot_block header_block block_as output_places_fit header_fits at_least_one zeros_offset record_fits bad_record bad_inputs bad_output lowest_on_cycle has_cycle bad_count name_faults cycle_faults faults_as count_faults reply_as graph_reply origin_by operations node_by expressions expression_of pattern_from rule_by rule_of wildcard source_of target_of input_kind is_rule_input rule_sizes_fit rule_output_places_fit rule_header_fits pattern_fits origin_fits source_inputs_fit target_inputs_fit bad_vertex_of visit traversal out_of_order reached reaches source_outputs_fit connected same_origin named all_named outputs_fit operand_fits node_fits bad_node accesses_below use_fits bad_use rule_faults rule_reply in_range fit quotient is_zero operate combine result_of same_number gives agrees image_of attribute_of read_attribute is_interior is_const must_be_private images_where inner_images takes is_private is_match from_reader images_from images_for choices_of choices attempt least_match results index_fits vertex_results target_results goes is_removed stays free_slots place_of resolve has_room redirect target_slot renamed staying_slot new_slot new_graph map_block map_reply blocks_reply matched find_match rewritten_with rewritten replaced rewrite import_reply import_graph answered images_in is_read_elsewhere is_match_map is_inner elsewhere_answer asked_reply elsewhere_reply
computed = ((refl, (refl, (refl, (refl, (refl, (refl, (refl, (refl, (refl, (refl, (refl, (refl, (refl, (refl, (refl, (refl, (refl, (refl, (refl, (refl, tt)))))))))))))))))))), (refl, (refl, (refl, (refl, (refl, (refl, (refl, (refl, (refl, (refl, (refl, tt))))))))))), (refl, (refl, (refl, (refl, (refl, (refl, (refl, (refl, (refl, (refl, (refl, (refl, (refl, (refl, (refl, (refl, (refl, (refl, tt)))))))))))))))))), (refl, (refl, (refl, (refl, (refl, (refl, (refl, (refl, (refl, (refl, (refl, (refl, (refl, (refl, (refl, (refl, (refl, (refl, (refl, (refl, tt)))))))))))))))))))))

pub examples_hold : AllHold examples
examples_hold = computed.0

pub constants_hold : AllHold shared_constants
constants_hold = computed.1

pub faults_hold : AllTold fault_examples
faults_hold = computed.2

pub asked_hold : AllReply ask_examples
asked_hold = computed.3
