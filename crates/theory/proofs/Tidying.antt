-- The examples of sweep and squeeze hold of the definitions: each is computed.
-- Assumes nothing.
use mathlib.Core.Path.{refl}
use Rattle.definitions.specs.Lists.{all_below, any_below, lowest, total, count, tabulate, all, filter, padded, concat_map, member, position, range}
use Rattle.definitions.specs.Fields.{u16_at, u32_at, filled, mark_fits, signed, u16_bytes, u32_bytes}
use Rattle.definitions.specs.Operators.{operators, counts_of, kinds, row_of, shape_fits}
use Rattle.definitions.specs.Reply.{refusal_at, flag, place, judged, first_refusal, where_done}
use Rattle.definitions.specs.Paths.{grown, grown_by, reaching, on_cycle}
use Rattle.definitions.specs.Graph.{empty_slot, renamed, slot_from, graph_of, slot_of, is_vertex, is_variable, reads_of, true_count, count_tail, slot_block, header_block, block_as, output_places_fit, header_fits, at_least_one, zeros_offset, record_fits, bad_record, bad_inputs, bad_output, lowest_on_cycle, has_cycle, bad_count, name_faults, cycle_faults, faults_as, count_faults, reply_as, graph_reply}
use Rattle.definitions.specs.Sweep.{reaching_outputs, is_unneeded, swept_slot, sweep, sweep_graph}
use Rattle.definitions.specs.Squeeze.{vertices_of, moved_to, squeezed_slot, squeeze, moves_block, moves_reply, squeeze_reply, squeeze_graph, squeeze_moves}
use Rattle.theory.specs.Tidying.{AllGive, tidyings}

pub tidyings_hold : AllGive tidyings
unfolding tidyings all_below any_below lowest total count tabulate all filter padded concat_map member position range u16_at u32_at filled mark_fits signed u16_bytes u32_bytes operators counts_of kinds row_of shape_fits refusal_at flag place judged first_refusal where_done grown grown_by reaching on_cycle empty_slot renamed slot_from graph_of slot_of is_vertex is_variable reads_of true_count count_tail slot_block header_block block_as output_places_fit header_fits at_least_one zeros_offset record_fits bad_record bad_inputs bad_output lowest_on_cycle has_cycle bad_count name_faults cycle_faults faults_as count_faults reply_as graph_reply reaching_outputs is_unneeded swept_slot sweep sweep_graph vertices_of moved_to squeezed_slot squeeze moves_block moves_reply squeeze_reply squeeze_graph squeeze_moves
tidyings_hold = ((refl, refl), ((refl, refl), ((refl, refl), ((refl, refl), ((refl, refl, refl), ((refl, refl, refl), ((refl, refl, refl), ((refl, refl, refl), tt))))))))
