-- The examples of counts and of the import hold of the definitions: each is computed.
-- Assumes nothing.
use mathlib.Core.Path.{refl}
use Rattle.definitions.specs.Lists.{all_below, any_below, lowest, total, count, tabulate, all, padded, concat_map, member}
use Rattle.definitions.specs.Fields.{u16_at, u32_at, filled, mark_fits, signed, u16_bytes, u32_bytes}
use Rattle.definitions.specs.Operators.{operators, counts_of, kinds, row_of, shape_fits}
use Rattle.definitions.specs.Reply.{refusal_at, flag, place, judged, where_done}
use Rattle.definitions.specs.Paths.{grown, grown_by, reaching, on_cycle}
use Rattle.definitions.specs.Graph.{empty_slot, slot_from, graph_of, slot_of, is_vertex, reads_of, true_count, count_tail, slot_block, header_block, block_as, output_places_fit, header_fits, at_least_one, zeros_offset, record_fits, bad_record, bad_inputs, bad_output, lowest_on_cycle, bad_count, name_faults, cycle_faults, faults_as, count_faults, reply_as, graph_reply}
use Rattle.definitions.specs.Import.{import_reply, import_graph}
use Rattle.theory.specs.Counts.{AllShow, count_examples}

pub counts_shown : AllShow count_examples
unfolding count_examples all_below any_below lowest total count tabulate all padded concat_map member u16_at u32_at filled mark_fits signed u16_bytes u32_bytes operators counts_of kinds row_of shape_fits refusal_at flag place judged where_done grown grown_by reaching on_cycle empty_slot slot_from graph_of slot_of is_vertex reads_of true_count count_tail slot_block header_block block_as output_places_fit header_fits at_least_one zeros_offset record_fits bad_record bad_inputs bad_output lowest_on_cycle bad_count name_faults cycle_faults faults_as count_faults reply_as graph_reply import_reply import_graph
counts_shown = (refl, (refl, (refl, (refl, (refl, (refl, (refl, (refl, ((refl, refl), ((refl, refl), ((refl, refl), ((refl, refl), tt))))))))))))
