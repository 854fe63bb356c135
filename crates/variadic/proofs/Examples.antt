-- The worked examples hold of the definitions: each is computed.
-- Assumes nothing.
use mathlib.Core.Path.{◌≡◌, refl}
use mathlib.Core.Bool.{false}
use mathlib.Core.List.{[], ◌∷◌}
use mathlib.Core.Option.{some}
use lib.IntN.{pos}
use Rattle.definitions.specs.Lists.{all_below, any_below, lowest, tabulate, build, all, any, filter, foldl, concat_map, all_pairs, first_some, member, position, distinct, range}
use Rattle.definitions.specs.Fields.{u16_at, u32_at, filled, mark_fits, signed}
use Rattle.definitions.specs.Operators.{operators, counts_of, kinds, row_of, shape_fits}
use Rattle.definitions.specs.Reply.{done, flag, place, judged}
use Rattle.definitions.specs.Paths.{visit}
use Rattle.definitions.specs.Graph.{empty_slot, slot_of, is_vertex}
use Rattle.definitions.specs.Rule.{origin_of, operations, node_from, expressions, expression_of, pattern_from, rule_of, wildcard, source_of, target_of, input_kind, is_rule_input, rule_sizes_fit, rule_output_places_fit, origin_fits, source_inputs_fit, target_inputs_fit, traversal, out_of_order, reached, reaches, source_outputs_fit, connected, same_origin, named, all_named, outputs_fit, operand_fits, node_fits, accesses_below, use_fits, node_by, origin_by, rule_by}
use Rattle.definitions.specs.Attributes.{in_range, fit, operate, combine, result_of, same_number, gives, agrees}
use Rattle.definitions.specs.Match.{image_of, attribute_of, read_attribute, is_interior, is_const, must_be_private, images_where, inner_images, takes, is_private, is_match, from_reader, images_from, images_for, choices_of, choices, attempt}
use Rattle.definitions.specs.Rewriting.{results, index_fits, vertex_results, target_results}
use Rattle.definitions.specs.Variadic.{made_of, added, source_copy, origin_copy, fields, source_names, target_names, source_order, target_order, source_number, numbered, seen, copied, expansion}
use Rattle.definitions.specs.FixedRule.{pattern_shaped, definite, is_any, source_uses_fit, target_uses_fit, sizes_fit, in_visiting_order, sound_fixed}
use Rattle.definitions.specs.VariadicBlock.{is_variadic, unmarked, variadic_of, fixed_rules, variadic_header_fits, marked_pattern_fits, origin_template, templates_fit, source_templates_fit, target_templates_fit, shared_outputs, needs_index, bad_variadic_vertex, variadic_node_fits, bad_variadic_node, variadic_use_fits, bad_variadic_use, is_bad_expansion, variadic_faults, variadic_reply}
use Rattle.definitions.specs.Widths.{found_by, attempt_of, attempt_all, least_of}
use Rattle.variadic.specs.Examples.{gains, gains_of_one, gains_of_three, heads, crossed}

expands_one : expansion (variadic_of gains) 1 ≡ gains_of_one
unfolding tabulate build foldl concat_map member position u16_at u32_at signed origin_by operations node_by expressions expression_of pattern_from rule_by rule_of wildcard source_of target_of visit made_of added source_copy origin_copy fields source_names target_names source_order target_order source_number numbered seen copied expansion unmarked variadic_of
expands_one = refl

expands_three : expansion (variadic_of gains) 3 ≡ gains_of_three
unfolding tabulate build foldl concat_map member position u16_at u32_at signed origin_by operations node_by expressions expression_of pattern_from rule_by rule_of wildcard source_of target_of visit made_of added source_copy origin_copy fields source_names target_names source_order target_order source_number numbered seen copied expansion unmarked variadic_of
expands_three = refl

-- the block has none of the faults 30 to 35
faultless : variadic_reply gains ≡ done
unfolding all_below any_below lowest tabulate build all any foldl concat_map all_pairs member position distinct range u16_at u32_at filled mark_fits signed operators counts_of kinds row_of shape_fits flag place judged origin_by operations node_by expressions expression_of pattern_from rule_by rule_of wildcard source_of target_of input_kind is_rule_input rule_sizes_fit rule_output_places_fit origin_fits source_inputs_fit target_inputs_fit visit traversal out_of_order in_visiting_order reached reaches source_outputs_fit connected same_origin named all_named outputs_fit operand_fits node_fits accesses_below use_fits in_range made_of added source_copy origin_copy fields source_names target_names source_order target_order source_number numbered seen copied expansion pattern_shaped definite is_any source_uses_fit target_uses_fit sizes_fit sound_fixed is_variadic unmarked variadic_of variadic_header_fits marked_pattern_fits origin_template templates_fit source_templates_fit target_templates_fit shared_outputs needs_index bad_variadic_vertex variadic_node_fits bad_variadic_node variadic_use_fits bad_variadic_use is_bad_expansion variadic_faults variadic_reply
faultless = refl

-- the least match over all n is the one for n = 3
matches : least_of heads (fixed_rules gains) 1 0
    ≡ some (record { rule = gains_of_three; images = 0 ∷ 3 ∷ 1 ∷ 4 ∷ 2 ∷ 5 ∷ 6 ∷ 7 ∷ [] })
unfolding all_below any_below tabulate build all any filter foldl concat_map all_pairs first_some member position distinct range u16_at u32_at signed empty_slot slot_of is_vertex origin_by operations node_by expressions expression_of pattern_from rule_by rule_of wildcard source_of target_of input_kind is_rule_input in_range fit operate combine result_of same_number gives agrees image_of attribute_of read_attribute is_interior is_const must_be_private images_where inner_images takes is_private is_match from_reader images_from images_for choices_of choices attempt visit made_of added source_copy origin_copy fields source_names target_names source_order target_order source_number numbered seen copied expansion is_variadic unmarked variadic_of fixed_rules found_by attempt_of attempt_all least_of
matches = refl

-- the attributes that its target takes: 1 + 2 + 3 and 10 + 20 + 30
gives_sums : target_results (read_attribute heads (0 ∷ 3 ∷ 1 ∷ 4 ∷ 2 ∷ 5 ∷ 6 ∷ 7 ∷ [])) gains_of_three.target
    ≡ some ([] ∷ (pos 1 ∷ []) ∷ (pos 2 ∷ pos 6 ∷ pos 60 ∷ []) ∷ [])
unfolding empty_slot slot_of signed in_range fit operate combine result_of image_of attribute_of read_attribute results index_fits vertex_results target_results
gives_sums = refl

-- Such a rule is not its own expansion: its target would be renumbered. So a version 1 rule is kept as a case of its own.
renumbers : target_order crossed 1 ≡ 1 ∷ 0 ∷ 2 ∷ []
unfolding tabulate foldl concat_map member wildcard target_of visit made_of source_copy origin_copy fields target_names target_order
renumbers = refl

-- a block of five bytes whose last is 2 reads no version
short : is_variadic (76 ∷ 71 ∷ 82 ∷ 0 ∷ 2 ∷ []) ≡ false
unfolding is_variadic u16_at
short = refl
