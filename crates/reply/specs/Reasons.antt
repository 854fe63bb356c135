-- The number of each reason in the reply table.
-- Assumes nothing.
use Rattle.std.specs.Prelude.{ℕ}
use Rattle.definitions.specs.Reply.{bad_map_length, no_match, no_result, no_room, new_cycle, bad_graph_header, bad_graph_record, bad_graph_name, graph_has_cycle, bad_graph_count, bad_rule_header, bad_rule_record, bad_rule_order, bad_rule_outputs, bad_rule_expression, bad_moves_length, not_amatch, no_such_vertex, short_text, bad_listing, unsound_listing, bad_graph_length}
use Rattle.reply.specs.declared.Reason.{Reason}
use Rattle.reply.specs.declared.Reason.TheVariants.{BadMapLength, NoMatch, NoResult, NoRoom, NewCycle, BadGraphHeader, BadGraphRecord, BadGraphName, GraphHasCycle, BadGraphCount, BadRuleHeader, BadRuleRecord, BadRuleOrder, BadRuleOutputs, BadRuleExpression, BadMovesLength, NotAMatch, NoSuchVertex, ShortText, BadListing, UnsoundListing, BadGraphLength}

abbrev pub reason_number : Reason → ℕ
reason_number BadMapLength = bad_map_length
reason_number NoMatch = no_match
reason_number NoResult = no_result
reason_number NoRoom = no_room
reason_number NewCycle = new_cycle
reason_number BadGraphHeader = bad_graph_header
reason_number BadGraphRecord = bad_graph_record
reason_number BadGraphName = bad_graph_name
reason_number GraphHasCycle = graph_has_cycle
reason_number BadGraphCount = bad_graph_count
reason_number BadRuleHeader = bad_rule_header
reason_number BadRuleRecord = bad_rule_record
reason_number BadRuleOrder = bad_rule_order
reason_number BadRuleOutputs = bad_rule_outputs
reason_number BadRuleExpression = bad_rule_expression
reason_number BadMovesLength = bad_moves_length
reason_number NotAMatch = not_amatch
reason_number NoSuchVertex = no_such_vertex
reason_number ShortText = short_text
reason_number BadListing = bad_listing
reason_number UnsoundListing = unsound_listing
reason_number BadGraphLength = bad_graph_length
