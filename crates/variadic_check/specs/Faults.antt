-- The faults 30 to 34 of a version 2 block, which look at the block as it stands: all of `variadic_faults` but the last.
-- Assumes nothing.
use Rattle.std.specs.Prelude.{not, ◌&&◌, List, [], ◌∷◌, ℕ, ◌+◌}
use Rattle.definitions.specs.Lists.{lowest}
use Rattle.definitions.specs.Reply.{bad_rule_header, bad_rule_record, bad_rule_order, bad_rule_outputs, bad_rule_expression, bad_expansion, Fault, fault, flag, place}
use Rattle.definitions.specs.Rule.{source_count, target_count, node_count, out_of_order, outputs_fit}
use Rattle.definitions.specs.VariadicBlock.{field_limit, variadic_of, variadic_header_fits, bad_variadic_vertex, shared_outputs, bad_variadic_node, bad_variadic_use, is_bad_expansion}

unfoldable pub block_faults : List ℕ → List Fault
block_faults block =
    let vertices = source_count block + target_count block in
    let r = variadic_of block in
    fault bad_rule_header (flag (not (variadic_header_fits block)))
    ∷ fault bad_rule_record (place vertices (lowest (bad_variadic_vertex block) vertices))
    ∷ fault bad_rule_order (place (source_count block) (lowest (out_of_order r.plain) (source_count block)))
    ∷ fault bad_rule_outputs (flag (not (outputs_fit r.plain && shared_outputs r)))
    ∷ fault bad_rule_expression (place (node_count block) (lowest (bad_variadic_node block) (node_count block)))
    ∷ fault bad_rule_expression (place vertices (lowest (bad_variadic_use block) vertices))
    ∷ []

-- the last: 35
unfoldable pub expansion_fault : List ℕ → Fault
expansion_fault block = fault bad_expansion (place (field_limit + 1) (lowest (is_bad_expansion block) (field_limit + 1)))
