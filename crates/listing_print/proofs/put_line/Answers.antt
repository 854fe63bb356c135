-- The parts of the line, one behind the other.
use mathlib.Core.Path.{◌≡◌, sym}
use mathlib.Core.List.{List, [], ◌∷◌, ◌++◌}
use Prim.Native.Nat.{ℕ, ◌+◌, ◌≤◌}
use lib.ListN.{length}
use Rattle.definitions.specs.Graph.{graph_of}
use Rattle.definitions.specs.Sheet.{joined, line_text}
use Rattle.definitions.specs.Listing.{line_of}
use Rattle.listing_print.specs.Laid.{text_limit, Laid}
use Rattle.listing_print.specs.Rows.{numbers_in}
use Rattle.listing_print.proofs.Laying.{laid_then, laid_as, room-first, room_next}
use Rattle.listing_print.proofs.Lines.{start_text, line_parts}
use Rattle.listing_print.proofs.put_line.Goals as goal

-- `}` and the line's end
abbrev closing : List ℕ
closing = 125 ∷ 10 ∷ []

pub put_bytes-requires : goal.put_bytes-requires
put_bytes-requires c = let whole : line_text (line_of (graph_of c.args.graph.now) c.args.k) ≡ (start_text c.args.k c.kind_of-kind.result c.operator_of-operator.result) ++ (32 ∷ 91 ∷ joined (numbers_in c.args.graph.now c.inputs_of-inputs.result)) ++ (93 ∷ 32 ∷ 123 ∷ joined (numbers_in c.args.graph.now c.attributes_of-attributes.result)) ++ closing = line_parts (graph_of c.args.graph.now) c.args.k c.kind_of-kind.ensures.0
    c.operator_of-operator.ensures.0 c.inputs_of-inputs.ensures.same c.attributes_of-attributes.ensures.same in
    let all_four : c.args.at + length ((start_text c.args.k c.kind_of-kind.result c.operator_of-operator.result) ++ (32 ∷ 91 ∷ joined (numbers_in c.args.graph.now c.inputs_of-inputs.result)) ++ (93 ∷ 32 ∷ 123 ∷ joined (numbers_in c.args.graph.now c.attributes_of-attributes.result)) ++ closing) ≤ text_limit = rw whole at c.requires.k_bound_2 in
    let listed : Laid c.args.at ((start_text c.args.k c.kind_of-kind.result c.operator_of-operator.result) ++ (32 ∷ 91 ∷ joined (numbers_in c.args.graph.now c.inputs_of-inputs.result))) c.args.text.now c.put_list-inputs_end.new.text c.put_list-inputs_end.result = laid_then c.put_start-start_end.ensures c.put_list-inputs_end.ensures in
    room_next ((start_text c.args.k c.kind_of-kind.result c.operator_of-operator.result) ++ (32 ∷ 91 ∷ joined (numbers_in c.args.graph.now c.inputs_of-inputs.result)) ++ (93 ∷ 32 ∷ 123 ∷ joined (numbers_in c.args.graph.now c.attributes_of-attributes.result))) closing c.args.at all_four (laid_then listed c.put_list-attributes_end.ensures)

pub returns : goal.returns
returns c = let whole : line_text (line_of (graph_of c.args.graph.now) c.args.k) ≡ (start_text c.args.k c.kind_of-kind.result c.operator_of-operator.result) ++ (32 ∷ 91 ∷ joined (numbers_in c.args.graph.now c.inputs_of-inputs.result)) ++ (93 ∷ 32 ∷ 123 ∷ joined (numbers_in c.args.graph.now c.attributes_of-attributes.result)) ++ closing = line_parts (graph_of c.args.graph.now) c.args.k c.kind_of-kind.ensures.0
    c.operator_of-operator.ensures.0 c.inputs_of-inputs.ensures.same c.attributes_of-attributes.ensures.same in
    let listed : Laid c.args.at ((start_text c.args.k c.kind_of-kind.result c.operator_of-operator.result) ++ (32 ∷ 91 ∷ joined (numbers_in c.args.graph.now c.inputs_of-inputs.result))) c.args.text.now c.put_list-inputs_end.new.text c.put_list-inputs_end.result = laid_then c.put_start-start_end.ensures c.put_list-inputs_end.ensures in
    laid_as (sym whole) (laid_then (laid_then listed c.put_list-attributes_end.ensures) c.put_bytes.ensures)

pub put_start-start_end-requires-clause-operator_bound : goal.put_start-start_end-requires-clause-operator_bound
put_start-start_end-requires-clause-operator_bound c = let whole : line_text (line_of (graph_of c.args.graph.now) c.args.k) ≡ (start_text c.args.k c.kind_of-kind.result c.operator_of-operator.result) ++ (32 ∷ 91 ∷ joined (numbers_in c.args.graph.now c.inputs_of-inputs.result)) ++ (93 ∷ 32 ∷ 123 ∷ joined (numbers_in c.args.graph.now c.attributes_of-attributes.result)) ++ closing = line_parts (graph_of c.args.graph.now) c.args.k c.kind_of-kind.ensures.0
    c.operator_of-operator.ensures.0 c.inputs_of-inputs.ensures.same c.attributes_of-attributes.ensures.same in
    let all_four : c.args.at + length ((start_text c.args.k c.kind_of-kind.result c.operator_of-operator.result) ++ (32 ∷ 91 ∷ joined (numbers_in c.args.graph.now c.inputs_of-inputs.result)) ++ (93 ∷ 32 ∷ 123 ∷ joined (numbers_in c.args.graph.now c.attributes_of-attributes.result)) ++ closing) ≤ text_limit = rw whole at c.requires.k_bound_2 in
    let three : c.args.at + length ((start_text c.args.k c.kind_of-kind.result c.operator_of-operator.result) ++ (32 ∷ 91 ∷ joined (numbers_in c.args.graph.now c.inputs_of-inputs.result)) ++ (93 ∷ 32 ∷ 123 ∷ joined (numbers_in c.args.graph.now c.attributes_of-attributes.result))) ≤ text_limit = room-first ((start_text c.args.k c.kind_of-kind.result c.operator_of-operator.result) ++ (32 ∷ 91 ∷ joined (numbers_in c.args.graph.now c.inputs_of-inputs.result)) ++ (93 ∷ 32 ∷ 123 ∷ joined (numbers_in c.args.graph.now c.attributes_of-attributes.result))) closing c.args.at all_four in
    let two : c.args.at + length ((start_text c.args.k c.kind_of-kind.result c.operator_of-operator.result) ++ (32 ∷ 91 ∷ joined (numbers_in c.args.graph.now c.inputs_of-inputs.result))) ≤ text_limit = room-first ((start_text c.args.k c.kind_of-kind.result c.operator_of-operator.result) ++ (32 ∷ 91 ∷ joined (numbers_in c.args.graph.now c.inputs_of-inputs.result))) (93 ∷ 32 ∷ 123 ∷ joined (numbers_in c.args.graph.now c.attributes_of-attributes.result)) c.args.at three in
    room-first (start_text c.args.k c.kind_of-kind.result c.operator_of-operator.result) (32 ∷ 91 ∷ joined (numbers_in c.args.graph.now c.inputs_of-inputs.result)) c.args.at two

pub put_list-inputs_end-requires-clause-row_bound : goal.put_list-inputs_end-requires-clause-row_bound
put_list-inputs_end-requires-clause-row_bound c = let whole : line_text (line_of (graph_of c.args.graph.now) c.args.k) ≡ (start_text c.args.k c.kind_of-kind.result c.operator_of-operator.result) ++ (32 ∷ 91 ∷ joined (numbers_in c.args.graph.now c.inputs_of-inputs.result)) ++ (93 ∷ 32 ∷ 123 ∷ joined (numbers_in c.args.graph.now c.attributes_of-attributes.result)) ++ closing = line_parts (graph_of c.args.graph.now) c.args.k c.kind_of-kind.ensures.0
    c.operator_of-operator.ensures.0 c.inputs_of-inputs.ensures.same c.attributes_of-attributes.ensures.same in
    let all_four : c.args.at + length ((start_text c.args.k c.kind_of-kind.result c.operator_of-operator.result) ++ (32 ∷ 91 ∷ joined (numbers_in c.args.graph.now c.inputs_of-inputs.result)) ++ (93 ∷ 32 ∷ 123 ∷ joined (numbers_in c.args.graph.now c.attributes_of-attributes.result)) ++ closing) ≤ text_limit = rw whole at c.requires.k_bound_2 in
    let three : c.args.at + length ((start_text c.args.k c.kind_of-kind.result c.operator_of-operator.result) ++ (32 ∷ 91 ∷ joined (numbers_in c.args.graph.now c.inputs_of-inputs.result)) ++ (93 ∷ 32 ∷ 123 ∷ joined (numbers_in c.args.graph.now c.attributes_of-attributes.result))) ≤ text_limit = room-first ((start_text c.args.k c.kind_of-kind.result c.operator_of-operator.result) ++ (32 ∷ 91 ∷ joined (numbers_in c.args.graph.now c.inputs_of-inputs.result)) ++ (93 ∷ 32 ∷ 123 ∷ joined (numbers_in c.args.graph.now c.attributes_of-attributes.result))) closing c.args.at all_four in
    let two : c.args.at + length ((start_text c.args.k c.kind_of-kind.result c.operator_of-operator.result) ++ (32 ∷ 91 ∷ joined (numbers_in c.args.graph.now c.inputs_of-inputs.result))) ≤ text_limit = room-first ((start_text c.args.k c.kind_of-kind.result c.operator_of-operator.result) ++ (32 ∷ 91 ∷ joined (numbers_in c.args.graph.now c.inputs_of-inputs.result))) (93 ∷ 32 ∷ 123 ∷ joined (numbers_in c.args.graph.now c.attributes_of-attributes.result)) c.args.at three in
    room_next (start_text c.args.k c.kind_of-kind.result c.operator_of-operator.result) (32 ∷ 91 ∷ joined (numbers_in c.args.graph.now c.inputs_of-inputs.result)) c.args.at two c.put_start-start_end.ensures

pub put_list-attributes_end-requires-clause-row_bound : goal.put_list-attributes_end-requires-clause-row_bound
put_list-attributes_end-requires-clause-row_bound c = let whole : line_text (line_of (graph_of c.args.graph.now) c.args.k) ≡ (start_text c.args.k c.kind_of-kind.result c.operator_of-operator.result) ++ (32 ∷ 91 ∷ joined (numbers_in c.args.graph.now c.inputs_of-inputs.result)) ++ (93 ∷ 32 ∷ 123 ∷ joined (numbers_in c.args.graph.now c.attributes_of-attributes.result)) ++ closing = line_parts (graph_of c.args.graph.now) c.args.k c.kind_of-kind.ensures.0
    c.operator_of-operator.ensures.0 c.inputs_of-inputs.ensures.same c.attributes_of-attributes.ensures.same in
    let all_four : c.args.at + length ((start_text c.args.k c.kind_of-kind.result c.operator_of-operator.result) ++ (32 ∷ 91 ∷ joined (numbers_in c.args.graph.now c.inputs_of-inputs.result)) ++ (93 ∷ 32 ∷ 123 ∷ joined (numbers_in c.args.graph.now c.attributes_of-attributes.result)) ++ closing) ≤ text_limit = rw whole at c.requires.k_bound_2 in
    let three : c.args.at + length ((start_text c.args.k c.kind_of-kind.result c.operator_of-operator.result) ++ (32 ∷ 91 ∷ joined (numbers_in c.args.graph.now c.inputs_of-inputs.result)) ++ (93 ∷ 32 ∷ 123 ∷ joined (numbers_in c.args.graph.now c.attributes_of-attributes.result))) ≤ text_limit = room-first ((start_text c.args.k c.kind_of-kind.result c.operator_of-operator.result) ++ (32 ∷ 91 ∷ joined (numbers_in c.args.graph.now c.inputs_of-inputs.result)) ++ (93 ∷ 32 ∷ 123 ∷ joined (numbers_in c.args.graph.now c.attributes_of-attributes.result))) closing c.args.at all_four in
    let listed : Laid c.args.at ((start_text c.args.k c.kind_of-kind.result c.operator_of-operator.result) ++ (32 ∷ 91 ∷ joined (numbers_in c.args.graph.now c.inputs_of-inputs.result))) c.args.text.now c.put_list-inputs_end.new.text c.put_list-inputs_end.result = laid_then c.put_start-start_end.ensures c.put_list-inputs_end.ensures in
    room_next ((start_text c.args.k c.kind_of-kind.result c.operator_of-operator.result) ++ (32 ∷ 91 ∷ joined (numbers_in c.args.graph.now c.inputs_of-inputs.result))) (93 ∷ 32 ∷ 123 ∷ joined (numbers_in c.args.graph.now c.attributes_of-attributes.result)) c.args.at three listed
