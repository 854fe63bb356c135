-- Each kind of fault refuses once those before it do not hold; what a passed test says of the block is what the next one asks.
use mathlib.Core.Path.{◌≡◌, sym, ap, ◌∙◌}
use mathlib.Core.Bool.{true}
use Prim.Native.Nat.{◌≤◌}
use native.Mathlib.Omega.{arith}
use Rattle.definitions.specs.Lists.{lowest}
use Rattle.definitions.specs.Reply.{bad_graph_record, bad_graph_name, refused_at}
use Rattle.definitions.specs.Graph.{slot_count, output_count, graph_of, header_fits, bad_record, bad_inputs, bad_output}
use Rattle.graph_fields.specs.Layout.{WholeGraph}
use Rattle.graph_check.proofs.Laws.{whole, readable, early_header, early_record, early_input, early_output, early_done}
use Rattle.graph_check.proofs.check_names.Goals as goal

pub returns-then-not-header_fits : goal.returns-then-not-header_fits
returns-then-not-header_fits c = c.refuse.ensures
    ∙ early_header _ _ (sym c.header_fits.ensures ∙ c.if-not-header_fits.true)

pub slot_count-slots-requires : goal.slot_count-slots-requires
slot_count-slots-requires c = let header : header_fits c.args.version c.args.graph.now ≡ true = sym c.header_fits.ensures ∙ c.if-not-header_fits.false in
    let laid_out : WholeGraph c.args.graph.now = whole c.args.version c.args.graph.now header in
    omega (arith, laid_out.size)

pub bad_record-unfit-requires : goal.bad_record-unfit-requires
bad_record-unfit-requires c = let header : header_fits c.args.version c.args.graph.now ≡ true = sym c.header_fits.ensures ∙ c.if-not-header_fits.false in
    let laid_out : WholeGraph c.args.graph.now = whole c.args.version c.args.graph.now header in
    laid_out

pub returns-then-unfit-slots : goal.returns-then-unfit-slots
returns-then-unfit-slots c = let header : header_fits c.args.version c.args.graph.now ≡ true = sym c.header_fits.ensures ∙ c.if-not-header_fits.false in
    c.refuse_at.ensures ∙ ap (refused_at bad_graph_record) c.bad_record-unfit.ensures
    ∙ early_record _ _ header (omega (arith, c.bad_record-unfit.ensures, c.slot_count-slots.ensures.0))

pub bad_inputs-reader-requires : goal.bad_inputs-reader-requires
bad_inputs-reader-requires c = let header : header_fits c.args.version c.args.graph.now ≡ true = sym c.header_fits.ensures ∙ c.if-not-header_fits.false in
    let laid_out : WholeGraph c.args.graph.now = whole c.args.version c.args.graph.now header in
    let records : let block = c.args.graph.now in slot_count block ≤ lowest (bad_record c.args.version block) (slot_count block) = omega (arith, c.bad_record-unfit.ensures, c.slot_count-slots.ensures.0) in
    readable _ _ laid_out records

pub output_count-outputs-requires : goal.output_count-outputs-requires
output_count-outputs-requires c = let header : header_fits c.args.version c.args.graph.now ≡ true = sym c.header_fits.ensures ∙ c.if-not-header_fits.false in
    let laid_out : WholeGraph c.args.graph.now = whole c.args.version c.args.graph.now header in
    omega (arith, laid_out.size)

pub bad_output-output-requires : goal.bad_output-output-requires
bad_output-output-requires c = let header : header_fits c.args.version c.args.graph.now ≡ true = sym c.header_fits.ensures ∙ c.if-not-header_fits.false in
    let laid_out : WholeGraph c.args.graph.now = whole c.args.version c.args.graph.now header in
    laid_out

pub returns-then-reader-slots : goal.returns-then-reader-slots
returns-then-reader-slots c = let header : header_fits c.args.version c.args.graph.now ≡ true = sym c.header_fits.ensures ∙ c.if-not-header_fits.false in
    let records : let block = c.args.graph.now in slot_count block ≤ lowest (bad_record c.args.version block) (slot_count block) = omega (arith, c.bad_record-unfit.ensures, c.slot_count-slots.ensures.0) in
    c.refuse_at-then-reader-slots.ensures ∙ ap (refused_at bad_graph_name) c.bad_inputs-reader.ensures
    ∙ early_input _ _ header records
    (omega (arith, c.if-reader-slots.true, c.bad_inputs-reader.ensures, c.slot_count-slots.ensures.0))

pub returns-then-output-outputs : goal.returns-then-output-outputs
returns-then-output-outputs c = let header : header_fits c.args.version c.args.graph.now ≡ true = sym c.header_fits.ensures ∙ c.if-not-header_fits.false in
    let records : let block = c.args.graph.now in slot_count block ≤ lowest (bad_record c.args.version block) (slot_count block) = omega (arith, c.bad_record-unfit.ensures, c.slot_count-slots.ensures.0) in
    let inputs : let block = c.args.graph.now in slot_count block ≤ lowest (bad_inputs (graph_of block)) (slot_count block) = omega (arith, c.bad_inputs-reader.ensures, c.slot_count-slots.ensures.0) in
    c.refuse_at-then-output-outputs.ensures ∙ ap (refused_at bad_graph_name) c.bad_output-output.ensures
    ∙ early_output _ _ header records inputs
    (omega (arith, c.if-output-outputs.true, c.bad_output-output.ensures, c.output_count-outputs.ensures.0))

pub returns : goal.returns
returns c = let header : header_fits c.args.version c.args.graph.now ≡ true = sym c.header_fits.ensures ∙ c.if-not-header_fits.false in
    let records : let block = c.args.graph.now in slot_count block ≤ lowest (bad_record c.args.version block) (slot_count block) = omega (arith, c.bad_record-unfit.ensures, c.slot_count-slots.ensures.0) in
    let inputs : let block = c.args.graph.now in slot_count block ≤ lowest (bad_inputs (graph_of block)) (slot_count block) = omega (arith, c.bad_inputs-reader.ensures, c.slot_count-slots.ensures.0) in
    let outputs : let block = c.args.graph.now in output_count block ≤ lowest (bad_output (graph_of block)) (output_count block) = omega (arith, c.bad_output-output.ensures, c.output_count-outputs.ensures.0) in
    early_done _ _ header records inputs outputs
