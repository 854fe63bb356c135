-- Each count is that of its table.
use borrow.Author.Tests.{eq-eqb, ne_eqb}
use Rattle.definitions.specs.Operators.{kind_call, operator_count}
use Rattle.listing.specs.Grammar.{least_inputs, most_inputs, attribute_count, operator_of}
use Rattle.listing.proofs.Reach.{within_low, within_high}
use Rattle.listing_lines.proofs.shape_of.Goals as goal

pub counts_of-counts-requires : goal.counts_of-counts-requires
unfolding operator_of
counts_of-counts-requires c = let h = rw (eq-eqb c.args.kind kind_call c.if-kind-eq-KIND_CALL.true) at c.requires.operator_value in
    (within_low 1 c.args.operator operator_count h, within_high 1 c.args.operator operator_count h)

pub returns-then-kind-eq-KIND_CALL : goal.returns-then-kind-eq-KIND_CALL
unfolding least_inputs most_inputs attribute_count
returns-then-kind-eq-KIND_CALL c = rw (eq-eqb c.args.kind kind_call c.if-kind-eq-KIND_CALL.true) (c.counts_of-counts.ensures.0, c.counts_of-counts.ensures.0, c.counts_of-counts.ensures.1)

pub returns-else-kind-eq-KIND_CALL : goal.returns-else-kind-eq-KIND_CALL
unfolding least_inputs most_inputs attribute_count
returns-else-kind-eq-KIND_CALL c = rw (ne_eqb c.args.kind kind_call c.if-kind-eq-KIND_CALL.false) c.row_of-row.ensures
