-- A record that fits counts no more inputs than it has places for.
use Rattle.std.proofs.Common.{◌≡◌, ◌∙◌, ◌+◌, ◌-◌, sym, arith}
use Rattle.definitions.specs.Rule.{source_count, vertex_at}
use Rattle.rule_records.proofs.Laws.{pattern-inputs}
use Rattle.rule_records.proofs.vertex_fits.Goals as goal

pub source_inputs_fit-requires-clause-j_bound_2 : goal.source_inputs_fit-requires-clause-j_bound_2
source_inputs_fit-requires-clause-j_bound_2 c = pattern-inputs c.args.rule.now (vertex_at c.args.v) (sym c.pattern_fits.ensures ∙ c.if-pattern_fits.true)

pub target_inputs_fit-requires-clause-t_bound_2 : goal.target_inputs_fit-requires-clause-t_bound_2
target_inputs_fit-requires-clause-t_bound_2 c = let few = pattern-inputs c.args.rule.now (vertex_at c.args.v) (sym c.pattern_fits.ensures ∙ c.if-pattern_fits.true) in
    let same : source_count c.args.rule.now + (c.args.v - c.source_count-source.result) ≡ c.args.v = omega (arith, c.if-v-source.false) in
    rw same few
