-- The two tests, in order.
use mathlib.Core.Path.{ap}
use mathlib.Core.Bool.{not}
use native.Mathlib.Omega.{arith}
use borrow.Author.Rules.{rules}
use borrow.Author.Tests.{lt-ltb, le-ltb}
use lib.ListN.{length}
use Rattle.definitions.specs.ReadElsewhere.{is_inner}
use Rattle.rule_fields.specs.Fixed.{fixed_of}
use Rattle.rule_fields.proofs.Fixed.{length-source}
use Rattle.read_elsewhere.proofs.is_inner.Goals as goal

pub returns-then-source_count-vertex : goal.returns-then-source_count-vertex
unfolding is_inner
returns-then-source_count-vertex c = simp (le-ltb c.args.vertex (length (fixed_of c.args.rule.now).source) (omega (arith, length-source c.args.rule.now, c.source_count.ensures.0, c.if-source_count-vertex.true)))

pub returns : goal.returns
unfolding is_inner
returns c = simp (lt-ltb c.args.vertex (length (fixed_of c.args.rule.now).source) (omega (arith, length-source c.args.rule.now, c.source_count.ensures.0, c.if-source_count-vertex.false)))
    (ap not c.is_rule_input.ensures)
