-- The outcome, with its reply packed; and what is lent are slices of bytes.
use mathlib.Core.Path.{ap, ◌∙◌}
use native.Mathlib.Omega.{arith}
use Rattle.definitions.specs.Operations.{Outcome, at_return, returned}
use Rattle.laws.proofs.Reply.{valueless_fits}
use Rattle.laws.proofs.Operations.{rewrite_valueless}
use borrow.Author.Rules.{rules}
use Rattle.leafgraph.proofs.lg_rewrite.Goals as goal

pub pack-requires : goal.pack-requires
pack-requires c = valueless_fits (ap (λ (o : Outcome). o.reply) c.rewrite.ensures) (rewrite_valueless c.args.graph.now c.args.rule.now c.args.start c.args.map.now)

pub returns : goal.returns
unfolding returned
returns c = record {
  outcome = ap (λ n. at_return n c.rewrite.new.graph c.rewrite.new.map) c.pack.ensures ∙ ap returned c.rewrite.ensures;
  lent_graph = λ at. omega (arith, c.slice_known-1.given at);
  lent_rule = λ at. omega (arith, c.shared_slice_known-1.given at);
  lent_map = λ at. omega (arith, c.slice_known-2-1.given at);
}
