use mathlib.Core.Path.{◌∙◌}
use Rattle.std.proofs.Common.{rules}
use borrow.Author.Tests.{tests}
use Rattle.definitions.specs.VariadicBlock.{bad_variadic_node}
use Rattle.laws.proofs.Searches.{first_of_range}
use Rattle.variadic_nodes.proofs.bad_node.Goals as goal

pub returns : goal.returns
unfolding bad_variadic_node
returns c = c.unwrap_or.ensures ∙ first_of_range (bad_variadic_node c.args.rule.now) c.node_count-nodes.ensures.0 _ _ _ c.find.ensures.ran (λ x b q k. search (rules, tests))
