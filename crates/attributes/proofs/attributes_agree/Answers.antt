use Rattle.std.proofs.Common.{rules}
use borrow.Author.Tests.{tests}
use Rattle.laws.proofs.Searches.{all_of_range}
use Rattle.definitions.specs.Graph.{graph_of, slot_of}
use Rattle.definitions.specs.Rule.{source_of}
use Rattle.definitions.specs.Match.{read_attribute}
use Rattle.rule_fields.specs.Fixed.{fixed_of}
use Rattle.attributes.specs.Agreement.{agree_first}
use Rattle.attributes.proofs.Laws.{agrees_at}
use Rattle.attributes.proofs.attributes_agree.Goals as goal

pub returns : goal.returns
unfolding agree_first
returns c = all_of_range
    (agrees_at (read_attribute (graph_of c.args.graph.now) c.args.images.now) (source_of (fixed_of c.args.rule.now) c.args.j).attributes (slot_of (graph_of c.args.graph.now) c.args.v).attributes)
    c.source_attribute_count.ensures.0 _ _ _ c.all.ensures.ran (λ x b q k. search (rules, tests))
