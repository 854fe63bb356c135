-- The outcome, with its reply packed.
use mathlib.Core.Path.{ap, ◌∙◌}
use Rattle.definitions.specs.Operations.{Outcome, at_return, returned}
use Rattle.laws.proofs.Reply.{valueless_fits}
use Rattle.laws.proofs.Operations.{match_valueless}
use borrow.Author.Rules.{rules}
use Rattle.leafgraph.proofs.lg_find_match.Goals as goal

pub pack-requires : goal.pack-requires
pack-requires c = valueless_fits (ap (λ (o : Outcome). o.reply) c.find_match.ensures) (match_valueless c.args.graph.now c.args.rule.now c.args.start c.args.map.now)

pub returns : goal.returns
unfolding returned
returns c = ap (λ n. at_return n c.args.graph.now c.find_match.new.map) c.pack.ensures
    ∙ ap returned c.find_match.ensures
