-- The replies about the blocks, and then what good blocks are answered.
use mathlib.Core.Path.{sym, ◌∙◌}
use Rattle.laws.proofs.Reply.{passed_on}
use Rattle.laws.proofs.Operations.{elsewhere_refused, elsewhere_asked}
use Rattle.blocks.proofs.Laws.{blocks_done}
use Rattle.read_elsewhere.proofs.is_read_elsewhere.Goals as goal

pub returns-in_err-check_blocks : goal.returns-in_err-check_blocks
returns-in_err-check_blocks c =
    passed_on c.from_residual.ensures.1
    ∙ sym (elsewhere_refused c.args.graph.now c.args.rule.now c.args.map.now c.args.vertex (sym c.in_err-check_blocks.ensures))

pub answer-requires-clause-sound_graph : goal.answer-requires-clause-sound_graph
answer-requires-clause-sound_graph c =
    (blocks_done c.args.graph.now c.args.rule.now c.args.map.now (sym c.in_ok-check_blocks.ensures)).sound_graph

pub answer-requires-clause-sound_rule : goal.answer-requires-clause-sound_rule
answer-requires-clause-sound_rule c =
    (blocks_done c.args.graph.now c.args.rule.now c.args.map.now (sym c.in_ok-check_blocks.ensures)).sound_rule

pub answer-requires-clause-map_len : goal.answer-requires-clause-map_len
answer-requires-clause-map_len c = (blocks_done c.args.graph.now c.args.rule.now c.args.map.now (sym c.in_ok-check_blocks.ensures)).map_size

pub returns : goal.returns
returns c =
    c.answer.ensures ∙ sym (elsewhere_asked c.args.graph.now c.args.rule.now c.args.map.now c.args.vertex (sym c.in_ok-check_blocks.ensures))
