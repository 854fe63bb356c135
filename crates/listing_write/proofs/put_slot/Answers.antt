-- A vertex has its line, and an Empty slot has none.
use mathlib.Core.Path.{sym, ◌∙◌}
use Rattle.definitions.specs.Graph.{graph_of}
use Rattle.listing_print.proofs.Laying.{laid_none, laid_as}
use Rattle.listing_write.proofs.Slots.{slot_some, slot_none}
use Rattle.listing_write.proofs.put_slot.Goals as goal

pub returns-then-is_vertex : goal.returns-then-is_vertex
returns-then-is_vertex c = laid_as (sym (slot_some (graph_of c.args.graph.now) c.args.k (sym c.is_vertex.ensures ∙ c.if-is_vertex.true))) c.put_line.ensures

pub returns-else-is_vertex : goal.returns-else-is_vertex
returns-else-is_vertex c = laid_as (sym (slot_none (graph_of c.args.graph.now) c.args.k (sym c.is_vertex.ensures ∙ c.if-is_vertex.false))) (laid_none c.args.at c.args.text.now)

pub put_line-requires-clause-k_bound_2 : goal.put_line-requires-clause-k_bound_2
put_line-requires-clause-k_bound_2 c = rw (slot_some (graph_of c.args.graph.now) c.args.k (sym c.is_vertex.ensures ∙ c.if-is_vertex.true)) at c.requires.k_bound_2
