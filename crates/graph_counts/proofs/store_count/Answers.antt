-- The number is written in the count's place of slot k's record, and so the record is written with it.
use mathlib.Core.Path.{sym, subst}
use Rattle.definitions.specs.Graph.{record_at}
use Rattle.graph_records.specs.Records.{slot_at}
use Rattle.graph_slots.specs.Written.{SlotWritten}
use Rattle.graph_counts.specs.Recounted.{with_count}
use Rattle.graph_counts.proofs.Laws.{count-written}
use borrow.Author.Rules.{rules}
use Rattle.graph_counts.proofs.store_count.Goals as goal

pub returns : goal.returns
returns c = subst (SlotWritten c.args.k (with_count c.args.count (slot_at c.args.graph.now (record_at c.args.k))) c.args.graph.now) (sym c.put_u16_at.ensures)
    (count-written c.args.k c.args.count c.args.graph.now c.requires)
