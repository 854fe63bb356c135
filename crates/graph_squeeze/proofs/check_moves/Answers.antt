-- The length is compared once the block is long enough for a header.
use mathlib.Core.Path.{sym, ap, ◌∙◌}
use Prim.Native.Nat.{◌*◌}
use borrow.Author.Tests.{eq-eqb, ne_eqb}
use lib.ListN.{length}
use Rattle.definitions.specs.Graph.{slot_count}
use Rattle.definitions.specs.Squeeze.{moves_reply}
use Rattle.graph_squeeze.proofs.check_moves.Goals as goal

pub returns-then-moves-slot_count : goal.returns-then-moves-slot_count
unfolding moves_reply
returns-then-moves-slot_count c = λ l.
    c.refuse.ensures
    ∙ sym (rw (ne_eqb (length c.args.moves.now) (2 * slot_count c.args.graph.now)
    (λ e. c.if-moves-slot_count.true (e ∙ ap (λ k. 2 * k) (sym c.slot_count.ensures.0)))))

pub returns : goal.returns
unfolding moves_reply
returns c = λ l.
    sym (rw (eq-eqb (length c.args.moves.now) (2 * slot_count c.args.graph.now)
    (c.if-moves-slot_count.false ∙ ap (λ k. 2 * k) c.slot_count.ensures.0)))
