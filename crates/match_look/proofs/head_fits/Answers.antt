-- Equal words fit where they are no wildcard's; other words fit a wildcard, where the slot is not Empty.
use mathlib.Core.Path.{sym, ◌∙◌}
use native.Mathlib.Omega.{arith}
use borrow.Author.Tests.{ne_eqb}
use Rattle.match_look.specs.Head.{head_in}
use Rattle.match_look.proofs.Look.{wild-fits}
use Rattle.match_look.proofs.Words.{equal_words, other_words}
use Rattle.match_look.proofs.head_fits.Goals as goal

pub returns-then-slot-pattern : goal.returns-then-slot-pattern
returns-then-slot-pattern c = rw c.kind_in.ensures (equal_words c.args.pattern c.args.slot c.if-slot-pattern.true)

pub returns-then-kind_in-eq-KIND_EMPTY : goal.returns-then-kind_in-eq-KIND_EMPTY
returns-then-kind_in-eq-KIND_EMPTY c = rw c.kind_in-then-kind_in-eq-KIND_EMPTY.ensures (sym (wild-fits (head_in c.args.pattern) (head_in c.args.slot) (sym c.kind_in-else-slot-pattern.ensures ∙ c.if-kind_in-eq-KIND_EMPTY.true)))

pub returns-else-kind_in-eq-KIND_EMPTY : goal.returns-else-kind_in-eq-KIND_EMPTY
returns-else-kind_in-eq-KIND_EMPTY c = ne_eqb _ _ c.if-kind_in-eq-KIND_EMPTY.false ∙ sym (other_words c.args.pattern c.args.slot (omega arith) (omega arith) c.if-slot-pattern.false (λ z. c.if-kind_in-eq-KIND_EMPTY.false (c.kind_in-else-slot-pattern.ensures ∙ z)))
