-- The term of a node is below 512, so its high byte is 0 or 1.
use mathlib.Core.Path.{sym, ap, ◌∙◌}
use Prim.Native.Nat.{ℕ, ◌%◌, ◌/◌}
use native.Mathlib.Omega.{arith}
use Rattle.definitions.specs.Variadic.{copy_index}
use Rattle.variadic_terms.specs.Terms.{term_of}
use Rattle.variadic_layout.proofs.Bytes.{table_unused, table_low, table_high}
use Rattle.variadic_layout.proofs.table_byte.Goals as goal

pub returns-then-side_byte-b : goal.returns-then-side_byte-b
returns-then-side_byte-b c = (sym (table_unused c.args.rule.now c.args.side.first c.args.n c.args.c c.args.b (omega (arith, c.side_byte.ensures.0))), omega arith)

pub returns-then-b-eq0 : goal.returns-then-b-eq0
returns-then-b-eq0 c = (
  ap (λ (k : ℕ). k % 256) (c.term_of-node.ensures.0 ∙ ap (λ (k : ℕ). term_of c.args.rule.now c.args.n k (copy_index c.args.c)) c.side_byte-k.ensures.0)
      ∙ sym (table_low c.args.rule.now c.args.side.first c.args.n c.args.c c.args.b (omega (arith, c.side_byte.ensures.0)) (omega arith)),
  omega arith,
)

pub returns : goal.returns
returns c = (
  ap (λ (k : ℕ). k / 256) (c.term_of-node.ensures.0 ∙ ap (λ (k : ℕ). term_of c.args.rule.now c.args.n k (copy_index c.args.c)) c.side_byte-k.ensures.0)
      ∙ sym (table_high c.args.rule.now c.args.side.first c.args.n c.args.c c.args.b (omega (arith, c.side_byte.ensures.0)) (λ e. omega arith)),
  omega (arith, c.term_of-node.ensures.1),
)
