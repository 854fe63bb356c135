-- Only the kind and the number of fields differ from the block.
use mathlib.Core.Path.{◌≡◌, sym, ap, ◌∙◌}
use Prim.Native.Nat.{ℕ, ◌%◌}
use native.Mathlib.Omega.{arith}
use Rattle.variadic_layout.specs.Bytes.{block_byte}
use Rattle.variadic_layout.proofs.Bytes.{head_kind, head-count, head_other}
use Rattle.variadic_layout.proofs.head_byte.Goals as goal

pub returns-then-b-eq2 : goal.returns-then-b-eq2
returns-then-b-eq2 c = (
  c.field_count.ensures.0
      ∙ sym (head-count c.args.rule.now c.args.side.first c.args.side.base c.args.side.tuple c.args.n c.args.c c.args.b (omega arith)),
  omega (arith, c.field_count.ensures.1),
)

pub returns-then-b-eq0 : goal.returns-then-b-eq0
returns-then-b-eq0 c = let zero : c.args.b ≡ 0 = omega arith in (
  ap (λ (k : ℕ). k % 128) (c.side_byte-byte.ensures.0 ∙ ap (block_byte c.args.rule.now c.args.side.first c.args.c) zero)
      ∙ sym (head_kind c.args.rule.now c.args.side.first c.args.side.base c.args.side.tuple c.args.n c.args.c c.args.b zero),
  omega arith,
)

pub returns : goal.returns
returns c = (
  c.side_byte-byte.ensures.0
      ∙ sym (head_other c.args.rule.now c.args.side.first c.args.side.base c.args.side.tuple c.args.n c.args.c c.args.b (λ e. omega arith) (λ e. omega arith)),
  c.side_byte-byte.ensures.1,
)
