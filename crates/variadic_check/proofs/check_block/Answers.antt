-- The version 1 block is made in the first part of a local block, as long as the rule's, and read from there.
use mathlib.Core.Path.{◌≡◌, sym, ap, ◌∙◌}
use mathlib.Core.Bool.{true}
use mathlib.Core.List.{List, ◌++◌}
use Prim.Native.Nat.{ℕ, ◌-◌, ◌≤◌}
use native.Mathlib.Omega.{arith}
use borrow.Author.Tests.{not-true, not-false}
use lib.ListN.{length, take, length-append}
use lib.Seq.{take-append_seam}
use Rattle.definitions.specs.VariadicBlock.{variadic_header_fits}
use Rattle.variadic_plain.proofs.Laws.{plain-length}
use Rattle.variadic_check.proofs.Laws.{block-whole, block-short, refused-header}
use borrow.Author.Rules.{rules}
use Rattle.variadic_check.proofs.check_block.Goals as goal

pub returns-then-not-header_fits : goal.returns-then-not-header_fits
returns-then-not-header_fits c = c.refuse.ensures
    ∙ refused-header _ (sym c.header_fits.ensures ∙ c.if-not-header_fits.true)

pub slice_bounds-plain-end : goal.slice_bounds-plain-end
slice_bounds-plain-end c = let header : variadic_header_fits c.args.rule.now ≡ true = sym c.header_fits.ensures ∙ c.if-not-header_fits.false in
    omega (arith, block-short c.args.rule.now header, c.blank_rule-plain.ensures)

pub write_plain-requires-clause-rule_header_bytes_in_bounds : goal.write_plain-requires-clause-rule_header_bytes_in_bounds
write_plain-requires-clause-rule_header_bytes_in_bounds c = let header : variadic_header_fits c.args.rule.now ≡ true = sym c.header_fits.ensures ∙ c.if-not-header_fits.false in
    omega (arith, (block-whole c.args.rule.now header).whole.size)
