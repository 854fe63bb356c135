-- Version 1 has zero bytes from the tail on, and version 2 from behind the count.
use mathlib.Core.Path.{◌≡◌, ◌∙◌}
use Prim.Native.Nat.{◌+◌}
use native.Mathlib.Omega.{arith}
use borrow.Author.Tests.{eq-eqb, ne_eqb}
use Rattle.definitions.specs.Graph.{slot_bytes, import_version, zeros_offset}
use Rattle.graph_faults.proofs.end_fits.Goals as goal

pub returns-then-version-eq-IMPORT_VERSION : goal.returns-then-version-eq-IMPORT_VERSION
unfolding zeros_offset
returns-then-version-eq-IMPORT_VERSION c = let a = c.args in
    let end : a.at + 40 + 8 ≡ a.at + slot_bytes = omega arith in
    rw end at c.word_filled.ensures ∙ simp (eq-eqb a.version import_version c.if-version-eq-IMPORT_VERSION.true)

pub returns : goal.returns
unfolding zeros_offset
returns c = let a = c.args in
    let start : a.at + 40 + 2 ≡ a.at + 42 = omega arith in
    let end : a.at + 40 + 8 ≡ a.at + slot_bytes = omega arith in
    rw (start, end) at c.word_ends_zero.ensures ∙ simp (ne_eqb a.version import_version c.if-version-eq-IMPORT_VERSION.false)
