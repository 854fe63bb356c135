-- What the table of kinds says of a source vertex whose record fits.
-- Assumes nothing.
use mathlib.Core.Path.{◌≡◌, refl, sym, ◌∙◌}
use mathlib.Core.Bool.{true, false}
use mathlib.Core.List.{List, []}
use Prim.Native.Nat.{ℕ, ◌+◌, ◌<◌}
use native.Mathlib.Omega.{arith}
use borrow.Author.Tests.{eqb-true}
use lib.Dec.{eqb}
use Rattle.definitions.specs.Fields.{byte_at}
use Rattle.definitions.specs.Operators.{kind_const, kind_call, kinds, row_of, shape_fits}
use Rattle.definitions.specs.Rule.{source_count, vertex_at, rule_of, source_of, source_inputs, pattern_fits}
use Rattle.definitions.specs.Match.{is_const}
use Rattle.laws.proofs.Lists.{length_none}
use Rattle.laws.proofs.Operators.{row-inputs}
use Rattle.laws.proofs.Rule.{source_kind_at, source-count-at, pattern_shape}

module _ (block : List ℕ) (j : ℕ) (inside : j < source_count block) (fits : pattern_fits block (vertex_at j) ≡ true) where
  abbrev at : ℕ
  at = vertex_at j

  -- it has a given kind in its record where it has it in the rule
  pub shape_of : (kind : ℕ) → (source_of (rule_of block) j).kind ≡ kind
      → shape_fits kind (byte_at block (vertex_at j + 1)) (byte_at block (vertex_at j + 2)) (byte_at block (vertex_at j + 3)) ≡ true
  shape_of kind e =
      let same : byte_at block at ≡ kind = sym (source_kind_at block j inside) ∙ e in
      rw same at (pattern_shape block at fits)

  -- it reads nothing where the row of its kind has no inputs
  pub reads_nothing : (kind : ℕ) → (source_of (rule_of block) j).kind ≡ kind → eqb kind kind_call ≡ false → (row_of kind).greatest ≡ 0
      → source_inputs (rule_of block) j ≡ []
  reads_nothing kind e other none =
      let most = row-inputs kind (byte_at block (at + 1)) (byte_at block (at + 2)) (byte_at block (at + 3)) (shape_of kind e) other in
      length_none (source_inputs (rule_of block) j) (omega (arith, source-count-at block j inside, most, none))

  -- so a Const reads nothing
  pub const_plain : is_const (rule_of block) j ≡ true → source_inputs (rule_of block) j ≡ []
  unfolding is_const row_of kinds
  const_plain c = reads_nothing kind_const (eqb-true (source_of (rule_of block) j).kind kind_const c) refl refl
