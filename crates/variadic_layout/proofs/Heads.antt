-- What the header of a layout counts.
-- Assumes nothing.
use mathlib.Core.Path.{◌≡◌}
use mathlib.Core.Bool.{true}
use mathlib.Core.List.{List}
use Prim.Native.Nat.{ℕ, ◌+◌, ◌*◌, ◌/◌, ◌%◌, ◌<◌}
use native.Mathlib.Omega.{arith}
use borrow.Author.Tests.{eq-eqb}
use lib.ListN.{length, get_or}
use Rattle.definitions.specs.Fields.{byte_at}
use Rattle.definitions.specs.Rule.{rule_header_bytes, source_count, target_count, rule_output_count, node_count}
use Rattle.rule_fields.specs.Fixed.{expanded_version, is_expanded, nodes_in}
use Rattle.variadic_layout.specs.Bytes.{header_bytes}
use Rattle.variadic_layout.specs.Laid.{sources_of, targets_of, header_of}

-- the first 16 bytes are the header
module _ (block : List ℕ) (n : ℕ) (laid : List ℕ) (header : (b : ℕ) → b < rule_header_bytes → byte_at laid b ≡ get_or (header_of block n) b 0) where
  pub header-sources : source_count laid ≡ length (sources_of block n)
  unfolding header_bytes
  header-sources = header 6 (omega arith)

  pub header_targets : target_count laid ≡ length (targets_of block n)
  unfolding header_bytes
  header_targets = header 7 (omega arith)

  pub header-outputs : rule_output_count laid ≡ rule_output_count block
  unfolding header_bytes
  header-outputs = header 8 (omega arith)

  pub header_expanded : is_expanded laid ≡ true
  unfolding header_bytes is_expanded
  header_expanded = eq-eqb (byte_at laid 4) expanded_version (header 4 (omega arith))

  pub header_nodes : nodes_in laid ≡ node_count block * (n + 1)
  unfolding header_bytes nodes_in
  header_nodes =
      let low : node_count laid ≡ (node_count block * (n + 1)) % 256 = header 9 (omega arith) in
      let high : byte_at laid 14 ≡ (node_count block * (n + 1)) / 256 = header 14 (omega arith) in
      rw header_expanded (omega arith)
