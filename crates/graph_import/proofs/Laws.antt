-- A sound block of version 1, with the version changed, is made of the same graph.
-- Assumes nothing.
use mathlib.Core.Path.{◌≡◌, refl, sym, ap, ◌∙◌}
use mathlib.Core.List.{List}
use Prim.Native.Nat.{ℕ}
use Rattle.definitions.specs.Fields.{Bytes, u16_bytes}
use Rattle.definitions.specs.Graph.{version_offset, graph_version, import_version, stored_count, Graph, graph_of, header_block, block_as, SoundAs}
use Rattle.encoding.proofs.Graphs.{canonical_as}
use Rattle.writing.specs.Numbers.{with_u16}

version_changed : (version : ℕ) (counts : ℕ → ℕ) (g : Graph) → with_u16 version_offset graph_version (block_as version counts g) ≡ block_as graph_version counts g
unfolding with_u16 block_as header_block u16_bytes
version_changed version counts g = refl

pub with_version : (block : List ℕ) → SoundAs import_version block → Bytes block
    → with_u16 version_offset graph_version block ≡ block_as graph_version (stored_count block) (graph_of block)
with_version block sound bytes =
    ap (with_u16 version_offset graph_version) (sym (canonical_as import_version block sound bytes)) ∙ version_changed import_version (stored_count block) (graph_of block)
