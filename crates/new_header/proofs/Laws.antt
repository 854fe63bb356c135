-- What a written header is: the bytes of the header of a graph block.
-- Assumes nothing.
use mathlib.Core.Path.{◌≡◌, refl}
use mathlib.Core.List.{List}
use Prim.Native.Nat.{ℕ}
use lib.ListN.{length}
use Rattle.definitions.specs.Lists.{padded}
use Rattle.definitions.specs.Graph.{output_limit, unused_place, graph_version, header_block}
use Rattle.new_header.specs.Headers.{header_with}

pub header_bytes_lem : (n : ℕ) (outputs : List ℕ)
    → header_with n (length outputs) (padded output_limit unused_place outputs) ≡ header_block graph_version n outputs
unfolding header_with header_block
header_bytes_lem n outputs = refl
