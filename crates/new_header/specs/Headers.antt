-- The bytes that a header is written as.
-- Assumes nothing.
use Rattle.std.specs.Prelude.{List, [], ◌∷◌, ◌++◌, ℕ, ◌-◌, replicate}
use Rattle.definitions.specs.Lists.{concat_map}
use Rattle.definitions.specs.Fields.{u16_bytes}
use Rattle.definitions.specs.Graph.{header_bytes, outputs_end, graph_letter, graph_version}

-- the header for n slots, of whose output places the first `count` are used
unfoldable pub header_with : ℕ → ℕ → List ℕ → List ℕ
header_with n count places =
    (76 ∷ 71 ∷ graph_letter ∷ 0 ∷ [])
    ++ u16_bytes graph_version
    ++ u16_bytes n
    ++ u16_bytes count
    ++ concat_map u16_bytes places
    ++ replicate (header_bytes - outputs_end) 0
