-- What a visit of a copy, or of what it names, asks and gives.
-- Assumes nothing.
use Rattle.std.specs.Prelude.{◌≡◌, List, [], ◌∷◌, ℕ, ◌+◌, ◌<◌, ◌≤◌, get_or, take, Option, MatchOption, unwrap_or}
use Rattle.definitions.specs.Lists.{foldl}
use Rattle.definitions.specs.Paths.{visit}
use Rattle.definitions.specs.Rule.{rule_header_bytes, rule_output_limit}
use Rattle.definitions.specs.Variadic.{original}
use Rattle.definitions.specs.VariadicBlock.{field_limit, expanded_limit}
use Rattle.variadic_order.specs.Order.{copy_numbers, Ordered}
use Rattle.variadic_order.specs.Sides.{place_count, names_from, side_names, outputs_from, SideLayout, OutputLayout}

-- c is a copy of a vertex of the side, and n a number of fields
pub record SideCopy (block : List ℕ) (first base n c : ℕ) : Type 0 where
  pub vertices : ℕ
  pub layout : SideLayout block first base vertices
  pub some : 1 ≤ n
  pub few : n ≤ field_limit
  pub below : c < copy_numbers
  pub vertex : original c < vertices

-- i is an input place of vertex u of the side, and `index` that of a copy or of a shared vertex
pub record SidePlace (block : List ℕ) (first base u i index : ℕ) : Type 0 where
  pub vertices : ℕ
  pub layout : SideLayout block first base vertices
  pub vertex : u < vertices
  pub place : i < place_count block first u
  pub few : index ≤ field_limit

-- The copies visited so far are the first `count`.
pub record Visited (copies numbers : List ℕ) (count : ℕ) : Type 0 where
  pub space : count ≤ expanded_limit
  pub ordered : Ordered (take count copies) copies numbers count

-- a place of vertex v names `named` alone, a copy of a lower vertex
pub record NamesOne (names : List ℕ) (v named : ℕ) : Type 0 where
  pub below : named < copy_numbers
  pub one : names ≡ named ∷ []
  pub lower : original named < v

-- what a place of vertex v names, as the code tells it: a copy of a lower vertex, or nothing
abbrev pub Names : List ℕ → ℕ → Option ℕ → Type 0
Names names v named = MatchOption named (names ≡ []) (λ c. NamesOne names v c)

-- how many copies are visited, as the code tells it: where it gives none, one more than a fixed rule may have
abbrev pub visited_count : Option ℕ → ℕ
visited_count after = unwrap_or after (expanded_limit + 1)

-- The depth d is the definition's; above c's vertex it is enough, whatever it is. Copies of higher vertices are not visited.
pub record Visits (block : List ℕ) (first base tuple n c : ℕ) (copies numbers : List ℕ) (count : ℕ)
    (copies_after numbers_after : List ℕ) (after : ℕ) : Type 0 where
  pub ordered : (d : ℕ) → original c < d
      → Ordered (visit (side_names block first base tuple n) d (take count copies) c) copies_after numbers_after after
  pub higher : (x : ℕ) → original c < original x → get_or numbers_after x 0 ≡ get_or numbers x 0

-- the same of what c names, from field i on; copies of c's vertex are not visited either
pub record VisitsNames (block : List ℕ) (first base tuple n c i : ℕ) (copies numbers : List ℕ) (count : ℕ)
    (copies_after numbers_after : List ℕ) (after : ℕ) : Type 0 where
  pub ordered : (d : ℕ) → original c ≤ d
      → Ordered (foldl (visit (side_names block first base tuple n) d) (take count copies) (names_from block first base tuple n c i)) copies_after
      numbers_after after
  pub higher : (x : ℕ) → original c ≤ original x → get_or numbers_after x 0 ≡ get_or numbers x 0

-- n is a number of fields, and the outputs of the side, from byte `at` of the header on, name its vertices
pub record SideOutputs (block : List ℕ) (first base at n : ℕ) : Type 0 where
  pub vertices : ℕ
  pub layout : SideLayout block first base vertices
  pub outputs : OutputLayout block at base vertices
  pub header : at + rule_output_limit ≤ rule_header_bytes
  pub some : 1 ≤ n
  pub few : n ≤ field_limit

-- the copies that are visited from the outputs on, at every depth above them
pub record SideOrdered (block : List ℕ) (first base tuple at n : ℕ) (copies numbers : List ℕ) (count : ℕ) : Type 0 where
  pub ordered : (d : ℕ) → OutputLayout block at base d
      → Ordered (foldl (visit (side_names block first base tuple n) d) [] (outputs_from block at base 0)) copies numbers count
