-- One side of a variadic rule's block, whichever it is: the record of its vertex u is record first + u of the block; an input place p names
-- vertex p - base of the side where base ≤ p, and else a rule input, which the side does not visit; `tuple` is the number of its named Tuple.
-- The source has first 0 and base 0, and the target first S and base 16.
-- Assumes nothing.
use Rattle.std.specs.Prelude.{cond, List, [], ◌∷◌, ℕ, suc, ◌+◌, ◌-◌, ◌*◌, ◌/◌, ◌%◌, ◌<◌, ◌≤◌, eqb, ltb, length}
use Rattle.definitions.specs.Lists.{concat_map, range}
use Rattle.definitions.specs.Fields.{byte_at}
use Rattle.definitions.specs.Graph.{input_limit}
use Rattle.definitions.specs.Rule.{side_limit, target_base, source_count, rule_output_limit, rule_output_count, vertex_at}
use Rattle.definitions.specs.Variadic.{copy, original, copy_index}
use Rattle.definitions.specs.VariadicBlock.{marked}
use Rattle.variadic_order.specs.declared.Side.{Side}

-- the two sides as the code has them: bytes 14 and 15 name the Tuples
abbrev pub source_side : List ℕ → Side
source_side block = record { first = 0; base = 0; tuple = byte_at block 14 }

abbrev pub target_side : List ℕ → Side
target_side block = record { first = source_count block; base = target_base; tuple = byte_at block 15 }

module _ (block : List ℕ) (first : ℕ) where
  -- how many input places vertex u has, and the number that stands in place i of them
  abbrev pub place_count : ℕ → ℕ
  place_count u = byte_at block (vertex_at (first + u) + 2)

  abbrev pub place_of : ℕ → ℕ → ℕ
  place_of u i = byte_at block (vertex_at (first + u) + 4 + i)

  -- vertex u where the index is i: a template is its copy of that index, and another vertex is shared
  unfoldable pub side_copy : ℕ → ℕ → ℕ
  side_copy i u = cond (marked block (first + u)) (copy u i) u

module _ (block : List ℕ) (first base : ℕ) where
  -- what the place number p names where the index is i
  unfoldable pub place_names : ℕ → ℕ → List ℕ
  place_names i p = cond (ltb p base) [] (side_copy block first i (p - base) ∷ [])

  module _ (tuple n c : ℕ) where
    -- The fields of copy c, one for each of its input places; in the named Tuple each field stands n times, for the indices 1 to n.
    unfoldable pub field_count : ℕ
    field_count = cond (eqb c tuple) (place_count block first (original c) * n) (place_count block first (original c))

    unfoldable pub field_place : ℕ → ℕ
    field_place i = place_of block first (original c) (cond (eqb c tuple) (i / n) i)

    unfoldable pub field_index : ℕ → ℕ
    field_index i = cond (eqb c tuple) (suc (i % n)) (copy_index c)

    -- what field i names: one copy, or none, where it is a rule input
    unfoldable pub field_names : ℕ → List ℕ
    field_names i = place_names (field_index i) (field_place i)

    -- the same of the fields from i on
    unfoldable pub names_from : ℕ → List ℕ
    names_from i = concat_map field_names (range i field_count)

-- the copies that copy c names, in order
unfoldable pub side_names : List ℕ → (first base tuple : ℕ) → ℕ → ℕ → List ℕ
side_names block first base tuple n c = names_from block first base tuple n c 0

-- the vertices that the outputs from output i on name; the block has them from byte `at` on
unfoldable pub outputs_from : List ℕ → (at base : ℕ) → ℕ → List ℕ
outputs_from block at base i =
    concat_map (λ k. let p = byte_at block (at + k) in cond (ltb p base) [] ((p - base) ∷ [])) (range i (rule_output_count block))

-- What a reader of a side asks of the block: the header and the side's records are there, no record counts more inputs than it has places
-- for, and a place that names a vertex of the side names a lower one.
pub record SideLayout (block : List ℕ) (first base vertices : ℕ) : Type 0 where
  pub size : vertex_at (first + vertices) ≤ length block
  pub few : vertices ≤ side_limit
  pub inputs : (u : ℕ) → u < vertices → place_count block first u ≤ input_limit
  pub lower : (u i : ℕ) → u < vertices → i < place_count block first u → place_of block first u i < base + u

-- and the outputs from byte `at` on name no vertex past the side's last
pub record OutputLayout (block : List ℕ) (at base vertices : ℕ) : Type 0 where
  pub count : rule_output_count block ≤ rule_output_limit
  pub inside : (i : ℕ) → i < rule_output_count block → byte_at block (at + i) < base + vertices
