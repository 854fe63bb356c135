-- What a version 2 block asks of templates, vertex by vertex, over the block's bytes. A vertex is counted as in the block: target vertex t is S + t.
-- Assumes nothing.
use Rattle.std.specs.Prelude.{Bool, cond, not, ◌&&◌, ◌||◌, List, ℕ, ◌+◌, ◌-◌, ◌%◌, ◌<◌, ◌≤◌, eqb, ltb}
use Rattle.definitions.specs.Lists.{tabulate, any}
use Rattle.definitions.specs.Fields.{byte_at}
use Rattle.definitions.specs.Operators.{kind_tuple}
use Rattle.definitions.specs.Graph.{input_limit}
use Rattle.definitions.specs.Rule.{source_count, vertex_at, origin_of}
use Rattle.definitions.specs.VariadicBlock.{template_mark, marked, variadic_of, origin_template, source_templates_fit, target_templates_fit}

-- vertex v is a named Tuple that may not be one, or names a template that it may not
unfoldable pub bad_templates : List ℕ → ℕ → Bool
bad_templates block v =
    not (cond (ltb v (source_count block)) (source_templates_fit (variadic_of block) v) (target_templates_fit (variadic_of block) (v - source_count block)))

-- no record of a vertex below `end` counts more inputs than it has places for
abbrev pub ShortBelow : List ℕ → ℕ → Type 0
ShortBelow block end = (v : ℕ) → v < end → byte_at block (vertex_at v + 2) ≤ input_limit

-- ---- the same over the bytes

-- the numbers in vertex v's input places
unfoldable pub places_of : List ℕ → ℕ → List ℕ
places_of block v = tabulate (byte_at block (vertex_at v + 2)) (λ i. byte_at block (vertex_at v + 4 + i))

-- place number p of vertex v names a template
unfoldable pub place_marked : List ℕ → ℕ → ℕ → Bool
place_marked block v p = cond (ltb v (source_count block)) (marked block p) (origin_template (variadic_of block) (origin_of p))

unfoldable pub names_template : List ℕ → ℕ → Bool
names_template block v = any (place_marked block v) (places_of block v)

-- bytes 14 and 15 name the source and the target Tuple
unfoldable pub is_named_tuple : List ℕ → ℕ → Bool
is_named_tuple block v = cond (ltb v (source_count block)) (eqb v (byte_at block 14)) (eqb (v - source_count block) (byte_at block 15))

unfoldable pub tuple_fits : List ℕ → ℕ → Bool
tuple_fits block v =
    not (marked block v) && eqb (byte_at block (vertex_at v) % template_mark) kind_tuple && eqb (byte_at block (vertex_at v + 2)) 1

unfoldable pub vertex_templates_fit : List ℕ → ℕ → Bool
vertex_templates_fit block v = cond (is_named_tuple block v) (tuple_fits block v) (marked block v || not (names_template block v))
