-- What places name after a rewriting, given the images and the target vertices' slots as arrays.
-- Assumes nothing.
use Rattle.std.specs.Prelude.{◌≡◌, Bool, true, cond, List, ℕ, ◌<◌, eqb, ltb, length, get_or}
use Rattle.definitions.specs.Lists.{member, position}
use Rattle.definitions.specs.Graph.{unused_place}
use Rattle.definitions.specs.Rule.{side_capacity, target_count, rule_output_count, Origin, given, made, Rule, target_of}
use Rattle.definitions.specs.Match.{image_of, output_images}
use Rattle.rule_fields.specs.Fixed.{fixed_of}
use Rattle.rule_fields.specs.Layout.{WholeRule, Layered}
use Rattle.redirection.specs.declared.Move.{Move}
use Rattle.redirection.specs.declared.Redirection.{Redirection}

-- a target place names a vertex that has a place in the arrays
unfoldable pub origin_inside : Origin → Bool
origin_inside (given j) = ltb j side_capacity
origin_inside (made t) = ltb t side_capacity

-- every target place does
pub record Resolvable (block : List ℕ) : Type 0 where
  pub inputs : (t i : ℕ) → t < target_count block → i < length (target_of (fixed_of block) t).inputs
      → origin_inside (get_or (target_of (fixed_of block) t).inputs i (made 255)) ≡ true
  pub outputs : (i : ℕ) → i < rule_output_count block → origin_inside (get_or (fixed_of block).target_outputs i (made 255)) ≡ true

-- the arrays in which places are looked up: one with the images, and one with the target vertices' slots
pub record Arrays (images places : List ℕ) : Type 0 where
  pub image_size : length images ≡ side_capacity
  pub place_size : length places ≡ side_capacity

-- what the moves of a rewriting are made from: a rule whose outputs can be read and name vertices, and places for these in the arrays
pub record Movable (block images places : List ℕ) : Type 0 where
  pub whole : WholeRule block
  pub layered : Layered block
  pub resolvable : Resolvable block
  pub arrays : Arrays images places

-- the slot that a target place names
unfoldable pub resolve_in : List ℕ → List ℕ → Origin → ℕ
resolve_in images places (given j) = image_of images j
resolve_in images places (made t) = get_or places t unused_place

-- a replaced output gives way to what its target output names, as `place` resolves it
unfoldable pub redirect_by : (Origin → ℕ) → Rule → List ℕ → ℕ → ℕ
redirect_by place r images v =
    let replaced = output_images r images in
    cond (member v replaced) (place (get_or r.target_outputs (position v replaced) (made (length r.target)))) v

-- what output i of the rule moves
unfoldable pub move_of : List ℕ → List ℕ → List ℕ → ℕ → Move
move_of block images places i = record {
  from = image_of images (get_or (fixed_of block).source_outputs i 255);
  to = resolve_in images places (get_or (fixed_of block).target_outputs i (made 255));
}

-- both moves at once: what the first brought is not moved again
unfoldable pub moved : Redirection → ℕ → ℕ
moved way v =
    cond (eqb v way.first.from) way.first.to (cond (eqb v way.second.from) way.second.to v)
