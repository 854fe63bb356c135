-- The rule of a block on which matching and rewriting work, field by field: one law for each field, over the index. For a block that is lent it is
-- the rule of the block.
-- Assumes nothing.
use mathlib.Core.Path.{◌≡◌, refl, ap, ◌∙◌}
use mathlib.Core.Bool.{true, false}
use mathlib.Core.List.{List}
use mathlib.Core.Logic.{⊎_elim}
use Prim.Native.Nat.{ℕ, ◌+◌, ◌<◌}
use lib.ListN.{length, get_or}
use Rattle.definitions.specs.Lists.{build}
use Rattle.definitions.specs.Fields.{byte_at}
use Rattle.definitions.specs.Rule.{target_base, source_count, target_count, rule_output_count, node_count, vertex_at, Expression, anything, Origin, origin_by, node_left, node_right, node_by, expressions, expression_of, attribute_in, rule_by, rule_of, source_of, target_of, source_inputs}
use Rattle.laws.proofs.Lists.{decided}
use Rattle.laws.proofs.Rule.{length-source-by, length-target-by, length-source-outputs-by, length-target-outputs-by, source-output-by, target-output-by, source_kind_by, source-operator-by, source-count-by, source_input_by, source-attributes-by, source_attribute_by, target_kind_by, target-operator-by, target-count-by, target_input_by, target-attributes-by, target_attribute_by}
use Rattle.rule_fields.specs.Fixed.{is_expanded, split_in, origin_in, nodes_in, left_in, right_in, expression_in, attribute_node, attribute_of_fixed, fixed_of}

module _ (block : List ℕ) where
  pub length-source : length (fixed_of block).source ≡ source_count block
  unfolding fixed_of
  length-source = length-source-by (origin_in block) (attribute_of_fixed block) block

  pub length-target : length (fixed_of block).target ≡ target_count block
  unfolding fixed_of
  length-target = length-target-by (origin_in block) (attribute_of_fixed block) block

  pub length-source-outputs : length (fixed_of block).source_outputs ≡ rule_output_count block
  unfolding fixed_of
  length-source-outputs = length-source-outputs-by (origin_in block) (attribute_of_fixed block) block

  pub length-target-outputs : length (fixed_of block).target_outputs ≡ rule_output_count block
  unfolding fixed_of
  length-target-outputs = length-target-outputs-by (origin_in block) (attribute_of_fixed block) block

  pub source-output_of : (i d : ℕ) → i < rule_output_count block → get_or (fixed_of block).source_outputs i d ≡ byte_at block (10 + i)
  unfolding fixed_of
  source-output_of i d h = source-output-by (origin_in block) (attribute_of_fixed block) block i d h

  pub target-output_of : (i : ℕ) (d : Origin) → i < rule_output_count block
      → get_or (fixed_of block).target_outputs i d ≡ origin_in block (byte_at block (12 + i))
  unfolding fixed_of
  target-output_of i d h = target-output-by (origin_in block) (attribute_of_fixed block) block i d h

  pub source_kind_at : (j : ℕ) → j < source_count block → (source_of (fixed_of block) j).kind ≡ byte_at block (vertex_at j)
  unfolding fixed_of
  source_kind_at j h = source_kind_by (origin_in block) (attribute_of_fixed block) block j h

  pub source-operator-at : (j : ℕ) → j < source_count block → (source_of (fixed_of block) j).operator ≡ byte_at block (vertex_at j + 1)
  unfolding fixed_of
  source-operator-at j h = source-operator-by (origin_in block) (attribute_of_fixed block) block j h

  pub source-count-at : (j : ℕ) → j < source_count block → length (source_inputs (fixed_of block) j) ≡ byte_at block (vertex_at j + 2)
  unfolding fixed_of
  source-count-at j h = source-count-by (origin_in block) (attribute_of_fixed block) block j h

  pub source_input_at : (j i d : ℕ) → j < source_count block → i < length (source_inputs (fixed_of block) j)
      → get_or (source_inputs (fixed_of block) j) i d ≡ byte_at block (vertex_at j + 4 + i)
  unfolding fixed_of
  source_input_at j i d h l = source_input_by (origin_in block) (attribute_of_fixed block) block j h i d l

  pub source-attributes-at : (j : ℕ) → j < source_count block → length (source_of (fixed_of block) j).attributes ≡ byte_at block (vertex_at j + 3)
  unfolding fixed_of
  source-attributes-at j h = source-attributes-by (origin_in block) (attribute_of_fixed block) block j h

  pub source_attribute_at : (j i : ℕ) (d : Expression) → j < source_count block → i < length (source_of (fixed_of block) j).attributes
      → get_or (source_of (fixed_of block) j).attributes i d ≡ attribute_of_fixed block j i
  unfolding fixed_of
  source_attribute_at j i d h l = source_attribute_by (origin_in block) (attribute_of_fixed block) block j h i d l

  pub target_kind_at : (t : ℕ) → t < target_count block → (target_of (fixed_of block) t).kind ≡ byte_at block (vertex_at (source_count block + t))
  unfolding fixed_of
  target_kind_at t h = target_kind_by (origin_in block) (attribute_of_fixed block) block t h

  pub target-operator-at : (t : ℕ) → t < target_count block
      → (target_of (fixed_of block) t).operator ≡ byte_at block (vertex_at (source_count block + t) + 1)
  unfolding fixed_of
  target-operator-at t h = target-operator-by (origin_in block) (attribute_of_fixed block) block t h

  pub target-count-at : (t : ℕ) → t < target_count block
      → length (target_of (fixed_of block) t).inputs ≡ byte_at block (vertex_at (source_count block + t) + 2)
  unfolding fixed_of
  target-count-at t h = target-count-by (origin_in block) (attribute_of_fixed block) block t h

  pub target_input_at : (t i : ℕ) (d : Origin) → t < target_count block → i < length (target_of (fixed_of block) t).inputs
      → get_or (target_of (fixed_of block) t).inputs i d ≡ origin_in block (byte_at block (vertex_at (source_count block + t) + 4 + i))
  unfolding fixed_of
  target_input_at t i d h l = target_input_by (origin_in block) (attribute_of_fixed block) block t h i d l

  pub target-attributes-at : (t : ℕ) → t < target_count block
      → length (target_of (fixed_of block) t).attributes ≡ byte_at block (vertex_at (source_count block + t) + 3)
  unfolding fixed_of
  target-attributes-at t h = target-attributes-by (origin_in block) (attribute_of_fixed block) block t h

  pub target_attribute_at : (t i : ℕ) (d : Expression) → t < target_count block → i < length (target_of (fixed_of block) t).attributes
      → get_or (target_of (fixed_of block) t).attributes i d ≡ attribute_of_fixed block (source_count block + t) i
  unfolding fixed_of
  target_attribute_at t i d h l = target_attribute_by (origin_in block) (attribute_of_fixed block) block t h i d l

-- ---- a block that is lent

-- nodes, by where their operands are read and how many there are
same_expressions : (block : List ℕ) (left right : ℕ → ℕ) (n k : ℕ) → left ≡ node_left block → right ≡ node_right block → n ≡ node_count block
    → get_or (build (node_by left right block) n) k anything ≡ expression_of block k
unfolding expression_of expressions
same_expressions block left right n k e f g = rw (e, f, g) refl

same_rules : (block : List ℕ) (base : ℕ) (attribute : ℕ → ℕ → Expression) → base ≡ target_base → attribute ≡ attribute_in block
    → rule_by (origin_by base) attribute block ≡ rule_of block
unfolding rule_of
same_rules block base attribute e f = rw (e, f) refl

module _ (block : List ℕ) (lent : is_expanded block ≡ false) where
  pub lent_rule_lem : fixed_of block ≡ rule_of block
  unfolding fixed_of split_in attribute_of_fixed
  lent_rule_lem = same_rules block (split_in block) (attribute_of_fixed block) (simp lent) (simp lent)

  pub lent_nodes : nodes_in block ≡ node_count block
  unfolding nodes_in
  lent_nodes = simp lent

  pub lent_expression : (k : ℕ) → expression_in block k ≡ expression_of block k
  unfolding expression_in left_in right_in
  lent_expression k = same_expressions block (left_in block) (right_in block) (nodes_in block) k (simp lent) (simp lent) lent_nodes

  pub lent_attribute : (v i : ℕ) → attribute_node block v i ≡ byte_at block (vertex_at v + 10 + i)
  unfolding attribute_node
  lent_attribute v i = simp lent

  pub lent_left : (k : ℕ) → left_in block k ≡ node_left block k
  unfolding left_in
  lent_left k = simp lent

  pub lent_right : (k : ℕ) → right_in block k ≡ node_right block k
  unfolding right_in
  lent_right k = simp lent

  pub lent_split : split_in block ≡ target_base
  unfolding split_in
  lent_split = simp lent

-- an attribute is the expression of its node
pub attribute_expression : (block : List ℕ) (v i : ℕ) → expression_in block (attribute_node block v i) ≡ attribute_of_fixed block v i
unfolding attribute_of_fixed
attribute_expression block v i =
    ⊎_elim (λ (t : is_expanded block ≡ true). simp t)
    (λ (t : is_expanded block ≡ false).
    simp t (lent_expression block t (attribute_node block v i) ∙ ap (expression_of block) (lent_attribute block t v i)))
    (decided (is_expanded block))
