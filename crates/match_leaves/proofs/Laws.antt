-- Laws about what a node that is no operation gives: which attribute an access reads, what the form of a node says, and that a leaf's
-- result is in range.
-- Assumes nothing.
use mathlib.Core.Path.{◌≡◌, sym, ap, ◌∙◌}
use mathlib.Core.Bool.{true, false}
use mathlib.Core.List.{List}
use mathlib.Core.Logic.{⊎_elim}
use mathlib.Core.Option.{Option, none, some}
use Prim.Native.Nat.{ℕ, ◌+◌, ◌-◌, ◌<◌, ◌≤◌}
use native.Mathlib.Omega.{arith}
use borrow.Author.Tests.{ltb-true, ltb-false, le-leb, lt-leb, eq-eqb, eqb-true, eqb-false}
use lib.Dec.{eqb, ltb}
use lib.IntN.{ℤ}
use lib.ListN.{length, get_or, get_or-eq_default}
use Rattle.definitions.specs.Lists.{within, build}
use Rattle.definitions.specs.Fields.{u32_at, signed}
use Rattle.definitions.specs.Graph.{unused_place, Slot, Graph, empty_slot, slot_count, graph_of, slot_of}
use Rattle.definitions.specs.Rule.{node_at, anything, constant, access, form_any, form_constant, form_access, node_form, node_by, node_left, node_right}
use Rattle.definitions.specs.Attributes.{result_of}
use Rattle.definitions.specs.Match.{image_of, attribute_of, read_attribute}
use Rattle.rule_fields.specs.Fixed.{nodes_in, node_in, expression_in}
use Rattle.laws.proofs.Lists.{decided}
use Rattle.laws.proofs.Builds.{build-at}
use Rattle.laws.proofs.Graph.{length-slots, slot_past}
use Rattle.laws.proofs.Match.{image-at}
use Rattle.numbers.specs.Value.{bounded}
use Rattle.numbers.proofs.Laws.{signed_in_range}
use Rattle.match_leaves.specs.Results.{node_result}

-- ---- attributes of images

module _ (s : Slot) (b : ℕ) where
  pub place_zero : b < 1 → none ≡ attribute_of s b
  unfolding attribute_of
  place_zero h = simp (lt-leb 1 b h)

  pub place_past : length s.attributes < b → none ≡ attribute_of s b
  unfolding attribute_of
  place_past h = simp (le-leb 1 b (omega arith), lt-leb b (length s.attributes) h)

  pub place-within : 1 ≤ b → b ≤ length s.attributes → some (signed (get_or s.attributes (b - 1) 0)) ≡ attribute_of s b
  unfolding attribute_of
  place-within h l = simp (le-leb 1 b h, le-leb b (length s.attributes) l)

-- an Empty slot has no attributes
empty_none : (b : ℕ) → none ≡ attribute_of empty_slot b
unfolding empty_slot
empty_none b =
    ⊎_elim
    (λ (t : ltb b 1 ≡ true). place_zero empty_slot b (ltb-true b 1 t))
    (λ (t : ltb b 1 ≡ false). place_past empty_slot b (omega (arith, ltb-false b 1 t)))
    (decided (ltb b 1))

-- a vertex past the last image has none, so nothing is read
pub read-outside : (graph images : List ℕ) (v b : ℕ) → length images ≤ v → slot_count graph ≤ unused_place
    → none ≡ read_attribute (graph_of graph) images v b
unfolding read_attribute image_of
read-outside graph images v b past few =
    rw (get_or-eq_default images unused_place past, slot_past (graph_of graph) unused_place (rw (length-slots graph) few)) (empty_none b)

-- w is the image of v
module _ (graph images : List ℕ) (v b w : ℕ) (place : v < length images) (image : w ≡ get_or images v 0) where
  read_of : attribute_of (slot_of (graph_of graph) w) b ≡ read_attribute (graph_of graph) images v b
  unfolding read_attribute
  read_of = ap (λ (u : ℕ). attribute_of (slot_of (graph_of graph) u) b) (image ∙ sym (image-at images v place))

  -- what is no slot has no attributes
  pub read_no_slot : slot_count graph ≤ w → none ≡ read_attribute (graph_of graph) images v b
  read_no_slot h = rw (← read_of, slot_past (graph_of graph) w (rw (length-slots graph) h)) (empty_none b)

  pub read_zero : b < 1 → none ≡ read_attribute (graph_of graph) images v b
  read_zero h = place_zero (slot_of (graph_of graph) w) b h ∙ read_of

  pub read_past : length (slot_of (graph_of graph) w).attributes < b → none ≡ read_attribute (graph_of graph) images v b
  read_past h = place_past (slot_of (graph_of graph) w) b h ∙ read_of

  pub read-within : 1 ≤ b → b ≤ length (slot_of (graph_of graph) w).attributes
      → some (signed (get_or (slot_of (graph_of graph) w).attributes (b - 1) 0)) ≡ read_attribute (graph_of graph) images v b
  read-within h l = place-within (slot_of (graph_of graph) w) b h l ∙ read_of

-- ---- what is read is in range

attribute_bounded : (s : Slot) (b : ℕ) → bounded (attribute_of s b) ≡ true
unfolding attribute_of bounded
attribute_bounded s b =
    ⊎_elim
    (λ (t : within 1 b (length s.attributes) ≡ true). simp t (signed_in_range (get_or s.attributes (b - 1) 0)))
    (λ (f : within 1 b (length s.attributes) ≡ false). simp f)
    (decided (within 1 b (length s.attributes)))

pub read-bounded : (g : Graph) (images : List ℕ) (v b : ℕ) → bounded (read_attribute g images v b) ≡ true
unfolding read_attribute
read-bounded g images v b = attribute_bounded (slot_of g (image_of images v)) b

-- ---- the nodes of a block

pub node_built : (block : List ℕ) (k : ℕ) → k < nodes_in block
    → expression_in block k ≡ node_in block (build (node_in block) k) k
unfolding expression_in
node_built block k l = build-at (node_in block) (nodes_in block) k anything l

module _ (block : List ℕ) (k : ℕ) (inside : k < nodes_in block) where
  pub any-node : node_form block k ≡ form_any → expression_in block k ≡ anything
  unfolding node_by
  any-node h = node_built block k inside ∙ simp (eq-eqb (node_form block k) form_any h)

  pub constant_node : node_form block k ≡ form_constant → expression_in block k ≡ constant (signed (u32_at block (node_at block k + 4)))
  unfolding node_by
  constant_node h = node_built block k inside ∙ simp h

  pub access_node : node_form block k ≡ form_access → expression_in block k ≡ access (node_left block k) (node_right block k)
  unfolding node_by
  access_node h = node_built block k inside ∙ simp h

  -- ---- results, by the form

  module _ (read : ℕ → ℕ → Option ℤ) where
    pub any-gives : node_form block k ≡ form_any → none ≡ result_of read (expression_in block k)
    unfolding result_of
    any-gives h = rw (any-node h)

    pub constant_gives : node_form block k ≡ form_constant → some (signed (u32_at block (node_at block k + 4))) ≡ result_of read (expression_in block k)
    unfolding result_of
    constant_gives h = rw (constant_node h)

    access_gives : node_form block k ≡ form_access → read (node_left block k) (node_right block k) ≡ result_of read (expression_in block k)
    unfolding result_of
    access_gives h = rw (access_node h)

    pub read-gives : (v b : ℕ) (x : Option ℤ) → v ≡ node_left block k → b ≡ node_right block k → x ≡ read v b → node_form block k ≡ form_access
        → x ≡ result_of read (expression_in block k)
    read-gives v b x l r e h = rw (e, l, r) (access_gives h)

module _ (graph rule images : List ℕ) (k : ℕ) (inside : k < nodes_in rule) where
  abbrev read : ℕ → ℕ → Option ℤ
  read = read_attribute (graph_of graph) images

  -- a constant, an access or any
  pub leaf_bounded : node_form rule k ≤ form_access → bounded (node_result graph rule images k) ≡ true
  unfolding bounded
  leaf_bounded h =
      ⊎_elim
      (λ (t : eqb (node_form rule k) form_any ≡ true). rw (← any-gives rule k inside read (eqb-true (node_form rule k) form_any t)))
      (λ (t : eqb (node_form rule k) form_any ≡ false). ⊎_elim
      (λ (u : eqb (node_form rule k) form_constant ≡ true). rw (← constant_gives rule k inside read (eqb-true (node_form rule k) form_constant u))
      (signed_in_range (u32_at rule (node_at rule k + 4))))
      (λ (u : eqb (node_form rule k) form_constant ≡ false). rw (← access_gives rule k inside read
      (omega (arith, eqb-false (node_form rule k) form_any t, eqb-false (node_form rule k) form_constant u)))
      (read-bounded (graph_of graph) images (node_left rule k) (node_right rule k)))
      (decided (eqb (node_form rule k) form_constant)))
      (decided (eqb (node_form rule k) form_any))
