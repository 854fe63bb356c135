-- 'What a match is', and the least match from a start.
-- A map is the list of the images of the source vertices, in their order.
-- Assumes nothing.
use Rattle.std.specs.Prelude.{◌≡◌, Bool, cond, not, ◌&&◌, ◌||◌, ◌⊎◌, ℕ, zero, suc, ◌-◌, ◌<◌, ◌≤◌, eqb, T, ℤ, length, get_or}
use mathlib.Core.List.{List, [], ◌∷◌, map, Memᴰ}
use Rattle.std.proofs.Math.Option.{Option, none, some}
use Rattle.definitions.specs.Lists.{within, all_below, total, all, filter, concat_map, all_pairs, first_some, member, count, position, distinct, range}
use Rattle.definitions.specs.Fields.{signed}
use Rattle.definitions.specs.Operators.{kind_empty, kind_const}
use Rattle.definitions.specs.Graph.{unused_place, Slot, Graph, slot_of, inputs_of, is_vertex}
use Rattle.definitions.specs.Rule.{Pattern, Rule, source_of, source_inputs, is_rule_input}
use Rattle.definitions.specs.Attributes.{agrees}

unfoldable pub image_of : List ℕ → ℕ → ℕ
image_of images j = get_or images j unused_place

-- attribute place b, counted from 1, of a slot; past its last there is none
unfoldable pub attribute_of : Slot → ℕ → Option ℤ
attribute_of s b = cond (within 1 b (length s.attributes)) (some (signed (get_or s.attributes (b - 1) 0))) none

-- what an access reads under a map
unfoldable pub read_attribute : Graph → List ℕ → ℕ → ℕ → Option ℤ
read_attribute g images v b = attribute_of (slot_of g (image_of images v)) b

-- neither rule input nor source output
unfoldable pub is_interior : Rule → ℕ → Bool
is_interior r j = not (is_rule_input r j) && not (member j r.source_outputs)

-- a source vertex whose images are Consts; a Const that a wildcard takes is a rule input
unfoldable pub is_const : Rule → ℕ → Bool
is_const r j = eqb (source_of r j).kind kind_const

-- an interior vertex that is no Const: nothing outside the match may need its image
unfoldable pub must_be_private : Rule → ℕ → Bool
must_be_private r j = is_interior r j && not (is_const r j)

-- how many input places of source vertices name source vertex j
unfoldable pub places_of : Rule → ℕ → ℕ
places_of r j = total (λ w. count j (source_inputs r w)) (length r.source)

-- the images of the source vertices that pass a test
unfoldable pub images_where : (ℕ → Bool) → Rule → List ℕ → List ℕ
images_where p r images = map (image_of images) (filter p (range 0 (length r.source)))

-- the images of the source vertices that are not rule inputs
unfoldable pub inner_images : Rule → List ℕ → List ℕ
inner_images r images = images_where (λ j. not (is_rule_input r j)) r images

-- ---- the meaning: the conditions, in document 01's order

-- a pattern other than the wildcard takes slot s: kind, operator and counts, attributes that agree, inputs in order
pub record Takes (g : Graph) (images : List ℕ) (p : Pattern ℕ) (s : Slot) : Type 0 where
  pub kind : s.kind ≡ p.kind
  pub operator : s.operator ≡ p.operator
  pub input_count : length s.inputs ≡ length p.inputs
  pub attribute_count : length s.attributes ≡ length p.attributes
  pub attributes : T (all_pairs (λ e word. agrees (read_attribute g images) e (signed word)) p.attributes s.attributes)
  pub inputs : s.inputs ≡ map (image_of images) p.inputs

-- no graph output, and read by nothing but images of source vertices that are not rule inputs
pub record Private (g : Graph) (r : Rule) (images : List ℕ) (v : ℕ) : Type 0 where
  pub no_output : Memᴰ v g.outputs → ⊥
  pub readers : (w : ℕ) → Memᴰ v (inputs_of g w) → Memᴰ w (inner_images r images)

pub record Match (g : Graph) (r : Rule) (images : List ℕ) : Type 0 where
  pub size : length images ≡ length r.source
  pub vertices : (j : ℕ) → j < length r.source → T (is_vertex g (image_of images j))
  pub injective : (i j : ℕ) → i < length r.source → j < length r.source → image_of images i ≡ image_of images j → i ≡ j
  pub takes : (j : ℕ) → j < length r.source → ((source_of r j).kind ≡ kind_empty → ⊥)
      → Takes g images (source_of r j) (slot_of g (image_of images j))
  pub interior : (j : ℕ) → j < length r.source → T (must_be_private r j) → Private g r images (image_of images j)

-- a match whose first output's image is at least s
pub record MatchFrom (g : Graph) (r : Rule) (s : ℕ) (images : List ℕ) : Type 0 where
  pub is_match : Match g r images
  pub first : s ≤ image_of images (get_or r.source_outputs 0 0)

-- the images of the source outputs, in order; a rewriting replaces these
abbrev pub output_images : Rule → List ℕ → List ℕ
output_images r images = map (image_of images) r.source_outputs

-- one list is before the other, or equal: the first place that differs decides
abbrev pub NotAfter : List ℕ → List ℕ → Type 0
NotAfter [] ys = Unit {0}
NotAfter (x ∷ xs) [] = ⊥
NotAfter (x ∷ xs) (y ∷ ys) = (x < y) ⊎ ((x ≡ y) × NotAfter xs ys)

-- the match whose first output's image is at least s and least, then whose second is least: a match from s, such that no other has a
-- lesser first image, or the same first and a lesser second one
pub record LeastFrom (g : Graph) (r : Rule) (s : ℕ) (images : List ℕ) : Type 0 where
  pub from : MatchFrom g r s images
  pub least : (other : List ℕ) → MatchFrom g r s other → NotAfter (output_images r images) (output_images r other)

-- ---- what computes; it is proved that this is the meaning

unfoldable pub takes : Graph → List ℕ → Pattern ℕ → Slot → Bool
takes g images p s =
    eqb s.kind p.kind
    && eqb s.operator p.operator
    && eqb (length s.inputs) (length p.inputs)
    && eqb (length s.attributes) (length p.attributes)
    && all_pairs (λ e word. agrees (read_attribute g images) e (signed word)) p.attributes s.attributes
    && all_pairs eqb s.inputs (map (image_of images) p.inputs)

unfoldable pub is_private : Graph → Rule → List ℕ → ℕ → Bool
is_private g r images v =
    not (member v g.outputs)
    && all_below (λ w. not (member v (inputs_of g w)) || member w (inner_images r images)) (length g.slots)

unfoldable pub is_match : Graph → Rule → List ℕ → Bool
is_match g r images =
    eqb (length images) (length r.source)
    && all (is_vertex g) images
    && distinct images
    && all_below (λ j. eqb (source_of r j).kind kind_empty || takes g images (source_of r j) (slot_of g (image_of images j)))
    (length r.source)
    && all_below (λ j. not (must_be_private r j) || is_private g r images (image_of images j)) (length r.source)

-- Output images fix the whole map. From the last source vertex down: an output has its chosen image; another vertex v is read by a
-- later one, and its image stands in the same input place of that one's image.
unfoldable pub from_reader : Graph → List (Pattern ℕ) → List ℕ → ℕ → ℕ
from_reader g [] later v = unused_place
from_reader g (p ∷ ps) [] v = unused_place
from_reader g (p ∷ ps) (w ∷ ws) v =
    let next = from_reader g ps ws v in
    cond (member v p.inputs) (get_or (inputs_of g w) (position v p.inputs) unused_place) next

-- the images of the patterns ps, of which the first is source vertex v
unfoldable pub images_from : Graph → List ℕ → List ℕ → List (Pattern ℕ) → ℕ → List ℕ
images_from g outputs chosen [] v = []
images_from g outputs chosen (p ∷ ps) v =
    let later = images_from g outputs chosen ps (suc v) in
    cond (member v outputs) (get_or chosen (position v outputs) unused_place) (from_reader g ps later v) ∷ later

unfoldable pub images_for : Graph → Rule → List ℕ → List ℕ
images_for g r chosen = images_from g r.source_outputs chosen r.source 0

-- every list of k numbers below n, in ascending order
unfoldable pub choices_of : ℕ → ℕ → List (List ℕ)
choices_of n zero = [] ∷ []
choices_of n (suc k) = concat_map (λ image. map (λ rest. image ∷ rest) (choices_of n k)) (range 0 n)

-- the choices of k output images among n slots, in the order in which they are tried: the first image from s up, and for each of these
-- every choice of the others
unfoldable pub choices : ℕ → ℕ → ℕ → List (List ℕ)
choices n k s = concat_map (λ image. map (λ rest. image ∷ rest) (choices_of n (k - 1))) (range s n)

-- what trying one choice gives
unfoldable pub attempt : Graph → Rule → List ℕ → Option (List ℕ)
attempt g r chosen = let images = images_for g r chosen in cond (is_match g r images) (some images) none

unfoldable pub least_match : Graph → Rule → ℕ → Option (List ℕ)
least_match g r s = first_some (attempt g r) (choices (length g.slots) (length r.source_outputs) s)
