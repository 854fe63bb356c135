-- A map of the first source vertices, and what one step of matching does to it.
-- Assumes nothing.
use Rattle.std.specs.Prelude.{◌≡◌, Bool, true, List, ℕ, ◌<◌, ◌≤◌, length, get_or}
use Rattle.definitions.specs.Operators.{kind_empty}
use Rattle.definitions.specs.Graph.{unused_place, Graph, slot_of, inputs_of, is_vertex, true_count}
use Rattle.definitions.specs.Rule.{side_capacity, Rule, source_of, source_inputs}
use Rattle.definitions.specs.Match.{image_of, must_be_private, Takes, Match, places_of}

-- The images of the first `next` source vertices meet every condition of a match; the other places may hold anything. That an
-- image is private where it must be is said by its uses, which do not speak of the images to come.
pub record Partial (g : Graph) (r : Rule) (next : ℕ) (images : List ℕ) : Type 0 where
  pub size : length images ≡ side_capacity
  pub small : next ≤ length r.source
  pub vertices : (i : ℕ) → i < next → is_vertex g (image_of images i) ≡ true
  pub injective : (i k : ℕ) → i < next → k < next → image_of images i ≡ image_of images k → i ≡ k
  pub takes : (i : ℕ) → i < next → ((source_of r i).kind ≡ kind_empty → ⊥)
      → Takes g images (source_of r i) (slot_of g (image_of images i))
  pub demands : (i : ℕ) → i < next → must_be_private r i ≡ true → true_count g (image_of images i) ≡ places_of r i

-- `whole` has the first `next` images
abbrev pub Extends : ℕ → List ℕ → List ℕ → Type 0
Extends next images whole = (i : ℕ) → i < next → image_of whole i ≡ image_of images i

-- What is asked of a map in a step: that j's image is v ..
abbrev pub Sends : ℕ → ℕ → List ℕ → Type 0
Sends j v images = image_of images j ≡ v

-- .. or that the inputs of j, from place i on, have the inputs of slot v as their images
abbrev pub SendsInputs : Graph → Rule → ℕ → ℕ → ℕ → List ℕ → Type 0
SendsInputs g r j v i images =
    (k : ℕ) → i ≤ k → k < length (source_inputs r j) → image_of images (get_or (source_inputs r j) k 255) ≡ get_or (inputs_of g v) k unused_place

-- A step from the first `next` images, of which `Asked` is asked. Whether it succeeds or not, the first images and the places that no
-- source vertex has are as they were. Where it succeeds, it adds what is asked up to vertex `end`, and nothing that a match could have
-- otherwise; a match that meets what is asked lets it succeed.
pub record Step (g : Graph) (r : Rule) (next : ℕ) (images : List ℕ) (Asked : List ℕ → Type 0) (end : ℕ) (ok : Bool) (made : List ℕ)
    : Type 0 where
  pub size : length made ≡ side_capacity
  pub kept : Extends next images made
  pub rest : (i : ℕ) → length r.source ≤ i → image_of made i ≡ image_of images i
  pub partial : ok ≡ true → Partial g r end made
  pub meets : ok ≡ true → Asked made
  pub forced : (whole : List ℕ) → Match g r whole → Extends next images whole → Asked whole → (ok ≡ true) × Extends end made whole
