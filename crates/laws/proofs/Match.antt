-- Images of source vertices, and which of them are of vertices that are no rule inputs.
-- Assumes nothing.
use mathlib.Core.Path.{◌≡◌, ap}
use mathlib.Core.Bool.{Bool, true, false, not}
use mathlib.Core.List.Memᴰ
use mathlib.Core.List.{List, map, Memᴰ}
use Prim.Native.Nat.{ℕ, ◌*◌, ◌<◌}
use native.Mathlib.Omega.{arith}
use borrow.Author.Tests.{not-true}
use lib.ListN.{length, get_or}
use Rattle.definitions.specs.Lists.{filter, distinct, range}
use Rattle.definitions.specs.Fields.{u16_at}
use Rattle.definitions.specs.Graph.{unused_place, Graph, inputs_of, is_vertex}
use Rattle.definitions.specs.Rule.{Rule, source_inputs, is_rule_input}
use Rattle.definitions.specs.Match.{image_of, images_where, inner_images, Match}
use Rattle.definitions.specs.Operations.{images_in}
use Rattle.laws.proofs.Lists.{true_not_false, get_or_any, length-tabulate, get_or_tabulate}
use Rattle.laws.proofs.Graph.{vertex-inside}
use Rattle.laws.proofs.Rule.{wild_input}
use Rattle.laws.proofs.Members.{holds, mem_range, range_mem}
use Rattle.laws.proofs.Filtered.{filter_mem, filter-holds, mem_filter, distinct-values, distinct-range}

-- an image, as it is read from an array
pub image-at : (images : List ℕ) (j : ℕ) → j < length images → image_of images j ≡ get_or images j 0
unfolding image_of
image-at images j l = get_or_any images j unused_place 0 l

-- the images that a map holds
module _ (map : List ℕ) (n : ℕ) where
  pub images-length : length (images_in map n) ≡ n
  unfolding images_in
  images-length = simp length-tabulate

  -- number j has its low byte at 2j and its high byte after that
  pub images-at : (j d : ℕ) → j < n → get_or (images_in map n) j d ≡ u16_at map (2 * j)
  unfolding images_in
  images-at j d l = rw get_or_tabulate

-- a match's images are slots
pub image-inside : (g : Graph) (r : Rule) (images : List ℕ) (j : ℕ) → Match g r images → j < length r.source
    → image_of images j < length g.slots
image-inside g r images j m l = vertex-inside g (image_of images j) (holds (is_vertex g (image_of images j)) (m.vertices j l))

-- the inputs of an inner image are the images of the pattern's inputs
pub match_inputs : (g : Graph) (r : Rule) (images : List ℕ) → Match g r images → (j : ℕ) → j < length r.source
    → is_rule_input r j ≡ false → inputs_of g (image_of images j) ≡ map (image_of images) (source_inputs r j)
match_inputs g r images m j l inner = (m.takes j l (λ e. true_not_false (wild_input r j l e) inner)).inputs

-- ---- the images of the source vertices that pass a test, and of these only

module _ (p : ℕ → Bool) (r : Rule) (images : List ℕ) where
  abbrev sources : List ℕ
  sources = range 0 (length r.source)

  pub where_image : {v : ℕ} → Memᴰ v (images_where p r images)
      → (j : ℕ) × (j < length r.source) × (p j ≡ true) × (image_of images j ≡ v)
  unfolding images_where
  where_image m =
      let found = Memᴰ.of_map (image_of images) (filter p sources) m in (
        found.0,
        (range_mem 0 (length r.source) (filter_mem p sources found.1)).1,
        filter-holds p sources found.1,
        found.2,
      )

  pub image_where : (j : ℕ) → j < length r.source → p j ≡ true → Memᴰ (image_of images j) (images_where p r images)
  unfolding images_where
  image_where j l h = Memᴰ.map (image_of images) (mem_filter p sources (mem_range 0 (length r.source) j (omega arith) l) h)

-- ---- the inner images: of the source vertices that are no rule inputs

module _ (r : Rule) (images : List ℕ) where
  abbrev inner : ℕ → Bool
  inner j = not (is_rule_input r j)

  pub inner-image : {v : ℕ} → Memᴰ v (inner_images r images)
      → (j : ℕ) × (j < length r.source) × (is_rule_input r j ≡ false) × (image_of images j ≡ v)
  unfolding inner_images
  inner-image m =
      let found = where_image inner r images m in
      (found.0, found.1, not-true (is_rule_input r found.0) found.2, found.3)

  pub image-inner : (j : ℕ) → j < length r.source → is_rule_input r j ≡ false → Memᴰ (image_of images j) (inner_images r images)
  unfolding inner_images
  image-inner j l h = image_where inner r images j l (ap not h)

  -- where no two source vertices have one image, no image is listed twice
  pub inner-distinct : ((i j : ℕ) → i < length r.source → j < length r.source → image_of images i ≡ image_of images j → i ≡ j)
      → distinct (inner_images r images) ≡ true
  unfolding inner_images images_where
  inner-distinct apart = distinct-values (image_of images) inner (sources inner r images) (distinct-range (length r.source))
      (λ i j k l. apart i j (range_mem 0 (length r.source) k).1 (range_mem 0 (length r.source) l).1)

  -- where every image is below n, so are these
  pub inner_below : (n : ℕ) → ((j : ℕ) → j < length r.source → image_of images j < n)
      → (v : ℕ) → Memᴰ v (inner_images r images) → v < n
  inner_below n below v m = let found = inner-image m in rw found.3 at (below found.0 found.1)
