-- Which slots a rewriting removes, the slots of its new table, and what its tests come to, as the definition has them.
-- Assumes nothing.
use mathlib.Core.Path.{◌≡◌, ◌∙◌}
use mathlib.Core.Bool.{true, false, not, ◌||◌, and-false}
use mathlib.Core.List.{List}
use mathlib.Core.Option.{none, some}
use Prim.Native.Nat.{ℕ, ◌<◌}
use borrow.Author.Tests.{not-true}
use lib.IntN.{ℤ}
use lib.ListN.{length}
use Rattle.definitions.specs.Reply.{no_result, no_room, new_cycle, refusal}
use Rattle.definitions.specs.Graph.{Graph, empty_slot, slot_of, has_cycle}
use Rattle.definitions.specs.Rule.{Rule, is_rule_input}
use Rattle.definitions.specs.Match.{image_of, read_attribute, is_const, images_where, is_private}
use Rattle.definitions.specs.Rewriting.{target_results, goes, is_removed, has_room, new_slot, new_graph}
use Rattle.definitions.specs.Operations.{accepted, turned_down, rewritten_with, rewritten}
use Rattle.laws.proofs.Lists.{needed, and_left, length-tabulate, get_or_tabulate}
use Rattle.laws.proofs.Members.{member_mem, mem_member}
use Rattle.laws.proofs.Match.{where_image, image_where}

-- ---- which slots are removed: those of the source vertices whose images go, which are no rule inputs

module _ (g : Graph) (r : Rule) (images : List ℕ) where
  pub goes-inner : (j : ℕ) → goes g r images j ≡ true → is_rule_input r j ≡ false
  unfolding goes
  goes-inner j h = not-true (is_rule_input r j)
      (and_left (not (is_rule_input r j)) (not (is_const r j) || is_private g r images (image_of images j)) h)

  -- the image of a Const goes only where it is private
  pub goes_private : (j : ℕ) → goes g r images j ≡ true → is_const r j ≡ true → is_private g r images (image_of images j) ≡ true
  unfolding goes
  goes_private j h c = needed (is_private g r images (image_of images j)) h (λ f. simp (c, f, and-false))

  pub goes_other : (j : ℕ) → is_rule_input r j ≡ false → is_const r j ≡ false → goes g r images j ≡ true
  unfolding goes
  goes_other j h c = simp (h, c)

  pub goes_const : (j : ℕ) → is_rule_input r j ≡ false → is_const r j ≡ true → is_private g r images (image_of images j) ≡ goes g r images j
  unfolding goes
  goes_const j h c = simp (h, c)

  pub removed_image : (v : ℕ) → is_removed g r images v ≡ true
      → (j : ℕ) × (j < length r.source) × (goes g r images j ≡ true) × (image_of images j ≡ v)
  unfolding is_removed
  removed_image v h = where_image (goes g r images) r images (member_mem v (images_where (goes g r images) r images) h)

  pub image_removed : (j : ℕ) → j < length r.source → goes g r images j ≡ true → is_removed g r images (image_of images j) ≡ true
  unfolding is_removed
  image_removed j l h = mem_member (image_where (goes g r images) r images j l h)

module _ (g : Graph) (r : Rule) (images : List ℕ) where
  -- ---- the new table has as many slots as the old one, each as the definition makes it

  module _ (values : List (List ℤ)) where
    pub new-length : length (new_graph g r images values).slots ≡ length g.slots
    unfolding new_graph
    new-length = length-tabulate (length g.slots) (new_slot g r images values)

    pub new-slot-at : (k : ℕ) → k < length g.slots → slot_of (new_graph g r images values) k ≡ new_slot g r images values k
    unfolding new_graph slot_of
    new-slot-at k l = get_or_tabulate (length g.slots) (new_slot g r images values) k empty_slot l

  -- ---- the tests, in document 01's order

  pub rewritten-unfit : target_results (read_attribute g images) r.target ≡ none → rewritten g r images ≡ turned_down (refusal no_result)
  unfolding rewritten
  rewritten-unfit e = rw (e, rewritten)

  module _ (values : List (List ℤ)) (have : target_results (read_attribute g images) r.target ≡ some values) where
    with_values : rewritten g r images ≡ rewritten_with g r images values
    unfolding rewritten
    with_values = rw (have, rewritten)

    pub rewritten_full : has_room g r images ≡ false → rewritten g r images ≡ turned_down (refusal no_room)
    unfolding rewritten_with
    rewritten_full h = with_values ∙ simp h

    pub rewritten-cyclic : has_room g r images ≡ true → has_cycle (new_graph g r images values) ≡ true
        → rewritten g r images ≡ turned_down (refusal new_cycle)
    unfolding rewritten_with
    rewritten-cyclic h c = with_values ∙ simp (h, c)

    pub rewritten-done : has_room g r images ≡ true → has_cycle (new_graph g r images values) ≡ false
        → rewritten g r images ≡ accepted (new_graph g r images values)
    unfolding rewritten_with
    rewritten-done h c = with_values ∙ simp (h, c)
