-- What marks and lists of slots say of the definition's free slots, and where a free slot stands among them.
-- Assumes nothing.
use mathlib.Core.Path.{◌≡◌, ap}
use mathlib.Core.Bool.{Bool, false, not}
use mathlib.Core.List.{List}
use Prim.Native.Nat.{ℕ, ◌<◌}
use lib.ListN.{length, get_or}
use Rattle.definitions.specs.Lists.{filter, position, range}
use Rattle.definitions.specs.Graph.{Graph, unused_place}
use Rattle.definitions.specs.Rule.{Rule, side_capacity}
use Rattle.definitions.specs.Rewriting.{stays, free_slots, place_of}
use Rattle.laws.proofs.Members.{range_mem}
use Rattle.laws.proofs.Filtered.{filter_same, filtered_position}
use Rattle.new_slots.specs.Vacant.{marked, Lowest}
use Rattle.laws.specs.Marked.{Marked}

-- the marked slots are the definition's free ones
pub marked_free : (g : Graph) (r : Rule) (images : List ℕ) (marks : List Bool)
    → Marked (λ k. not (stays g r images k)) (length g.slots) marks
    → marked marks (length g.slots) ≡ free_slots g r images
unfolding marked free_slots
marked_free g r images marks m =
    let n : ℕ = length g.slots in
    filter_same (λ k. get_or marks k false) (λ k. not (stays g r images k)) (range 0 n) (λ k h. m.each k (range_mem 0 n h).1)

-- the slots listed are the target vertices' places
pub lowest-places : (g : Graph) (r : Rule) (images : List ℕ) (count : ℕ) (slots : List ℕ)
    → Lowest (free_slots g r images) count slots
    → (t : ℕ) → t < side_capacity → get_or slots t unused_place ≡ place_of g r images t
unfolding place_of
lowest-places g r images count slots h t l = h.each t l

-- a free slot's place in the list is the number of free slots below it
pub free_position : (g : Graph) (r : Rule) (images : List ℕ) (k : ℕ) → k < length g.slots → stays g r images k ≡ false
    → position k (free_slots g r images) ≡ length (filter (λ i. not (stays g r images i)) (range 0 k))
unfolding free_slots
free_position g r images k l h = filtered_position (λ i. not (stays g r images i)) (length g.slots) k l (ap not h)
