-- A map is what it gives for each source vertex: two lists with the same images, as an array of sixteen places and the list of its
-- first S, come to the same rewriting.
-- Assumes nothing.
use mathlib.Core.Path.{◌≡◌, ap}
use mathlib.Core.Bool.{Bool, cond, not, ◌&&◌, ◌||◌}
use mathlib.Core.List.{List, [], map}
use mathlib.Core.Option.{none, some}
use Prim.Native.Nat.{ℕ}
use lib.Dec.{leb, ltb}
use lib.IntN.{ℤ}
use lib.ListN.{length, get_or}
use Rattle.definitions.specs.Lists.{all_below, tabulate, filter, member, position, range}
use Rattle.definitions.specs.Fields.{word_of}
use Rattle.definitions.specs.Graph.{unused_place, Slot, Graph, empty_slot, renamed, slot_of, inputs_of, is_vertex, has_cycle}
use Rattle.definitions.specs.Rule.{Rule, Origin, given, made, target_of, is_rule_input}
use Rattle.definitions.specs.Match.{image_of, attribute_of, read_attribute, is_const, images_where, inner_images, is_private}
use Rattle.definitions.specs.Rewriting.{goes, is_removed, stays, free_slots, place_of, resolve, has_room, redirect, target_slot, staying_slot, new_slot, new_graph, target_results}
use Rattle.definitions.specs.Reply.{no_result, no_room, new_cycle, refusal}
use Rattle.definitions.specs.Operations.{accepted, turned_down, rewritten_with, rewritten}

module _ (g : Graph) (r : Rule) (one other : List ℕ) (same : (j : ℕ) → image_of one j ≡ image_of other j) where
  -- as functions
  images : image_of one ≡ image_of other
  images = λ i j. same j i

  inner_same : inner_images r one ≡ inner_images r other
  unfolding inner_images images_where
  inner_same = rw images

  private_same : is_private g r one ≡ is_private g r other
  unfolding is_private
  private_same = λ i v.
      not (member v g.outputs)
      && all_below (λ w. not (member v (inputs_of g w)) || member w (inner_same i)) (length g.slots)

  goes_same : goes g r one ≡ goes g r other
  unfolding goes
  goes_same = λ i j. not (is_rule_input r j) && (not (is_const r j) || private_same i (images i j))

  removed_same : images_where (goes g r one) r one ≡ images_where (goes g r other) r other
  unfolding images_where
  removed_same = λ i. map (images i) (filter (goes_same i) (range 0 (length r.source)))

  pub read_same : read_attribute g one ≡ read_attribute g other
  unfolding read_attribute
  read_same = λ i v b. attribute_of (slot_of g (images i v)) b

  pub stays_same : stays g r one ≡ stays g r other
  unfolding stays is_removed
  stays_same = λ i k. is_vertex g k && not (member k (removed_same i))

  free_same : free_slots g r one ≡ free_slots g r other
  unfolding free_slots
  free_same = ap (λ (p : ℕ → Bool). filter (λ k. not (p k)) (range 0 (length g.slots))) stays_same

  pub room_same : has_room g r one ≡ has_room g r other
  unfolding has_room
  room_same = ap (λ xs. leb (length r.target) (length xs)) free_same

  place_same : place_of g r one ≡ place_of g r other
  unfolding place_of
  place_same = λ i t. get_or (free_same i) t unused_place

  resolve-at : (o : Origin) → resolve g r one o ≡ resolve g r other o
  unfolding resolve
  resolve-at (given j) = same j
  resolve-at (made t) = ap (λ (f : ℕ → ℕ). f t) place_same

  resolve_same : resolve g r one ≡ resolve g r other
  resolve_same = λ i o. resolve-at o i

  redirect_with : (ℕ → ℕ) → (Origin → ℕ) → ℕ → ℕ
  redirect_with image place v =
      let replaced = map image r.source_outputs in
      cond (member v replaced) (place (get_or r.target_outputs (position v replaced) (made (length r.target)))) v

  redirect_same : redirect g r one ≡ redirect g r other
  unfolding redirect redirect_with
  redirect_same = λ i. redirect_with (images i) (resolve_same i)

  slot_with : (ℕ → Bool) → (ℕ → ℕ) → (Origin → ℕ) → List ℕ → List (List ℤ) → ℕ → Slot
  slot_with staying moves place free values k =
      cond (staying k)
      (record { kind = (slot_of g k).kind; operator = (slot_of g k).operator; inputs = map moves (slot_of g k).inputs; attributes = (slot_of g k).attributes })
      (cond (ltb (position k free) (length r.target))
      (record {
        kind = (target_of r (position k free)).kind;
        operator = (target_of r (position k free)).operator;
        inputs = map place (target_of r (position k free)).inputs;
        attributes = map word_of (get_or values (position k free) []);
      })
      empty_slot)

  slot_same : new_slot g r one ≡ new_slot g r other
  unfolding new_slot renamed staying_slot target_slot slot_with
  slot_same = λ i. slot_with (stays_same i) (redirect_same i) (resolve_same i) (free_same i)

  pub new_same : new_graph g r one ≡ new_graph g r other
  unfolding new_graph
  new_same = λ i values. record {
    slots = tabulate (length g.slots) (slot_same i values);
    outputs = map (redirect_same i) g.outputs;
  }

  with_same : rewritten_with g r one ≡ rewritten_with g r other
  unfolding rewritten_with
  with_same = λ i values.
      cond (room_same i) (cond (has_cycle (new_same i values)) (turned_down (refusal new_cycle)) (accepted (new_same i values))) (turned_down (refusal no_room))

  pub rewritten_same : rewritten g r one ≡ rewritten g r other
  unfolding rewritten
  rewritten_same = λ i. elim (target_results (read_same i) r.target) [
    | none ↦ turned_down (refusal no_result)
    | some values ↦ with_same i values
  ]
