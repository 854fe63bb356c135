-- What the records of the new table stand for: each of the three sorts of slot of the definition is what the code chooses there.
-- Assumes nothing.
use mathlib.Core.Path.{◌≡◌, sym, ◌∙◌}
use mathlib.Core.Bool.{true, false, not}
use mathlib.Core.List.{List}
use Prim.Native.Nat.{ℕ, ◌<◌, ◌≤◌}
use borrow.Author.Tests.{lt-ltb, le-ltb}
use lib.IntN.{ℤ}
use lib.ListN.{length}
use Rattle.definitions.specs.Lists.{filter, position, range}
use Rattle.definitions.specs.Graph.{slot_count, Graph, empty_slot, renamed, graph_of, slot_of}
use Rattle.definitions.specs.Rule.{target_count}
use Rattle.definitions.specs.Rewriting.{stays, free_slots, redirect, target_slot, staying_slot, new_slot}
use Rattle.rule_fields.specs.Fixed.{fixed_of}
use Rattle.laws.proofs.Lists.{map_same}
use Rattle.laws.proofs.Graph.{length-slots}
use Rattle.rule_fields.proofs.Fixed.{length-target}
use Rattle.graph_records.specs.declared.Record.{Record}
use Rattle.graph_records.specs.Records.{Stands}
use Rattle.vacancies.proofs.Laws.{free_position}
use Rattle.redirection.specs.declared.Redirection.{Redirection}
use Rattle.redirection.specs.Moves.{moved}
use Rattle.new_records.specs.Slots.{Redirects}

module _ (graph rule images : List ℕ) (values : List (List ℤ)) (k : ℕ) where
  -- the old table's graph
  abbrev g : Graph
  g = graph_of graph

  -- what stays
  pub stands_staying : {r : Record} (way : Redirection) → Redirects graph rule images way → stays g (fixed_of rule) images k ≡ true
      → Stands r (renamed (moved way) (slot_of g k)) → Stands r (new_slot g (fixed_of rule) images values k)
  unfolding renamed new_slot staying_slot
  stands_staying way same h s =
      rw (h, ← map_same (moved way) (redirect g (fixed_of rule) images) (slot_of g k).inputs (λ v _. same v)) s

  module _ (next : ℕ) (inside : k < slot_count graph) (goes : stays g (fixed_of rule) images k ≡ false)
      (counted : next ≡ length (filter (λ i. not (stays g (fixed_of rule) images i)) (range 0 k))) where
    -- so many free slots lie below it
    place-next : position k (free_slots g (fixed_of rule) images) ≡ next
    place-next = free_position g (fixed_of rule) images k (rw (length-slots graph) inside) goes ∙ sym counted

    -- the target vertex that takes the slot
    pub stands_target : {r : Record} → next < target_count rule → Stands r (target_slot g (fixed_of rule) images values next)
        → Stands r (new_slot g (fixed_of rule) images values k)
    unfolding new_slot
    stands_target l s = rw (goes, place-next, length-target rule, lt-ltb next (target_count rule) l) s

    -- no target vertex is left
    pub stands_empty : {r : Record} → target_count rule ≤ next → Stands r empty_slot
        → Stands r (new_slot g (fixed_of rule) images values k)
    unfolding new_slot
    stands_empty l s = rw (goes, place-next, length-target rule, le-ltb next (target_count rule) l) s
