-- After k turns the header and the first k slots of the new table stand in front.
use mathlib.Core.Path.{◌≡◌}
use mathlib.Core.Bool.{not}
use mathlib.Core.List.{List, ◌++◌}
use Prim.Native.Nat.{ℕ, ◌+◌, ◌*◌, ◌≤◌}
use lib.ListN.{length, take}
use Rattle.definitions.specs.Lists.{filter, range}
use Rattle.definitions.specs.Graph.{header_bytes, slot_bytes, graph_of, records_block}
use Rattle.definitions.specs.Rewriting.{stays}
use Rattle.rule_fields.specs.Fixed.{fixed_of}
use Rattle.new_table.specs.Table.{new_table}
use Rattle.new_table.proofs.write_slots.Given as goal

-- how many slots below k are free after the removal
abbrev pub free_below : List ℕ → List ℕ → List ℕ → ℕ → ℕ
free_below graph rule images k = length (filter (λ i. not (stays (graph_of graph) (fixed_of rule) images i)) (range 0 k))

-- the first k slots of the new table, as bytes
abbrev pub slots_below : List ℕ → List ℕ → List ℕ → ℕ → List ℕ
slots_below graph rule images k = records_block (λ i. 0) (new_table graph rule images) k

abbrev pub invariant-loop-k : goal.invariant-loop-k
invariant-loop-k l = record {
  counted : l.next ≡ free_below l.graph l.rule l.images l.k;
  bounded : l.next ≤ l.k;
  written : take (header_bytes + slot_bytes * l.k) l.table ≡ take header_bytes l.initial.table ++ slots_below l.graph l.rule l.images l.k;
}
