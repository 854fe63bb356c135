-- The slots on a cycle: what computes them gives them, the lowest of them, and whether there is one.
-- Assumes nothing.
use mathlib.Core.Path.{◌≡◌}
use mathlib.Core.Bool.{true, false}
use mathlib.Core.List.{List}
use mathlib.Core.Logic.{⊎_elim}
use Prim.Native.Nat.{ℕ}
use borrow.Author.Tests.{le-ltb, ltb-false}
use lib.ListN.{length}
use Rattle.definitions.specs.Paths.{OnCycle, Acyclic, on_cycle}
use Rattle.definitions.specs.Graph.{Graph, inputs_of, lowest_on_cycle, has_cycle}
use Rattle.laws.proofs.Lists.{decided}
use Rattle.laws.proofs.Faults.{Decides, found_none, none_found}
use Rattle.theory.proofs.Paths.{Table}
use Rattle.reachability.proofs.Reaching.{reader-inside, reaching-sound, reaching_complete}

module _ {inputs : ℕ → List ℕ} {n : ℕ} (table : Table inputs n) where
  pub cycle_sound : (v : ℕ) → on_cycle inputs n v ≡ true → OnCycle inputs v
  unfolding on_cycle
  cycle_sound v t = let r = reaching-sound table (inputs v) (table.closed v) v t in (r.start, r.path, r.listed)

  pub cycle_complete : (v : ℕ) → OnCycle inputs v → on_cycle inputs n v ≡ true
  unfolding on_cycle
  cycle_complete v c =
      reaching_complete table (inputs v) (table.closed v) v (record { start = c.0; listed = c.2; path = c.1 })

  -- the slots on a cycle are those that pass the test
  pub cycle_decides : Decides (on_cycle inputs n) n (OnCycle inputs)
  cycle_decides = record {
    only = λ v l. cycle_sound v;
    every = λ v c. (reader-inside table v c.0 c.2, cycle_complete v c);
  }

-- ---- the same of a graph

module _ (g : Graph) (table : Table (inputs_of g) (length g.slots)) where
  -- where no slot on a cycle is found, there is none
  pub free_acyclic : has_cycle g ≡ false → Acyclic (inputs_of g)
  unfolding has_cycle lowest_on_cycle
  free_acyclic f = found_none (cycle_decides table) (ltb-false (lowest_on_cycle g) (length g.slots) f)

  pub acyclic_free : Acyclic (inputs_of g) → has_cycle g ≡ false
  unfolding has_cycle lowest_on_cycle
  acyclic_free acyclic = le-ltb (lowest_on_cycle g) (length g.slots) (none_found (cycle_decides table) acyclic)

  pub cycle_found : {v : ℕ} → OnCycle (inputs_of g) v → has_cycle g ≡ true
  cycle_found {v} c = ⊎_elim
      (λ (t : has_cycle g ≡ true). t)
      (λ (f : has_cycle g ≡ false). absurd (free_acyclic f v c))
      (decided (has_cycle g))
