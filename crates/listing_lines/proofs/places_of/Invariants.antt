-- The loop's invariant: the first i words stand in the array.
use Prim.Native.Nat.{ℕ}
use lib.ListN.{take}
use Rattle.definitions.specs.Graph.{unused_place}
use Rattle.laws.proofs.Filling.{Filling}
use Rattle.listing_lists.specs.Lists.{list_limit}
use Rattle.listing_lines.proofs.places_of.Given as goal

abbrev pub invariant-loop-i : goal.invariant-loop-i
invariant-loop-i l = Filling (λ (w : ℕ). w) unused_place list_limit (take l.count l.words) l.count l.i l.places
