-- What the places of a target vertex name is what the definition says.
-- Assumes nothing.
use mathlib.Core.Path.{◌≡◌}
use mathlib.Core.List.{List, map}
use Prim.Native.Nat.{ℕ, ◌<◌}
use lib.ListN.{get_or}
use Rattle.definitions.specs.Graph.{unused_place, Graph}
use Rattle.definitions.specs.Rule.{side_capacity, target_count, made, target_of}
use Rattle.definitions.specs.Rewriting.{place_of, resolve}
use Rattle.rule_fields.specs.Fixed.{fixed_of}
use Rattle.laws.proofs.Lists.{map_same}
use Rattle.laws.proofs.Members.{mem-place}
use Rattle.redirection.specs.Moves.{Resolvable, resolve_in}
use Rattle.redirection.proofs.Laws.{resolve_same}

-- with the target vertices' places in an array, a target vertex's inputs are the definition's
pub inputs_same : (g : Graph) (block : List ℕ) (images places : List ℕ) → Resolvable block
    → ((t : ℕ) → t < side_capacity → get_or places t unused_place ≡ place_of g (fixed_of block) images t)
    → (t : ℕ) → t < target_count block
    → map (resolve_in images places) (target_of (fixed_of block) t).inputs ≡ map (resolve g (fixed_of block) images) (target_of (fixed_of block) t).inputs
inputs_same g block images places inside h t l =
    map_same (resolve_in images places) (resolve g (fixed_of block) images) (target_of (fixed_of block) t).inputs
    (λ o m.
    let found = mem-place (made 255) m in
    resolve_same g (fixed_of block) images places h o (rw found.2 at (inside.inputs t found.0 l found.1)))
