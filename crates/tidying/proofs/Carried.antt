-- A table that holds the vertices of another one under new numbers: it has no cycle, and each vertex has its old result.
-- Assumes nothing.
use mathlib.Core.Path.{◌≡◌, sym, ap, ◌∙◌}
use mathlib.Core.Bool.{true, false, cond}
use mathlib.Core.List.{List, map, map-map, map-id}
use mathlib.Core.Logic.{⊎_elim}
use Prim.Native.Nat.{ℕ}
use lib.Dec.{eqb}
use Rattle.definitions.specs.Operators.{kind_variable}
use Rattle.definitions.specs.Paths.{Reads, Reaches, here, onward, Acyclic}
use Rattle.definitions.specs.Graph.{Slot, Graph, renamed, slot_of, inputs_of, is_vertex, is_variable}
use Rattle.definitions.specs.Results.{Meaning, result_at, AreResults, Follows}
use Rattle.laws.proofs.Lists.{decided, map_same}
use Rattle.laws.proofs.Members.{true_holds}
use Rattle.theory.proofs.Results.{Layout, along-edges}

-- a slot whose inputs keep their names
pub renamed_self : (s : Slot) → renamed (λ v. v) s ≡ s
unfolding renamed
renamed_self s = ap (λ (xs : List ℕ). record { kind = s.kind; operator = s.operator; inputs = xs; attributes = s.attributes }) (map-id s.inputs)

-- ---- cycles

module _ {inputs others : ℕ → List ℕ} (back : ℕ → ℕ) (reads : (w v : ℕ) → Reads others w v → Reads inputs (back w) (back v)) where
  path_back : {u v : ℕ} → Reaches others u v → Reaches inputs (back u) (back v)
  path_back here = here
  path_back (onward {v = v} {w = w} path e) = onward (path_back path) (reads w v e)

  -- where every edge is one of a table without a cycle, there is no cycle
  pub acyclic_back : Acyclic inputs → Acyclic others
  acyclic_back acyclic v cycle =
      acyclic (back v) (back cycle.0, path_back cycle.1, reads v cycle.0 cycle.2)

-- ---- results

-- the vertices that are kept stand under their new numbers, with all that they read
pub record Carries (g new : Graph) (kept : ℕ → Type 0) (to : ℕ → ℕ) : Type 0 where
  pub vertex : (v : ℕ) → kept v → is_vertex g v ≡ true
  pub slot : (v : ℕ) → kept v → slot_of new (to v) ≡ renamed to (slot_of g v)
  pub read : (v u : ℕ) → kept v → Reads (inputs_of g) v u → kept u

module _ {g new : Graph} {kept : ℕ → Type 0} {to : ℕ → ℕ} (carries : Carries g new kept to) where
  pub carried_vertex : (v : ℕ) → kept v → is_vertex new (to v) ≡ true
  unfolding is_vertex renamed
  carried_vertex v k = rw (carries.slot v k) (carries.vertex v k)

  module _ {ℓ} {R : Type ℓ} {m meant : Meaning R} (follows : Follows g to m meant) where
    -- a slot's result, given the results of its inputs
    abbrev slot_result : Meaning R → Slot → ℕ → List R → R
    slot_result n s v inputs = cond (eqb s.kind kind_variable) (n.variable v) (n.function s.kind s.operator s.attributes inputs)

    same_slot : (v : ℕ) (inputs : List R) → slot_result meant (slot_of g v) (to v) inputs ≡ slot_result m (slot_of g v) v inputs
    unfolding is_variable
    same_slot v inputs = ⊎_elim
        (λ (t : eqb (slot_of g v).kind kind_variable ≡ true). rw t (follows.variable v t))
        (λ (t : eqb (slot_of g v).kind kind_variable ≡ false). rw (t, follows.function))
        (decided (eqb (slot_of g v).kind kind_variable))

    -- a vertex that is kept has its old result, at its new number
    pub carried_results : Layout g → (before after : ℕ → R) → AreResults m g before → AreResults meant new after
        → (v : ℕ) → kept v → after (to v) ≡ before v
    unfolding result_at is_variable renamed
    carried_results layout before after old results =
        along-edges g layout (λ v. kept v → after (to v) ≡ before v) (λ v earlier k.
        let inputs : map after (map to (inputs_of g v)) ≡ map before (inputs_of g v) =
        map-map after to (inputs_of g v)
        ∙ map_same (λ u. after (to u)) before (inputs_of g v) (λ u e. earlier u e (carries.read v u k e)) in
        results (to v) (true_holds (is_vertex new (to v)) (carried_vertex v k))
        ∙ ap (λ (s : Slot). slot_result meant s (to v) (map after s.inputs)) (carries.slot v k)
        ∙ ap (slot_result meant (slot_of g v) (to v)) inputs
        ∙ same_slot v (map before (inputs_of g v))
        ∙ sym (old v (true_holds (is_vertex g v) (carries.vertex v k))))
