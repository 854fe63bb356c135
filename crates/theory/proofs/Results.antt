-- Results of a table's vertices: on a table with no cycle there are some, and no two differ on a vertex.
-- Assumes nothing.
use mathlib.Core.Path.{◌≡◌, sym, ◌∙◌, subst}
use mathlib.Core.Bool.{true, false≢true}
use mathlib.Core.List.{List}
use Prim.Native.Nat.{ℕ, zero, suc}
use lib.Dec.{T}
use lib.ListN.{length}
use Rattle.definitions.specs.Paths.{Reads, Acyclic}
use Rattle.definitions.specs.Graph.{Graph, inputs_of, is_vertex}
use Rattle.definitions.specs.Results.{Meaning, result_at, AreResults}
use Rattle.laws.proofs.Lists.{all-member, map_same}
use Rattle.laws.proofs.Graph.{inputs_past, vertex-inside}
use Rattle.laws.proofs.Members.{holds}
use Rattle.theory.proofs.Paths.{Table, Grounded, grounded, shallow, acyclic_shallow, acyclic_grounded}

-- a table whose inputs name vertices, and which has no cycle
pub record Layout (g : Graph) : Type 0 where
  pub vertices : (k v : ℕ) → Reads (inputs_of g) k v → is_vertex g v ≡ true
  pub acyclic : Acyclic (inputs_of g)

-- ---- such a table is one of its slots

-- Every input names a slot, and past the last slot nothing is read; so the theorems about paths hold of the table.
pub named_table : (g : Graph) → ((k v : ℕ) → Reads (inputs_of g) k v → is_vertex g v ≡ true) → Table (inputs_of g) (length g.slots)
named_table g named = record { closed = λ v u m. vertex-inside g u (named v u m); ends = inputs_past g }

-- ---- going from inputs to readers

grounded-all {ℓ} : {inputs : ℕ → List ℕ} (P : ℕ → Type ℓ)
    → ((v : ℕ) → ((u : ℕ) → Reads inputs v u → P u) → P v) → {v : ℕ} → Grounded inputs v → P v
grounded-all P step (grounded {v} g) = step v (λ u m. grounded-all P step (g u m))

-- What holds of a vertex wherever it holds of the vertex's inputs, holds of every vertex: a proof, too, goes from inputs to readers.
pub along-edges {ℓ} : (g : Graph) → Layout g → (P : ℕ → Type ℓ)
    → ((v : ℕ) → ((u : ℕ) → Reads (inputs_of g) v u → P u) → P v) → (v : ℕ) → P v
along-edges g layout P step v =
    grounded-all P step (acyclic_grounded (named_table g layout.vertices) layout.acyclic v)

-- ---- a result depends on the results of the inputs alone

module _ {ℓ} {R : Type ℓ} (m : Meaning R) (g : Graph) where
  -- What a vertex is to have as result is the same for two ways to give results that agree on its inputs.
  pub result_agree : (one other : ℕ → R) (v : ℕ) → ((u : ℕ) → Reads (inputs_of g) v u → one u ≡ other u)
      → result_at m g one v ≡ result_at m g other v
  unfolding result_at
  result_agree one other v same = rw (map_same one other (inputs_of g v) same)

  -- Results are unique: two ways to give every vertex the result that its inputs' results make agree on every vertex.
  pub results_unique : Layout g → (one other : ℕ → R)
      → AreResults m g one → AreResults m g other → (v : ℕ) → T (is_vertex g v) → one v ≡ other v
  results_unique layout one other first second =
      along-edges g layout (λ v. T (is_vertex g v) → one v ≡ other v) (λ v before t.
      first v t
      ∙ result_agree one other v (λ u e. before u e (subst T (sym (layout.vertices v u e)) tt))
      ∙ sym (second v t))

  -- results by evaluating n edges deep; of a vertex with a path of n or more edges to it, the result means nothing
  deep : ℕ → ℕ → R
  deep zero = m.variable
  deep (suc n) = result_at m g (deep n)

  -- where every path to a vertex has fewer than n edges, going deeper changes nothing
  deep_settled : (n v : ℕ) → shallow (inputs_of g) n v ≡ true → deep n v ≡ deep (suc n) v
  unfolding deep shallow
  deep_settled zero v h = absurd (false≢true h)
  deep_settled (suc n) v h =
      result_agree (deep n) (deep (suc n)) v (λ u e. deep_settled n u (all-member (shallow (inputs_of g) n) h e))

  -- Results exist: evaluated as deep as the table has slots, every vertex has the result that its inputs' results make.
  pub results_exist : Layout g → (results : ℕ → R) × AreResults m g results
  unfolding deep
  results_exist layout = (
    deep (length g.slots),
    λ v t.
        deep_settled (length g.slots) v
        (acyclic_shallow (named_table g layout.vertices) layout.acyclic v (vertex-inside g v (holds (is_vertex g v) t))),
  )
