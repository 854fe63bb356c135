-- The words of the theorems about lg_sweep and lg_squeeze: where slots go, and what has the same result after as before.
-- Assumes nothing.
use Rattle.std.specs.Prelude.{◌≡◌, Bool, true, false, ℕ, ◌*◌, ◌<◌, T, length}
use mathlib.Core.List.{List, Memᴰ}
use Rattle.definitions.specs.Fields.{u16_at}
use Rattle.definitions.specs.Graph.{unused_place, Graph, is_vertex}
use Rattle.definitions.specs.Results.{Meaning, AreResults, KeepsOutputs}

-- where the list says that old slot v went
abbrev pub went_to : List ℕ → ℕ → ℕ
went_to moves v = u16_at moves (2 * v)

-- "Vertices move to the lowest slots in their old order": there is one such way.
pub record Renumbers (g : Graph) (to : ℕ → ℕ) : Type 0 where
  -- "in their old order"
  pub order : (v w : ℕ) → is_vertex g v ≡ true → is_vertex g w ≡ true → v < w → to v < to w
  -- "to the lowest slots": no slot is left out below one to which a vertex goes
  pub lowest : (v : ℕ) → is_vertex g v ≡ true → (k : ℕ) → k < to v → (w : ℕ) × (is_vertex g w ≡ true) × (to w ≡ k)
  -- "65535 for Empty"
  pub empty : (v : ℕ) → v < length g.slots → is_vertex g v ≡ false → to v ≡ unused_place

-- Results before, in g under the meaning m, and after, in `new` under the meaning `meant`; what stays has got the number `to v`.
pub record KeepsResults {ℓ} {R : Type ℓ} (m meant : Meaning R) (g new : Graph) (stays : ℕ → Bool) (to : ℕ → ℕ) : Type ℓ where
  -- "the result" of a vertex, before and after: there are results of each table, and no two differ on a vertex
  pub some_before : (before : ℕ → R) × AreResults m g before
  pub some_after : (after : ℕ → R) × AreResults meant new after
  pub one_before : (one other : ℕ → R) → AreResults m g one → AreResults m g other → (v : ℕ) → T (is_vertex g v) → one v ≡ other v
  pub one_after : (one other : ℕ → R) → AreResults meant new one → AreResults meant new other
      → (v : ℕ) → T (is_vertex new v) → one v ≡ other v
  -- what stays is a vertex of both tables; both tables have as many outputs, and each names a vertex
  pub remains : (v : ℕ) → stays v ≡ true → (is_vertex g v ≡ true) × (is_vertex new (to v) ≡ true)
  pub same_count : length new.outputs ≡ length g.outputs
  pub named : (v : ℕ) → Memᴰ v new.outputs → is_vertex new v ≡ true
  -- every vertex that stays has the same result after as before
  pub results : (before after : ℕ → R) → AreResults m g before → AreResults meant new after
      → (v : ℕ) → stays v ≡ true → after (to v) ≡ before v
  -- and so has every graph output, place by place
  pub outputs : (before after : ℕ → R) → AreResults m g before → AreResults meant new after → KeepsOutputs g new before after
