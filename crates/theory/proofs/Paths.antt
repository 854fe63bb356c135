-- Paths and cycles: in a table without a cycle every way back comes to an end, after fewer edges than the table has slots.
-- Assumes nothing.
use mathlib.Core.Path.{◌≡◌, refl, sym, ◌∙◌, subst}
use mathlib.Core.Bool.{Bool, true, false, ◌||◌, or-true, false≢true}
use mathlib.Core.List.Memᴰ
use mathlib.Core.List.{List, []}
use mathlib.Core.Logic.{◌⊎◌, inl, inr, ⊎_elim}
use Prim.Native.Nat.{ℕ, zero, suc, ◌+◌, ◌<◌, ◌≤◌}
use native.Mathlib.Omega.{arith}
use borrow.Author.Tests.{ltb-true, ltb-false, eqb-true, eqb-false, eq-eqb, ne_eqb}
use lib.Dec.{eqb, ltb}
use Rattle.definitions.specs.Lists.{all}
use Rattle.definitions.specs.Paths.{Reads, Reaches, here, onward, OnCycle, Acyclic}
use Rattle.laws.proofs.Lists.{decided, all-member, all_members}
use Rattle.laws.proofs.Tallies.{tally, tally-most, tally_more}

-- A table of n slots: what a slot reads is a slot, and past the last slot nothing reads.
pub record Table (inputs : ℕ → List ℕ) (n : ℕ) : Type 0 where
  pub closed : (v u : ℕ) → Reads inputs v u → u < n
  pub ends : (v : ℕ) → n ≤ v → inputs v ≡ []

-- Every way back from the vertex, from reader to input, comes to an end.
pub data Grounded (inputs : ℕ → List ℕ) : ℕ → Type 0 where
  grounded : {v : ℕ} → ((u : ℕ) → Reads inputs v u → Grounded inputs u) → Grounded inputs v

-- ---- paths

-- A path, and a path from where it ends, make one path.
pub reaches_trans : {inputs : ℕ → List ℕ} {u v w : ℕ} → Reaches inputs u v → Reaches inputs v w → Reaches inputs u w
reaches_trans r here = r
reaches_trans r (onward s e) = onward (reaches_trans r s) e

-- Every path to v has fewer than n edges.
unfoldable pub shallow : (ℕ → List ℕ) → ℕ → ℕ → Bool
shallow inputs zero v = false
shallow inputs (suc n) v = all (shallow inputs n) (inputs v)

-- ---- grounded vertices

module _ {inputs : ℕ → List ℕ} where
  -- a grounded vertex is on no cycle: the vertex before it on the cycle would be grounded too, and so on without end
  apart : {v : ℕ} → Grounded inputs v → (w : ℕ) → Reaches inputs v w → Reads inputs v w → ⊥
  apart (grounded {v} g) w here e = apart (g w e) w here e
  apart (grounded {v} g) w (onward {v = x} r s) e = apart (g w e) x (reaches_trans (onward here e) r) s

  pub grounded_apart : {v : ℕ} → Grounded inputs v → OnCycle inputs v → ⊥
  grounded_apart g cycle = apart g cycle.0 cycle.1 cycle.2

  shallow_grounded : (n v : ℕ) → shallow inputs n v ≡ true → Grounded inputs v
  unfolding shallow
  shallow_grounded zero v h = absurd (false≢true h)
  shallow_grounded (suc n) v h =
      grounded (λ u m. shallow_grounded n u (all-member (shallow inputs n) h m))

-- ---- marks, for the pigeonhole

mark : ℕ → (ℕ → Bool) → ℕ → Bool
mark v p w = eqb w v || p w

mark_other : (v : ℕ) (p : ℕ → Bool) (w : ℕ) → (w ≡ v → ⊥) → mark v p w ≡ p w
unfolding mark
mark_other v p w h = simp (ne_eqb w v h)

mark_same : (v : ℕ) (p : ℕ → Bool) (w : ℕ) → w ≡ v → mark v p w ≡ true
unfolding mark
mark_same v p w e = simp (eq-eqb w v e)

-- a slot that was not marked is one more
mark-counts : (v : ℕ) (p : ℕ → Bool) (n : ℕ) → v < n → p v ≡ false → tally p n < tally (mark v p) n
mark-counts v p n l f =
    tally_more p (mark v p) (λ w t. unfold mark in simp (t, or-true)) n v l f (mark_same v p v refl)

-- ---- the theorems

module _ {inputs : ℕ → List ℕ} {n : ℕ} (table : Table inputs n) where
  -- Every path to a vertex of an acyclic table is shorter than the table. `seen` are vertices that v reaches by one or more edges: v
  -- is none of them, so each step back marks one slot more, and at most n can be marked.
  acyclic_back : Acyclic inputs → (k : ℕ) (seen : ℕ → Bool) (v : ℕ) → v < n → n ≤ k + tally seen n
      → ((w : ℕ) → seen w ≡ true → (x : ℕ) × Reaches inputs v x × Reads inputs w x) → shallow inputs k v ≡ true
  unfolding shallow
  acyclic_back acyclic zero seen v inside room after = absurd (⊎_elim
      (λ (t : seen v ≡ true). acyclic v (after v t))
      (λ (t : seen v ≡ false). omega (arith, mark-counts v seen n inside t, tally-most (mark v seen) n))
      (decided (seen v)))
  acyclic_back acyclic (suc k) seen v inside room after = all_members (shallow inputs k) (inputs v) (λ u e.
      acyclic_back acyclic k (mark v seen) u (table.closed v u e) (more (decided (seen v)))
      (λ w t. ⊎_elim (λ (s : eqb w v ≡ true). (u, here, subst (λ (y : ℕ). Reads inputs y u) (sym (eqb-true w v s)) e))
      (λ (s : eqb w v ≡ false). let m = after w (sym (mark_other v seen w (eqb-false w v s)) ∙ t) in
      (m.0, reaches_trans (onward here e) m.1, m.2))
      (decided (eqb w v))))
    where
      more : (seen v ≡ true) ⊎ (seen v ≡ false) → n ≤ k + tally (mark v seen) n
      more (inl t) = absurd (acyclic v (after v t))
      more (inr t) = omega (arith, mark-counts v seen n inside t)

  pub acyclic_shallow : Acyclic inputs → (v : ℕ) → v < n → shallow inputs n v ≡ true
  acyclic_shallow acyclic v l =
      acyclic_back acyclic n (λ w. false) v l (omega arith) (λ w t. absurd (false≢true t))

  beyond_grounded : (v : ℕ) → n ≤ v → Grounded inputs v
  beyond_grounded v l = grounded {v = v} (λ u e. absurd (Memᴰ.not-nil (rw (table.ends v l) at e)))

  -- In an acyclic table every vertex is grounded, so a proof may go from the inputs of a vertex to the vertex.
  pub acyclic_grounded : Acyclic inputs → (v : ℕ) → Grounded inputs v
  acyclic_grounded acyclic v = ⊎_elim
      (λ (t : ltb v n ≡ true). shallow_grounded n v (acyclic_shallow acyclic v (ltb-true v n t)))
      (λ (t : ltb v n ≡ false). beyond_grounded v (ltb-false v n t))
      (decided (ltb v n))

  -- A table whose slots are all grounded is acyclic: what a search that settles each vertex after its inputs shows.
  pub grounded_acyclic : ((v : ℕ) → v < n → Grounded inputs v) → Acyclic inputs
  grounded_acyclic g v = grounded_apart (⊎_elim
      (λ (t : ltb v n ≡ true). g v (ltb-true v n t))
      (λ (t : ltb v n ≡ false). beyond_grounded v (ltb-false v n t))
      (decided (ltb v n)))
