-- What a search from a slot relies on, and what it finds out.
-- Assumes nothing.
use Rattle.std.specs.Prelude.{◌≡◌, Bool, true, false, List, ◌⊎◌, ℕ, length, get_or}
use Rattle.definitions.specs.Graph.{graph_of, inputs_of}
use Rattle.definitions.specs.Paths.{OnCycle}
use Rattle.theory.proofs.Paths.{Grounded}
use Rattle.graph_fields.specs.Layout.{ReadableGraph, Closed}

-- every slot has its place
pub record Sized (stages parents : List ℕ) : Type 0 where
  pub progress : length stages ≡ 512
  pub parent : length parents ≡ 512

-- between two searches a slot is not entered, or it is finished and leads to no cycle
abbrev pub Quiet : (ℕ → List ℕ) → List ℕ → Type 0
Quiet inputs progress = (w : ℕ) → (get_or progress w 0 ≡ 0) ⊎ ((get_or progress w 0 ≡ 8) × Grounded inputs w)

pub record Ready (block progress parent : List ℕ) : Type 0 where
  pub readable : ReadableGraph block
  pub closed : Closed block
  pub sized : Sized progress parent
  pub quiet : Quiet (inputs_of (graph_of block)) progress

-- a finished slot stays finished
abbrev pub Kept : List ℕ → List ℕ → Type 0
Kept before after = (w : ℕ) → get_or before w 0 ≡ 8 → get_or after w 0 ≡ 8

-- The search found a cycle, or it finished the slot with which it began and all to which that one leads.
pub record Searched (inputs : ℕ → List ℕ) (root : ℕ) (before after : List ℕ) (found : Bool) : Type 0 where
  pub cycle : found ≡ true → (v : ℕ) × OnCycle inputs v
  pub quiet : found ≡ false → Quiet inputs after
  pub kept : found ≡ false → Kept before after
  pub reached : found ≡ false → get_or after root 0 ≡ 8
