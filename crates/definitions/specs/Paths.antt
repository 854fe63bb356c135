-- Paths run from an input to its reader. A table is given by the inputs of each of its vertices, in order.
-- Assumes nothing.
use Rattle.std.specs.Prelude.{Bool, false, cond, ◌&&◌, ◌||◌, ℕ, zero, suc, get_or}
use mathlib.Core.List.{List, [], ◌∷◌, ◌++◌, Memᴰ}
use Rattle.definitions.specs.Lists.{any_below, tabulate, foldl, member}

-- w names v in one of its input places
abbrev pub Reads : (ℕ → List ℕ) → ℕ → ℕ → Type 0
Reads inputs w v = Memᴰ v (inputs w)

-- every vertex reaches itself, by the empty path
pub data Reaches (inputs : ℕ → List ℕ) (u : ℕ) : ℕ → Type 0 where
  here : Reaches inputs u u
  onward : {v w : ℕ} → Reaches inputs u v → Reads inputs w v → Reaches inputs u w

-- v has a path to one of the starts; every start has, by the empty path
pub record ReachesOne (inputs : ℕ → List ℕ) (starts : List ℕ) (v : ℕ) : Type 0 where
  pub start : ℕ
  pub listed : Memᴰ start starts
  pub path : Reaches inputs v start

-- v is on a cycle: it has a path of one or more edges to itself, the last of them from w
abbrev pub OnCycle : (ℕ → List ℕ) → ℕ → Type 0
OnCycle inputs v = (w : ℕ) × Reaches inputs v w × Reads inputs v w

-- no vertex has a path of one or more edges to itself
abbrev pub Acyclic : (ℕ → List ℕ) → Type 0
Acyclic inputs = (v : ℕ) → OnCycle inputs v → ⊥

-- Document 002's traversal: inputs first, left to right, each vertex once. `done` are the vertices visited so far, in order. The second
-- argument bounds the depth; where inputs are lower, the number of vertices is enough.
unfoldable pub visit : (ℕ → List ℕ) → ℕ → List ℕ → ℕ → List ℕ
visit inputs zero done v = done
visit inputs (suc d) done v =
    let after = foldl (visit inputs d) done (inputs v) ++ v ∷ [] in
    cond (member v done) done after

-- ---- what computes, in a table of n slots whose inputs all name slots; the crate reachability proves that this is the meaning

-- a set of slots, as a list of marks
abbrev pub is_marked : List Bool → ℕ → Bool
is_marked marks v = get_or marks v false

-- one round: what was marked stays so, and every input of a marked slot is marked
unfoldable pub grown : (ℕ → List ℕ) → ℕ → List Bool → List Bool
grown inputs n marks = tabulate n (λ v. is_marked marks v || any_below (λ w. is_marked marks w && member v (inputs w)) n)

unfoldable pub grown_by : (ℕ → List ℕ) → ℕ → List Bool → ℕ → List Bool
grown_by inputs n marks zero = marks
grown_by inputs n marks (suc k) = grown inputs n (grown_by inputs n marks k)

-- the slots that have a path to one of the starts: n rounds are enough, since a round that marks no slot is the last
unfoldable pub reaching : (ℕ → List ℕ) → ℕ → List ℕ → List Bool
reaching inputs n starts = grown_by inputs n (tabulate n (λ v. member v starts)) n

-- v has a path to one of its own inputs
unfoldable pub on_cycle : (ℕ → List ℕ) → ℕ → ℕ → Bool
on_cycle inputs n v = is_marked (reaching inputs n (inputs v)) v
