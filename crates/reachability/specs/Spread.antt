-- Marking from one vertex on, with what was marked before kept.
-- Assumes nothing.
use Rattle.std.specs.Prelude.{◌≡◌, Bool, true, List, ◌⊎◌, ℕ}
use Rattle.definitions.specs.Paths.{Reads, Reaches, is_marked}

-- marks that are closed under inputs
abbrev pub ClosedMarks : (ℕ → List ℕ) → List Bool → Type 0
ClosedMarks inputs marks = (w v : ℕ) → is_marked marks w ≡ true → Reads inputs w v → is_marked marks v ≡ true

-- where the marks were closed under inputs, they are so again, and what is new has a path to the root
pub record Spread (inputs : ℕ → List ℕ) (root : ℕ) (before after : List Bool) : Type 0 where
  pub kept : (v : ℕ) → is_marked before v ≡ true → is_marked after v ≡ true
  pub rooted : is_marked after root ≡ true
  pub closed : ClosedMarks inputs after
  pub paths : (v : ℕ) → is_marked after v ≡ true → (is_marked before v ≡ true) ⊎ Reaches inputs v root
