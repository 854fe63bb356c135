-- A part of a listing where no listing goes on.
-- Assumes nothing.
use Rattle.std.specs.Prelude.{List, ℕ, ◌≤◌, length}
use Rattle.definitions.specs.Sheet.{Sheet}
use Rattle.listing.specs.Typing.{stopped}
use Rattle.listing.specs.Forms.{Form}
use Rattle.listing.specs.Parts.{PartRead}
use Rattle.listing_numbers.specs.declared.Stopped.{Stopped}

-- Whatever follows the part, the answer stops at this place of the text.
pub record StopsAt {A : Type 0} (part : (A → Form Sheet) → Form Sheet) (text : List ℕ) (at : ℕ) (e : Stopped) : Type 0 where
  pub goes : PartRead part text at (stopped e.at)
  pub next : e.at ≤ length text
