-- What the code has read of a listing, and what the table holds of it.
-- Assumes nothing.
use Rattle.std.specs.Prelude.{◌≡◌, List, ℕ, ◌+◌, ◌≤◌, ◌<◌, length}
use Rattle.std.specs.declared.result.Result.{Result}
use Rattle.std.specs.declared.result.Result.TheVariants.{Ok, Err}
use Rattle.definitions.specs.Graph.{Slot, empty_slot}
use Rattle.definitions.specs.Sheet as sheets
use Rattle.definitions.specs.Sheet.{Line, slot_field}
use Rattle.definitions.specs.Listing.{slot_line, slot_in}
use Rattle.listing.specs.Typing.{nothing, got}
use Rattle.listing.specs.Forms.{Form, number}
use Rattle.listing.specs.Grammar.{magnitude, line_form, lines_form}
use Rattle.listing.specs.Parts.{PartRead}
use Rattle.listing_numbers.specs.declared.Stopped.{Stopped}
use Rattle.listing_numbers.specs.Stops.{StopsAt}
use Rattle.listing_parse.specs.declared.Part.{Part}
use Rattle.listing_slots.specs.Rows.{HasRows}

-- a slot's line with its number, which is one of those that may follow
abbrev pub slot_form : ℕ → ℕ → (Line → Form sheets.Sheet) → Form sheets.Sheet
slot_form from size f = number (slot_field from size) nothing (λ z. line_form (magnitude z) f)

-- this line is read as that of a slot, and the table has the records up to it
pub record SlotOf (from size : ℕ) (text : List ℕ) (at : ℕ) (before after : List ℕ) (r : Part) : Type 0 where
  pub line : Line
  pub goes : PartRead (slot_form from size) text at (got line r.next)
  pub next : r.next ≤ length text
  pub kept : length after ≡ length before
  pub slot : (line.slot ≡ r.value) × (from ≤ r.value) × (r.value < size)
  pub holds : (slots : ℕ → Slot) → HasRows slots from before
      → ((k : ℕ) → from ≤ k → k < r.value → slots k ≡ empty_slot) → slots r.value ≡ slot_line line → HasRows slots (r.value + 1) after

-- One slot's line is read, and the table has the records up to it.
abbrev pub SlotRead : ℕ → ℕ → List ℕ → ℕ → List ℕ → List ℕ → Result Part Stopped → Type 0
SlotRead from size text at before after (Ok r) = SlotOf from size text at before after r
SlotRead from size text at before after (Err e) = StopsAt (slot_form from size) text at e × (length after ≡ length before)

-- these are the lines of all slots, and the table has every slot's record
pub record LinesOf (size : ℕ) (text : List ℕ) (at : ℕ) (after : List ℕ) (r : Part) : Type 0 where
  pub lines : List Line
  pub goes : PartRead (lines_form size 0 size) text at (got lines r.next)
  pub next : r.next ≤ length text
  pub holds : HasRows (slot_in lines) size after

-- The lines of all slots are read, and the table has every slot's record.
abbrev pub LinesRead : ℕ → List ℕ → ℕ → List ℕ → Result Part Stopped → Type 0
LinesRead size text at after (Ok r) = LinesOf size text at after r
LinesRead size text at after (Err e) = StopsAt (lines_form size 0 size) text at e
