-- What the code has read of a whole listing.
-- Assumes nothing.
use Rattle.std.specs.Prelude.{◌≡◌, List, ℕ, ℤ, take, drop}
use Rattle.std.specs.declared.result.Result.{Result}
use Rattle.std.specs.declared.result.Result.TheVariants.{Ok, Err}
use Rattle.definitions.specs.Graph.{output_limit, graph_version, record_at, block_as}
use Rattle.definitions.specs.Sheet as sheets
use Rattle.definitions.specs.Sheet.{size_field, place_field, opening, out_word}
use Rattle.definitions.specs.Listing.{graph_in}
use Rattle.listing.specs.Typing.{nothing}
use Rattle.listing.specs.Forms.{Form, ended, byte, number, stops_at, comes_to, answer_from}
use Rattle.listing.specs.Grammar.{magnitude, literal, spaced_form, sheet_form}
use Rattle.listing_numbers.specs.declared.Stopped.{Stopped}
use Rattle.listing_lists.specs.declared.Numbers.{Numbers}
use Rattle.listing_lists.specs.Lists.{Listed}

-- the line of the graph, and what follows for its N
abbrev pub graph_line : (ℕ → Form sheets.Sheet) → Form sheets.Sheet
graph_line f = literal opening (number size_field nothing (λ z. byte 10 (f (magnitude z))))

-- the line of the outputs behind its `o`, the last one, and what a listing with these outputs says
abbrev pub outputs_line : (List ℤ → sheets.Sheet) → Form sheets.Sheet
outputs_line g = literal (drop 1 out_word) (spaced_form 1 output_limit place_field 10 (λ outputs. ended (g outputs)))

-- these are the outputs of the line that is read, and the text ends behind it
pub record OutputsOf (text : List ℕ) (at : ℕ) (r : Numbers) : Type 0 where
  pub numbers : List ℤ
  pub answer : (g : List ℤ → sheets.Sheet) → answer_from (outputs_line g) at (drop at text) ≡ comes_to (g numbers)
  pub listed : Listed place_field output_limit r numbers

-- The line of the outputs is read, and the text ends behind it.
abbrev pub OutputsRead : List ℕ → ℕ → Result Numbers Stopped → Type 0
OutputsRead text at (Ok r) = OutputsOf text at r
OutputsRead text at (Err e) = (g : List ℤ → sheets.Sheet) → answer_from (outputs_line g) at (drop at text) ≡ stops_at e.at

-- this is what the listing says, and the table has the block of its graph with counts 0
pub record SheetOf (text table : List ℕ) (size_read : ℕ) : Type 0 where
  pub sheet : sheets.Sheet
  pub answer : answer_from sheet_form 0 text ≡ comes_to sheet
  pub size : size_read ≡ sheet.size
  pub block : take (record_at size_read) table ≡ block_as graph_version (λ k. 0) (graph_in sheet)

-- A listing is read: its answer, and the block of its graph with counts 0 in the table.
abbrev pub SheetRead : List ℕ → List ℕ → Result ℕ Stopped → Type 0
SheetRead text table (Ok n) = SheetOf text table n
SheetRead text table (Err e) = answer_from sheet_form 0 text ≡ stops_at e.at
