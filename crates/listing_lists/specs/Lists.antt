-- What the code's numbers stand for where a list of numbers is read.
-- Assumes nothing.
use Rattle.std.specs.Prelude.{◌≡◌, true, List, map, ℕ, ◌≤◌, ℤ, length}
use Rattle.std.specs.declared.result.Result.{Result}
use Rattle.std.specs.declared.result.Result.TheVariants.{Ok, Err}
use Rattle.definitions.specs.Lists.{all, padded}
use Rattle.definitions.specs.Fields.{word_of}
use Rattle.definitions.specs.Graph.{attribute_limit}
use Rattle.definitions.specs.Numerals.{Field, in_field}
use Rattle.definitions.specs.Sheet.{Sheet}
use Rattle.listing.specs.Typing.{Got, stopped, got}
use Rattle.listing.specs.Forms.{Form}
use Rattle.listing.specs.Parts.{PartRead}
use Rattle.listing_numbers.specs.declared.Stopped.{Stopped}
use Rattle.listing_numbers.specs.Stops.{StopsAt}
use Rattle.listing_lists.specs.declared.Numbers.{Numbers}

-- no list of a listing has more numbers
abbrev pub list_limit : ℕ
list_limit = attribute_limit

-- these are the numbers: their words stand first, and zeros behind them
pub record Listed (field : Field) (most : ℕ) (r : Numbers) (numbers : List ℤ) : Type 0 where
  pub count : r.count ≡ length numbers
  pub words : r.words ≡ padded list_limit 0 (map word_of numbers)
  pub few : length numbers ≤ most
  pub fits : all (in_field field) numbers ≡ true

-- what the code returns for a list
unfoldable pub Holds : Field → ℕ → Result Numbers Stopped → Got (List ℤ) → Type 0
Holds field most (Err e) (stopped at) = e.at ≡ at
Holds field most (Err e) (got numbers at) = ⊥
Holds field most (Ok r) (stopped at) = ⊥
Holds field most (Ok r) (got numbers at) = Listed field most r numbers × (r.next ≡ at)

-- the place behind the list, or the one at which no such list goes on
abbrev pub place_of : Result Numbers Stopped → ℕ
place_of (Ok r) = r.next
place_of (Err e) = e.at

-- these numbers are read as a part of a listing: whatever follows them, the answer goes on behind them
pub record NumbersOf (part : (List ℤ → Form Sheet) → Form Sheet) (field : Field) (most : ℕ) (text : List ℕ) (at : ℕ) (r : Numbers) : Type 0 where
  pub numbers : List ℤ
  pub goes : PartRead part text at (got numbers r.next)
  pub listed : Listed field most r numbers
  pub next : r.next ≤ length text

-- A list of numbers is read as a part of a listing: whatever follows it, the answer stops where the list does, or goes on behind it.
abbrev pub NumbersRead : ((List ℤ → Form Sheet) → Form Sheet) → Field → ℕ → List ℕ → ℕ → Result Numbers Stopped → Type 0
NumbersRead part field most text at (Ok r) = NumbersOf part field most text at r
NumbersRead part field most text at (Err e) = StopsAt part text at e
