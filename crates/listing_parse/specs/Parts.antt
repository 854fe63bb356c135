-- What the code's parts stand for.
-- Assumes nothing.
use Rattle.std.specs.Prelude.{Bool, ◌&&◌, List, [], ◌∷◌, ℕ, eqb, ltb, length, get_or}
use Rattle.std.specs.declared.result.Result.{Result}
use Rattle.std.specs.declared.result.Result.TheVariants.{Ok, Err}
use Rattle.definitions.specs.Operators.{kind_const, kind_call}
use Rattle.definitions.specs.Sheet.{Sheet}
use Rattle.listing.specs.Typing.{Got, stopped, got}
use Rattle.listing.specs.Forms.{Form, choice}
use Rattle.listing.specs.Grammar.{literal}
use Rattle.listing_numbers.specs.declared.Stopped.{Stopped}
use Rattle.listing_parse.specs.declared.Part.{Part}

-- what the code returns for a part
abbrev pub part_of : Result Part Stopped → Got ℕ
part_of (Ok part) = got part.value part.next
part_of (Err e) = stopped e.at

-- the place behind the part, or the one at which no listing goes on
abbrev pub place_of : Result Part Stopped → ℕ
place_of (Ok part) = part.next
place_of (Err e) = e.at

-- this byte stands at a place of the text
unfoldable pub has_byte : List ℕ → ℕ → ℕ → Bool
has_byte text at byte = ltb at (length text) && eqb (get_or text at 0) byte

-- `onst` or `all`, behind a `c`
abbrev pub const_or_call : (ℕ → Form Sheet) → Form Sheet
const_or_call f = choice 111 (literal (110 ∷ 115 ∷ 116 ∷ []) (f kind_const)) (literal (97 ∷ 108 ∷ 108 ∷ []) (f kind_call))
