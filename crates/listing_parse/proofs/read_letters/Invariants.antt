-- The loop's invariant: the answer of all letters is that of those from here on, from this place on.
use mathlib.Core.Path.{◌≡◌}
use mathlib.Core.List.{List}
use Prim.Native.Nat.{ℕ, ◌≤◌}
use lib.ListN.{length, drop}
use Rattle.definitions.specs.Sheet.{Sheet}
use Rattle.listing.specs.Forms.{Form, answer_from}
use Rattle.listing.specs.Grammar.{literal}
use Rattle.listing_parse.proofs.read_letters.Given as goal

-- the answer behind the first i letters
abbrev pub Behind : List ℕ → ℕ → List ℕ → ℕ → ℕ → Type 0
Behind text at letters i place = (f : Form Sheet) → answer_from (literal letters f) at (drop at text)
    ≡ answer_from (literal (drop i letters) f) place (drop place text)

abbrev pub invariant-loop-letter : goal.invariant-loop-letter
invariant-loop-letter l = (l.place ≤ length l.text) × Behind l.text l.at l.letters l.letter-index l.place
