-- The loop's invariant: for every list of what `place` can say, its first i stand in the array.
use Rattle.std.proofs.Common.{◌≡◌, ℕ, List, ◌<◌, length, get_or, take}
use Rattle.definitions.specs.Lists.{padded}
use Rattle.padding.proofs.padded.Given as goal

abbrev pub invariant-loop-i : goal.invariant-loop-i
invariant-loop-i g l = (xs : List g.row.T.Denot) → length xs ≡ l.count
    → ((k : ℕ) → k < l.count → (x : g.row.T.Denot) → goal.F-post g l.place k x → x ≡ get_or xs k l.fn.rest)
    → l.places ≡ padded g.row.N l.fn.rest (take l.i xs)
