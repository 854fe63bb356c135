-- The code's table is the definition's, entry by entry: one law over the index.
use mathlib.Core.Path.{ap}
use lib.ListN.{get_or-map}
use Rattle.definitions.specs.Operators as definition
use Rattle.definitions.specs.Operators.{kinds, row_of}
use Rattle.operators.specs.declared.Row.{Row}
use Rattle.operators.proofs.row_of.Goals as goal

pub returns : goal.returns
unfolding kinds row_of
returns c = let none : definition.Row = record { least = 0; greatest = 0; attributes = 0 } in
    let entry : definition.Row → Row = λ x. record { least = x.least; greatest = x.greatest; attributes = x.attributes } in
    let same = get_or-map entry kinds c.args.kind none in
    (ap (λ (x : Row). x.least) same, ap (λ (x : Row). x.greatest) same, ap (λ (x : Row). x.attributes) same)
