-- The code's table is the definition's, entry by entry: one law over the index.
use mathlib.Core.Path.{ap}
use Prim.Native.Nat.{◌-◌}
use lib.ListN.{get_or-map}
use Rattle.definitions.specs.Operators as definition
use Rattle.definitions.specs.Operators.{operators, counts_of}
use Rattle.operators.specs.declared.Counts.{Counts}
use Rattle.operators.proofs.counts_of.Goals as goal

pub returns : goal.returns
unfolding operators counts_of
returns c = let none : definition.Counts = record { inputs = 0; attributes = 0 } in
    let entry : definition.Counts → Counts = λ x. record { inputs = x.inputs; attributes = x.attributes } in
    let same = get_or-map entry operators (c.args.operator - 1) none in
    (ap (λ (x : Counts). x.inputs) same, ap (λ (x : Counts). x.attributes) same)
