use mathlib.Core.Path.{◌≡◌, sym, ◌∙◌}
use mathlib.Core.List.{List}
use Prim.Native.Nat.{ℕ, ◌+◌, ◌-◌}
use native.Mathlib.Omega.{arith}
use lib.ListN.{take, drop}
use lib.Pointwise.{bytes_decides}
use Rattle.definitions.specs.Graph.{slot_bytes}
use Rattle.graph_records.specs.Records.{slot_at}
use Rattle.commit.proofs.same_record.Goals as goal

pub returns : goal.returns
unfolding slot_at
returns c = λ e.
    let at = c.args.at in
    let given : at + slot_bytes - at ≡ slot_bytes = omega arith in
    let part : List ℕ → List ℕ = λ block. take (at + slot_bytes - at) (drop at block) in
    rw given at ((bytes_decides (part c.args.graph.now) (part c.args.table.now)).0 (sym c.eq.ensures ∙ e))
