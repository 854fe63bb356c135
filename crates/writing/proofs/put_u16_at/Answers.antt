-- The part that is lent on comes back as the number's two bytes.
use mathlib.Core.Path.{◌≡◌, ap, ap₂, ◌∙◌}
use mathlib.Core.List.{List, ◌++◌, append-nil}
use Prim.Native.Nat.{ℕ, ◌+◌, ◌-◌}
use native.Mathlib.Omega.{arith}
use lib.ListN.{take, drop}
use lib.Seq.{drop-drop}
use Rattle.definitions.specs.Lists.{concat_map}
use Rattle.definitions.specs.Fields.{u16_bytes}
use Rattle.writing.specs.Numbers.{with_u16}
use Rattle.writing.proofs.put_u16_at.Goals as goal

pub returns : goal.returns
unfolding with_u16 concat_map
returns c = let a = c.args in
    let block = a.block.now in
    let at = a.at in
    let end : at + (at + 2 - at) ≡ at + 2 = omega arith in
    ap₂ (λ (bytes rest : List ℕ). take at block ++ (bytes ++ rest)) (c.put_numbers.ensures ∙ append-nil (u16_bytes a.number))
    (drop-drop (at + 2 - at) at block ∙ ap (λ (n : ℕ). drop n block) end)
