use mathlib.Core.Path.{refl, sym, ap, ◌∙◌}
use mathlib.Core.List.{List, [], ◌∷◌, ◌++◌}
use Prim.Native.Nat.{ℕ}
use native.Mathlib.Numerals.{add-one}
use native.Mathlib.Omega.{arith}
use lib.ListN.{take, set}
use lib.Seq.{take_all, take-suc-set}
use Rattle.definitions.specs.Lists.{tabulate}
use Rattle.laws.proofs.Ranges.{tabulate-more}
use Rattle.variadic_plain.specs.Plain.{plain_byte, plain_block}
use Rattle.variadic_plain.proofs.write_plain.Goals as goal

pub loop-at-init : goal.loop-at-init
unfolding tabulate
loop-at-init c = refl

pub loop-at-preserved : goal.loop-at-preserved
loop-at-preserved c =
    ap (λ (k : ℕ). take k (set c.loop-at.plain c.loop-at.at c.plain_byte.result)) (add-one c.loop-at.at)
    ∙ take-suc-set c.loop-at.plain c.loop-at.at c.plain_byte.result (omega arith)
    ∙ ap (λ (t : List ℕ). t ++ c.plain_byte.result ∷ []) c.loop-at.invariant
    ∙ ap (λ (b : ℕ). tabulate c.loop-at.at (plain_byte c.args.rule.now) ++ b ∷ []) c.plain_byte.ensures.0
    ∙ sym (tabulate-more c.loop-at.at (plain_byte c.args.rule.now))
    ∙ ap (λ (k : ℕ). tabulate k (plain_byte c.args.rule.now)) (sym (add-one c.loop-at.at))

pub returns : goal.returns
unfolding plain_block
returns c = sym (take_all c.loop-at.at c.loop-at.plain (omega arith)) ∙ c.loop-at.invariant
    ∙ ap (λ (k : ℕ). tabulate k (plain_byte c.args.rule.now)) (omega arith)
