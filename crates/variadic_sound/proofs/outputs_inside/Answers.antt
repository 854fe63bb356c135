use mathlib.Core.Path.{sym, ◌∙◌}
use Rattle.std.proofs.Common.{rules, length}
use borrow.Author.Tests.{tests}
use lib.Dec.{ltb}
use Rattle.rule_fields.specs.Fixed.{fixed_of}
use Rattle.rule_fields.proofs.Fixed.{length-source, length-source-outputs}
use Rattle.laws.proofs.Searches.{all_of_places}
use Rattle.variadic_sound.proofs.outputs_inside.Goals as goal

pub returns : goal.returns
returns c =
    let r = fixed_of c.args.rule.now in
    all_of_places (λ o. ltb o (length r.source)) r.source_outputs 255 (c.output_count.ensures.0 ∙ sym (length-source-outputs c.args.rule.now)) _ _ _ c.all.ensures.ran (λ x b q k. rw (length-source c.args.rule.now, ← c.source_count-sources.ensures.0) (search (rules, tests)))
