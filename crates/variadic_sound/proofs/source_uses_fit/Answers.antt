use mathlib.Core.Path.{◌∙◌}
use Rattle.variadic_sound.proofs.Laws.{source_uses}
use Rattle.variadic_sound.proofs.source_uses_fit.Goals as goal

pub returns : goal.returns
returns c = c.attributes_below.ensures ∙ source_uses c.args.rule.now c.args.tops.now c.requires.judgeable c.requires.tops_of c.args.j c.requires.j_bound
