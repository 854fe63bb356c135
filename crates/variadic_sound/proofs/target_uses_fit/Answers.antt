use mathlib.Core.Path.{◌∙◌}
use Rattle.variadic_sound.proofs.Laws.{target_uses}
use Rattle.variadic_sound.proofs.target_uses_fit.Goals as goal

pub returns : goal.returns
returns c = rw c.source_count-sources.ensures.0 at c.attributes_below.ensures
    ∙ target_uses c.args.rule.now c.args.tops.now c.requires.judgeable c.requires.tops_of c.args.t c.requires.t_bound
