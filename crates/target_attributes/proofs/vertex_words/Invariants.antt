-- The loop's invariant: the first i attributes have fit results, and their words stand in the first i places.
use mathlib.Core.Path.{◌≡◌}
use mathlib.Core.Bool.{true}
use Rattle.definitions.specs.Lists.{all_below}
use Rattle.definitions.specs.Graph.{graph_of}
use Rattle.definitions.specs.Rule.{target_of}
use Rattle.definitions.specs.Match.{read_attribute}
use Rattle.rule_fields.specs.Fixed.{fixed_of}
use Rattle.target_attributes.specs.Fitness.{fit_at}
use Rattle.target_attributes.proofs.Laws.{words_to}
use Rattle.target_attributes.proofs.vertex_words.Given as goal

abbrev pub invariant-loop-i : goal.invariant-loop-i
invariant-loop-i l = let read = read_attribute (graph_of l.graph) l.images in
    let p = target_of (fixed_of l.rule) l.t in
    (all_below (fit_at read p) l.i ≡ true) × (l.words ≡ words_to read p l.i)
