-- The place number names what the rule's target input does.
use mathlib.Core.Path.{◌≡◌, ap, ◌∙◌}
use Rattle.definitions.specs.Rule.{origin_by}
use Rattle.redirection.specs.Moves.{origin_inside, resolve_in}
use Rattle.redirection.proofs.Laws.{inside-place}
use Rattle.new_places.proofs.input_made.Goals as goal

named_by : (split split_read named : _) (o : _) → split_read ≡ split → origin_by split named ≡ o → origin_by split_read named ≡ o
named_by split split_read named o s n = ap (λ base. origin_by base named) s ∙ n

pub place_of-requires-clause-p_bound : goal.place_of-requires-clause-p_bound
place_of-requires-clause-p_bound c = inside-place c.target_split-split.result c.target_input-named.result
    (ap origin_inside (named_by _ _ _ _ c.target_split-split.ensures.0 c.target_input-named.ensures.0)
    ∙ c.requires.readable_target.resolvable.inputs c.args.t c.args.i c.requires.readable_target.inside c.requires.i_in_bounds)

pub returns : goal.returns
returns c = c.place_of.ensures
    ∙ ap (resolve_in c.args.images.now c.args.places.now) (named_by _ _ _ _ c.target_split-split.ensures.0 c.target_input-named.ensures.0)
