-- A source output is a source vertex, of which there are at most as many as the code has space for, and a target output's place is inside.
use mathlib.Core.Path.{◌≡◌, sym, ap, ◌∙◌}
use Prim.Native.Nat.{ℕ, ◌<◌}
use native.Mathlib.Omega.{arith}
use borrow.Author.Rules.{rules}
use lib.ListN.{get_or}
use Rattle.definitions.specs.Rule.{side_capacity, made, origin_by}
use Rattle.rule_fields.specs.Fixed.{fixed_of}
use Rattle.laws.proofs.Match.{image-at}
use Rattle.definitions.specs.Match.{image_of}
use Rattle.redirection.specs.Moves.{origin_inside, resolve_in, move_of}
use Rattle.redirection.proofs.Laws.{inside-place}
use Rattle.redirection.proofs.move_of.Goals as goal

pub returns : goal.returns
unfolding move_of
returns c = let output_below : c.source_output-output.result < side_capacity = omega (arith, c.requires.movable.layered.outputs c.args.i c.requires.i_bound, c.requires.movable.whole.source, c.source_output-output.ensures.0) in
    let named_by : origin_by c.target_split-split.result c.target_output-named.result
    ≡ get_or (fixed_of c.args.rule.now).target_outputs c.args.i (made 255) = ap (λ (base : ℕ). origin_by base c.target_output-named.result) c.target_split-split.ensures.0 ∙ c.target_output-named.ensures.0 in
    let from = sym (image-at c.args.images.now c.source_output-output.result (omega (arith, output_below, c.requires.movable.arrays.image_size)))
    ∙ ap (image_of c.args.images.now) c.source_output-output.ensures.0 in
    let to = c.place_of-to.ensures ∙ ap (resolve_in c.args.images.now c.args.places.now) named_by in
    simp (from, to)

pub place_of-to-requires-clause-p_bound : goal.place_of-to-requires-clause-p_bound
place_of-to-requires-clause-p_bound c = let named_by : origin_by c.target_split-split.result c.target_output-named.result
    ≡ get_or (fixed_of c.args.rule.now).target_outputs c.args.i (made 255) = ap (λ (base : ℕ). origin_by base c.target_output-named.result) c.target_split-split.ensures.0 ∙ c.target_output-named.ensures.0 in
    let outputs = c.requires.movable.resolvable.outputs c.args.i c.requires.i_bound in inside-place c.target_split-split.result c.target_output-named.result (ap origin_inside named_by ∙ outputs)
