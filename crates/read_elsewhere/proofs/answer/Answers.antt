-- The first test that fails is told. Where none does, the map is a match, and the count decides.
use mathlib.Core.Path.{◌≡◌, sym, ap, ◌∙◌}
use mathlib.Core.Bool.{Bool, true}
use mathlib.Core.List.{List}
use Prim.Native.Nat.{ℕ, ◌<◌, ◌≤◌}
use native.Mathlib.Omega.{arith}
use lib.ListN.{length}
use Rattle.definitions.specs.Reply.{answered}
use Rattle.definitions.specs.Graph.{slot_count, graph_of, true_count}
use Rattle.definitions.specs.Rule.{side_limit, source_count, rule_of, SoundRule}
use Rattle.definitions.specs.Match.{image_of, Match}
use Rattle.definitions.specs.Operations.{map_bytes, images_in}
use Rattle.definitions.specs.ReadElsewhere.{is_match_map, is_inner, elsewhere_answer}
use Rattle.laws.proofs.Rule.{few_sources_lem}
use Rattle.laws.proofs.Operations.{asked_no_match, asked_no_vertex, asked_answer}
use Rattle.graph_check.proofs.Readable.{graph_readable}
use Rattle.rule_fields.specs.Fixed.{fixed_of}
use Rattle.rule_check.proofs.Readable.{rule_lent, rule_same, working}
use Rattle.match_map.specs.Holding.{places_in, is_map_of}
use Rattle.match_map.proofs.Laws.{lent_map}
use Rattle.read_elsewhere.proofs.Laws.{asked_match, asked_vertex, asked_image, asked_slot}
use Rattle.read_elsewhere.proofs.answer.Goals as goal

module _ (graph rule map : List ℕ) (vertex : ℕ) (sound : SoundRule rule) where
  few_vertices_lem : source_count rule ≤ side_limit
  few_vertices_lem = few_sources_lem rule side_limit sound.header

  -- what is tested is whether the map is a match of the block's rule
  tested-map : length map ≡ map_bytes → (b : Bool) → b ≡ is_map_of (graph_of graph) (fixed_of rule) (places_in map) map
      → b ≡ is_match_map graph rule map
  tested-map size b e = e ∙ lent_map graph rule map (rule_lent rule sound) size

  tested-inner : (b : Bool) → b ≡ is_inner (fixed_of rule) vertex → b ≡ is_inner (rule_of rule) vertex
  tested-inner b e = rw (rule_same rule sound) at e

  -- the vertex may be asked about
  inside : (b : Bool) → b ≡ is_inner (fixed_of rule) vertex → b ≡ true → vertex < source_count rule
  inside b e t = asked_vertex graph rule map vertex (sym (tested-inner b e) ∙ t)

  few : (b : Bool) → b ≡ is_inner (fixed_of rule) vertex → b ≡ true → vertex < side_limit
  few b e t = omega (arith, inside b e t, few_vertices_lem)

  -- the map is a match, and so it has a slot for the vertex
  matched : length map ≡ map_bytes → (b : Bool) → b ≡ is_map_of (graph_of graph) (fixed_of rule) (places_in map) map → b ≡ true
      → Match (graph_of graph) (rule_of rule) (images_in map (source_count rule))
  matched size b e t = asked_match graph rule map vertex (sym (tested-map size b e) ∙ t)

pub is_match-matches-requires-clause-working_rule : goal.is_match-matches-requires-clause-working_rule
is_match-matches-requires-clause-working_rule c = working c.args.rule.now c.requires.sound_rule

pub is_match-matches-requires-clause-map_fits : goal.is_match-matches-requires-clause-map_fits
is_match-matches-requires-clause-map_fits c = record {
  enough = omega (
    arith,
    few_vertices_lem c.args.graph.now c.args.rule.now c.args.map.now c.args.vertex c.requires.sound_rule,
    c.requires.map_len,
  );
  few = omega (arith, c.requires.map_len);
}

pub is_inner-inner-requires : goal.is_inner-inner-requires
is_inner-inner-requires c = (working c.args.rule.now c.requires.sound_rule).readable.whole

pub returns-then-not-matches : goal.returns-then-not-matches
returns-then-not-matches c =
    c.refuse.ensures
    ∙ sym (asked_no_match c.args.graph.now c.args.rule.now c.args.map.now c.args.vertex
    (sym (tested-map c.args.graph.now c.args.rule.now c.args.map.now c.args.vertex c.requires.sound_rule c.requires.map_len
    c.is_match-matches.result c.is_match-matches.ensures) ∙ c.if-not-matches.true))

pub returns-then-not-inner : goal.returns-then-not-inner
returns-then-not-inner c =
    c.refuse-then-not-inner.ensures
    ∙ sym (asked_no_vertex c.args.graph.now c.args.rule.now c.args.map.now c.args.vertex
    (sym (tested-map c.args.graph.now c.args.rule.now c.args.map.now c.args.vertex c.requires.sound_rule c.requires.map_len
    c.is_match-matches.result c.is_match-matches.ensures) ∙ c.if-not-matches.false)
    (sym (tested-inner c.args.graph.now c.args.rule.now c.args.map.now c.args.vertex c.requires.sound_rule
    c.is_inner-inner.result c.is_inner-inner.ensures) ∙ c.if-not-inner.true))

pub overflow_mul-vertex : goal.overflow_mul-vertex
overflow_mul-vertex c =
    omega (
      arith,
      few c.args.graph.now c.args.rule.now c.args.map.now c.args.vertex c.requires.sound_rule c.is_inner-inner.result
          c.is_inner-inner.ensures c.if-not-inner.false,
    )

pub u16_at-image-requires : goal.u16_at-image-requires
u16_at-image-requires c =
    omega (
      arith,
      few c.args.graph.now c.args.rule.now c.args.map.now c.args.vertex c.requires.sound_rule c.is_inner-inner.result
          c.is_inner-inner.ensures c.if-not-inner.false,
      c.requires.map_len,
    )

pub stored_count-count-requires-clause-whole_graph : goal.stored_count-count-requires-clause-whole_graph
stored_count-count-requires-clause-whole_graph c = (graph_readable c.args.graph.now c.requires.sound_graph).whole

pub stored_count-count-requires-clause-k_bound : goal.stored_count-count-requires-clause-k_bound
stored_count-count-requires-clause-k_bound c =
    let within = inside c.args.graph.now c.args.rule.now c.args.map.now c.args.vertex c.requires.sound_rule c.is_inner-inner.result
    c.is_inner-inner.ensures c.if-not-inner.false in
    let is = matched c.args.graph.now c.args.rule.now c.args.map.now c.args.vertex c.requires.sound_rule c.requires.map_len
    c.is_match-matches.result c.is_match-matches.ensures c.if-not-matches.false in
    rw c.u16_at-image.ensures.0 (asked_slot c.args.graph.now c.args.rule.now c.args.map.now c.args.vertex within is)

pub named_elsewhere-requires-clause-working_rule : goal.named_elsewhere-requires-clause-working_rule
named_elsewhere-requires-clause-working_rule c = working c.args.rule.now c.requires.sound_rule

pub named_elsewhere-requires-clause-j_bound : goal.named_elsewhere-requires-clause-j_bound
named_elsewhere-requires-clause-j_bound c =
    inside c.args.graph.now c.args.rule.now c.args.map.now c.args.vertex c.requires.sound_rule c.is_inner-inner.result
    c.is_inner-inner.ensures c.if-not-inner.false

pub returns : goal.returns
unfolding elsewhere_answer
returns c =
    let within = inside c.args.graph.now c.args.rule.now c.args.map.now c.args.vertex c.requires.sound_rule c.is_inner-inner.result
    c.is_inner-inner.ensures c.if-not-inner.false in
    let is = matched c.args.graph.now c.args.rule.now c.args.map.now c.args.vertex c.requires.sound_rule c.requires.map_len
    c.is_match-matches.result c.is_match-matches.ensures c.if-not-matches.false in
    let slot : c.u16_at-image.result < slot_count c.args.graph.now
    = rw c.u16_at-image.ensures.0 (asked_slot c.args.graph.now c.args.rule.now c.args.map.now c.args.vertex within is) in
    let image : image_of (images_in c.args.map.now (source_count c.args.rule.now)) c.args.vertex ≡ c.u16_at-image.result
    = asked_image c.args.graph.now c.args.rule.now c.args.map.now c.args.vertex within ∙ sym c.u16_at-image.ensures.0 in
    let count : true_count (graph_of c.args.graph.now)
    (image_of (images_in c.args.map.now (source_count c.args.rule.now)) c.args.vertex) ≡ c.stored_count-count.result
    = ap (true_count (graph_of c.args.graph.now)) image ∙ sym (c.requires.sound_graph.counts c.u16_at-image.result slot)
    ∙ sym c.stored_count-count.ensures.0 in
    c.answer_with.ensures
    ∙ ap answered (rw (rule_same c.args.rule.now c.requires.sound_rule) at (c.named_elsewhere.ensures.means (graph_of c.args.graph.now)
    (images_in c.args.map.now (source_count c.args.rule.now)) (rw (rule_same c.args.rule.now c.requires.sound_rule) is) count))
    ∙ sym (asked_answer c.args.graph.now c.args.rule.now c.args.map.now c.args.vertex
    (sym (tested-map c.args.graph.now c.args.rule.now c.args.map.now c.args.vertex c.requires.sound_rule c.requires.map_len
    c.is_match-matches.result c.is_match-matches.ensures) ∙ c.if-not-matches.false)
    (sym (tested-inner c.args.graph.now c.args.rule.now c.args.map.now c.args.vertex c.requires.sound_rule
    c.is_inner-inner.result c.is_inner-inner.ensures) ∙ c.if-not-inner.false))
