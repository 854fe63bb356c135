-- Each way to return is one step of `match_images`. Inputs come in visiting order, so a vertex is the next once its inputs are matched.
use mathlib.Core.Path.{◌≡◌, refl, sym, ◌∙◌}
use mathlib.Core.Bool.{true}
use Prim.Native.Nat.{suc, ◌<◌, max}
use native.Mathlib.Omega.{arith}
use lib.ListN.{length, get_or}
use Rattle.definitions.specs.Graph.{slot_count, graph_of, inputs_of}
use Rattle.definitions.specs.Rule.{side_capacity, source_inputs}
use Rattle.rule_fields.specs.Fixed.{fixed_of}
use Rattle.laws.proofs.Lists.{true_not_false}
use Rattle.laws.proofs.Match.{image-at}
use Rattle.rule_fields.proofs.Fixed.{length-source}
use Rattle.rule_order.specs.InOrder.{visited_after}
use Rattle.rule_order.proofs.InOrder.{in_order-inputs, in_order-here}
use Rattle.match_look.specs.Candidate.{is_candidate}
use Rattle.match_look.specs.Head.{head_in}
use Rattle.match_look.proofs.Candidates.{Formed, formed, candidate_suits, candidate_looked, candidate_inputs}
use Rattle.match_images.proofs.Steps.{mapped, no_candidate, inputs_fail, inputs_pass, inputs-done, input_in_order, others_in_order, input_fails, input_passes}
use Rattle.matching.proofs.+match_candidate_match_inputs_match_vertex.Goals as goal

-- ---- match_candidate

pub match_candidate-match_inputs-requires : goal.match_candidate-match_inputs-requires
match_candidate-match_inputs-requires t c =
    let well : Formed (fixed_of c.args.rule.now) = formed c.args.rule.now c.requires.setting.matchable in (
      omega arith,
      record {
        setting = c.requires.setting;
        vertex = c.requires.vertex;
        slot = c.requires.slot;
        candidate = c.requires.candidate;
        place = omega arith;
        partial = c.requires.partial;
        order = in_order-inputs (fixed_of c.args.rule.now) c.args.next c.args.j (well.lower c.args.j) c.requires.order
            c.requires.fresh;
      },
    )

pub match_candidate-returns-else-match_inputs : goal.match_candidate-returns-else-match_inputs
match_candidate-returns-else-match_inputs t c =
    let inside : c.args.j < length (fixed_of c.args.rule.now).source = rw (length-source c.args.rule.now) c.requires.vertex in
    rw c.if-match_inputs.false (inputs_fail (graph_of c.args.graph.now) (fixed_of c.args.rule.now)
    (formed c.args.rule.now c.requires.setting.matchable) c.args.j c.args.v inside c.match_inputs.ensures c.if-match_inputs.false)

-- once the inputs are matched, the vertex itself is the next
pub match_candidate-settle-requires : goal.match_candidate-settle-requires
match_candidate-settle-requires t c =
    let well : Formed (fixed_of c.args.rule.now) = formed c.args.rule.now c.requires.setting.matchable in
    let next_is : visited_after c.args.next (source_inputs (fixed_of c.args.rule.now) c.args.j) ≡ c.args.j =
    in_order-here (fixed_of c.args.rule.now) c.args.next c.args.j (well.lower c.args.j) c.requires.order c.requires.fresh in
    record {
      readable = c.requires.setting.readable;
      matchable = c.requires.setting.matchable;
      vertex = c.requires.vertex;
      slot = c.requires.slot;
      candidate = c.requires.candidate;
      partial = rw next_is at (c.match_inputs.ensures.partial c.if-match_inputs.true);
      inputs = c.match_inputs.ensures.meets c.if-match_inputs.true;
    }

pub match_candidate-returns-then-match_inputs : goal.match_candidate-returns-then-match_inputs
match_candidate-returns-then-match_inputs t c =
    let inside : c.args.j < length (fixed_of c.args.rule.now).source = rw (length-source c.args.rule.now) c.requires.vertex in
    let well : Formed (fixed_of c.args.rule.now) = formed c.args.rule.now c.requires.setting.matchable in
    let next_is : visited_after c.args.next (source_inputs (fixed_of c.args.rule.now) c.args.j) ≡ c.args.j =
    in_order-here (fixed_of c.args.rule.now) c.args.next c.args.j (well.lower c.args.j) c.requires.order c.requires.fresh in
    inputs_pass (graph_of c.args.graph.now) (fixed_of c.args.rule.now) well c.args.j c.args.v inside c.match_inputs.ensures
    c.if-match_inputs.true next_is c.requires.fresh c.settle.ensures

-- ---- match_inputs

pub match_inputs-returns-then-i-source_input_count : goal.match_inputs-returns-then-i-source_input_count
match_inputs-returns-then-i-source_input_count t c =
    inputs-done (graph_of c.args.graph.now) (fixed_of c.args.rule.now) c.args.j c.args.v c.args.i
    (omega (arith, c.source_input_count.ensures.0, c.if-i-source_input_count.true)) c.requires.partial

-- the slot has an input in the same place
pub match_inputs-input_at-w-requires-clause-i_in_bounds : goal.match_inputs-input_at-w-requires-clause-i_in_bounds
match_inputs-input_at-w-requires-clause-i_in_bounds t c =
    let inside : c.args.j < length (fixed_of c.args.rule.now).source = rw (length-source c.args.rule.now) c.requires.vertex in
    let left : c.args.i < length (source_inputs (fixed_of c.args.rule.now) c.args.j) =
    omega (arith, c.source_input_count.ensures.0, c.if-i-source_input_count.false, c.requires.place) in
    omega (
      arith,
      left,
      candidate_inputs (graph_of c.args.graph.now) (fixed_of c.args.rule.now)
          (formed c.args.rule.now c.requires.setting.matchable) c.args.j c.args.v inside c.requires.candidate,
    )

-- an input is lower than its vertex
pub match_inputs-match_vertex-requires : goal.match_inputs-match_vertex-requires
match_inputs-match_vertex-requires t c =
    let inside : c.args.j < length (fixed_of c.args.rule.now).source = rw (length-source c.args.rule.now) c.requires.vertex in
    let left : c.args.i < length (source_inputs (fixed_of c.args.rule.now) c.args.j) =
    omega (arith, c.source_input_count.ensures.0, c.if-i-source_input_count.false, c.requires.place) in
    let also : c.args.i < length (inputs_of (graph_of c.args.graph.now) c.args.v) = omega (
      arith,
      left,
      candidate_inputs (graph_of c.args.graph.now) (fixed_of c.args.rule.now)
          (formed c.args.rule.now c.requires.setting.matchable) c.args.j c.args.v inside c.requires.candidate,
    ) in
    let lower : c.source_input-u.result < c.args.j = rw c.source_input-u.ensures.0
    (c.requires.setting.matchable.layered.lower c.args.j c.args.i c.requires.vertex left) in
    let named : c.input_at-w.result < slot_count c.args.graph.now = rw c.input_at-w.ensures.0
    (c.requires.setting.closed.named c.args.v c.args.i c.requires.slot also) in
    let few : c.args.i < 6 = omega (arith, left, c.source_input_count.ensures.0, c.source_input_count.ensures.1) in (
      omega arith,
      record {
        setting = c.requires.setting;
        vertex = omega arith;
        slot = named;
        partial = c.requires.partial;
        order = input_in_order (graph_of c.args.graph.now) (fixed_of c.args.rule.now) c.args.j c.args.v c.args.i
            c.source_input-u.result c.input_at-w.result left c.source_input-u.ensures.0 c.input_at-w.ensures.0 c.args.next
            c.requires.order;
      },
    )

pub match_inputs-match_inputs-requires : goal.match_inputs-match_inputs-requires
match_inputs-match_inputs-requires t c =
    let left : c.args.i < length (source_inputs (fixed_of c.args.rule.now) c.args.j) =
    omega (arith, c.source_input_count.ensures.0, c.if-i-source_input_count.false, c.requires.place) in
    let few : c.args.i < 6 = omega (arith, left, c.source_input_count.ensures.0, c.source_input_count.ensures.1) in
    let reached : c.max-reached.result ≡ max c.args.next (suc c.source_input-u.result) =
    omega (arith, c.max-reached.ensures) in (
      omega arith,
      record {
        setting = c.requires.setting;
        vertex = c.requires.vertex;
        slot = c.requires.slot;
        candidate = c.requires.candidate;
        place = omega arith;
        partial = rw reached (c.match_vertex.ensures.step.partial c.if-not-match_vertex.false);
        order = others_in_order (graph_of c.args.graph.now) (fixed_of c.args.rule.now) c.args.j c.args.v c.args.i
            c.source_input-u.result c.input_at-w.result left c.source_input-u.ensures.0 c.input_at-w.ensures.0 c.args.next
            c.max-reached.result c.requires.order reached;
      },
    )

pub match_inputs-returns-then-not-match_vertex : goal.match_inputs-returns-then-not-match_vertex
match_inputs-returns-then-not-match_vertex t c =
    let left : c.args.i < length (source_inputs (fixed_of c.args.rule.now) c.args.j) =
    omega (arith, c.source_input_count.ensures.0, c.if-i-source_input_count.false, c.requires.place) in
    input_fails (graph_of c.args.graph.now) (fixed_of c.args.rule.now) c.args.j c.args.v c.args.i c.source_input-u.result
    c.input_at-w.result left c.source_input-u.ensures.0 c.input_at-w.ensures.0 c.match_vertex.ensures.step
    c.if-not-match_vertex.true

pub match_inputs-returns : goal.match_inputs-returns
match_inputs-returns t c =
    let left : c.args.i < length (source_inputs (fixed_of c.args.rule.now) c.args.j) =
    omega (arith, c.source_input_count.ensures.0, c.if-i-source_input_count.false, c.requires.place) in
    let reached : c.max-reached.result ≡ max c.args.next (suc c.source_input-u.result) =
    omega (arith, c.max-reached.ensures) in
    input_passes (graph_of c.args.graph.now) (fixed_of c.args.rule.now) c.args.j c.args.v c.args.i c.source_input-u.result
    c.input_at-w.result left c.source_input-u.ensures.0 c.input_at-w.ensures.0 reached c.match_vertex.ensures.step
    c.if-not-match_vertex.false c.match_inputs.ensures

-- ---- match_vertex

pub match_vertex-returns-then-j-next : goal.match_vertex-returns-then-j-next
match_vertex-returns-then-j-next t c =
    let place : c.args.j < side_capacity = omega (arith, c.requires.vertex, c.requires.setting.matchable.readable.whole.source) in
    record {
      step = rw c.is_image.ensures
          (mapped (graph_of c.args.graph.now) (fixed_of c.args.rule.now) c.args.next c.args.images.now c.requires.partial c.args.j
          c.args.v (get_or c.args.images.now c.args.j 0)
          (image-at c.args.images.now c.args.j (omega (arith, c.requires.partial.size, place))) c.if-j-next.true);
      after_no = λ h f. absurd (omega (arith, c.if-j-next.true));
    }

-- whether v suits is whether it is a candidate for j
pub match_vertex-returns-else-suits : goal.match_vertex-returns-else-suits
match_vertex-returns-else-suits t c =
    let suited : c.suits.result ≡ is_candidate (graph_of c.args.graph.now) (fixed_of c.args.rule.now) c.args.j c.args.v =
    c.suits.ensures ∙ candidate_suits (graph_of c.args.graph.now) (fixed_of c.args.rule.now) c.args.j c.args.v
    (head_in c.pattern_head-head.result) (get_or c.args.demands.now c.args.j 0) c.pattern_head-head.ensures
    (c.requires.setting.demands.1 c.args.j c.requires.vertex) in
    rw c.if-suits.false record {
      step = no_candidate (graph_of c.args.graph.now) (fixed_of c.args.rule.now)
          (formed c.args.rule.now c.requires.setting.matchable) c.args.j c.args.v
          (rw (length-source c.args.rule.now) c.requires.vertex) c.requires.partial.size (sym suited ∙ c.if-suits.false);
      after_no = λ h f. (refl, refl);
    }

pub match_vertex-match_candidate-requires : goal.match_vertex-match_candidate-requires
match_vertex-match_candidate-requires t c =
    let suited : c.suits.result ≡ is_candidate (graph_of c.args.graph.now) (fixed_of c.args.rule.now) c.args.j c.args.v =
    c.suits.ensures ∙ candidate_suits (graph_of c.args.graph.now) (fixed_of c.args.rule.now) c.args.j c.args.v
    (head_in c.pattern_head-head.result) (get_or c.args.demands.now c.args.j 0) c.pattern_head-head.ensures
    (c.requires.setting.demands.1 c.args.j c.requires.vertex) in (
      omega arith,
      record {
        setting = c.requires.setting;
        vertex = c.requires.vertex;
        slot = c.requires.slot;
        candidate = sym suited ∙ c.if-suits.true;
        fresh = c.if-j-next.false;
        partial = c.requires.partial;
        order = c.requires.order;
      },
    )

pub match_vertex-returns-then-suits : goal.match_vertex-returns-then-suits
match_vertex-returns-then-suits t c =
    let suited : c.suits.result ≡ is_candidate (graph_of c.args.graph.now) (fixed_of c.args.rule.now) c.args.j c.args.v =
    c.suits.ensures ∙ candidate_suits (graph_of c.args.graph.now) (fixed_of c.args.rule.now) c.args.j c.args.v
    (head_in c.pattern_head-head.result) (get_or c.args.demands.now c.args.j 0) c.pattern_head-head.ensures
    (c.requires.setting.demands.1 c.args.j c.requires.vertex) in
    let candidate : is_candidate (graph_of c.args.graph.now) (fixed_of c.args.rule.now) c.args.j c.args.v ≡ true =
    sym suited ∙ c.if-suits.true in
    record {
      step = c.match_candidate.ensures;
      after_no = λ h f. absurd (true_not_false
          (candidate_looked (graph_of c.args.graph.now) (fixed_of c.args.rule.now) c.args.j c.args.v candidate) f);
    }
