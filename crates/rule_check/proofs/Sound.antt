-- The reply to a rule block: done exactly where the block is a sound rule, and else the first kind of fault that holds, with its place,
-- both by the papers' words.
-- Assumes nothing.
use mathlib.Core.Path.{◌≡◌, sym, ap, ◌∙◌, subst}
use mathlib.Core.Bool.{Bool, true, false, and-false}
use mathlib.Core.List.{List, Memᴰ}
use mathlib.Core.Logic.{⊎_elim}
use Prim.Native.Nat.{ℕ, ◌+◌, ◌-◌, ◌<◌, ◌≤◌}
use native.Mathlib.Omega.{arith}
use borrow.Author.Tests.{lt-ltb, le-ltb, ltb-true, ltb-false, not-true}
use lib.Dec.{ltb}
use lib.ListN.{length, get_or}
use Rattle.definitions.specs.Lists.{lowest, all, all_below, range}
use Rattle.definitions.specs.Fields.{byte_at}
use Rattle.definitions.specs.Paths.{Reads}
use Rattle.definitions.specs.Reply.{Reply, bad_rule_record, bad_rule_order, bad_rule_expression, done, refused_at}
use Rattle.definitions.specs.Rule.{side_limit, source_count, target_count, node_count, vertex_at, Rule, rule_of, source_inputs, rule_header_fits, origin_fits, source_inputs_fit, target_inputs_fit, bad_vertex, traversal, out_of_order, reaches, source_outputs_fit, connected, all_named, outputs_fit, node_fits, bad_node, use_fits, bad_use, rule_reply, GoodOutputs, SoundRule, bad_vertex_of}
use Rattle.definitions.specs.Faults.{None, BadVertex, Misplaced, BadNode, BadUse, RuleFault, header, vertex, order, outputs, node, attribute}
use Rattle.laws.proofs.Lists.{decided, passes, fails, true_not_false, needed, all-member, all_members, all_below_at, all_below_some, any_below-found, any_below_some, get_or_any}
use Rattle.laws.proofs.Faults.{by_place, Decides, found-lowest, found_none, lowest_is, lowest-inside, none_found, Ruling, good, bad, Judges, done_only, done_every}
use Rattle.laws.proofs.Ranges.{length-range, range_at}
use Rattle.laws.proofs.Rule.{length-source, length-target, outputs_below, inputs_lower}
use Rattle.rule_connection.proofs.Reached.{reached_path, path_reached}
use Rattle.rule_order.proofs.Laws.{in_place}
use Rattle.rule_order.proofs.Once.{visited_in_order, traversal-whole}
use Rattle.rule_check.proofs.Laws as laws

module _ (block : List ℕ) where
  abbrev r : Rule
  r = rule_of block

  abbrev vertices : ℕ
  vertices = source_count block + target_count block

  -- ---- what computes each fault decides it

  vertices_decided : Decides (bad_vertex block) vertices (BadVertex block)
  vertices_decided = record { only = λ v l t. (l, t); every = λ v b. b }

  nodes_decided : Decides (bad_node block) (node_count block) (BadNode block)
  unfolding bad_node
  nodes_decided = record { only = λ k l t. (l, not-true (node_fits block k) t); every = λ k b. (b.0, simp b.1) }

  uses_decided : Decides (bad_use block) vertices (BadUse block)
  unfolding bad_use
  uses_decided = record {
    only = λ v l t. (l, all_below_some (fits v) (count v) (λ s. true_not_false s (not-true (all_below (fits v) (count v)) t)));
    every = λ v b. (
      b.0,
      simp (fails {b = all_below (fits v) (count v)} (λ t. true_not_false (all_below_at (fits v) (count v) b.1.0 t b.1.1) b.1.2)),
    );
  }
    where
      fits : ℕ → ℕ → Bool
      fits v i = use_fits block v (byte_at block (vertex_at v + 10 + i))

      count : ℕ → ℕ
      count v = byte_at block (vertex_at v + 3)

  order_decided : Decides (out_of_order r) (source_count block) (Misplaced block)
  order_decided = record {
    only = λ j l t. (l, λ seen. true_not_false t (in_place r j (get_or_any (traversal r) j (length r.source) 0 seen.0 ∙ seen.1)));
    every = λ j b. (b.0, passes (λ f. b.1 (visited_in_order r j (rw (length-source block) b.0) f)));
  }

  -- ---- where no vertex is bad

  module _ (h : rule_header_fits side_limit block ≡ true) (none : None (BadVertex block)) where
    abbrev good-vertices : vertices ≤ lowest (bad_vertex block) vertices
    good-vertices = none_found vertices_decided none

    lower_inputs_lem : (j : ℕ) → j < source_count block → source_inputs_fit r j ≡ true
    lower_inputs_lem j l =
        needed (source_inputs_fit r j) (laws.good block good-vertices j (omega arith))
        (λ e. simp (lt-ltb j (source_count block) l, e, and-false))

    named-inputs : (t : ℕ) → t < target_count block → target_inputs_fit r t ≡ true
    named-inputs t l =
        let v = source_count block + t in
        let same : source_count block + t - source_count block ≡ t = omega arith in
        needed (target_inputs_fit r t) (laws.good block good-vertices v (omega arith))
        (λ e. simp (le-ltb v (source_count block) (omega arith), same, e, and-false))

    output-inside : (o : ℕ) → Memᴰ o r.source_outputs → o < length r.source
    output-inside o m = rw (length-source block) (outputs_below block side_limit h o m)

    lower : (j u : ℕ) → Reads (source_inputs r) j u → u < j
    lower = inputs_lower block lower_inputs_lem

    -- the traversal is 0, 1, .. S - 1 where no vertex is misplaced
    ordered : None (Misplaced block) → traversal r ≡ range 0 (source_count block)
    ordered none =
        traversal-whole r lower output-inside
        (λ j l. fails {b = out_of_order r j} (λ t. none j (order_decided.only j (rw (length-source block) at l) t)))
        ∙ ap (range 0) (length-source block)

    good-outputs : outputs_fit r ≡ true → GoodOutputs block
    unfolding outputs_fit connected
    good-outputs t =
        let joined = needed (connected r) t (λ e. simp (e, and-false)) in
        let found = any_below_some (λ v. all (reaches r v) r.source_outputs) (length r.source) joined in
        record {
          source = needed (source_outputs_fit r) t (λ e. simp e);
          connection = (
            found.0,
            omega (arith, found.1, length-source block),
            λ o m. reached_path r lower found.0 o (output-inside o m) (all-member (reaches r found.0) found.2 m),
          );
          target = rw (← length-target block)
              (needed (all (origin_fits r (length r.target)) r.target_outputs) t (λ e. simp (e, and-false)));
          names = needed (all_named r) t (λ e. simp (e, and-false));
        }

    joined : GoodOutputs block → connected r ≡ true
    unfolding connected
    joined g =
        let v = g.connection.0 in
        any_below-found (λ v. all (reaches r v) r.source_outputs) (length r.source) v
        (rw (length-source block) g.connection.1)
        (all_members (reaches r v) r.source_outputs (λ o m. path_reached r lower v o (output-inside o m) (g.connection.2 o m)))

    outputs-good : GoodOutputs block → outputs_fit r ≡ true
    unfolding outputs_fit
    outputs-good g = simp (g.source, joined g, length-target block, g.target, g.names)

  -- ---- each fault is told

  told : {n p : ℕ} → RuleFault block n p → rule_reply block ≡ refused_at n p
  told (header h) = sym (laws.refused-header block h)
  told (vertex h low) =
      sym (laws.refused-vertex block h (lowest-inside vertices_decided low)) ∙ ap (refused_at bad_rule_record) (lowest_is vertices_decided low)
  told (order h none low) =
      sym (laws.refused-order block h (none_found vertices_decided none) (lowest-inside order_decided low))
      ∙ ap (refused_at bad_rule_order) (lowest_is order_decided low)
  told (outputs h none visited unfit) =
      sym (laws.refused-outputs block h (none_found vertices_decided none) (none_found order_decided visited)
      (fails (λ t. unfit (good-outputs h none t))))
  told (node h none visited fit low) =
      sym (laws.refused-node block h (none_found vertices_decided none) (none_found order_decided visited) (outputs-good h none fit)
      (lowest-inside nodes_decided low))
      ∙ ap (refused_at bad_rule_expression) (lowest_is nodes_decided low)
  told (attribute h none visited fit nodes low) =
      sym (laws.refused_use block h (none_found vertices_decided none) (none_found order_decided visited) (outputs-good h none fit)
      (none_found nodes_decided nodes) (lowest-inside uses_decided low))
      ∙ ap (refused_at bad_rule_expression) (lowest_is uses_decided low)

  -- ---- no sound block has one

  vertex-good : SoundRule block → (v : ℕ) → v < vertices → bad_vertex block v ≡ false
  unfolding bad_vertex_of
  vertex-good s v l =
      ⊎_elim (λ (t : ltb v (source_count block) ≡ true). simp (s.patterns v l, t, s.lower_inputs v (ltb-true v (source_count block) t)))
      (λ (t : ltb v (source_count block) ≡ false).
      simp (s.patterns v l, t, s.named_inputs (v - source_count block) (omega (arith, ltb-false v (source_count block) t))))
      (decided (ltb v (source_count block)))

  apart : {n p : ℕ} → SoundRule block → RuleFault block n p → ⊥
  apart s (header h) = true_not_false s.header h
  apart s (vertex {v} h low) = true_not_false low.bad.1 (vertex-good s v low.bad.0)
  apart s (order {j} h none low) =
      low.bad.1 (
        omega (arith, low.bad.0, ap length s.order, length-range (source_count block)),
        ap (λ (xs : List ℕ). get_or xs j 0) s.order ∙ range_at (source_count block) j 0 low.bad.0,
      )
  apart s (outputs h none visited unfit) = unfit s.outputs
  apart s (node {k} h none visited fit low) = true_not_false (s.nodes k low.bad.0) low.bad.1
  apart s (attribute {v} h none visited fit nodes low) =
      true_not_false (s.uses v low.bad.1.0 low.bad.0 low.bad.1.1) low.bad.1.2

  -- ---- the reply rules that there is a fault, or none

  abbrev Ruled : Reply → Type 0
  Ruled = Ruling (SoundRule block) (RuleFault block)

  module _ (h : rule_header_fits side_limit block ≡ true) (fit : vertices ≤ lowest (bad_vertex block) vertices) where
    no_vertex_lem : None (BadVertex block)
    no_vertex_lem = found_none vertices_decided fit

    module _ (visited : source_count block ≤ lowest (out_of_order r) (source_count block)) (joins : outputs_fit r ≡ true) where
      no_misplaced : None (Misplaced block)
      no_misplaced = found_none order_decided visited

      outputs-joined : GoodOutputs block
      outputs-joined = good-outputs h no_vertex_lem joins

      rules_use : node_count block ≤ lowest (bad_node block) (node_count block) → Ruled (rule_reply block)
      rules_use nodes =
          let no__node = found_none nodes_decided nodes in
          by_place vertices (lowest (bad_use block) vertices)
          (λ l. subst Ruled (laws.refused_use block h fit visited joins nodes l)
          (bad (attribute h no_vertex_lem no_misplaced outputs-joined no__node (found-lowest uses_decided l))))
          (λ l. subst Ruled (laws.sound block h fit visited joins nodes l)
          (good (record {
            header = h;
            patterns = laws.pattern block fit;
            lower_inputs = lower_inputs_lem h no_vertex_lem;
            named_inputs = named-inputs h no_vertex_lem;
            order = ordered h no_vertex_lem no_misplaced;
            outputs = outputs-joined;
            nodes = λ k b. passes (λ f. no__node k (b, f));
            uses = λ v i b m. passes (λ f. found_none uses_decided l v (b, (i, m, f)));
          })))

      rules_node : Ruled (rule_reply block)
      rules_node =
          by_place (node_count block) (lowest (bad_node block) (node_count block))
          (λ l. subst Ruled (laws.refused-node block h fit visited joins l)
          (bad (node h no_vertex_lem no_misplaced outputs-joined (found-lowest nodes_decided l))))
          rules_use

    rules_outputs : source_count block ≤ lowest (out_of_order r) (source_count block) → Ruled (rule_reply block)
    rules_outputs visited = ⊎_elim (rules_node visited)
        (λ (f : outputs_fit r ≡ false).
        subst Ruled (laws.refused-outputs block h fit visited f)
        (bad (outputs h no_vertex_lem (found_none order_decided visited) (λ g. true_not_false (outputs-good h no_vertex_lem g) f))))
        (decided (outputs_fit r))

    rules_order : Ruled (rule_reply block)
    rules_order =
        by_place (source_count block) (lowest (out_of_order r) (source_count block))
        (λ l. subst Ruled (laws.refused-order block h fit l) (bad (order h no_vertex_lem (found-lowest order_decided l))))
        rules_outputs

  rules_vertex : rule_header_fits side_limit block ≡ true → Ruled (rule_reply block)
  rules_vertex h =
      by_place vertices (lowest (bad_vertex block) vertices)
      (λ l. subst Ruled (laws.refused-vertex block h l) (bad (vertex h (found-lowest vertices_decided l))))
      (rules_order h)

  rules : Ruled (rule_reply block)
  rules = ⊎_elim rules_vertex
      (λ (f : rule_header_fits side_limit block ≡ false). subst Ruled (laws.refused-header block f) (bad (header f)))
      (decided (rule_header_fits side_limit block))

  -- ---- so the reply judges the block

  pub rule-judged : Judges (SoundRule block) (RuleFault block) (rule_reply block)
  rule-judged = record { ruling = rules; apart = apart; told = told }

  -- the reply is done for sound rules alone
  pub only_sound : rule_reply block ≡ done → SoundRule block
  only_sound = done_only rule-judged

  -- and for every sound rule
  pub every_sound : SoundRule block → rule_reply block ≡ done
  every_sound = done_every rule-judged
