-- What the replies to a request for a rewriting mean, for the C side: theorems from the contract of lg_rewrite alone.
-- Assumes nothing.
use mathlib.Core.Path.{◌≡◌, refl, sym, ◌∙◌, subst}
use mathlib.Core.Bool.{true, false, or-true}
use mathlib.Core.List.{List, [], ◌∷◌}
use mathlib.Core.Logic.{⊎_elim}
use mathlib.Core.Option.{none, some}
use Prim.Native.Nat.{ℕ, ◌<◌, ◌^◌}
use native.Mathlib.Omega.{arith}
use lib.Dec.{eqb}
use lib.IntN.{ℤ}
use lib.ListN.{length}
use Rattle.definitions.specs.Lists.{member}
use Rattle.definitions.specs.Paths.{Acyclic}
use Rattle.definitions.specs.Reply as Reply
use Rattle.definitions.specs.Reply.{no_match, no_result, no_room, new_cycle, refusal_at, refusal, refused, number_of, number_in, value_in}
use Rattle.definitions.specs.Graph.{Graph, graph_of, inputs_of, graph_block, has_cycle, SoundGraph}
use Rattle.definitions.specs.Rule.{side_limit, source_count, Rule, rule_of, SoundRule}
use Rattle.definitions.specs.Match.{read_attribute, Match, MatchFrom, output_images, NotAfter, LeastFrom, least_match}
use Rattle.definitions.specs.Rewriting.{target_results, has_room, new_graph}
use Rattle.definitions.specs.Operations.{Outcome, outcome, at_return, returned, map_bytes, map_block, accepted, turned_down, rewritten, replaced, rewrite, images_in}
use Rattle.laws.proofs.Lists.{decided, true_not_false, option_either}
use Rattle.laws.proofs.Members.{member-left}
use Rattle.laws.proofs.Reply.{Plain, plain_done, plain-refused}
use Rattle.laws.proofs.Rewriting.{rewritten-unfit, rewritten_full, rewritten-cyclic, rewritten-done}
use Rattle.theory.proofs.Paths.{Table}
use Rattle.theory.proofs.Results.{named_table}
use Rattle.theory.proofs.Fixing.{sound_fixing}
use Rattle.theory.proofs.Least.{none_left, search_least}
use Rattle.reachability.proofs.Cycles as cycles
use Rattle.rule_sound.proofs.Sound.{sound-block}
use Rattle.replacement.proofs.Site.{Site, site}
use Rattle.replacement.proofs.Table.{new-inputs}
use Rattle.answers.specs.Rewritten.{Due}
use Rattle.answers.specs.Statements.{Rewrote, Good, block_numbers, BlockReplies, WritesLeast, match_numbers, rewrite_numbers}
use Rattle.answers.proofs.Maps.{least_told, least_written}
use Rattle.answers.proofs.Blocks as Blocks
use Rattle.answers.proofs.Blocks.{Staged}
use Rattle.answers.proofs.Fit.{none_unfit, some_fit}
use Rattle.answers.proofs.Room.{room_enough, room-short}
use Rattle.answers.proofs.Exclusive.{due_one}

-- ---- reply 7: the test for a cycle is right about the new table

module _ (g : Graph) (r : Rule) (images : List ℕ) (values : List (List ℤ)) (at : Site g r images) where
  -- what its inputs name is among its slots, so the theorems about paths hold of it
  new-slots : Table (inputs_of (new_graph g r images values)) (length (new_graph g r images values).slots)
  new-slots = named_table (new_graph g r images values) (new-inputs g r images values at)

  pub free_acyclic : has_cycle (new_graph g r images values) ≡ false → Acyclic (inputs_of (new_graph g r images values))
  free_acyclic h = cycles.free_acyclic (new_graph g r images values) new-slots h

  acyclic_free : Acyclic (inputs_of (new_graph g r images values)) → has_cycle (new_graph g r images values) ≡ false
  acyclic_free acyclic = cycles.acyclic_free (new_graph g r images values) new-slots acyclic

-- ---- what good blocks come to, in document 01's order

module _ (graph rule : List ℕ) (start : ℕ) (before : List ℕ) where
  -- the graph and the rule for which the lent blocks stand
  abbrev g : Graph
  g = graph_of graph

  abbrev r : Rule
  r = rule_of rule

  abbrev new : List ℕ → List (List ℤ) → Graph
  new images values = new_graph g r images values

  abbrev Least : List ℕ → Type 0
  Least images = least_match g r start ≡ some images

  abbrev Values : List ℕ → List (List ℤ) → Type 0
  Values images values = target_results (read_attribute g images) r.target ≡ some values

  -- what a call on good blocks comes to
  rest : Outcome
  rest = elim (least_match g r start) [
    | none ↦ outcome (refused no_match) graph before
    | some found ↦ replaced graph rule before found
  ]

  none_rest : least_match g r start ≡ none → rest ≡ outcome (refused no_match) graph before
  unfolding rest
  none_rest e = rw (e, rest)

  -- the outcome of each test at the least match
  module _ (images : List ℕ) (least : Least images) where
    down_rest : (n : ℕ) → rewritten g r images ≡ turned_down (refusal n) → rest ≡ outcome (refused n) graph before
    unfolding rest replaced
    down_rest n e = rw (least, rest) (rw (e, replaced))

    accepted_rest : (made : Graph) → rewritten g r images ≡ accepted made → rest ≡ outcome Reply.done (graph_block made) (map_block images)
    unfolding rest replaced
    accepted_rest made e = rw (least, rest) (rw (e, replaced))

    unfit-rest : target_results (read_attribute g images) r.target ≡ none → rest ≡ outcome (refused no_result) graph before
    unfit-rest e = down_rest no_result (rewritten-unfit g r images e)

    module _ (values : List (List ℤ)) (have : Values images values) where
      full_rest : has_room g r images ≡ false → rest ≡ outcome (refused no_room) graph before
      full_rest h = down_rest no_room (rewritten_full g r images values have h)

      cyclic-rest : has_room g r images ≡ true → has_cycle (new images values) ≡ true → rest ≡ outcome (refused new_cycle) graph before
      cyclic-rest h c = down_rest new_cycle (rewritten-cyclic g r images values have h c)

      done-rest : has_room g r images ≡ true → has_cycle (new images values) ≡ false
          → rest ≡ outcome Reply.done (graph_block (new images values)) (map_block images)
      done-rest h c = accepted_rest (new images values) (rewritten-done g r images values have h c)

  -- why good blocks are refused, by the number
  data Reason : ℕ → Type 0 where
    unmatched : least_match g r start ≡ none → Reason no_match
    unfit : (images : List ℕ) → Least images → target_results (read_attribute g images) r.target ≡ none → Reason no_result
    full : (images : List ℕ) (values : List (List ℤ)) → Least images → Values images values → has_room g r images ≡ false
        → Reason no_room
    cyclic : (images : List ℕ) (values : List (List ℤ)) → Least images → Values images values → has_room g r images ≡ true
        → has_cycle (new images values) ≡ true → Reason new_cycle

  -- what the tests have shown, by the outcome that they come to
  data Tested : Outcome → Type 0 where
    refusing : (n : ℕ) → Reason n → Tested (outcome (refused n) graph before)
    done : (images : List ℕ) (values : List (List ℤ)) → Least images → Values images values → has_room g r images ≡ true
        → has_cycle (new images values) ≡ false → Tested (outcome Reply.done (graph_block (new images values)) (map_block images))

  -- every call on good blocks comes to one of these, stage by stage, from the last
  tested-values : (images : List ℕ) → Least images → (values : List (List ℤ)) → Values images values → Tested rest
  tested-values images least values have =
      ⊎_elim (λ (h : has_room g r images ≡ true).
      ⊎_elim (λ (c : has_cycle (new images values) ≡ true).
      subst Tested (sym (cyclic-rest images least values have h c)) (refusing new_cycle (cyclic images values least have h c)))
      (λ (c : has_cycle (new images values) ≡ false).
      subst Tested (sym (done-rest images least values have h c)) (done images values least have h c))
      (decided (has_cycle (new images values))))
      (λ (h : has_room g r images ≡ false).
      subst Tested (sym (full_rest images least values have h)) (refusing no_room (full images values least have h)))
      (decided (has_room g r images))

  tested_match : (images : List ℕ) → Least images → Tested rest
  tested_match images least =
      ⊎_elim (λ (e : target_results (read_attribute g images) r.target ≡ none).
      subst Tested (sym (unfit-rest images least e)) (refusing no_result (unfit images least e)))
      (λ (f : (values : List (List ℤ)) × Values images values). tested-values images least f.0 f.1)
      (option_either (target_results (read_attribute g images) r.target))

  tested : Tested rest
  tested =
      ⊎_elim (λ (e : least_match g r start ≡ none). subst Tested (sym (none_rest e)) (refusing no_match (unmatched e)))
      (λ (f : (images : List ℕ) × Least images). tested_match f.0 f.1)
      (option_either (least_match g r start))

  -- ---- what each outcome says

  -- why good blocks are refused: with a number of rewriting's that is none of the blocks', and that is not 0
  record OwnNumber (n : ℕ) : Type 0 where
    own : member n block_numbers ≡ false
    listed : member n rewrite_numbers ≡ true
    small : n < 2 ^ 8

  reason_number : {n : ℕ} → Reason n → OwnNumber n × (n ≡ 0 → ⊥)
  unfolding member
  reason_number (unmatched e) = (record { own = refl; listed = refl; small = omega arith }, λ z. omega arith)
  reason_number (unfit images least e) = (record { own = refl; listed = refl; small = omega arith }, λ z. omega arith)
  reason_number (full images values least have h) = (record { own = refl; listed = refl; small = omega arith }, λ z. omega arith)
  reason_number (cyclic images values least have h c) = (record { own = refl; listed = refl; small = omega arith }, λ z. omega arith)

  outcome-number : {o : Outcome} → Tested o → OwnNumber (number_of o.reply)
  unfolding refusal_at number_of member
  outcome-number (refusing n why) = (reason_number why).0
  outcome-number (done images values least have h c) = record { own = refl; listed = refl; small = omega arith }

  outcome-plain : {o : Outcome} → Tested o → Plain o.reply
  outcome-plain (refusing n why) = plain-refused n
  outcome-plain (done images values least have h c) = plain_done

  outcome_keeps : {o : Outcome} → Tested o → (number_of o.reply ≡ 0 → ⊥) → (o.graph ≡ graph) × (o.map ≡ before)
  unfolding number_of
  outcome_keeps (refusing n why) refusal = (refl, refl)
  outcome_keeps (done images values least have h c) refusal = absurd (refusal refl)

  -- what done leaves in the graph and in the map
  abbrev Leaves : List ℕ → List ℕ → Type 0
  Leaves graph_after after =
      (images : List ℕ) × (values : List (List ℤ)) × Least images × Values images values × (after ≡ map_block images)
      × (graph_after ≡ graph_block (new images values)) × (has_room g r images ≡ true) × (has_cycle (new images values) ≡ false)

  outcome_leaves : {o : Outcome} → Tested o → number_of o.reply ≡ 0 → Leaves o.graph o.map
  unfolding refusal_at number_of
  outcome_leaves (refusing n why) z = absurd ((reason_number why).1 z)
  outcome_leaves (done images values least have h c) z = (images, values, least, have, refl, refl, h, c)

  -- between sound blocks the number is the one that is due
  module _ (sound : SoundGraph graph) (sound_rule : SoundRule rule) where
    is_least : (images : List ℕ) → Least images → LeastFrom g r start images
    is_least = search_least g r (sound_fixing rule sound_rule) start

    is_match_lem : (images : List ℕ) → Least images → Match g r images
    is_match_lem images least = (is_least images least).from.is_match

    at_match : (images : List ℕ) → Least images → has_room g r images ≡ true → Site g r images
    at_match images least h = site side_limit r (sound-block rule sound_rule) graph images sound (is_match_lem images least) h

    reason_due : {n : ℕ} → Reason n → Due g r start n
    reason_due (unmatched e) = Due.unmatched (none_left g r (sound_fixing rule sound_rule) start e)
    reason_due (unfit images least e) = Due.unfit images (is_least images least) (none_unfit g r images e)
    reason_due (full images values least have h) =
        Due.full images (is_least images least) (some_fit g r images values have) (room-short g r images (is_match_lem images least) h)
    reason_due (cyclic images values least have h c) =
        Due.cyclic images values (is_least images least) (some_fit g r images values have) have (room_enough g r images (is_match_lem images least) h)
        (λ acyclic. true_not_false c (acyclic_free g r images values (at_match images least h) acyclic))

    outcome_due : {o : Outcome} → Tested o → Due g r start (number_of o.reply)
    unfolding refusal_at number_of
    outcome_due (refusing n why) = reason_due why
    outcome_due (done images values least have h c) =
        Due.done images values (is_least images least) (some_fit g r images values have) have (room_enough g r images (is_match_lem images least) h)
        (free_acyclic g r images values (at_match images least h) c)

  -- the blocks are judged first
  staged : Staged graph rule before (rewrite graph rule start before) rest
  unfolding rewrite rest
  staged = record {
    refusing = λ x e. rw (e, rewrite);
    passing = λ e. rw (e, rewrite);
    own = (outcome-number tested).own;
    small = (outcome-number tested).small;
    placeless = (outcome-plain tested).index;
  }

-- ---- what the replies mean

module _ (graph rule : List ℕ) (start : ℕ) (before : List ℕ) (reply : ℕ) (graph_after after : List ℕ)
    (contract : Rewrote graph rule start before reply graph_after after) where
  met : at_return reply graph_after after ≡ returned (rewrite graph rule start before)
  met = contract.outcome

  stages : Staged graph rule before (rewrite graph rule start before) (rest graph rule start before)
  stages = staged graph rule start before

  -- what the tests show on good blocks
  shown : Tested graph rule start before (rest graph rule start before)
  shown = tested graph rule start before

  -- at the return from a call on good blocks
  ends : Good graph rule before → (number_in reply ≡ number_of (rest graph rule start before).reply)
      × (graph_after ≡ (rest graph rule start before).graph) × (after ≡ (rest graph rule start before).map)
  ends blocks = let pass = Blocks.passes stages met blocks in (pass.number, pass.left_graph, pass.left_map)

  -- The replies about the blocks are given exactly where they are due.
  pub block_replies : BlockReplies graph rule before reply
  block_replies = Blocks.block_replies stages met

  -- Replies 0 and 4 to 7 are given for good blocks only.
  pub good : member (number_in reply) block_numbers ≡ false → (length before ≡ map_bytes) × SoundGraph graph × SoundRule rule
  good = Blocks.good_only stages met

  -- Done is such a reply.
  pub done-good : number_in reply ≡ 0 → (length before ≡ map_bytes) × SoundGraph graph × SoundRule rule
  unfolding member
  done-good h = good (rw h refl)

  -- For good blocks the reply is the one that is due: 4, 5, 6, 7 or 0, as document 01's table says when.
  pub due : length before ≡ map_bytes → SoundGraph graph → SoundRule rule → Due (graph_of graph) (rule_of rule) start (number_in reply)
  due size sound sound_rule =
      subst (Due (graph_of graph) (rule_of rule) start) (sym (ends (size, sound, sound_rule)).0)
      (outcome_due graph rule start before sound sound_rule shown)

  -- And it is so exactly when: what is due is replied.
  pub replied : length before ≡ map_bytes → SoundGraph graph → SoundRule rule
      → (n : ℕ) → Due (graph_of graph) (rule_of rule) start n → number_in reply ≡ n
  replied size sound sound_rule n is =
      due_one (graph_of graph) (rule_of rule) (sound_fixing rule sound_rule) start (number_in reply) n (due size sound sound_rule) is

  -- Rewriting gives no other number than these.
  pub listed : member (number_in reply) rewrite_numbers ≡ true
  unfolding member
  listed =
      Blocks.by_blocks stages met (member (number_in reply) rewrite_numbers ≡ true)
      (λ about kept_graph kept_map.
      member-left (number_in reply) match_numbers (no_result ∷ no_room ∷ new_cycle ∷ [])
      (rw (member-left (number_in reply) block_numbers (no_match ∷ []) about) (or-true (eqb (number_in reply) 0))))
      (λ blocks. rw (ends blocks).0 (outcome-number graph rule start before shown).listed)

  -- It has no value.
  pub no_value : value_in reply ≡ 0
  no_value = Blocks.valueless_all stages met (outcome-plain graph rule start before shown).value

  -- ---- what is written

  -- A refusal returns its number only: every lent byte is as it came.
  pub refusal_keeps_lem : (number_in reply ≡ 0 → ⊥) → (graph_after ≡ graph) × (after ≡ before)
  refusal_keeps_lem refusal =
      Blocks.by_blocks stages met ((graph_after ≡ graph) × (after ≡ before))
      (λ about kept_graph kept_map. (kept_graph, kept_map))
      (λ blocks.
      let end = ends blocks in
      let kept = outcome_keeps graph rule start before shown (λ e. refusal (end.0 ∙ e)) in
      (end.1 ∙ kept.0, end.2 ∙ kept.1))

  -- Done leaves the map of the least match, and the block of the table that the rewriting at this match makes: its target attributes
  -- have fit results, there is room for its target vertices, and it has no cycle.
  pub done_leaves : number_in reply ≡ 0 → (images : List ℕ) × (values : List (List ℤ))
      × (least_match (graph_of graph) (rule_of rule) start ≡ some images)
      × (target_results (read_attribute (graph_of graph) images) (rule_of rule).target ≡ some values)
      × (after ≡ map_block images) × (graph_after ≡ graph_block (new_graph (graph_of graph) (rule_of rule) images values))
      × (has_room (graph_of graph) (rule_of rule) images ≡ true)
      × (has_cycle (new_graph (graph_of graph) (rule_of rule) images values) ≡ false)
  done_leaves h =
      let end = ends (done-good h) in
      let left = outcome_leaves graph rule start before shown (sym end.0 ∙ h) in
      (left.0, left.1, left.2, left.3, end.2 ∙ left.4, end.1 ∙ left.5, left.6, left.7)

  -- The map tells the match: its first S numbers are the images of the least match.
  pub written-images : number_in reply ≡ 0 → least_match (graph_of graph) (rule_of rule) start ≡ some (images_in after (source_count rule))
  written-images h =
      let blocks = done-good h in
      let left = done_leaves h in
      least_told graph rule start left.0 blocks.1 blocks.2 left.2 after left.4

  -- Done writes the map of the least match from the start: number j is the image of source vertex j, and 65535 stands from S on.
  pub written : number_in reply ≡ 0 → WritesLeast graph rule start after
  written h =
      let blocks = done-good h in
      let left = done_leaves h in
      least_written graph rule start left.0 blocks.1 blocks.2 left.2 after left.4

  -- So it is the map of a match from the start,
  pub written_match : number_in reply ≡ 0 → MatchFrom (graph_of graph) (rule_of rule) start (images_in after (source_count rule))
  written_match h = (written h).least.from

  -- and no other such match has a lesser first image, or the same first and a lesser second one.
  pub written_least : number_in reply ≡ 0 → (other : List ℕ) → MatchFrom (graph_of graph) (rule_of rule) start other
      → NotAfter (output_images (rule_of rule) (images_in after (source_count rule))) (output_images (rule_of rule) other)
  written_least h = (written h).least.least
