-- What the replies to a request for a match mean, for the C side: theorems from the contract of lg_find_match alone.
-- Assumes nothing.
use mathlib.Core.Path.{◌≡◌, refl, ap, ◌∙◌}
use mathlib.Core.Bool.{true, false, or-true}
use mathlib.Core.List.{List, [], ◌∷◌}
use mathlib.Core.Logic.{◌⊎◌, inl, inr, ⊎_elim}
use mathlib.Core.Option.{none, some}
use Prim.Native.Nat.{ℕ, ◌<◌, ◌^◌}
use native.Mathlib.Omega.{arith}
use lib.Dec.{eqb}
use lib.ListN.{length}
use Rattle.definitions.specs.Lists.{member}
use Rattle.definitions.specs.Reply.{done, no_match, refusal_at, refused, number_of, number_in}
use Rattle.definitions.specs.Graph.{Graph, graph_of, SoundGraph}
use Rattle.definitions.specs.Rule.{source_count, Rule, rule_of, SoundRule}
use Rattle.definitions.specs.Match.{MatchFrom, output_images, NotAfter, least_match}
use Rattle.definitions.specs.Operations.{Outcome, outcome, map_bytes, map_block, matched, find_match, images_in}
use Rattle.laws.proofs.Lists.{option_either}
use Rattle.laws.proofs.Members.{member-left}
use Rattle.laws.proofs.Operations.{matched-plain}
use Rattle.theory.proofs.Fixing.{sound_fixing}
use Rattle.theory.proofs.Least.{least_match_lem, least_found, none_left, none_found}
use Rattle.answers.specs.Statements.{Searched, Good, block_numbers, WritesLeast, match_numbers, MatchReplies}
use Rattle.answers.proofs.Maps.{least_written}
use Rattle.answers.proofs.Blocks as Blocks
use Rattle.answers.proofs.Blocks.{Staged}

module _ (graph rule : List ℕ) (start : ℕ) (before : List ℕ) where
  -- the graph and the rule for which the lent blocks stand
  abbrev g : Graph
  g = graph_of graph

  abbrev r : Rule
  r = rule_of rule

  -- ---- the definition's stages, in document 01's order

  none_matched : least_match g r start ≡ none → matched graph rule start before ≡ outcome (refused no_match) graph before
  unfolding matched
  none_matched e = rw (e, matched)

  found-matched : (images : List ℕ) → least_match g r start ≡ some images
      → matched graph rule start before ≡ outcome done graph (map_block images)
  unfolding matched
  found-matched images e = rw (e, matched)

  -- the search's own numbers
  own_number : (member (number_of (matched graph rule start before).reply) block_numbers ≡ false)
      × (number_of (matched graph rule start before).reply < 2 ^ 8)
  unfolding refusal_at number_of member
  own_number =
      ⊎_elim (λ (e : least_match g r start ≡ none). rw (none_matched e) (refl, omega arith))
      (λ (f : (images : List ℕ) × (least_match g r start ≡ some images)). rw (found-matched f.0 f.1) (refl, omega arith))
      (option_either (least_match g r start))

  -- the blocks are judged first, and good ones are searched
  staged : Staged graph rule before (find_match graph rule start before) (matched graph rule start before)
  unfolding find_match
  staged = record {
    refusing = λ x e. rw (e, find_match);
    passing = λ e. rw (e, find_match);
    own = own_number.0;
    small = own_number.1;
    placeless = (matched-plain graph rule start before).index;
  }

  -- ---- what the contract says at each end

  module _ (reply : ℕ) (graph_after after : List ℕ) (contract : Searched graph rule start before reply graph_after after) where
    -- once the blocks are good, the search decides
    module _ (good : Good graph rule before) where
      none_ends : least_match g r start ≡ none → (number_in reply ≡ no_match) × (graph_after ≡ graph) × (after ≡ before)
      none_ends e =
          let end = Blocks.refused_ends staged contract (record { number = omega arith; place = omega arith })
          (Blocks.passed staged contract good ∙ none_matched e) in
          (end.says.number, end.kept_graph, end.kept_map)

      found_ends : (images : List ℕ) → least_match g r start ≡ some images
          → (number_in reply ≡ 0) × (graph_after ≡ graph) × (after ≡ map_block images)
      unfolding number_of
      found_ends images e =
          let pass = Blocks.passes staged contract good in
          let same = found-matched images e in (
            pass.number ∙ ap (λ (o : Outcome). number_of o.reply) same,
            pass.left_graph ∙ ap (λ (o : Outcome). o.graph) same,
            pass.left_map ∙ ap (λ (o : Outcome). o.map) same,
          )

    -- what done is: good blocks, and the map of the least match
    record Found : Type 0 where
      images : List ℕ
      good : Good graph rule before
      least : least_match g r start ≡ some images
      map : after ≡ map_block images

    found : number_in reply ≡ 0 → Found
    unfolding member
    found h =
        let good = Blocks.good_only staged contract (rw h refl) in
        ⊎_elim (λ (e : least_match g r start ≡ none). absurd (omega (arith, (none_ends good e).0)))
        (λ (f : (images : List ℕ) × (least_match g r start ≡ some images)).
        record {
          images = f.0;
          good = good;
          least = f.1;
          map = (found_ends good f.0 f.1).2;
        })
        (option_either (least_match g r start))

    -- ---- what the replies mean

    -- Reply 0, done: the map has 32 bytes, the graph and the rule are sound, and there is a match from the start.
    pub done_only : number_in reply ≡ 0 → (length before ≡ map_bytes) × SoundGraph graph × SoundRule rule
        × ((images : List ℕ) × MatchFrom g r start images)
    done_only h =
        let f = found h in (
          f.good.0,
          f.good.1,
          f.good.2,
          (f.images, least_match_lem g r (sound_fixing rule f.good.2) start f.images f.least),
        )

    -- And done is replied wherever that is so: a match is found whenever one exists.
    pub done_every : length before ≡ map_bytes → SoundGraph graph → SoundRule rule
        → (images : List ℕ) → MatchFrom g r start images → number_in reply ≡ 0
    done_every size sound sound_rule images from =
        let best = least_found g r (sound_fixing rule sound_rule) start images from in
        (found_ends (size, sound, sound_rule) best.0 best.1).0

    -- Reply 4, no match from s: the map has 32 bytes, the graph and the rule are sound, and there is no match from the start.
    pub none_only : number_in reply ≡ no_match → (length before ≡ map_bytes) × SoundGraph graph × SoundRule rule
        × ((images : List ℕ) → MatchFrom g r start images → ⊥)
    unfolding member
    none_only h =
        let good = Blocks.good_only staged contract (rw h refl) in
        let least : least_match g r start ≡ none = ⊎_elim (λ (e : least_match g r start ≡ none). e)
        (λ (f : (images : List ℕ) × (least_match g r start ≡ some images)).
        absurd (omega (arith, (found_ends good f.0 f.1).0)))
        (option_either (least_match g r start)) in
        (good.0, good.1, good.2, none_left g r (sound_fixing rule good.2) start least)

    -- And 4 is replied wherever that is so.
    pub none_every : length before ≡ map_bytes → SoundGraph graph → SoundRule rule
        → ((images : List ℕ) → MatchFrom g r start images → ⊥) → number_in reply ≡ no_match
    none_every size sound sound_rule never =
        (none_ends (size, sound, sound_rule) (none_found g r (sound_fixing rule sound_rule) start never)).0

    -- a call is refused, and then every byte is as it came, or it is done, and the graph is as it came
    abbrev Ended : Type 0
    Ended = (graph_after ≡ graph) × (member (number_in reply) match_numbers ≡ true) × ((number_in reply ≡ 0) ⊎ (after ≡ before))

    ended : Ended
    unfolding member
    ended =
        Blocks.by_blocks staged contract Ended
        (λ about kept_graph kept_map. (kept_graph, rw (member-left (number_in reply) block_numbers (no_match ∷ []) about) (or-true (eqb (number_in reply) 0)), inr kept_map))
        (λ good.
        ⊎_elim (λ (e : least_match g r start ≡ none).
        let end = none_ends good e in
        (end.1, rw end.0 refl, inr end.2))
        (λ (f : (images : List ℕ) × (least_match g r start ≡ some images)).
        let end = found_ends good f.0 f.1 in
        (end.1, rw end.0 refl, inl end.0))
        (option_either (least_match g r start)))

    -- Matching gives no other number than these.
    pub listed : member (number_in reply) match_numbers ≡ true
    listed = ended.1

    -- ---- what is written

    -- Matching leaves every byte of the graph as it came.
    pub graph_unchanged : graph_after ≡ graph
    graph_unchanged = ended.0

    -- After a refusal every byte of the map is as it came.
    pub unchanged : (number_in reply ≡ 0 → ⊥) → after ≡ before
    unchanged refusal =
        ⊎_elim (λ (e : number_in reply ≡ 0). absurd (refusal e)) (λ (e : after ≡ before). e) ended.2

    -- Done writes the map of the least match from the start: number j is the image of source vertex j, and 65535 stands from S on.
    pub written : number_in reply ≡ 0 → WritesLeast graph rule start after
    written h =
        let f = found h in
        least_written graph rule start f.images f.good.1 f.good.2 f.least after f.map

    -- So it is the map of a match from the start,
    pub written_match : number_in reply ≡ 0 → MatchFrom g r start (images_in after (source_count rule))
    written_match h = (written h).least.from

    -- and no other such match has a lesser first image, or the same first and a lesser second one.
    pub written_least : number_in reply ≡ 0 → (other : List ℕ) → MatchFrom g r start other
        → NotAfter (output_images r (images_in after (source_count rule))) (output_images r other)
    written_least h = (written h).least.least

    -- ---- all of this at once

    pub match_replies : MatchReplies graph rule start before reply graph_after after
    match_replies = record {
      blocks = Blocks.block_replies staged contract;
      done = (λ h. let d = done_only h in ((d.0, d.1, d.2), d.3), λ w. done_every w.0.0 w.0.1 w.0.2 w.1.0 w.1.1);
      none = (λ h. let d = none_only h in ((d.0, d.1, d.2), d.3), λ w. none_every w.0.0 w.0.1 w.0.2 w.1);
      listed = listed;
      value = Blocks.valueless_all staged contract (matched-plain graph rule start before).value;
      graph_kept = graph_unchanged;
      refusal_keeps = unchanged;
      written = written;
    }
