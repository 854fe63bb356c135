-- What a rewriting leaves at each of its ends, as the definition has them.
-- Assumes nothing.
use mathlib.Core.Path.{◌≡◌, sym, ◌∙◌}
use mathlib.Core.List.{List}
use mathlib.Core.Option.{none, some}
use Prim.Native.Nat.{ℕ}
use lib.ListN.{take}
use Rattle.definitions.specs.declared.Refusal.{Refusal}
use Rattle.std.specs.Prelude.{Ok, Err}
use Rattle.definitions.specs.Reply.{no_match, refused, done}
use Rattle.definitions.specs.Graph.{Graph, graph_of, graph_block, SoundGraph}
use Rattle.definitions.specs.Rule.{side_capacity, source_count, rule_of}
use Rattle.definitions.specs.Match.{least_match}
use Rattle.definitions.specs.Operations.{outcome, map_block, blocks_reply, accepted, turned_down, rewritten, replaced, rewrite}
use Rattle.rule_fields.specs.Fixed.{fixed_of}
use Rattle.rule_nodes.specs.Working.{WorkingRule}
use Rattle.rule_sound.proofs.Fixed.{fixing_of}
use Rattle.theory.proofs.Least.{least_match_lem}
use Rattle.match_outputs.specs.Finds.{LeastImages}
use Rattle.new_plan.specs.Planned.{Matched}

module _ (graph rule : List ℕ) (start : ℕ) (images : List ℕ) where
  pub blocks_refused : (refusal : Refusal) → blocks_reply graph rule images ≡ Err refusal
      → outcome (Err refusal) graph images ≡ rewrite graph rule start images
  unfolding rewrite
  blocks_refused refusal h = rw (h, rewrite)

  module _ {value : ℕ} (h : blocks_reply graph rule images ≡ Ok value) where
    pub nothing_found : least_match (graph_of graph) (rule_of rule) start ≡ none
        → outcome (refused no_match) graph images ≡ rewrite graph rule start images
    unfolding rewrite
    nothing_found k = rw (h, k, rewrite)

    module _ (found : List ℕ) (k : least_match (graph_of graph) (rule_of rule) start ≡ some found) where
      at_match : replaced graph rule images found ≡ rewrite graph rule start images
      unfolding rewrite
      at_match = rw (h, k, rewrite)

      pub turned_down_lem : (why : Refusal) → rewritten (graph_of graph) (rule_of rule) found ≡ turned_down why
          → outcome (Err why) graph images ≡ rewrite graph rule start images
      unfolding replaced
      turned_down_lem why e = sym (rw (e, replaced)) ∙ at_match

      pub table_left : (new : Graph) → rewritten (graph_of graph) (rule_of rule) found ≡ accepted new
          → outcome done (graph_block new) (map_block found) ≡ rewrite graph rule start images
      unfolding replaced
      table_left new e = sym (rw (e, replaced)) ∙ at_match

-- what a search found is the map of a match
pub matched : (graph rule : List ℕ) (start : ℕ) (images : List ℕ) → SoundGraph graph → WorkingRule rule
    → LeastImages (least_match (graph_of graph) (fixed_of rule) start) (source_count rule) images → Matched graph rule images
matched graph rule start images sound_graph working least = record {
  sound_graph = sound_graph;
  working = working;
  size = least.size;
  is_match = (least_match_lem (graph_of graph) (fixed_of rule) (fixing_of side_capacity (fixed_of rule) working.sound) start
      (take (source_count rule) images) least.found).is_match;
  rest = least.rest;
}
