-- What the stages of matching come to, as the definition has them.
-- Assumes nothing.
use mathlib.Core.Path.{◌≡◌, sym, ◌∙◌}
use mathlib.Core.List.{List}
use mathlib.Core.Option.{none, some}
use Prim.Native.Nat.{ℕ}
use Rattle.definitions.specs.declared.Refusal.{Refusal}
use Rattle.std.specs.Prelude.{Ok, Err}
use Rattle.definitions.specs.Reply.{done, no_match, refused}
use Rattle.definitions.specs.Graph.{graph_of}
use Rattle.definitions.specs.Rule.{rule_of}
use Rattle.definitions.specs.Match.{least_match}
use Rattle.definitions.specs.Operations.{outcome, map_block, blocks_reply, matched, find_match}

-- ---- the outcome, stage by stage

module _ (graph rule : List ℕ) (start : ℕ) (images : List ℕ) where
  pub blocks_refused : (refusal : Refusal) → blocks_reply graph rule images ≡ Err refusal
      → outcome (Err refusal) graph images ≡ find_match graph rule start images
  unfolding find_match
  blocks_refused refusal h = rw (h, find_match)

  module _ {value : ℕ} (h : blocks_reply graph rule images ≡ Ok value) where
    searched : matched graph rule start images ≡ find_match graph rule start images
    unfolding find_match
    searched = rw (h, find_match)

    pub nothing_found : least_match (graph_of graph) (rule_of rule) start ≡ none
        → outcome (refused no_match) graph images ≡ find_match graph rule start images
    unfolding matched
    nothing_found k = sym (rw (k, matched)) ∙ searched

    pub match_found : (found : List ℕ) → least_match (graph_of graph) (rule_of rule) start ≡ some found
        → outcome done graph (map_block found) ≡ find_match graph rule start images
    unfolding matched
    match_found found k = sym (rw (k, matched)) ∙ searched
