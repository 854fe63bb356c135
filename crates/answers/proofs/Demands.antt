-- What holds of an accepted rewriting: the graph that it leaves is sound, it is the table that document 01 describes, and it keeps the
-- results that demand 3 names. Theorems from the contract of lg_rewrite alone.
-- Assumes nothing.
use mathlib.Core.Path.{◌≡◌, sym, ap, ◌∙◌, subst}
use mathlib.Core.Bool.{true}
use mathlib.Core.List.{List}
use mathlib.Core.Option.{some, some-injective}
use Prim.Native.Nat.{ℕ}
use lib.Dec.{T}
use lib.IntN.{ℤ}
use lib.ListN.{length, length-map}
use Rattle.definitions.specs.Fields.{Bytes}
use Rattle.definitions.specs.Paths.{Reads, Acyclic}
use Rattle.definitions.specs.Reply.{number_in}
use Rattle.definitions.specs.Graph.{graph_version, Graph, graph_of, inputs_of, is_vertex, true_count, graph_block, SoundGraph}
use Rattle.definitions.specs.Rule.{side_limit, source_count, Rule, rule_of, SoundRule}
use Rattle.definitions.specs.Match.{image_of, read_attribute, Match}
use Rattle.definitions.specs.Rewriting.{target_results, stays, has_room, redirect, new_graph}
use Rattle.definitions.specs.Results.{Meaning, Untouched}
use Rattle.definitions.specs.Operations.{images_in}
use Rattle.laws.proofs.Members.{holds, true_holds}
use Rattle.theory.proofs.Results.{Layout, results_unique, results_exist}
use Rattle.encoding.specs.Tables.{Table, Words}
use Rattle.encoding.proofs.Blocks.{block_back, block-sound, holdable}
use Rattle.rule_sound.proofs.Sound.{sound-block}
use Rattle.replacement.proofs.Site.{Site, site}
use Rattle.replacement.proofs.Table.{stays-vertex, staying_vertex, new-outputs, new_layout_lem}
use Rattle.replacement.proofs.Consts.{reads_none, const_unmoved, const_untouched, const_stays}
use Rattle.replacement.proofs.Kept.{keeps_untouched, keeps_staying, keeps_outputs}
use Rattle.replacement.proofs.Sound.{new_table_lem, new_table_words}
use Rattle.answers.specs.Rewritten.{SharedConst, Keeps}
use Rattle.answers.specs.Statements.{Rewrote, Demand3}
use Rattle.answers.proofs.Maps.{least_is}
use Rattle.answers.proofs.Rewriting.{free_acyclic, done-good, done_leaves, written-images}

-- ---- a rewriting at one match of sound blocks, with room and with no cycle

module _ (graph rule images : List ℕ) (values : List (List ℤ)) where
  abbrev g : Graph
  g = graph_of graph

  abbrev r : Rule
  r = rule_of rule

  abbrev new : Graph
  new = new_graph g r images values

  pub record Accepted (graph_after : List ℕ) : Type 0 where
    pub sound : SoundGraph graph
    pub sound_rule : SoundRule rule
    pub is_match : Match g r images
    pub fit : target_results (read_attribute g images) r.target ≡ some values
    pub room : has_room g r images ≡ true
    pub acyclic : Acyclic (inputs_of new)
    pub block : graph_after ≡ graph_block new

  module _ {graph_after : List ℕ} (a : Accepted graph_after) where
    pub table : Table new
    table = new_table_lem graph r images values side_limit a.sound (sound-block rule a.sound_rule) a.is_match a.fit a.room

    words : Bytes graph → Words new
    words = new_table_words graph r images values side_limit a.sound (sound-block rule a.sound_rule) a.is_match a.fit a.room

    accepted_sound : Bytes graph → SoundGraph graph_after
    accepted_sound bytes = rw a.block (block-sound new table (words bytes) a.acyclic)

    pub accepted_table : Bytes graph → graph_of graph_after ≡ new
    accepted_table bytes = ap graph_of a.block ∙ block_back new (holdable new table) graph_version (true_count new) (words bytes)

    -- demand 3 for the two tables
    pub at : Site g r images
    at = site side_limit r (sound-block rule a.sound_rule) graph images a.sound a.is_match a.room

    new_layout : Layout new
    new_layout = new_layout_lem g r images values at a.acyclic

    new-count : length new.outputs ≡ length g.outputs
    unfolding new_graph
    new-count = length-map g.outputs (redirect g r images)

    -- a shared constant stays, no place that names it is redirected, it reads nothing, and no path leads to it from a replaced output
    module _ (v : ℕ) (shared : SharedConst g r images v) where
      pub shared_stays : T (stays g r images v)
      shared_stays =
          rw shared.image at (true_holds (stays g r images (image_of images shared.vertex))
          (const_stays g r images at shared.vertex shared.inside shared.constant (rw shared.image shared.needed)))

      pub shared_unmoved : redirect g r images v ≡ v
      shared_unmoved = rw shared.image at (const_unmoved g r images at shared.vertex shared.inside shared.constant)

      pub shared_plain : (u : ℕ) → Reads (inputs_of g) v u → ⊥
      shared_plain = rw shared.image at (reads_none g r images at shared.vertex shared.inside shared.constant)

      shared_untouched : Untouched g r images v
      shared_untouched = rw shared.image at (const_untouched g r images at shared.vertex shared.inside shared.constant)

    keeps {ℓ} : {R : Type ℓ} (m : Meaning R) → Keeps m g r images values new
    keeps m = record {
      some_before = results_exist m g at.layout;
      some_after = results_exist m new new_layout;
      one_before = results_unique m g at.layout;
      one_after = results_unique m new new_layout;
      remains = λ v t. (
        true_holds (is_vertex g v) (stays-vertex g r images v (holds (stays g r images v) t)),
        staying_vertex g r images values at v t,
      );
      same_count = new-count;
      named = λ v k. true_holds (is_vertex new v) (new-outputs g r images values at v k);
      untouched = λ before after old later. keeps_untouched g r images values at m before after old later;
      constants = λ before after old later v shared.
          keeps_untouched g r images values at m before after old later v (shared_stays v shared) (shared_untouched v shared);
      staying = λ same before after old later. keeps_staying g r images values at m before after old later a.acyclic same;
      outputs = λ same before after old later. keeps_outputs g r images values at m before after old later a.acyclic same;
    }

-- ---- what the contract gives

module _ (graph rule : List ℕ) (start : ℕ) (before : List ℕ) (reply : ℕ) (graph_after after : List ℕ)
    (contract : Rewrote graph rule start before reply graph_after after) where
  -- done is such a rewriting, at the match that the map tells
  pub accepted : number_in reply ≡ 0 → (values : List (List ℤ)) × Accepted graph rule (images_in after (source_count rule)) values graph_after
  accepted h =
      let blocks = done-good graph rule start before reply graph_after after contract h in
      let left = done_leaves graph rule start before reply graph_after after contract h in
      let is_match = least_is graph rule start left.0 blocks.1 blocks.2 left.2 in
      let same : left.0 ≡ images_in after (source_count rule) =
      some-injective left.0 (images_in after (source_count rule))
      (sym left.2 ∙ written-images graph rule start before reply graph_after after contract h) in
      subst (λ (images : List ℕ). (values : List (List ℤ)) × Accepted graph rule images values graph_after) same (
        left.1,
        record {
          sound = blocks.1;
          sound_rule = blocks.2;
          is_match = is_match;
          fit = left.3;
          room = left.6;
          acyclic = free_acyclic (graph_of graph) (rule_of rule) left.0 left.1
              (site side_limit (rule_of rule) (sound-block rule blocks.2) graph left.0 blocks.1 is_match left.6) left.7;
          block = left.5;
        },
      )

  -- An accepted rewriting yields a sound graph, so that rewritings can follow one another.
  pub yields_sound : number_in reply ≡ 0 → SoundGraph graph_after
  yields_sound h =
      let a = accepted h in
      accepted_sound graph rule (images_in after (source_count rule)) a.0 a.1 contract.lent_graph

  -- Its graph is the one table that document 01 describes, for the match that the map tells.
  pub yields_table : number_in reply ≡ 0 → (values : List (List ℤ))
      × (target_results (read_attribute (graph_of graph) (images_in after (source_count rule))) (rule_of rule).target ≡ some values)
      × (graph_after ≡ graph_block (new_graph (graph_of graph) (rule_of rule) (images_in after (source_count rule)) values))
      × (graph_of graph_after ≡ new_graph (graph_of graph) (rule_of rule) (images_in after (source_count rule)) values)
  yields_table h =
      let a = accepted h in
      let table = accepted_table graph rule (images_in after (source_count rule)) a.0 a.1 contract.lent_graph in
      (a.0, a.1.fit, a.1.block, table)

  -- Demand 3, for every result type, every function for kinds and operators, and every results of the variables: "before" is the graph
  -- of the block as it came, and "after" that of the bytes at the return.
  pub demand-3 {ℓ} : {R : Type ℓ} (m : Meaning R) → number_in reply ≡ 0 → Demand3 m graph rule graph_after after
  demand-3 m h =
      let images = images_in after (source_count rule) in
      let a = accepted h in
      record {
        values = a.0;
        fit = a.1.fit;
        keeps = rw (accepted_table graph rule images a.0 a.1 contract.lent_graph) (keeps graph rule images a.0 a.1 m);
      }
