-- 'Nothing else changes': a vertex that stays and reads no replaced output keeps every byte of its record but its count, and its count too
-- where as many places name it. Theorems from the contract of lg_rewrite alone.
-- Assumes nothing.
use mathlib.Core.Path.{◌≡◌, ap, ◌∙◌}
use mathlib.Core.List.{List, map-id}
use Prim.Native.Nat.{ℕ, ◌<◌}
use lib.Dec.{T}
use lib.ListN.{length}
use Rattle.definitions.specs.Reply.{number_in}
use Rattle.definitions.specs.Graph.{Graph, renamed, graph_of, slot_of, inputs_of}
use Rattle.definitions.specs.Rule.{source_count, Rule, rule_of}
use Rattle.definitions.specs.Match.{output_images}
use Rattle.definitions.specs.Rewriting.{stays, redirect, staying_slot, new_graph}
use Rattle.definitions.specs.Operations.{images_in}
use Rattle.laws.proofs.Lists.{map_same}
use Rattle.laws.proofs.Members.{holds, no_member}
use Rattle.laws.proofs.Rewriting.{new-length}
use Rattle.encoding.proofs.Graphs.{table_of, canonical}
use Rattle.replacement.proofs.Table.{stays-inside, redirect_other, slot_staying}
use Rattle.answers.specs.Written.{KeepsRecord}
use Rattle.answers.specs.Rewritten.{SharedConst, ReadsNone}
use Rattle.answers.specs.Statements.{Rewrote, KeptConst}
use Rattle.answers.proofs.Records.{record_kept}
use Rattle.answers.proofs.Demands.{accepted, table, accepted_table, at, shared_stays, shared_unmoved, shared_plain}

slot_kept : (g : Graph) (r : Rule) (images : List ℕ) (k : ℕ) → ReadsNone g r images k → staying_slot g r images k ≡ slot_of g k
unfolding renamed staying_slot
slot_kept g r images k none =
    ap (λ l. record { kind = (slot_of g k).kind; operator = (slot_of g k).operator; inputs = l; attributes = (slot_of g k).attributes })
    (map_same (redirect g r images) (λ v. v) (inputs_of g k) (λ v m. redirect_other g r images v (no_member v (output_images r images) (none v m))) ∙ map-id (inputs_of g k))

module _ (graph rule : List ℕ) (start : ℕ) (before : List ℕ) (reply : ℕ) (graph_after after : List ℕ)
    (contract : Rewrote graph rule start before reply graph_after after) where
  pub keeps_record : number_in reply ≡ 0 → (k : ℕ) → T (stays (graph_of graph) (rule_of rule) (images_in after (source_count rule)) k)
      → ReadsNone (graph_of graph) (rule_of rule) (images_in after (source_count rule)) k
      → KeepsRecord graph graph_after k
  keeps_record h k t none =
      let images = images_in after (source_count rule) in
      let g = graph_of graph in
      let r = rule_of rule in
      let a = accepted graph rule start before reply graph_after after contract h in
      let values = a.0 in
      let new = new_graph g r images values in
      let stay = holds (stays g r images k) t in
      let inside = stays-inside g r images k stay in
      let site = at graph rule images values a.1 in
      let inside_new : k < length new.slots = rw (new-length g r images values) inside in
      record_kept graph graph_after new (table_of graph a.1.sound) (table graph rule images values a.1)
      (canonical graph a.1.sound contract.lent_graph) a.1.block (accepted_table graph rule images values a.1 contract.lent_graph) k
      inside inside_new (slot_staying g r images values site k stay ∙ slot_kept g r images k none)

  -- A shared constant stays with its record, and no place that names it is redirected.
  pub keeps_constant : number_in reply ≡ 0 → (v : ℕ) → SharedConst (graph_of graph) (rule_of rule) (images_in after (source_count rule)) v
      → KeptConst graph rule (images_in after (source_count rule)) graph_after v
  keeps_constant h v shared =
      let images = images_in after (source_count rule) in
      let a = accepted graph rule start before reply graph_after after contract h in
      let kept = shared_stays graph rule images a.0 a.1 v shared in
      record {
        kept = kept;
        named = shared_unmoved graph rule images a.0 a.1 v shared;
        bytes = keeps_record h v kept (λ u m o. shared_plain graph rule images a.0 a.1 v shared u m);
      }
