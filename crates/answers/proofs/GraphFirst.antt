-- The replies about the graph of an operation that judges the graph before all else, and then has replies of its own.
-- Assumes nothing.
use mathlib.Core.Path.{◌≡◌, refl}
use mathlib.Core.Bool.{true, false}
use mathlib.Core.List.{List}
use mathlib.Core.Logic.{◌⊎◌, inl, inr, ⊎_elim, ◌↔◌}
use Prim.Native.Nat.{ℕ}
use Rattle.definitions.specs.declared.Refusal.{Refusal}
use Rattle.std.specs.Prelude.{Ok, Err}
use Rattle.definitions.specs.Lists.{member}
use Rattle.definitions.specs.Reply.{Reply, number_in}
use Rattle.definitions.specs.Graph.{graph_reply, SoundGraph}
use Rattle.definitions.specs.Faults.{GraphFault}
use Rattle.laws.proofs.Lists.{true_not_false}
use Rattle.laws.proofs.Faults.{either}
use Rattle.laws.proofs.Reply.{done_plain}
use Rattle.laws.proofs.Operations.{graph_valueless}
use Rattle.graph_check.proofs.Sound.{graph-judged, only_sound}
use Rattle.answers.specs.Statements.{Says, graph_numbers, GraphVerdict}

-- a graph is sound, or it is not
pub sound_or_not : (graph : List ℕ) → SoundGraph graph ⊎ (SoundGraph graph → ⊥)
sound_or_not graph =
    ⊎_elim (λ (sound : SoundGraph graph). inl sound)
    (λ (f : (n : ℕ) × (p : ℕ) × GraphFault graph n p). inr (λ sound. (graph-judged graph).apart sound f.2))
    (either (graph-judged graph))

-- a block that is not sound is refused
pub refused_why : (graph : List ℕ) → (SoundGraph graph → ⊥) → (why : Refusal) × (graph_reply graph ≡ Err why)
refused_why graph unsound = by (graph_reply graph) refl
  where
    by : (reply : Reply) → graph_reply graph ≡ reply → (why : Refusal) × (graph_reply graph ≡ Err why)
    by (Ok value) e = absurd (unsound (only_sound graph (done_plain (graph_valueless graph) e)))
    by (Err why) e = (why, e)

module _ (graph : List ℕ) (reply : ℕ) where
  -- the check's reply where the graph is not sound, and else none of the check's refusals
  pub data GraphFirst : Type 0 where
    wrong : (SoundGraph graph → ⊥) → GraphVerdict graph reply → GraphFirst
    right : SoundGraph graph → member (number_in reply) graph_numbers ≡ false → GraphFirst

  pub wrong_graph_lem : GraphFirst → (member (number_in reply) graph_numbers ≡ true) ↔ (SoundGraph graph → ⊥)
  wrong_graph_lem (wrong unsound verdict) = verdict.refused
  wrong_graph_lem (right sound own) = (λ t. absurd (true_not_false t own), λ unsound. absurd (unsound sound))

  pub graph_fault_lem : GraphFirst → (n p : ℕ) → ((member n graph_numbers ≡ true) × Says reply n p) ↔ GraphFault graph n p
  graph_fault_lem (wrong unsound verdict) n p = verdict.fault n p
  graph_fault_lem (right sound own) n p = (
    λ h. absurd (true_not_false (rw h.1.number h.0) own),
    λ fault. absurd ((graph-judged graph).apart sound fault),
  )
