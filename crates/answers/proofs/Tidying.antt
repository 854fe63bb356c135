-- What sweep and squeeze have in common: a sound block before and after, and results that are carried from one table to the other.
-- Assumes nothing.
use mathlib.Core.Path.{◌≡◌, ap, ◌∙◌}
use mathlib.Core.Bool.{Bool, true}
use mathlib.Core.List.{List, map, Memᴰ}
use Prim.Native.Nat.{ℕ}
use lib.ListN.{length, get_or, length-map}
use Rattle.definitions.specs.Graph.{unused_place, Graph, graph_of, is_vertex, SoundGraph}
use Rattle.definitions.specs.Results.{Meaning, Follows}
use Rattle.laws.proofs.Lists.{map_at}
use Rattle.laws.proofs.Members.{mem-at}
use Rattle.theory.proofs.Results.{Layout, results_unique, results_exist}
use Rattle.tidying.proofs.Carried.{Carries, carried_vertex, carried_results}
use Rattle.answers.specs.Tidied.{KeepsResults}

-- the table of a sound block
pub layout : (graph : List ℕ) → SoundGraph graph → Layout (graph_of graph)
layout graph sound = record { vertices = sound.form.inputs; acyclic = sound.form.acyclic }

-- results that are carried along, and those of the outputs
module _ {ℓ} {R : Type ℓ} {m meant : Meaning R} {g new : Graph} {stays : ℕ → Bool} {to : ℕ → ℕ} where
  pub keeps : Layout g → Layout new → Carries g new (λ v. stays v ≡ true) to → Follows g to m meant
      → new.outputs ≡ map to g.outputs → ((v : ℕ) → Memᴰ v g.outputs → stays v ≡ true)
      → ((v : ℕ) → Memᴰ v new.outputs → is_vertex new v ≡ true) → KeepsResults m meant g new stays to
  keeps old later carries follows outputs kept named = record {
    some_before = results_exist m g old;
    some_after = results_exist meant new later;
    one_before = results_unique m g old;
    one_after = results_unique meant new later;
    remains = λ v t. (carries.vertex v t, carried_vertex carries v t);
    same_count = ap length outputs ∙ length-map g.outputs to;
    named = named;
    results = λ before after first second. carried_results carries follows old before after first second;
    outputs = λ before after first second i l.
        let v = get_or g.outputs i unused_place in
        ap after (ap (λ (xs : List ℕ). get_or xs i unused_place) outputs ∙ map_at to g.outputs i unused_place unused_place l)
        ∙ carried_results carries follows old before after first second v (kept v (mem-at g.outputs i unused_place l));
  }
