-- What the proofs about the new table ask of a graph, a rule and a match. A sound graph block, a sound rule and a match give it.
-- Assumes nothing.
use mathlib.Core.Path.{◌≡◌, refl}
use mathlib.Core.Bool.{Bool, true, false, not, ◌&&◌, and-false}
use mathlib.Core.List.{List, [], Memᴰ}
use Prim.Native.Nat.{ℕ, ◌<◌}
use native.Mathlib.Omega.{arith}
use borrow.Author.Tests.{not-true, leb-true, eqb-true, ne_eqb}
use lib.Dec.{leb}
use lib.ListN.{length}
use Rattle.definitions.specs.Lists.{within, all, any, member}
use Rattle.definitions.specs.Operators.{kind_const, kind_call, kind_proj, kinds, row_of}
use Rattle.definitions.specs.Graph.{Graph, SoundGraph, graph_of, is_vertex}
use Rattle.definitions.specs.Rule.{Rule, source_of, source_inputs, source_outputs_fit, target_of, input_kind, origin_fits, target_inputs_fit}
use Rattle.definitions.specs.FixedRule.{SoundFixed}
use Rattle.definitions.specs.Match.{is_const, Match}
use Rattle.definitions.specs.Rewriting.{has_room}
use Rattle.laws.proofs.Lists.{needed, and_left, and_right, all-member}
use Rattle.theory.proofs.Results.{Layout}
use Rattle.rule_sound.proofs.Fixed.{reads_nothing}

pub record Site (g : Graph) (r : Rule) (images : List ℕ) : Type 0 where
  pub layout : Layout g
  pub outputs : (v : ℕ) → Memᴰ v g.outputs → is_vertex g v ≡ true
  pub is_match : Match g r images
  -- a Const reads nothing
  pub constants : (j : ℕ) → j < length r.source → is_const r j ≡ true → source_inputs r j ≡ []
  -- source outputs are source vertices, and none is a Const
  pub source_outputs : (o : ℕ) → Memᴰ o r.source_outputs → (o < length r.source) × (is_const r o ≡ false)
  pub same_count : length r.target_outputs ≡ length r.source_outputs
  -- target kinds are neither Empty nor Variable; target places name rule inputs and target vertices, a vertex's earlier ones only
  pub target_kinds : (t : ℕ) → t < length r.target → input_kind (target_of r t).kind ≡ false
  pub target_inputs : (t : ℕ) → t < length r.target → all (origin_fits r t) (target_of r t).inputs ≡ true
  pub target_outputs : all (origin_fits r (length r.target)) r.target_outputs ≡ true
  pub room : has_room g r images ≡ true

-- an output's kind is 3, 4 or 5, so it is no Const
pub output_other : (r : Rule) → source_outputs_fit r ≡ true → (o : ℕ) → Memᴰ o r.source_outputs → is_const r o ≡ false
unfolding source_outputs_fit is_const
output_other r fits o m =
    let kind : ℕ = (source_of r o).kind in
    let fit : ℕ → Bool = λ k. within kind_call (source_of r k).kind kind_proj && not (any (λ p. member k p.inputs) r.source) in
    let good = all-member fit (needed (all fit r.source_outputs) fits (λ f. simp (f, and-false))) m in
    let least = leb-true kind_call kind (needed (leb kind_call kind) good (λ f. simp f)) in
    ne_eqb kind kind_const (λ e. omega (arith, least, e))

-- a match of a sound rule with room is a site, whatever the rule's side limit
pub site : (limit : ℕ) (r : Rule) → SoundFixed limit r → (graph images : List ℕ) → SoundGraph graph → Match (graph_of graph) r images → has_room (graph_of graph) r images ≡ true
    → Site (graph_of graph) r images
unfolding target_inputs_fit is_const row_of kinds
site limit r s graph images sound match room = record {
  layout = record { vertices = sound.form.inputs; acyclic = sound.form.acyclic };
  outputs = sound.form.outputs;
  is_match = match;
  constants = λ j l c. reads_nothing limit r s j kind_const l (eqb-true (source_of r j).kind kind_const c) refl refl;
  source_outputs = λ o m. (s.outputs_inside o m, output_other r s.outputs o m);
  same_count = s.same_count;
  target_kinds = λ t l. not-true (input_kind (target_of r t).kind)
      (and_left (not (input_kind (target_of r t).kind)) (all (origin_fits r t) (target_of r t).inputs) (s.named_inputs t l));
  target_inputs = λ t l. and_right (not (input_kind (target_of r t).kind)) (all (origin_fits r t) (target_of r t).inputs) (s.named_inputs t l);
  target_outputs = s.named_outputs;
  room = room;
}
