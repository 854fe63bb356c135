-- The numbers and the places of the faults of a block: which numbers, none of the other block's, and small enough for the bits of a reply.
-- Assumes nothing.
use mathlib.Core.Path.{◌≡◌, refl}
use mathlib.Core.Bool.{true, false}
use mathlib.Core.List.{List, [], ◌∷◌}
use Prim.Native.Nat.{ℕ, ◌+◌, ◌<◌, ◌^◌}
use native.Mathlib.Omega.{arith}
use Rattle.definitions.specs.Lists.{member}
use Rattle.definitions.specs.Reply.{bad_graph_count}
use Rattle.definitions.specs.Graph.{graph_version, graph_of}
use Rattle.definitions.specs.Rule.{side_limit, source_count, target_count, rule_header_fits}
use Rattle.definitions.specs.Faults.{FaultAs, GraphFault, RuleFault, header, slot, input, output, cycle, form, count, vertex, order, outputs, node, attribute}
use Rattle.laws.proofs.Members.{member-left}
use Rattle.laws.proofs.Graph.{reader-inside, length-slots, length-outputs, few_slots, few_outputs_lem}
use Rattle.laws.proofs.Rule.{few_sources_lem, few_targets_lem}
use Rattle.rule_check.proofs.Laws.{whole}
use Rattle.answers.specs.Statements.{form_numbers, graph_numbers, rule_numbers}

-- a number and a place that the bits of a reply can hold
pub record Small (n p : ℕ) : Type 0 where
  pub number : n < 2 ^ 8
  pub place : p < 2 ^ 32

-- the number of vertices that a good header has
few_vertices_lem : (block : List ℕ) → rule_header_fits side_limit block ≡ true → source_count block + target_count block < 2 ^ 32
few_vertices_lem block h = omega (arith, few_sources_lem block side_limit h, few_targets_lem block side_limit h)

-- The numbers of a block's faults are these, 0 is none of them, and each fits with its place.
pub record Numbered (Fault : ℕ → ℕ → Type 0) (bad : List ℕ) : Type 0 where
  pub listed : {n p : ℕ} → Fault n p → member n bad ≡ true
  pub small : {n p : ℕ} → Fault n p → Small n p
  pub apart : member 0 bad ≡ false

module _ {block : List ℕ} where
  pub form-listed : {version n p : ℕ} → FaultAs version block n p → member n form_numbers ≡ true
  unfolding member
  form-listed (header h) = refl
  form-listed (slot h low) = refl
  form-listed (input h records low) = refl
  form-listed (output h records inputs low) = refl
  form-listed (cycle h records inputs named low) = refl

  pub form_small : {version n p : ℕ} → FaultAs version block n p → Small n p
  form_small (header h) = record { number = omega arith; place = omega arith }
  form_small {version} (slot h low) = record { number = omega arith; place = omega (arith, low.bad.0, few_slots block version h) }
  form_small {version} (input {k} h records low) = record {
    number = omega arith;
    place = omega (arith, reader-inside (graph_of block) k low.bad.0 low.bad.1, length-slots block, few_slots block version h);
  }
  form_small {version} (output h records inputs low) =
      record { number = omega arith; place = omega (arith, low.bad.0, length-outputs block, few_outputs_lem block version h) }
  form_small {version} (cycle {v} h records inputs named low) = record {
    number = omega arith;
    place = omega (arith, reader-inside (graph_of block) v low.bad.0 low.bad.2, length-slots block, few_slots block version h);
  }

  pub graph-listed : {n p : ℕ} → GraphFault block n p → member n graph_numbers ≡ true
  unfolding member
  graph-listed (form {n} f) = member-left n form_numbers (bad_graph_count ∷ []) (form-listed f)
  graph-listed (count sound low) = refl

  pub graph_small : {n p : ℕ} → GraphFault block n p → Small n p
  graph_small (form f) = form_small f
  graph_small (count sound low) = record { number = omega arith; place = omega (arith, low.bad.0, few_slots block graph_version sound.header) }

  pub rule-listed : {n p : ℕ} → RuleFault block n p → member n rule_numbers ≡ true
  unfolding member
  rule-listed (header h) = refl
  rule-listed (vertex h low) = refl
  rule-listed (order h none low) = refl
  rule-listed (outputs h none visited unfit) = refl
  rule-listed (node h none visited fit low) = refl
  rule-listed (attribute h none visited fit nodes low) = refl

  pub rule_small : {n p : ℕ} → RuleFault block n p → Small n p
  rule_small (header h) = record { number = omega arith; place = omega arith }
  rule_small (vertex h low) = record { number = omega arith; place = omega (arith, low.bad.0, few_vertices_lem block h) }
  rule_small (order h none low) = record { number = omega arith; place = omega (arith, low.bad.0, few_vertices_lem block h) }
  rule_small (outputs h none visited unfit) = record { number = omega arith; place = omega arith }
  rule_small (node h none visited fit low) = record { number = omega arith; place = omega (arith, low.bad.0, (whole block h).few_nodes) }
  rule_small (attribute h none visited fit nodes low) = record { number = omega arith; place = omega (arith, low.bad.0, few_vertices_lem block h) }

pub form-numbered : (version : ℕ) (block : List ℕ) → Numbered (FaultAs version block) form_numbers
unfolding member
form-numbered version block = record { listed = form-listed; small = form_small; apart = refl }

pub graph-numbered : (block : List ℕ) → Numbered (GraphFault block) graph_numbers
unfolding member
graph-numbered block = record { listed = graph-listed; small = graph_small; apart = refl }

pub rule-numbered : (block : List ℕ) → Numbered (RuleFault block) rule_numbers
unfolding member
rule-numbered block = record { listed = rule-listed; small = rule_small; apart = refl }

-- ---- numbers of the one block are none of the other's

-- a rule's number is none of a graph's
pub rule_apart : {block : List ℕ} {n p : ℕ} → RuleFault block n p → member n graph_numbers ≡ false
unfolding member
rule_apart (header h) = refl
rule_apart (vertex h low) = refl
rule_apart (order h none low) = refl
rule_apart (outputs h none visited unfit) = refl
rule_apart (node h none visited fit low) = refl
rule_apart (attribute h none visited fit nodes low) = refl

pub graph_apart : {block : List ℕ} {n p : ℕ} → GraphFault block n p → member n rule_numbers ≡ false
unfolding member
graph_apart (form (header h)) = refl
graph_apart (form (slot h low)) = refl
graph_apart (form (input h records low)) = refl
graph_apart (form (output h records inputs low)) = refl
graph_apart (form (cycle h records inputs named low)) = refl
graph_apart (count sound low) = refl
