-- 'Say what is wrong and where': the kinds of fault in the papers' words. `GraphFault block n p` and `RuleFault block n p` say that kind n is
-- "the first kind that holds anywhere" and that p is its place: "the lowest slot, vertex or node with that fault". It is proved that the
-- reply to a block is n with place p exactly where this is so.
-- Assumes nothing.
use Rattle.std.specs.Prelude.{◌≡◌, true, false, List, ℕ, ◌+◌, ◌<◌, length, get_or}
use Rattle.definitions.specs.Fields.{byte_at}
use Rattle.definitions.specs.Paths.{Reads, OnCycle}
use Rattle.definitions.specs.Reply.{bad_graph_header, bad_graph_record, bad_graph_name, graph_has_cycle, bad_graph_count, bad_rule_header, bad_rule_record, bad_rule_order, bad_rule_outputs, bad_rule_expression}
use Rattle.definitions.specs.Graph.{unused_place, graph_version, slot_count, record_at, stored_count, Graph, graph_of, inputs_of, is_vertex, true_count, header_fits, record_fits, SoundAs}
use Rattle.definitions.specs.Rule.{side_limit, source_count, target_count, node_count, vertex_at, Rule, rule_of, rule_header_fits, bad_vertex, traversal, GoodOutputs, node_fits, use_fits}

-- p has the fault, and nothing below it has
pub record Lowest (Bad : ℕ → Type 0) (p : ℕ) : Type 0 where
  pub bad : Bad p
  pub least : (k : ℕ) → k < p → Bad k → ⊥

-- nothing has the fault
abbrev pub None : (ℕ → Type 0) → Type 0
None Bad = (k : ℕ) → Bad k → ⊥

-- ---- a graph block

-- slot k has a record against its kind
abbrev pub BadRecord : ℕ → List ℕ → ℕ → Type 0
BadRecord version block k = (k < slot_count block) × (record_fits version block (record_at k) ≡ false)

-- slot k has an input that names no vertex
abbrev pub BadInput : Graph → ℕ → Type 0
BadInput g k = (v : ℕ) × Reads (inputs_of g) k v × (is_vertex g v ≡ false)

-- the output in place i names no vertex
abbrev pub BadOutput : Graph → ℕ → Type 0
BadOutput g i = (i < length g.outputs) × (is_vertex g (get_or g.outputs i unused_place) ≡ false)

-- slot k stores another count than the true one
abbrev pub BadCount : List ℕ → ℕ → Type 0
BadCount block k = (k < slot_count block) × (stored_count block k ≡ true_count (graph_of block) k → ⊥)

-- a fault by the rules of a version, counts aside
pub data FaultAs (version : ℕ) (block : List ℕ) : ℕ → ℕ → Type 0 where
  -- 20: length or header
  header : header_fits version block ≡ false → FaultAs version block bad_graph_header 0
  -- 21: a record against its kind
  slot : {k : ℕ} → header_fits version block ≡ true → Lowest (BadRecord version block) k → FaultAs version block bad_graph_record k
  -- 22: an input that names no vertex; the place is the slot that reads
  input : {k : ℕ} → header_fits version block ≡ true → None (BadRecord version block) → Lowest (BadInput (graph_of block)) k
      → FaultAs version block bad_graph_name k
  -- 22 too: "for a graph output, looked at after all inputs, its place, 0 to 3"
  output : {i : ℕ} → header_fits version block ≡ true → None (BadRecord version block) → None (BadInput (graph_of block))
      → Lowest (BadOutput (graph_of block)) i → FaultAs version block bad_graph_name i
  -- 23: "for a cycle, the lowest slot on one"
  cycle : {v : ℕ} → header_fits version block ≡ true → None (BadRecord version block) → None (BadInput (graph_of block))
      → None (BadOutput (graph_of block)) → Lowest (OnCycle (inputs_of (graph_of block))) v → FaultAs version block graph_has_cycle v

pub data GraphFault (block : List ℕ) : ℕ → ℕ → Type 0 where
  -- 20 to 23: by the rules of version 2
  form : {n p : ℕ} → FaultAs graph_version block n p → GraphFault block n p
  -- 24: "a wrong count is 24, place the lowest such slot, after 23"
  count : {k : ℕ} → SoundAs graph_version block → Lowest (BadCount block) k → GraphFault block bad_graph_count k

-- ---- a rule block; "target vertex t counts as S + t"

-- vertex v has a bad record or a bad input place
abbrev pub BadVertex : List ℕ → ℕ → Type 0
BadVertex block v = (v < source_count block + target_count block) × (bad_vertex block v ≡ true)

-- the j-th vertex that the traversal visits is j
abbrev pub VisitedInOrder : Rule → ℕ → Type 0
VisitedInOrder r j = (j < length (traversal r)) × (get_or (traversal r) j 0 ≡ j)

-- source vertex j "differs from the traversal": that visits another in its place, or ends before it
abbrev pub Misplaced : List ℕ → ℕ → Type 0
Misplaced block j = (j < source_count block) × (VisitedInOrder (rule_of block) j → ⊥)

-- node k has a fault
abbrev pub BadNode : List ℕ → ℕ → Type 0
BadNode block k = (k < node_count block) × (node_fits block k ≡ false)

-- vertex v uses a node wrongly in one of its attributes
abbrev pub BadUse : List ℕ → ℕ → Type 0
BadUse block v = (v < source_count block + target_count block)
    × ((i : ℕ) × (i < byte_at block (vertex_at v + 3)) × (use_fits block v (byte_at block (vertex_at v + 10 + i)) ≡ false))

pub data RuleFault (block : List ℕ) : ℕ → ℕ → Type 0 where
  -- 30: length or header
  header : rule_header_fits side_limit block ≡ false → RuleFault block bad_rule_header 0
  -- 31: a record, with its input places
  vertex : {v : ℕ} → rule_header_fits side_limit block ≡ true → Lowest (BadVertex block) v → RuleFault block bad_rule_record v
  -- 32: "for visiting order, the first vertex that differs from the traversal"
  order : {j : ℕ} → rule_header_fits side_limit block ≡ true → None (BadVertex block) → Lowest (Misplaced block) j
      → RuleFault block bad_rule_order j
  -- 33: outputs and connection
  outputs : rule_header_fits side_limit block ≡ true → None (BadVertex block) → None (Misplaced block) → (GoodOutputs block → ⊥)
      → RuleFault block bad_rule_outputs 0
  -- 34: an expression, "nodes first"
  node : {k : ℕ} → rule_header_fits side_limit block ≡ true → None (BadVertex block) → None (Misplaced block) → GoodOutputs block
      → Lowest (BadNode block) k → RuleFault block bad_rule_expression k
  -- 34 too: "then each vertex's use of them"
  attribute : {v : ℕ} → rule_header_fits side_limit block ≡ true → None (BadVertex block) → None (Misplaced block) → GoodOutputs block
      → None (BadNode block) → Lowest (BadUse block) v → RuleFault block bad_rule_expression v
