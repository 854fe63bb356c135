-- 'The rule block': its fields, the rule for which a block stands, and the faults of a block.
-- Assumes nothing.
use Rattle.std.specs.Prelude.{◌≡◌, Bool, true, false, cond, not, ◌&&◌, ◌||◌, ℕ, zero, suc, ◌+◌, ◌-◌, ◌*◌, ◌<◌, eqb, ltb, leb, ℤ, length, get_or}
use mathlib.Core.List.{List, [], ◌∷◌, ◌++◌, Memᴰ}
use Rattle.definitions.specs.Lists.{within, all_below, any_below, lowest, tabulate, build, all, any, foldl, member, distinct, range}
use Rattle.definitions.specs.Fields.{byte_at, u16_at, u32_at, filled, mark_fits, signed}
use Rattle.definitions.specs.Operators.{kind_empty, kind_variable, kind_call, kind_proj, shape_fits}
use Rattle.definitions.specs.Graph.{attribute_limit}
use Rattle.definitions.specs.Paths.{Reaches, visit}
use Rattle.definitions.specs.Reply.{Reply, bad_rule_header, bad_rule_record, bad_rule_order, bad_rule_outputs, bad_rule_expression, Fault, fault, flag, place, judged}

-- ---- sizes

abbrev pub rule_header_bytes : ℕ
rule_header_bytes = 16

abbrev pub pattern_bytes : ℕ
pattern_bytes = 16

abbrev pub node_bytes : ℕ
node_bytes = 8

-- a rule block has at most so many source vertices, and so many target vertices
abbrev pub side_limit : ℕ
side_limit = 16

-- a target place below this names the rule input with that number; from here on it names target vertices, this one the first
abbrev pub target_base : ℕ
target_base = 16

-- the code has space for so many vertices a side; no paper names it, and side_limit is no more
abbrev pub side_capacity : ℕ
side_capacity = 64

-- the numbers that a place of a rule may hold: it is a byte
abbrev pub place_numbers : ℕ
place_numbers = 256

abbrev pub rule_output_limit : ℕ
rule_output_limit = 2

abbrev pub node_limit : ℕ
node_limit = 64

-- `R`
abbrev pub rule_letter : ℕ
rule_letter = 82

abbrev pub rule_version : ℕ
rule_version = 1

-- ---- fields

abbrev pub source_count : List ℕ → ℕ
source_count block = byte_at block 6

abbrev pub target_count : List ℕ → ℕ
target_count block = byte_at block 7

abbrev pub rule_output_count : List ℕ → ℕ
rule_output_count block = byte_at block 8

abbrev pub node_count : List ℕ → ℕ
node_count block = byte_at block 9

-- where the record of vertex v starts; source vertices come first, target vertex t is vertex S + t
abbrev pub vertex_at : ℕ → ℕ
vertex_at v = rule_header_bytes + pattern_bytes * v

-- where node k starts
abbrev pub node_at : List ℕ → ℕ → ℕ
node_at block k = vertex_at (source_count block + target_count block) + node_bytes * k

-- ---- the rule of a block

pub data Operation : Type 0 where
  add subtract multiply divide remainder : Operation

-- an attribute of a pattern: `access v b` is attribute place b, counted from 1, of the image of source vertex v. The index, counted from 1,
-- and the sum over 1 to n stand in variadic rules alone (Variadic): the fixed rule for n has neither.
pub data Expression : Type 0 where
  anything : Expression
  constant : ℤ → Expression
  access : ℕ → ℕ → Expression
  apply : Operation → Expression → Expression → Expression
  index : Expression
  sum : Expression → Expression

-- what a target place names: the rule input with that source vertex's number, or a target vertex
pub data Origin : Type 0 where
  given : ℕ → Origin
  made : ℕ → Origin

-- a vertex of a rule; P is what an input place names
pub record Pattern (P : Type 0) : Type 0 where
  pub kind : ℕ
  pub operator : ℕ
  pub inputs : List P
  pub attributes : List Expression

pub record Rule : Type 0 where
  pub source : List (Pattern ℕ)
  pub target : List (Pattern Origin)
  pub source_outputs : List ℕ
  pub target_outputs : List Origin

-- a place number below `base` is a rule input's, and from there on target vertices'
unfoldable pub origin_by : ℕ → ℕ → Origin
origin_by base p = cond (ltb p base) (given p) (made (p - base))

abbrev pub origin_of : ℕ → Origin
origin_of p = origin_by target_base p

-- a node's forms; the operations are the last five of version 1
abbrev pub form_any : ℕ
form_any = 0

abbrev pub form_constant : ℕ
form_constant = 1

abbrev pub form_access : ℕ
form_access = 2

abbrev pub form_add : ℕ
form_add = 3

abbrev pub form_remainder : ℕ
form_remainder = 7

-- of version 2 alone
abbrev pub form_index : ℕ
form_index = 8

abbrev pub form_sum : ℕ
form_sum = 9

-- the operations of forms 3 to 7, in order
unfoldable pub operations : List Operation
operations = add ∷ subtract ∷ multiply ∷ divide ∷ remainder ∷ []

abbrev pub node_form : List ℕ → ℕ → ℕ
node_form block k = byte_at block (node_at block k)

abbrev pub node_left : List ℕ → ℕ → ℕ
node_left block k = byte_at block (node_at block k + 1)

abbrev pub node_right : List ℕ → ℕ → ℕ
node_right block k = byte_at block (node_at block k + 2)

-- node k, whose operands are among the earlier nodes' expressions; `left` and `right` say which
unfoldable pub node_by : (ℕ → ℕ) → (ℕ → ℕ) → List ℕ → List Expression → ℕ → Expression
node_by left right block earlier k =
    cond (eqb (node_form block k) form_any) anything
    (cond (eqb (node_form block k) form_constant) (constant (signed (u32_at block (node_at block k + 4))))
    (cond (eqb (node_form block k) form_access) (access (node_left block k) (node_right block k))
    (cond (eqb (node_form block k) form_index) index
    (cond (eqb (node_form block k) form_sum) (sum (get_or earlier (left k) anything))
    (apply (get_or operations (node_form block k - form_add) remainder) (get_or earlier (left k) anything) (get_or earlier (right k) anything))))))

abbrev pub node_from : List ℕ → List Expression → ℕ → Expression
node_from block earlier k = node_by (node_left block) (node_right block) block earlier k

unfoldable pub expressions : List ℕ → List Expression
expressions block = build (node_from block) (node_count block)

unfoldable pub expression_of : List ℕ → ℕ → Expression
expression_of block k = get_or (expressions block) k anything

-- the pattern whose record starts at `at`; attribute i is `attribute i`
unfoldable pub pattern_from : {P : Type 0} → (ℕ → P) → (ℕ → Expression) → List ℕ → ℕ → Pattern P
pattern_from naming attribute block at = record {
  kind = byte_at block at;
  operator = byte_at block (at + 1);
  inputs = tabulate (byte_at block (at + 2)) (λ i. naming (byte_at block (at + 4 + i)));
  attributes = tabulate (byte_at block (at + 3)) attribute;
}

-- attribute i of vertex v, here counted from 0
abbrev pub attribute_in : List ℕ → ℕ → ℕ → Expression
attribute_in block v i = expression_of block (byte_at block (vertex_at v + 10 + i))

-- the rule whose header and records stand in the block, where `naming` says what a target place names, and `attribute v i` is attribute i of
-- vertex v
unfoldable pub rule_by : (ℕ → Origin) → (ℕ → ℕ → Expression) → List ℕ → Rule
rule_by naming attribute block = record {
  source = tabulate (source_count block) (λ j. pattern_from (λ p. p) (attribute j) block (vertex_at j));
  target = tabulate (target_count block) (λ t. pattern_from naming (attribute (source_count block + t)) block (vertex_at (source_count block + t)));
  source_outputs = tabulate (rule_output_count block) (λ i. byte_at block (10 + i));
  target_outputs = tabulate (rule_output_count block) (λ i. naming (byte_at block (12 + i)));
}

-- the rule of a block
unfoldable pub rule_of : List ℕ → Rule
rule_of block = rule_by origin_of (attribute_in block) block

-- for a number past the last vertex stands a wildcard, which has no inputs
unfoldable pub wildcard : {P : Type 0} → Pattern P
wildcard = record { kind = kind_empty; operator = 0; inputs = []; attributes = [] }

unfoldable pub source_of : Rule → ℕ → Pattern ℕ
source_of r j = get_or r.source j wildcard

unfoldable pub target_of : Rule → ℕ → Pattern Origin
target_of r t = get_or r.target t wildcard

abbrev pub source_inputs : Rule → ℕ → List ℕ
source_inputs r j = (source_of r j).inputs

-- wildcards and Variables are the rule's inputs
unfoldable pub input_kind : ℕ → Bool
input_kind kind = eqb kind kind_empty || eqb kind kind_variable

unfoldable pub is_rule_input : Rule → ℕ → Bool
is_rule_input r j = ltb j (length r.source) && input_kind (source_of r j).kind

-- ---- faults, by kind, in document 01's order

-- at most `limit` vertices a side
unfoldable pub rule_sizes_fit : ℕ → List ℕ → Bool
rule_sizes_fit limit block =
    within 1 (source_count block) limit
    && leb (target_count block) limit
    && within 1 (rule_output_count block) rule_output_limit
    && leb (node_count block) node_limit

-- source outputs name source vertices; the unused places on either side hold 255
unfoldable pub rule_output_places_fit : List ℕ → Bool
rule_output_places_fit block =
    all_below (λ i. ltb (byte_at block (10 + i)) (source_count block)) (rule_output_count block)
    && filled block (10 + rule_output_count block) 12 255
    && filled block (12 + rule_output_count block) 14 255

-- length and header, with the source outputs' numbers and the unused output places
unfoldable pub rule_header_fits : ℕ → List ℕ → Bool
rule_header_fits limit block =
    eqb (length block) (node_at block (node_count block))
    && mark_fits block rule_letter
    && eqb (u16_at block 4) rule_version
    && rule_sizes_fit limit block
    && rule_output_places_fit block
    && filled block 14 16 0

-- the record that starts at `at` follows the tables, and its unused input and attribute places hold 255
unfoldable pub pattern_fits : List ℕ → ℕ → Bool
pattern_fits block at =
    shape_fits (byte_at block at) (byte_at block (at + 1)) (byte_at block (at + 2)) (byte_at block (at + 3))
    && filled block (at + 4 + byte_at block (at + 2)) (at + 10) 255
    && filled block (at + 10 + byte_at block (at + 3)) (at + 16) 255

-- a place of the target names a rule input, or a target vertex below t
unfoldable pub origin_fits : Rule → ℕ → Origin → Bool
origin_fits r t (given j) = is_rule_input r j
origin_fits r t (made u) = ltb u t

-- a source input names a lower vertex
unfoldable pub source_inputs_fit : Rule → ℕ → Bool
source_inputs_fit r j = all (λ p. ltb p j) (source_inputs r j)

-- target kinds are 1, 3, 4 and 5; a target vertex names rule inputs and earlier target vertices
unfoldable pub target_inputs_fit : Rule → ℕ → Bool
target_inputs_fit r t = not (input_kind (target_of r t).kind) && all (origin_fits r t) (target_of r t).inputs

-- vertex v, a source or a target one of the rule r in the block, has a bad record or a bad input place
unfoldable pub bad_vertex_of : Rule → List ℕ → ℕ → Bool
bad_vertex_of r block v =
    not (pattern_fits block (vertex_at v)
    && cond (ltb v (source_count block)) (source_inputs_fit r v) (target_inputs_fit r (v - source_count block)))

abbrev pub bad_vertex : List ℕ → ℕ → Bool
bad_vertex block v = bad_vertex_of (rule_of block) block v

-- 002's traversal from the listed outputs
unfoldable pub traversal : Rule → List ℕ
traversal r = foldl (visit (source_inputs r) (length r.source)) [] r.source_outputs

-- the j-th visited vertex is not j, or the traversal ends before it; no source vertex has the number S
unfoldable pub out_of_order : Rule → ℕ → Bool
out_of_order r j = not (eqb (get_or (traversal r) j (length r.source)) j)

-- What computes "source vertex v reaches w", for every w: built from the lowest w up, since inputs are lower. It is proved that
-- this is a path.
unfoldable pub reached : Rule → ℕ → List Bool
reached r v = build (λ before w. eqb v w || any (λ u. get_or before u false) (source_inputs r w)) (length r.source)

unfoldable pub reaches : Rule → ℕ → ℕ → Bool
reaches r v w = get_or (reached r v) w false

-- source outputs are distinct, of kind 3, 4 or 5, and read by no source vertex
unfoldable pub source_outputs_fit : Rule → Bool
source_outputs_fit r =
    distinct r.source_outputs
    && all (λ o. within kind_call (source_of r o).kind kind_proj && not (any (λ p. member o p.inputs) r.source))
    r.source_outputs

-- some source vertex reaches every output; with one output, that output itself does
unfoldable pub connected : Rule → Bool
connected r = any_below (λ v. all (reaches r v) r.source_outputs) (length r.source)

unfoldable pub same_origin : Origin → Origin → Bool
same_origin (given i) (given j) = eqb i j
same_origin (given i) (made u) = false
same_origin (made t) (given j) = false
same_origin (made t) (made u) = eqb t u

-- some target place, an input or an output, names it
unfoldable pub named : Rule → Origin → Bool
named r o = any (λ p. any (same_origin o) p.inputs) r.target || any (same_origin o) r.target_outputs

-- every rule input and every target vertex is named
unfoldable pub all_named : Rule → Bool
all_named r =
    all_below (λ j. not (is_rule_input r j) || named r (given j)) (length r.source)
    && all_below (λ t. named r (made t)) (length r.target)

unfoldable pub outputs_fit : Rule → Bool
outputs_fit r =
    source_outputs_fit r && connected r && all (origin_fits r (length r.target)) r.target_outputs && all_named r

-- node k may name node j as an operand: an earlier one that is not any
unfoldable pub operand_fits : List ℕ → ℕ → ℕ → Bool
operand_fits block k j = ltb j k && not (eqb (node_form block j) form_any)

-- form, used fields in range, and unused fields zero
unfoldable pub node_fits : List ℕ → ℕ → Bool
node_fits block k =
    eqb (byte_at block (node_at block k + 3)) 0
    && cond (eqb (node_form block k) form_constant) (eqb (node_left block k) 0 && eqb (node_right block k) 0)
    (filled block (node_at block k + 4) (node_at block k + 8) 0
    && cond (eqb (node_form block k) form_any) (eqb (node_left block k) 0 && eqb (node_right block k) 0)
    (cond (eqb (node_form block k) form_access) (ltb (node_left block k) (source_count block) && within 1 (node_right block k) attribute_limit)
    (leb (node_form block k) form_remainder && operand_fits block k (node_left block k) && operand_fits block k (node_right block k))))

unfoldable pub bad_node : List ℕ → ℕ → Bool
bad_node block k = not (node_fits block k)

-- the expression only accesses vertices below j, through sums too
unfoldable pub accesses_below : ℕ → Expression → Bool
accesses_below j anything = true
accesses_below j (constant z) = true
accesses_below j (access v b) = ltb v j
accesses_below j (apply o x y) = accesses_below j x && accesses_below j y
accesses_below j index = true
accesses_below j (sum x) = accesses_below j x

-- Vertex v may use node k as an attribute: a source vertex where it accesses lower vertices only, a target vertex where it is not
-- the node any.
unfoldable pub use_fits : List ℕ → ℕ → ℕ → Bool
use_fits block v k =
    ltb k (node_count block)
    && cond (ltb v (source_count block)) (accesses_below v (expression_of block k))
    (not (eqb (node_form block k) form_any))

unfoldable pub bad_use : List ℕ → ℕ → Bool
bad_use block v =
    not (all_below (λ i. use_fits block v (byte_at block (vertex_at v + 10 + i))) (byte_at block (vertex_at v + 3)))

-- all kinds of fault, of a block with at most `limit` vertices a side; nodes are looked at before their uses
unfoldable pub rule_faults : ℕ → List ℕ → List Fault
rule_faults limit block =
    let vertices = source_count block + target_count block in
    fault bad_rule_header (flag (not (rule_header_fits limit block)))
    ∷ fault bad_rule_record (place vertices (lowest (bad_vertex block) vertices))
    ∷ fault bad_rule_order (place (source_count block) (lowest (out_of_order (rule_of block)) (source_count block)))
    ∷ fault bad_rule_outputs (flag (not (outputs_fit (rule_of block))))
    ∷ fault bad_rule_expression (place (node_count block) (lowest (bad_node block) (node_count block)))
    ∷ fault bad_rule_expression (place vertices (lowest (bad_use block) vertices))
    ∷ []

-- what checking a rule gives
unfoldable pub rule_reply : List ℕ → Reply
rule_reply block = judged (rule_faults side_limit block)

-- ---- a sound rule; it is proved that the reply is done exactly for these

-- 'Outputs and connection, with unnamed rule inputs, unused target vertices and bad target outputs'
pub record GoodOutputs (block : List ℕ) : Type 0 where
  pub source : source_outputs_fit (rule_of block) ≡ true
  -- with two outputs some source vertex reaches both, and with one it reaches itself
  pub connection : (v : ℕ) × (v < source_count block)
      × ((o : ℕ) → Memᴰ o (rule_of block).source_outputs → Reaches (source_inputs (rule_of block)) v o)
  pub target : all (origin_fits (rule_of block) (target_count block)) (rule_of block).target_outputs ≡ true
  pub names : all_named (rule_of block) ≡ true

-- The paper's sentences and no tests are: order ("in the visiting order of 002's traversal from the listed outputs", the traversal being
-- the function above) and connection ("some source vertex reaches both", by a path). The other parts are the tests above, for each
-- vertex, node and use: they say by bytes, or of the rule's lists, what the paper says.
pub record SoundWithin (limit : ℕ) (block : List ℕ) : Type 0 where
  pub header : rule_header_fits limit block ≡ true
  pub patterns : (v : ℕ) → v < source_count block + target_count block → pattern_fits block (vertex_at v) ≡ true
  pub lower_inputs : (j : ℕ) → j < source_count block → source_inputs_fit (rule_of block) j ≡ true
  pub named_inputs : (t : ℕ) → t < target_count block → target_inputs_fit (rule_of block) t ≡ true
  pub order : traversal (rule_of block) ≡ range 0 (source_count block)
  pub outputs : GoodOutputs block
  pub nodes : (k : ℕ) → k < node_count block → node_fits block k ≡ true
  pub uses : (v i : ℕ) → v < source_count block + target_count block → i < byte_at block (vertex_at v + 3)
      → use_fits block v (byte_at block (vertex_at v + 10 + i)) ≡ true

abbrev pub SoundRule : List ℕ → Type 0
SoundRule block = SoundWithin side_limit block
