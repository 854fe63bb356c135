-- Document 01's worked examples P1 to P10 as one list. What the paper leaves open is chosen here once: attributes of the Variables and
-- of conv2d and mean, the targets of P5 and P6, the map's bytes before; for P10 a graph of one Variable and two gains, whose first
-- attributes are the paper's two numbers and whose others are 1, and a rule that multiplies each of the three with its like. The paper's
-- graphs are of version 1: the examples are of what the import makes of them.
-- Assumes nothing.
use Rattle.std.specs.Prelude.{◌≡◌, List, [], ◌∷◌, ◌++◌, ℕ, ℤ, pos, negsuc, length, replicate, set, Ok}
use Rattle.std.proofs.Math.Option.{Option, none, some}
use Rattle.definitions.specs.Lists.{padded, concat_map}
use Rattle.definitions.specs.Fields.{u32_bytes}
use Rattle.definitions.specs.Reply.{refused}
use Rattle.definitions.specs.Graph.{import_version, Slot, empty_slot, block_as, graph_block}
use Rattle.definitions.specs.Rule.{Operation, divide, remainder, Expression, constant, apply}
use Rattle.definitions.specs.Attributes.{result_of}
use Rattle.definitions.specs.Operations.{Outcome, map_block, find_match, rewrite}
use Rattle.definitions.specs.Import.{import_graph}

-- ---- blocks

unfoldable pub slot : ℕ → ℕ → List ℕ → List ℕ → Slot
slot kind operator inputs attributes =
    record { kind = kind; operator = operator; inputs = inputs; attributes = attributes }

unfoldable pub variable : Slot
unfolding slot
variable = slot 2 0 [] (1 ∷ 3 ∷ 8 ∷ 8 ∷ 1 ∷ [])

unfoldable pub call : ℕ → List ℕ → List ℕ → Slot
unfolding slot
call operator inputs attributes = slot 3 operator inputs attributes

unfoldable pub relu : ℕ → Slot
unfolding call
relu x = call 7 (x ∷ []) []

-- the block of the graph with these slots and outputs
unfoldable pub block : List Slot → List ℕ → List ℕ
block slots outputs = graph_block (record { slots = slots; outputs = outputs })

-- its block of version 1, which has no counts
unfoldable pub old_block : List Slot → List ℕ → List ℕ
old_block slots outputs = block_as import_version (λ k. 0) (record { slots = slots; outputs = outputs })

-- and what the import makes of that
unfoldable pub imported : List Slot → List ℕ → List ℕ
unfolding old_block
imported slots outputs = import_graph (old_block slots outputs)

-- a vertex of a rule: kind, operator, input places, attribute nodes
unfoldable pub vertex : ℕ → ℕ → List ℕ → List ℕ → List ℕ
vertex kind operator inputs nodes =
    (kind ∷ operator ∷ length inputs ∷ length nodes ∷ []) ++ padded 6 255 inputs ++ padded 6 255 nodes

unfoldable pub wild : List ℕ
unfolding vertex
wild = vertex 0 0 [] []

unfoldable pub calls : ℕ → List ℕ → List ℕ → List ℕ
unfolding vertex
calls operator inputs nodes = vertex 3 operator inputs nodes

unfoldable pub node : ℕ → ℕ → ℕ → ℕ → List ℕ
node form a b number = (form ∷ a ∷ b ∷ 0 ∷ []) ++ u32_bytes number

unfoldable pub rule : List (List ℕ) → List (List ℕ) → List ℕ → List ℕ → List (List ℕ) → List ℕ
rule source target source_outputs target_outputs nodes =
    (76 ∷ 71 ∷ 82 ∷ 0 ∷ 1 ∷ 0 ∷ length source ∷ length target ∷ length source_outputs ∷ length nodes ∷ [])
    ++ padded 2 255 source_outputs
    ++ padded 2 255 target_outputs
    ++ (0 ∷ 0 ∷ [])
    ++ concat_map (λ v. v) source
    ++ concat_map (λ v. v) target
    ++ concat_map (λ v. v) nodes

-- ---- E1 and RR

e1_slots : List Slot
unfolding variable call relu
e1_slots = variable ∷ variable ∷ call 4 (0 ∷ 1 ∷ []) (1 ∷ 1 ∷ 1 ∷ 1 ∷ []) ∷ relu 2 ∷ relu 3 ∷ []

e1_old : List ℕ
unfolding e1_slots old_block
e1_old = old_block (e1_slots ++ empty_slot ∷ []) (4 ∷ [])

e1 : List ℕ
unfolding e1_slots imported
e1 = imported (e1_slots ++ empty_slot ∷ []) (4 ∷ [])

-- what RR leaves of E1
e1_after : List ℕ
unfolding variable call relu block
e1_after =
    block
    (variable ∷ variable ∷ call 4 (0 ∷ 1 ∷ []) (1 ∷ 1 ∷ 1 ∷ 1 ∷ []) ∷ relu 2 ∷ empty_slot ∷ empty_slot ∷ [])
    (3 ∷ [])

unfoldable pub rr : List ℕ
unfolding wild calls rule
rr = rule (wild ∷ calls 7 (0 ∷ []) [] ∷ calls 7 (1 ∷ []) [] ∷ []) (calls 7 (0 ∷ []) [] ∷ []) (2 ∷ []) (16 ∷ []) []

-- ---- what is said of an example

-- the map's bytes before
unfoldable pub blank : List ℕ
blank = replicate 32 170

pub data Example : Type 0 where
  matching : (graph rule : List ℕ) (start : ℕ) → Outcome → Example
  rewriting : (graph rule : List ℕ) (start : ℕ) → Outcome → Example
  evaluating : Expression → Option ℤ → Example
  writing : (block bytes : List ℕ) → Example

-- the definitions give what the paper says
abbrev pub Holds : Example → Type 0
unfolding blank
Holds (matching graph rule start outcome) = find_match graph rule start blank ≡ outcome
Holds (rewriting graph rule start outcome) = rewrite graph rule start blank ≡ outcome
Holds (evaluating expression expected) = result_of (λ v b. none) expression ≡ expected
Holds (writing block bytes) = block ≡ bytes

abbrev pub AllHold : List Example → Type 0
unfolding Holds
AllHold [] = Unit {0}
AllHold (e ∷ es) = Holds e × AllHold es

unfoldable pub done : List ℕ → List ℕ → Outcome
done graph images = record { reply = Ok 0; graph = graph; map = map_block images }

-- a refusal leaves both blocks as they came
unfoldable pub refusal : ℕ → List ℕ → Outcome
unfolding blank
refusal number graph = record { reply = refused number; graph = graph; map = blank }

-- ---- the examples

p1 : Example
unfolding e1 e1_after rr done
p1 = rewriting e1 rr 0 (done e1_after (2 ∷ 3 ∷ 4 ∷ []))

p2_from5 : Example
unfolding e1 rr refusal
p2_from5 = rewriting e1 rr 5 (refusal 4 e1)

p2_from4 : Example
unfolding e1 e1_after rr done
p2_from4 = rewriting e1 rr 4 (done e1_after (2 ∷ 3 ∷ 4 ∷ []))

p3_graph : List ℕ
unfolding e1_slots imported
p3_graph = imported (e1_slots ++ empty_slot ∷ []) (4 ∷ 3 ∷ [])

p3 : Example
unfolding p3_graph rr refusal
p3 = rewriting p3_graph rr 0 (refusal 4 p3_graph)

p4 : Example
unfolding e1_slots variable call relu block imported rr done
p4 =
    rewriting (imported e1_slots (4 ∷ [])) rr 0
    (done
    (block
    (variable ∷ variable ∷ call 4 (0 ∷ 1 ∷ []) (1 ∷ 1 ∷ 1 ∷ 1 ∷ []) ∷ relu 2 ∷ empty_slot ∷ [])
    (3 ∷ []))
    (2 ∷ 3 ∷ 4 ∷ []))

p5_graph : List ℕ
unfolding variable call imported
p5_graph = imported (variable ∷ call 1 (0 ∷ 0 ∷ []) [] ∷ []) (1 ∷ [])

p5_apart : Example
unfolding p5_graph wild calls rule refusal
p5_apart =
    matching p5_graph (rule (wild ∷ wild ∷ calls 1 (0 ∷ 1 ∷ []) [] ∷ []) (calls 3 (0 ∷ 1 ∷ []) [] ∷ []) (2 ∷ []) (16 ∷ []) []) 0
    (refusal 4 p5_graph)

p5_same : Example
unfolding p5_graph wild calls rule done
p5_same =
    matching p5_graph (rule (wild ∷ calls 1 (0 ∷ 0 ∷ []) [] ∷ []) (calls 2 (0 ∷ 0 ∷ []) [] ∷ []) (1 ∷ []) (16 ∷ []) []) 0
    (done p5_graph (0 ∷ 1 ∷ []))

p6_graph : List ℕ
unfolding variable call relu imported
p6_graph = imported (variable ∷ relu 0 ∷ call 12 (1 ∷ []) (1 ∷ []) ∷ call 1 (1 ∷ 2 ∷ []) [] ∷ []) (3 ∷ [])

p6 : Example
unfolding p6_graph wild calls rule refusal
p6 =
    matching p6_graph
    (rule (wild ∷ calls 7 (0 ∷ []) [] ∷ wild ∷ calls 1 (1 ∷ 2 ∷ []) [] ∷ []) (calls 3 (0 ∷ 2 ∷ []) [] ∷ []) (3 ∷ []) (16 ∷ []) [])
    0
    (refusal 4 p6_graph)

p7_graph : List ℕ
unfolding variable call relu imported
p7_graph = imported (variable ∷ relu 0 ∷ call 12 (1 ∷ []) (1 ∷ []) ∷ call 1 (0 ∷ 2 ∷ []) [] ∷ []) (3 ∷ [])

p7_rule : List ℕ
unfolding wild calls rule
p7_rule =
    rule (wild ∷ calls 7 (0 ∷ []) [] ∷ wild ∷ calls 1 (0 ∷ 2 ∷ []) [] ∷ []) (calls 3 (0 ∷ 2 ∷ []) [] ∷ []) (1 ∷ 3 ∷ [])
    (16 ∷ 16 ∷ [])
    []

p7 : Example
unfolding p7_graph p7_rule refusal
p7 = rewriting p7_graph p7_rule 0 (refusal 7 p7_graph)

p8 : Example
unfolding variable call relu block imported p7_rule done
p8 =
    rewriting (imported (variable ∷ variable ∷ relu 0 ∷ relu 1 ∷ call 1 (1 ∷ 0 ∷ []) [] ∷ []) (4 ∷ [])) p7_rule 0
    (done (block (variable ∷ variable ∷ relu 0 ∷ call 3 (1 ∷ 0 ∷ []) [] ∷ empty_slot ∷ []) (3 ∷ [])) (1 ∷ 3 ∷ 0 ∷ 4 ∷ []))

-- P9: six values
p9 : Operation → ℤ → ℤ → Option ℤ → Example
p9 operation x y expected = evaluating (apply operation (constant x) (constant y)) expected

-- P10: gain over gain, each of the three attributes multiplied with its like
p10_graph : List ℕ
unfolding variable call imported
p10_graph = imported (variable ∷ call 10 (0 ∷ []) (65536 ∷ 1 ∷ 1 ∷ []) ∷ call 10 (1 ∷ []) (65536 ∷ 1 ∷ 1 ∷ []) ∷ []) (2 ∷ [])

p10_rule : List ℕ
unfolding wild calls rule node
p10_rule =
    rule (wild ∷ calls 10 (0 ∷ []) (0 ∷ 0 ∷ 0 ∷ []) ∷ calls 10 (1 ∷ []) (0 ∷ 0 ∷ 0 ∷ []) ∷ [])
    (calls 10 (0 ∷ []) (7 ∷ 8 ∷ 9 ∷ []) ∷ [])
    (2 ∷ [])
    (16 ∷ [])
    (node 0 0 0 0 ∷ node 2 1 1 0 ∷ node 2 2 1 0 ∷ node 2 1 2 0 ∷ node 2 2 2 0 ∷ node 2 1 3 0 ∷ node 2 2 3 0
    ∷ node 5 1 2 0 ∷ node 5 3 4 0 ∷ node 5 5 6 0 ∷ [])

p10 : Example
unfolding p10_graph p10_rule refusal
p10 = rewriting p10_graph p10_rule 0 (refusal 5 p10_graph)

-- E1's block of version 1 and RR's, byte by byte
e1_bytes : List ℕ
e1_bytes =
    (76 ∷ 71 ∷ 84 ∷ 0 ∷ 1 ∷ 0 ∷ 6 ∷ 0 ∷ 1 ∷ 0 ∷ 4 ∷ 0 ∷ 255 ∷ 255 ∷ 255 ∷ 255 ∷ 255 ∷ 255 ∷ 0 ∷ 0 ∷ 0 ∷ 0 ∷ 0 ∷ 0 ∷ [])
    ++ (2 ∷ 0 ∷ 0 ∷ 5 ∷ []) ++ replicate 12 255
    ++ (1 ∷ 0 ∷ 0 ∷ 0 ∷ 3 ∷ 0 ∷ 0 ∷ 0 ∷ 8 ∷ 0 ∷ 0 ∷ 0 ∷ 8 ∷ 0 ∷ 0 ∷ 0 ∷ 1 ∷ 0 ∷ 0 ∷ 0 ∷ 0 ∷ 0 ∷ 0 ∷ 0 ∷ []) ++ replicate 8 0
    ++ (2 ∷ 0 ∷ 0 ∷ 5 ∷ []) ++ replicate 12 255
    ++ (1 ∷ 0 ∷ 0 ∷ 0 ∷ 3 ∷ 0 ∷ 0 ∷ 0 ∷ 8 ∷ 0 ∷ 0 ∷ 0 ∷ 8 ∷ 0 ∷ 0 ∷ 0 ∷ 1 ∷ 0 ∷ 0 ∷ 0 ∷ 0 ∷ 0 ∷ 0 ∷ 0 ∷ []) ++ replicate 8 0
    ++ (3 ∷ 4 ∷ 2 ∷ 4 ∷ 0 ∷ 0 ∷ 1 ∷ 0 ∷ []) ++ replicate 8 255
    ++ (1 ∷ 0 ∷ 0 ∷ 0 ∷ 1 ∷ 0 ∷ 0 ∷ 0 ∷ 1 ∷ 0 ∷ 0 ∷ 0 ∷ 1 ∷ 0 ∷ 0 ∷ 0 ∷ []) ++ replicate 16 0
    ++ (3 ∷ 7 ∷ 1 ∷ 0 ∷ 2 ∷ 0 ∷ []) ++ replicate 10 255 ++ replicate 32 0
    ++ (3 ∷ 7 ∷ 1 ∷ 0 ∷ 3 ∷ 0 ∷ []) ++ replicate 10 255 ++ replicate 32 0
    ++ (0 ∷ 0 ∷ 0 ∷ 0 ∷ []) ++ replicate 12 255 ++ replicate 32 0

-- E1 as the import leaves it: the version, and a count of 1 in each slot but the last, which is Empty
e1_imported : List ℕ
unfolding e1_bytes
e1_imported = set (set (set (set (set (set e1_bytes 4 2) 64 1) 112 1) 160 1) 208 1) 256 1

rr_bytes : List ℕ
rr_bytes =
    (76 ∷ 71 ∷ 82 ∷ 0 ∷ 1 ∷ 0 ∷ 3 ∷ 1 ∷ 1 ∷ 0 ∷ 2 ∷ 255 ∷ 16 ∷ 255 ∷ 0 ∷ 0 ∷ [])
    ++ (0 ∷ 0 ∷ 0 ∷ 0 ∷ []) ++ replicate 12 255
    ++ (3 ∷ 7 ∷ 1 ∷ 0 ∷ 0 ∷ []) ++ replicate 11 255
    ++ (3 ∷ 7 ∷ 1 ∷ 0 ∷ 1 ∷ []) ++ replicate 11 255
    ++ (3 ∷ 7 ∷ 1 ∷ 0 ∷ 0 ∷ []) ++ replicate 11 255

unfoldable pub examples : List Example
unfolding e1 e1_old rr e1_bytes e1_imported rr_bytes p1 p2_from5 p2_from4 p3 p4 p5_apart p5_same p6 p7 p8 p9 p10
examples =
    p1 ∷ p2_from5 ∷ p2_from4 ∷ p3 ∷ p4 ∷ p5_apart ∷ p5_same ∷ p6 ∷ p7 ∷ p8
    ∷ p9 divide (negsuc 6) (pos 2) (some (negsuc 3))
    ∷ p9 remainder (negsuc 6) (pos 2) (some (pos 1))
    ∷ p9 divide (pos 7) (negsuc 1) (some (negsuc 3))
    ∷ p9 remainder (pos 7) (negsuc 1) (some (negsuc 0))
    ∷ p9 divide (negsuc 2147483647) (negsuc 0) none
    ∷ p9 remainder (negsuc 2147483647) (negsuc 0) (some (pos 0))
    ∷ p10
    ∷ writing e1_old e1_bytes
    ∷ writing e1 e1_imported
    ∷ writing rr rr_bytes
    ∷ []
