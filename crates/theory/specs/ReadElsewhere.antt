-- Request 6/13, by examples: for a graph, a rule, a map and a vertex, the reply, which is the answer or a refusal.
-- Assumes nothing.
use Rattle.std.specs.Prelude.{◌≡◌, true, false, List, [], ◌∷◌, ℕ, replicate, set}
use Rattle.definitions.specs.Reply.{Reply, answered, refused}
use Rattle.definitions.specs.Graph.{Slot, empty_slot}
use Rattle.definitions.specs.Operations.{map_block}
use Rattle.definitions.specs.ReadElsewhere.{elsewhere_reply}
use Rattle.theory.specs.Examples.{slot, variable, call, relu, block, vertex, wild, calls, node, rule, rr}

pub data Asking : Type 0 where
  asking : (graph rule map : List ℕ) (vertex : ℕ) → Reply → Asking

-- the definitions give this
abbrev pub Replies : Asking → Type 0
Replies (asking graph rule map vertex reply) = elsewhere_reply graph rule map vertex ≡ reply

abbrev pub AllReply : List Asking → Type 0
AllReply [] = Unit {0}
AllReply (e ∷ es) = Replies e × AllReply es

-- ---- relu over relu, with an Empty slot; RR's source is wildcard 0, relu 1 and relu 2, its output

chain : List ℕ → List ℕ
unfolding variable relu block
chain outputs = block (variable ∷ relu 0 ∷ relu 1 ∷ relu 2 ∷ empty_slot ∷ []) outputs

at012 : List ℕ
at012 = map_block (0 ∷ 1 ∷ 2 ∷ [])

-- an interior vertex: the match alone reads it
interior : Asking
unfolding chain at012
interior = asking (chain (3 ∷ [])) rr at012 1 (answered false)

-- an output that another slot reads, one that is a graph output, and one that nothing reads
output_read : Asking
unfolding chain at012
output_read = asking (chain (3 ∷ [])) rr at012 2 (answered true)

output_only : Asking
unfolding variable relu block at012
output_only = asking (block (variable ∷ relu 0 ∷ relu 1 ∷ []) (2 ∷ [])) rr at012 2 (answered true)

output_unread : Asking
unfolding variable relu block at012
output_unread = asking (block (variable ∷ relu 0 ∷ relu 1 ∷ []) (0 ∷ [])) rr at012 2 (answered false)

-- any match counts, and not only the least
later_match : Asking
unfolding variable relu block
later_match =
    asking (block (variable ∷ relu 0 ∷ relu 1 ∷ variable ∷ relu 3 ∷ relu 4 ∷ []) (2 ∷ 5 ∷ [])) rr (map_block (3 ∷ 4 ∷ 5 ∷ [])) 2 (answered true)

-- ---- refusals

-- vertex 0 is a rule input, and 3 no source vertex
rule_input : Asking
unfolding chain at012
rule_input = asking (chain (3 ∷ [])) rr at012 0 (refused 42)

no_vertex : Asking
unfolding chain at012
no_vertex = asking (chain (3 ∷ [])) rr at012 3 (refused 42)

-- the interior image is a graph output, so that the map is no match
interior_output : Asking
unfolding chain at012
interior_output = asking (chain (3 ∷ 1 ∷ [])) rr at012 1 (refused 41)

-- an input that is another slot's, an Empty slot, and a number that is no slot
other_input : Asking
unfolding chain
other_input = asking (chain (3 ∷ [])) rr (map_block (0 ∷ 1 ∷ 3 ∷ [])) 1 (refused 41)

empty_image : Asking
unfolding chain
empty_image = asking (chain (3 ∷ [])) rr (map_block (4 ∷ 1 ∷ 2 ∷ [])) 1 (refused 41)

no_slot : Asking
unfolding chain
no_slot = asking (chain (3 ∷ [])) rr (map_block (0 ∷ 1 ∷ 65535 ∷ [])) 1 (refused 41)

-- 65535 from S on, in both bytes
past_source : Asking
unfolding chain at012
past_source = asking (chain (3 ∷ [])) rr (set at012 31 254) 1 (refused 41)

-- 41 is told before 42, and the blocks before both
map_first : Asking
unfolding chain at012
map_first = asking (chain (3 ∷ [])) rr (set at012 6 0) 0 (refused 41)

length_first : Asking
unfolding chain
length_first = asking (chain (3 ∷ [])) rr (replicate 31 255) 0 (refused 1)

rule_first : Asking
unfolding chain
rule_first = asking (chain (3 ∷ [])) [] (replicate 32 255) 0 (refused 30)

-- ---- places count, and not readers: add(y, y) over relu, whose source vertex 1 its reader names twice

twice : List ℕ
unfolding wild calls rule
twice = rule (wild ∷ calls 7 (0 ∷ []) [] ∷ calls 1 (1 ∷ 1 ∷ []) [] ∷ []) (calls 7 (0 ∷ []) [] ∷ []) (2 ∷ []) (16 ∷ []) []

named_twice : Asking
unfolding variable call relu block twice at012
named_twice = asking (block (variable ∷ relu 0 ∷ call 1 (1 ∷ 1 ∷ []) [] ∷ []) (2 ∷ [])) twice at012 1 (answered false)

-- ---- a Const: add(x, 5)

five : Slot
unfolding slot
five = slot 1 0 [] (5 ∷ [])

adds_five : List ℕ
unfolding vertex wild calls node rule
adds_five =
    rule (wild ∷ vertex 1 0 [] (0 ∷ []) ∷ calls 1 (0 ∷ 1 ∷ []) [] ∷ []) (calls 7 (0 ∷ []) [] ∷ []) (2 ∷ []) (16 ∷ []) (node 1 0 0 5 ∷ [])

const_private : Asking
unfolding variable call five block adds_five at012
const_private = asking (block (variable ∷ five ∷ call 1 (0 ∷ 1 ∷ []) [] ∷ []) (2 ∷ [])) adds_five at012 1 (answered false)

-- read by a vertex that reaches no output
const_read : Asking
unfolding variable call five relu block adds_five at012
const_read = asking (block (variable ∷ five ∷ call 1 (0 ∷ 1 ∷ []) [] ∷ relu 1 ∷ []) (2 ∷ [])) adds_five at012 1 (answered true)

const_output : Asking
unfolding variable call five block adds_five at012
const_output = asking (block (variable ∷ five ∷ call 1 (0 ∷ 1 ∷ []) [] ∷ []) (2 ∷ 1 ∷ [])) adds_five at012 1 (answered true)

-- read by the image of a rule input, which stays
read_by_input : Asking
unfolding call five relu block adds_five
read_by_input =
    asking (block (five ∷ relu 0 ∷ call 1 (1 ∷ 0 ∷ []) [] ∷ []) (2 ∷ [])) adds_five (map_block (1 ∷ 0 ∷ 2 ∷ [])) 1 (answered true)

unfoldable pub ask_examples : List Asking
unfolding interior output_read output_only output_unread later_match rule_input no_vertex interior_output other_input empty_image no_slot past_source map_first length_first rule_first named_twice const_private const_read const_output read_by_input
ask_examples =
    interior ∷ output_read ∷ output_only ∷ output_unread ∷ later_match ∷ rule_input ∷ no_vertex ∷ interior_output ∷ other_input
    ∷ empty_image ∷ no_slot ∷ past_source ∷ map_first ∷ length_first ∷ rule_first ∷ named_twice ∷ const_private ∷ const_read ∷ const_output
    ∷ read_by_input ∷ []
