-- Examples of faults, with the number and the place that each is told with: one of each kind, and several at once.
-- Assumes nothing.
use Rattle.std.specs.Prelude.{◌≡◌, List, [], ◌∷◌, ℕ, set}
use Rattle.definitions.specs.Reply.{Reply, done, refused_at}
use Rattle.definitions.specs.Graph.{empty_slot, graph_reply}
use Rattle.definitions.specs.Rule.{rule_reply}
use Rattle.theory.specs.Examples.{variable, call, relu, block, vertex, wild, calls, node, rule, rr}

pub data Checked : Type 0 where
  graph : (block : List ℕ) → Reply → Checked
  pattern : (block : List ℕ) → Reply → Checked

-- the definitions give this reply
abbrev pub Told : Checked → Type 0
Told (graph block reply) = graph_reply block ≡ reply
Told (pattern block reply) = rule_reply block ≡ reply

abbrev pub AllTold : List Checked → Type 0
unfolding Told
AllTold [] = Unit {0}
AllTold (e ∷ es) = Told e × AllTold es

-- ---- graphs

-- a Variable, two relus over it, and an Empty slot; the second relu is the output
chain : List ℕ
unfolding variable relu block
chain = block (variable ∷ relu 0 ∷ relu 1 ∷ empty_slot ∷ []) (2 ∷ [])

-- byte 3 is not zero; slot 0's kind is unknown, too
bad_header : List ℕ
unfolding chain
bad_header = set (set chain 3 1) 24 9

-- the operators of slots 1 and 2 are unknown; the output names slot 3, which is Empty
bad_records : List ℕ
unfolding chain
bad_records = set (set (set chain 73 15) 121 15) 10 3

-- slot 1 reads slot 3, which is Empty, slot 2 reads slot 4, which there isn't, and the output names slot 3
bad_inputs : List ℕ
unfolding variable relu block
bad_inputs = block (variable ∷ relu 3 ∷ relu 4 ∷ empty_slot ∷ []) (3 ∷ [])

-- the second and the third output name no vertex; slot 2 reads itself, too
bad_outputs : List ℕ
unfolding variable relu block
bad_outputs = block (variable ∷ relu 0 ∷ relu 2 ∷ empty_slot ∷ []) (1 ∷ 3 ∷ 9 ∷ [])

-- slots 2 and 3 read each other, and so do 4 and 5; slot 0 hangs from the first cycle, and the second one from slot 1
two_cycles : List ℕ
unfolding variable call relu block
two_cycles = block (relu 3 ∷ variable ∷ relu 3 ∷ relu 2 ∷ call 1 (5 ∷ 1 ∷ []) [] ∷ relu 4 ∷ []) (0 ∷ [])

-- ---- rules

-- three outputs, which is too many; source vertex 0 has an unknown kind, too
bad_rule_header : List ℕ
unfolding rr
bad_rule_header = set (set rr 8 3) 16 9

-- source vertex 2 reads itself, and the target vertex, the fourth in all, is a wildcard with an input
bad_vertices : List ℕ
unfolding rr
bad_vertices = set (set rr 64 0) 52 2

-- the target vertex alone
bad_target : List ℕ
unfolding rr
bad_target = set rr 64 0

-- the traversal visits 1, 0 and 2
other_order : List ℕ
unfolding wild calls rule
other_order =
    rule (wild ∷ wild ∷ calls 1 (1 ∷ 0 ∷ []) [] ∷ []) (calls 3 (0 ∷ 1 ∷ []) [] ∷ []) (2 ∷ []) (16 ∷ []) []

-- the traversal visits 0 and 1, and ends; rule input 0 is not named, too
ends_early : List ℕ
unfolding wild calls rule
ends_early = rule (wild ∷ calls 7 (0 ∷ []) [] ∷ calls 7 (0 ∷ []) [] ∷ []) [] (1 ∷ []) (255 ∷ []) []

-- rule input 0 is named by no target place; node 0 has an unknown form, too
unnamed : List ℕ
unfolding vertex wild calls node rule
unnamed = rule (wild ∷ calls 7 (0 ∷ []) [] ∷ []) (vertex 1 0 [] (0 ∷ []) ∷ []) (1 ∷ []) (16 ∷ []) (node 9 0 0 0 ∷ [])

-- two casts: nodes 2 and 3 add node 0, which is any; the target uses any, too
bad_nodes : List ℕ
unfolding wild calls node rule
bad_nodes =
    rule (wild ∷ calls 14 (0 ∷ []) (0 ∷ []) ∷ []) (calls 14 (0 ∷ []) (0 ∷ []) ∷ []) (1 ∷ []) (16 ∷ [])
    (node 0 0 0 0 ∷ node 1 0 0 7 ∷ node 3 1 0 0 ∷ node 3 0 1 0 ∷ [])

-- the target vertex, the third in all, uses any
bad_use : List ℕ
unfolding wild calls node rule
bad_use =
    rule (wild ∷ calls 14 (0 ∷ []) (0 ∷ []) ∷ []) (calls 14 (0 ∷ []) (0 ∷ []) ∷ []) (1 ∷ []) (16 ∷ []) (node 0 0 0 0 ∷ [])

-- both vertices with an attribute name a node at or above A
bad_uses : List ℕ
unfolding wild calls rule
bad_uses = rule (wild ∷ calls 14 (0 ∷ []) (0 ∷ []) ∷ []) (calls 14 (0 ∷ []) (1 ∷ []) ∷ []) (1 ∷ []) (16 ∷ []) []

unfoldable pub fault_examples : List Checked
unfolding chain bad_header bad_records bad_inputs bad_outputs two_cycles bad_rule_header bad_vertices bad_target other_order ends_early unnamed bad_nodes bad_use bad_uses
fault_examples =
    graph chain done
    ∷ graph [] (refused_at 20 0)
    ∷ graph bad_header (refused_at 20 0)
    ∷ graph bad_records (refused_at 21 1)
    ∷ graph bad_inputs (refused_at 22 1)
    ∷ graph bad_outputs (refused_at 22 1)
    ∷ graph two_cycles (refused_at 23 2)
    ∷ pattern rr done
    ∷ pattern [] (refused_at 30 0)
    ∷ pattern bad_rule_header (refused_at 30 0)
    ∷ pattern bad_vertices (refused_at 31 2)
    ∷ pattern bad_target (refused_at 31 3)
    ∷ pattern other_order (refused_at 32 0)
    ∷ pattern ends_early (refused_at 32 2)
    ∷ pattern unnamed (refused_at 33 0)
    ∷ pattern bad_nodes (refused_at 34 2)
    ∷ pattern bad_use (refused_at 34 2)
    ∷ pattern bad_uses (refused_at 34 1)
    ∷ []
