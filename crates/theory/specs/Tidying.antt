-- Request 4/13, by examples: what a sweep empties and keeps, and where a squeeze moves slots.
-- Assumes nothing.
use Rattle.std.specs.Prelude.{◌≡◌, List, [], ◌∷◌, ℕ, set, replicate}
use Rattle.definitions.specs.Lists.{concat_map}
use Rattle.definitions.specs.Fields.{u16_bytes}
use Rattle.definitions.specs.Reply.{Reply, done, refused}
use Rattle.definitions.specs.Graph.{Slot, empty_slot, graph_reply}
use Rattle.definitions.specs.Sweep.{sweep_graph}
use Rattle.definitions.specs.Squeeze.{squeeze_reply, squeeze_graph, squeeze_moves}
use Rattle.theory.specs.Examples.{slot, variable, call, relu, block}

pub data Tidying : Type 0 where
  -- a graph, the reply, and the graph after
  sweeping : (graph : List ℕ) → Reply → (after : List ℕ) → Tidying
  -- a graph and a list, the reply, and both after
  squeezing : (graph moves : List ℕ) → Reply → (after list : List ℕ) → Tidying

-- the definitions give this
abbrev pub Gives : Tidying → Type 0
Gives (sweeping graph reply after) = (graph_reply graph ≡ reply) × (sweep_graph graph ≡ after)
Gives (squeezing graph moves reply after list) =
    (squeeze_reply graph moves ≡ reply) × (squeeze_graph graph moves ≡ after) × (squeeze_moves graph moves ≡ list)

abbrev pub AllGive : List Tidying → Type 0
AllGive [] = Unit {0}
AllGive (e ∷ es) = Gives e × AllGive es

five : Slot
unfolding slot
five = slot 1 0 [] (5 ∷ [])

add : ℕ → ℕ → Slot
unfolding call
add x y = call 1 (x ∷ y ∷ []) []

-- ---- the sweep

-- a dead chain of two, and a Const that only it reads
dead_chain : Tidying
unfolding variable five relu add block
dead_chain =
    sweeping (block (variable ∷ five ∷ add 0 1 ∷ relu 2 ∷ relu 0 ∷ []) (4 ∷ [])) done
    (block (variable ∷ empty_slot ∷ empty_slot ∷ empty_slot ∷ relu 0 ∷ []) (4 ∷ []))

-- a Variable that nothing reads stays, and so does one that only a dead vertex reads
variables : Tidying
unfolding variable relu block
variables =
    sweeping (block (variable ∷ variable ∷ variable ∷ relu 1 ∷ relu 0 ∷ []) (4 ∷ [])) done
    (block (variable ∷ variable ∷ variable ∷ empty_slot ∷ relu 0 ∷ []) (4 ∷ []))

-- what only the second output needs stays, and an output that nothing reads
second_output : Tidying
unfolding variable five relu add block
second_output =
    let graph = block (variable ∷ relu 0 ∷ five ∷ add 0 2 ∷ []) (1 ∷ 3 ∷ []) in
    sweeping graph done graph

-- a bad graph is refused, and stays as it is
bad_graph : List ℕ
unfolding variable relu block
bad_graph = set (block (variable ∷ relu 0 ∷ []) (0 ∷ [])) 3 1

sweep_refused : Tidying
unfolding bad_graph
sweep_refused = sweeping bad_graph (refused 20) bad_graph

-- ---- the squeeze

-- a list of these numbers
list : List ℕ → List ℕ
list numbers = concat_map u16_bytes numbers

-- Empty slots between, and a vertex that reads one behind it; the unread relu is not swept
moved : Tidying
unfolding variable relu add block list
moved =
    squeezing (block (empty_slot ∷ relu 4 ∷ empty_slot ∷ add 1 4 ∷ variable ∷ relu 4 ∷ []) (3 ∷ 1 ∷ [])) (replicate 12 7) done
    (block (relu 2 ∷ add 0 2 ∷ variable ∷ relu 2 ∷ empty_slot ∷ empty_slot ∷ []) (1 ∷ 0 ∷ []))
    (list (65535 ∷ 0 ∷ 65535 ∷ 1 ∷ 2 ∷ 3 ∷ []))

-- nothing moves, and the list is written
unmoved : Tidying
unfolding variable relu block list
unmoved =
    let graph = block (variable ∷ relu 0 ∷ empty_slot ∷ []) (1 ∷ []) in
    squeezing graph (replicate 6 7) done graph (list (0 ∷ 1 ∷ 65535 ∷ []))

-- a list that is too short, and one next to a bad graph
short_list : Tidying
unfolding variable relu block
short_list =
    let graph = block (variable ∷ empty_slot ∷ relu 0 ∷ []) (2 ∷ []) in
    squeezing graph (replicate 5 7) (refused 40) graph (replicate 5 7)

graph_first : Tidying
unfolding bad_graph
graph_first = squeezing bad_graph (replicate 5 7) (refused 20) bad_graph (replicate 5 7)

unfoldable pub tidyings : List Tidying
unfolding dead_chain variables second_output sweep_refused moved unmoved short_list graph_first
tidyings =
    dead_chain ∷ variables ∷ second_output ∷ sweep_refused ∷ moved ∷ unmoved ∷ short_list ∷ graph_first ∷ []
