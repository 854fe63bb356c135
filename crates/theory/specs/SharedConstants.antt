-- Request 1/13, by examples: a matched Const may be read from outside and be a graph output, and goes only where nothing outside needs it.
-- Assumes nothing.
use Rattle.std.specs.Prelude.{List, [], ◌∷◌, ℕ}
use Rattle.definitions.specs.Graph.{Slot, empty_slot}
use Rattle.theory.specs.Examples.{slot, variable, call, relu, block, vertex, wild, calls, node, rule, rr, done, refusal, Example, matching, rewriting}

-- the Const 5, in a graph
five : Slot
unfolding slot
five = slot 1 0 [] (5 ∷ [])

add : ℕ → ℕ → Slot
unfolding call
add x y = call 1 (x ∷ y ∷ []) []

mul : ℕ → ℕ → Slot
unfolding call
mul x y = call 2 (x ∷ y ∷ []) []

-- and in a rule, where node 0 is the constant 5
fives : List ℕ
unfolding vertex
fives = vertex 1 0 [] (0 ∷ [])

-- add(x, 5) becomes these target vertices, of which the last is the output
adds_five : List (List ℕ) → ℕ → List ℕ
unfolding wild fives calls rule node
adds_five target output =
    rule (wild ∷ fives ∷ calls 1 (0 ∷ 1 ∷ []) [] ∷ []) target (2 ∷ []) (output ∷ []) (node 1 0 0 5 ∷ [])

-- relu(x), and relu(relu(x))
to_relu : List ℕ
unfolding adds_five calls
to_relu = adds_five (calls 7 (0 ∷ []) [] ∷ []) 16

to_relus : List ℕ
unfolding adds_five calls
to_relus = adds_five (calls 7 (0 ∷ []) [] ∷ calls 7 (16 ∷ []) [] ∷ []) 17

-- the Const is read by slot 3 too, and no slot is Empty
shared : List ℕ
unfolding variable five add mul block
shared = block (variable ∷ five ∷ add 0 1 ∷ mul 2 1 ∷ []) (3 ∷ [])

-- read by a vertex outside: it matches and stays, and the target vertex takes the one slot that is removed
read_outside : Example
unfolding shared to_relu variable five relu mul block done
read_outside =
    rewriting shared to_relu 0 (done (block (variable ∷ five ∷ relu 0 ∷ mul 2 1 ∷ []) (3 ∷ [])) (0 ∷ 1 ∷ 2 ∷ []))

-- two target vertices do not fit, since the Const's slot is no room
no_room : Example
unfolding shared to_relus refusal
no_room = rewriting shared to_relus 0 (refusal 6 shared)

-- a graph output: likewise
as_output : Example
unfolding to_relu variable five add relu block done
as_output =
    rewriting (block (variable ∷ five ∷ add 0 1 ∷ []) (2 ∷ 1 ∷ [])) to_relu 0
    (done (block (variable ∷ five ∷ relu 0 ∷ []) (2 ∷ 1 ∷ [])) (0 ∷ 1 ∷ 2 ∷ []))

-- read only from inside: it goes, and both slots can be taken
read_inside : Example
unfolding to_relu variable five add relu block done
read_inside =
    rewriting (block (variable ∷ five ∷ add 0 1 ∷ []) (2 ∷ [])) to_relu 0
    (done (block (variable ∷ relu 0 ∷ empty_slot ∷ []) (1 ∷ [])) (0 ∷ 1 ∷ 2 ∷ []))

enough_room : Example
unfolding to_relus variable five add relu block done
enough_room =
    rewriting (block (variable ∷ five ∷ add 0 1 ∷ []) (2 ∷ [])) to_relus 0
    (done (block (variable ∷ relu 0 ∷ relu 1 ∷ []) (2 ∷ [])) (0 ∷ 1 ∷ 2 ∷ []))

-- read by the image of a rule input, which stays: so it stays
read_by_input : Example
unfolding to_relu variable five add mul relu block done
read_by_input =
    rewriting (block (variable ∷ five ∷ mul 0 1 ∷ add 2 1 ∷ []) (3 ∷ [])) to_relu 0
    (done (block (variable ∷ five ∷ mul 0 1 ∷ relu 2 ∷ []) (3 ∷ [])) (2 ∷ 1 ∷ 3 ∷ []))

-- read by a vertex that reaches no output: it stays
read_unused : Example
unfolding to_relu variable five add relu block done
read_unused =
    rewriting (block (variable ∷ five ∷ add 0 1 ∷ relu 1 ∷ []) (2 ∷ [])) to_relu 0
    (done (block (variable ∷ five ∷ relu 0 ∷ relu 1 ∷ []) (2 ∷ [])) (0 ∷ 1 ∷ 2 ∷ []))

-- it stands in the lowest slot and stays: the target vertex takes the next one that is Empty after the removal
lowest_kept : Example
unfolding to_relu variable five add mul relu block done
lowest_kept =
    rewriting (block (five ∷ variable ∷ add 1 0 ∷ mul 2 0 ∷ []) (3 ∷ [])) to_relu 0
    (done (block (five ∷ variable ∷ relu 1 ∷ mul 2 0 ∷ []) (3 ∷ [])) (1 ∷ 0 ∷ 2 ∷ []))

-- two source vertices are Consts with equal attributes; they do not take one slot, and take two that look alike
adds_fives : List ℕ
unfolding fives calls rule node
adds_fives = rule (fives ∷ fives ∷ calls 1 (0 ∷ 1 ∷ []) [] ∷ []) (fives ∷ []) (2 ∷ []) (16 ∷ []) (node 1 0 0 5 ∷ [])

one_of_two : Example
unfolding adds_fives five add block refusal
one_of_two =
    let graph = block (five ∷ add 0 0 ∷ []) (1 ∷ []) in
    matching graph adds_fives 0 (refusal 4 graph)

two_of_two : Example
unfolding adds_fives five add block done
two_of_two =
    let graph = block (five ∷ five ∷ add 0 1 ∷ []) (2 ∷ []) in
    matching graph adds_fives 0 (done graph (0 ∷ 1 ∷ 2 ∷ []))

-- a Const that a wildcard takes is a rule input: it stays, whoever reads it
wildcard_takes : Example
unfolding rr five relu block done
wildcard_takes =
    rewriting (block (five ∷ relu 0 ∷ relu 1 ∷ []) (2 ∷ [])) rr 0
    (done (block (five ∷ relu 0 ∷ empty_slot ∷ []) (1 ∷ [])) (0 ∷ 1 ∷ 2 ∷ []))

unfoldable pub shared_constants : List Example
unfolding read_outside no_room as_output read_inside enough_room read_by_input read_unused lowest_kept one_of_two two_of_two wildcard_takes
shared_constants =
    read_outside ∷ no_room ∷ as_output ∷ read_inside ∷ enough_room ∷ read_by_input ∷ read_unused ∷ lowest_kept ∷ one_of_two ∷ two_of_two
    ∷ wildcard_takes ∷ []
