-- The highest source vertex that an expression accesses, as one number that decides every use of it; and what the tests of uses ask.
-- Assumes nothing.
use Rattle.std.specs.Prelude.{◌≡◌, cond, List, ℕ, suc, ◌+◌, ◌≤◌, max, eqb, ltb, get_or}
use Rattle.definitions.specs.Lists.{lowest}
use Rattle.definitions.specs.Rule.{node_count, Expression, anything, constant, access, apply, index, sum, form_access, form_index, form_sum, node_form, node_left, node_right, expression_of, bad_node}

-- one more than that vertex, or 0 where the expression accesses none
unfoldable pub top_access : Expression → ℕ
top_access anything = 0
top_access (constant z) = 0
top_access (access v b) = suc v
top_access (apply o x y) = max (top_access x) (top_access y)
top_access index = 0
top_access (sum x) = top_access x

-- the same for node k, from the earlier nodes' numbers
unfoldable pub top_from : List ℕ → List ℕ → ℕ → ℕ
top_from block earlier k =
    cond (ltb (node_form block k) form_access) 0
    (cond (eqb (node_form block k) form_access) (node_left block k + 1)
    (cond (eqb (node_form block k) form_index) 0
    (cond (eqb (node_form block k) form_sum) (get_or earlier (node_left block k) 0)
    (max (get_or earlier (node_left block k) 0) (get_or earlier (node_right block k) 0)))))

-- `tops` has that number for every node
abbrev pub TopsKnown : List ℕ → List ℕ → Type 0
TopsKnown block tops = (k : ℕ) → get_or tops k 0 ≡ top_access (expression_of block k)

-- the search for a node with a fault found none
abbrev pub NodesFaultless : List ℕ → Type 0
NodesFaultless block = node_count block ≤ lowest (bad_node block) (node_count block)
