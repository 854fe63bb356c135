-- Whether a node needs the index, from the earlier nodes; and what the tests of uses ask.
-- Assumes nothing.
use Rattle.std.specs.Prelude.{◌≡◌, Bool, true, false, cond, ◌||◌, List, ℕ, ◌≤◌, eqb, ltb, get_or}
use Rattle.definitions.specs.Lists.{lowest}
use Rattle.definitions.specs.Rule.{node_count, form_access, form_index, form_sum, node_form, node_left, node_right, expression_of}
use Rattle.definitions.specs.VariadicBlock.{marked, variadic_of, needs_index, bad_variadic_node}

unfoldable pub needs_from : List ℕ → List Bool → ℕ → Bool
needs_from block earlier k =
    cond (ltb (node_form block k) form_access) false
    (cond (eqb (node_form block k) form_access) (marked block (node_left block k))
    (cond (eqb (node_form block k) form_index) true
    (cond (eqb (node_form block k) form_sum) false
    (get_or earlier (node_left block k) false || get_or earlier (node_right block k) false))))

-- `needs` says of every node whether it needs the index
abbrev pub NeedsKnown : List ℕ → List Bool → Type 0
NeedsKnown block needs = (k : ℕ) → get_or needs k false ≡ needs_index (variadic_of block) (expression_of block k)

-- the search for a node with a fault found none
abbrev pub VariadicFaultless : List ℕ → Type 0
VariadicFaultless block = node_count block ≤ lowest (bad_variadic_node block) (node_count block)
