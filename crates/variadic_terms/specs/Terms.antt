-- The nodes of a fixed rule, made of those of a variadic rule's block. Node k of the block gives one node for each index i from 0 to n, of number
-- k (n + 1) + i: what node k is where the index is i. A sum's nodes add its terms one by one, so that its last one is the sum.
-- Assumes nothing.
use Rattle.std.specs.Prelude.{◌≡◌, true, false, cond, List, [], ◌∷◌, ℕ, zero, suc, ◌+◌, ◌-◌, ◌*◌, ◌/◌, ◌%◌, ◌<◌, eqb, length, get_or}
use Rattle.definitions.specs.Fields.{byte_at}
use Rattle.definitions.specs.Rule.{side_limit, node_bytes, node_count, node_at, form_any, form_constant, form_access, form_add, form_index, form_sum, node_form, node_left, node_right}
use Rattle.definitions.specs.Variadic.{source_copy}
use Rattle.definitions.specs.VariadicBlock.{field_limit, variadic_of, variadic_node_fits}
use Rattle.rule_fields.specs.Fixed.{is_expanded, nodes_in}
use Rattle.rule_fields.specs.Layout.{LentRule}
use Rattle.variadic_terms.specs.declared.Term.{Term}

-- ---- one node of the fixed rule

-- its 8 bytes
unfoldable pub term_bytes : Term → List ℕ
term_bytes t =
    t.form
    ∷ t.left
    ∷ t.right
    ∷ 0
    ∷ byte_at t.number 0
    ∷ byte_at t.number 1
    ∷ byte_at t.number 2
    ∷ byte_at t.number 3
    ∷ []

unfoldable pub any_term : Term
any_term = record { form = form_any; left = 0; right = 0; number = 0 ∷ 0 ∷ 0 ∷ 0 ∷ [] }

-- the constant with these bytes, the lowest one first
unfoldable pub constant_term : ℕ → ℕ → ℕ → ℕ → Term
constant_term a b c d = record { form = form_constant; left = 0; right = 0; number = a ∷ b ∷ c ∷ d ∷ [] }

unfoldable pub access_term : ℕ → ℕ → Term
access_term vertex place = record { form = form_access; left = vertex; right = place; number = 0 ∷ 0 ∷ 0 ∷ 0 ∷ [] }

-- the operands' high bytes stand where a constant has its number
unfoldable pub operation_term : ℕ → ℕ → ℕ → Term
operation_term form left right = record {
  form = form;
  left = left % 256;
  right = right % 256;
  number = left / 256 ∷ right / 256 ∷ 0 ∷ 0 ∷ [];
}

-- ---- where the nodes are

-- The node for node k where the index is i; a sum is the same for every index.
unfoldable pub term_of : List ℕ → ℕ → ℕ → ℕ → ℕ
term_of block n k i = k * (n + 1) + cond (eqb (node_form block k) form_sum) n i

-- the first node that is no sum on the way from node k down its operands, in at most so many steps
unfoldable pub descend : List ℕ → ℕ → ℕ → ℕ
descend block zero k = k
descend block (suc steps) k = cond (eqb (node_form block k) form_sum) (descend block steps (node_left block k)) k

-- operands are earlier, so k steps are enough
abbrev pub bottom : List ℕ → ℕ → ℕ
bottom block k = descend block k k

-- ---- node k where the index is i; `number` gives the number of each copy of a source vertex

-- the constant that node k is
unfoldable pub constant_at : List ℕ → ℕ → Term
constant_at block k =
    let at = node_at block k in
    constant_term (byte_at block (at + 4)) (byte_at block (at + 5)) (byte_at block (at + 6)) (byte_at block (at + 7))

module _ (block : List ℕ) (number : ℕ → ℕ) (n : ℕ) where
  -- the access that node k is: of a template, to the copy of index i
  unfoldable pub access_at : ℕ → ℕ → Term
  access_at k i = access_term (number (source_copy (variadic_of block) n i (node_left block k))) (node_right block k)

  -- a node that is no sum
  unfoldable pub plain_term : ℕ → ℕ → Term
  plain_term k i =
      cond (eqb (node_form block k) form_any) any_term
      (cond (eqb (node_form block k) form_constant) (constant_at block k)
      (cond (eqb (node_form block k) form_access) (access_at k i)
      (cond (eqb (node_form block k) form_index) (constant_term i 0 0 0)
      (operation_term (node_form block k) (term_of block n (node_left block k) i) (term_of block n (node_right block k) i)))))

  -- The sum of the terms 1 to i: that of 1 to i - 1, which is one term or the node before this one, and term i. Where n is 1 there is nothing to
  -- add, and the sum is its one term. Nothing uses the node for index 0, and where n is more, that for index 1: they are any.
  unfoldable pub sum_term : ℕ → ℕ → Term
  sum_term k i =
      let x = node_left block k in
      cond (eqb i 0) any_term
      (cond (eqb n 1) (plain_term (bottom block k) i)
      (cond (eqb i 1) any_term
      (operation_term form_add (cond (eqb i 2) (term_of block n x 1) (k * (n + 1) + (i - 1))) (term_of block n x i))))

  -- any node
  unfoldable pub term_at : ℕ → ℕ → Term
  term_at k i = cond (eqb (node_form block k) form_sum) (sum_term k i) (plain_term k i)

  -- node m of the fixed rule
  abbrev pub term_numbered : ℕ → Term
  term_numbered m = term_at (m / (n + 1)) (m % (n + 1))

-- ---- what is asked, and what is written

-- the number of copy c, where a table has one more than it, or 0 where the copy has none
unfoldable pub number_in : List ℕ → ℕ → ℕ → ℕ
number_in numbers count c = cond (eqb (byte_at numbers c) 0) count (byte_at numbers c - 1)

-- the numbers of copies: each vertex is shared, or has an index from 1 to 6
abbrev pub copy_limit : ℕ
copy_limit = side_limit * (field_limit + 1)

-- a lent block whose nodes have no fault
pub record Expandable (block : List ℕ) : Type 0 where
  pub layout : LentRule block
  pub lent : is_expanded block ≡ false
  pub nodes : (k : ℕ) → k < node_count block → variadic_node_fits block k ≡ true

-- node m has this term, and every node before it is as it was
pub record TermWritten (m : ℕ) (t : Term) (before after : List ℕ) : Type 0 where
  pub size : length after ≡ length before
  pub here : (j : ℕ) → j < node_bytes → byte_at after (node_bytes * m + j) ≡ get_or (term_bytes t) j 0
  pub earlier : (p : ℕ) → p < node_bytes * m → byte_at after p ≡ byte_at before p

-- the nodes below `count` are written, one after the other from the first byte on
pub record WrittenBelow (block : List ℕ) (number : ℕ → ℕ) (n count : ℕ) (before after : List ℕ) : Type 0 where
  pub size : length after ≡ length before
  pub bytes : (m j : ℕ) → m < count → j < node_bytes
      → byte_at after (node_bytes * m + j) ≡ get_or (term_bytes (term_numbered block number n m)) j 0

-- all nodes are
abbrev pub TermsWritten : List ℕ → (ℕ → ℕ) → ℕ → List ℕ → List ℕ → Type 0
TermsWritten block number n before after = WrittenBelow block number n (node_count block * (n + 1)) before after

-- a fixed rule in the made layout that has these nodes
pub record TermsStand (block : List ℕ) (number : ℕ → ℕ) (n : ℕ) (made : List ℕ) : Type 0 where
  pub expanded : is_expanded made ≡ true
  pub count : nodes_in made ≡ node_count block * (n + 1)
  pub bytes : (m j : ℕ) → m < nodes_in made → j < node_bytes
      → byte_at made (node_at made m + j) ≡ get_or (term_bytes (term_numbered block number n m)) j 0
