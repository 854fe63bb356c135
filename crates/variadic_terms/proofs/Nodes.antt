-- The expression of each node of a block, from those of its operands: in the block of a variadic rule, and in the made layout.
-- Assumes nothing.
use mathlib.Core.Path.{◌≡◌, sym, ap, ap₂, ◌∙◌}
use mathlib.Core.List.{List}
use Prim.Native.Nat.{ℕ, ◌+◌, ◌-◌, ◌<◌, ◌≤◌}
use native.Mathlib.Omega.{arith}
use borrow.Author.Tests.{ne_eqb}
use lib.ListN.{get_or}
use Rattle.definitions.specs.Lists.{build}
use Rattle.definitions.specs.Fields.{u32_at, signed}
use Rattle.definitions.specs.Rule.{node_at, Expression, anything, constant, access, apply, index, sum, remainder, form_any, form_constant, form_access, form_add, form_remainder, form_index, form_sum, operations, node_form, node_left, node_right, node_by}
use Rattle.laws.proofs.Builds.{build-at}

module _ {A : Type 0} (f : List A → ℕ → A) where
  -- an element is the same in every list that is long enough
  pub earlier_same : (n k j : ℕ) (d : A) → j < k → k ≤ n → get_or (build f k) j d ≡ get_or (build f n) j d
  earlier_same n k j d l m = build-at f k j d l ∙ sym (build-at f n j d (omega arith))

-- `left` and `right` say where the operands of a node are, and there are n nodes
module _ (left right : ℕ → ℕ) (block : List ℕ) (n : ℕ) where
  -- the expression of node k
  abbrev pub expression_by : ℕ → Expression
  expression_by k = get_or (build (node_by left right block) n) k anything

  module _ (k : ℕ) (inside : k < n) where
    made_by : expression_by k ≡ node_by left right block (build (node_by left right block) k) k
    made_by = build-at (node_by left right block) n k anything inside

    pub any-by : node_form block k ≡ form_any → expression_by k ≡ anything
    any-by e = made_by ∙ unfold node_by in simp e

    pub constant_by : node_form block k ≡ form_constant → expression_by k ≡ constant (signed (u32_at block (node_at block k + 4)))
    constant_by e = made_by ∙ unfold node_by in simp e

    pub access_by : node_form block k ≡ form_access → expression_by k ≡ access (node_left block k) (node_right block k)
    access_by e = made_by ∙ unfold node_by in simp e

    pub index_by : node_form block k ≡ form_index → expression_by k ≡ index
    index_by e = made_by ∙ unfold node_by in simp e

    summed : node_form block k ≡ form_sum
        → node_by left right block (build (node_by left right block) k) k ≡ sum (get_or (build (node_by left right block) k) (left k) anything)
    summed e = unfold node_by in simp e

    pub sum_by : node_form block k ≡ form_sum → left k < k → expression_by k ≡ sum (expression_by (left k))
    sum_by e l =
        made_by ∙ summed e
        ∙ ap sum (earlier_same (node_by left right block) n k (left k) anything l (omega arith))

    applied : form_access < node_form block k → node_form block k ≤ form_remainder
        → node_by left right block (build (node_by left right block) k) k
        ≡ apply (get_or operations (node_form block k - form_add) remainder) (get_or (build (node_by left right block) k) (left k) anything)
        (get_or (build (node_by left right block) k) (right k) anything)
    applied more few =
        unfold node_by in
        simp (
          ne_eqb (node_form block k) form_any (λ e. omega arith),
          ne_eqb (node_form block k) form_constant (λ e. omega arith),
          ne_eqb (node_form block k) form_access (λ e. omega arith),
          ne_eqb (node_form block k) form_index (λ e. omega arith),
          ne_eqb (node_form block k) form_sum (λ e. omega arith),
        )

    pub operation_by : form_access < node_form block k → node_form block k ≤ form_remainder → left k < k → right k < k
        → expression_by k
        ≡ apply (get_or operations (node_form block k - form_add) remainder) (expression_by (left k)) (expression_by (right k))
    operation_by more few l m =
        made_by ∙ applied more few
        ∙ ap₂ (apply (get_or operations (node_form block k - form_add) remainder))
        (earlier_same (node_by left right block) n k (left k) anything l (omega arith))
        (earlier_same (node_by left right block) n k (right k) anything m (omega arith))
