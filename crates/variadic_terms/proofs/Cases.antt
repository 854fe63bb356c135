-- What a node is where the index is i, case by case.
-- Assumes nothing.
use mathlib.Core.Path.{◌≡◌}
use mathlib.Core.Bool.{false}
use mathlib.Core.List.{List}
use Prim.Native.Nat.{ℕ, ◌+◌, ◌-◌, ◌*◌, ◌<◌, ◌≤◌}
use native.Mathlib.Omega.{arith}
use borrow.Author.Tests.{eq-eqb, ne_eqb}
use lib.Dec.{eqb}
use Rattle.definitions.specs.Rule.{form_any, form_constant, form_access, form_add, form_remainder, form_index, form_sum, node_form, node_left, node_right}
use Rattle.variadic_terms.specs.Terms.{any_term, constant_term, operation_term, term_of, bottom, constant_at, access_at, plain_term, sum_term, term_at}

pub same_operation : {f g a b x y : ℕ} → f ≡ g → a ≡ b → x ≡ y → operation_term f a x ≡ operation_term g b y
same_operation {g = g} {b = b} e d h = rw (e, d, h)

pub sum_term_of : (block : List ℕ) (n k i : ℕ) → node_form block k ≡ form_sum → term_of block n k i ≡ k * (n + 1) + n
unfolding term_of
sum_term_of block n k i e = simp (eq-eqb (node_form block k) form_sum e)

pub other_term_of : (block : List ℕ) (n k i : ℕ) → eqb (node_form block k) form_sum ≡ false → term_of block n k i ≡ k * (n + 1) + i
unfolding term_of
other_term_of block n k i t = simp t

module _ (block : List ℕ) (number : ℕ → ℕ) (n k i : ℕ) where
  -- ---- no sum

  pub plain-any : node_form block k ≡ form_any → plain_term block number n k i ≡ any_term
  unfolding plain_term
  plain-any e = simp (eq-eqb (node_form block k) form_any e)

  pub plain_constant : node_form block k ≡ form_constant → plain_term block number n k i ≡ constant_at block k
  unfolding plain_term
  plain_constant e = simp e

  pub plain_access : node_form block k ≡ form_access → plain_term block number n k i ≡ access_at block number n k i
  unfolding plain_term
  plain_access e = simp e

  pub plain_index : node_form block k ≡ form_index → plain_term block number n k i ≡ constant_term i 0 0 0
  unfolding plain_term
  plain_index e = simp e

  pub plain_operation : form_access < node_form block k → node_form block k ≤ form_remainder
      → plain_term block number n k i
      ≡ operation_term (node_form block k) (term_of block n (node_left block k) i) (term_of block n (node_right block k) i)
  unfolding plain_term
  plain_operation l m =
      simp (
        ne_eqb (node_form block k) form_any (λ e. omega arith),
        ne_eqb (node_form block k) form_constant (λ e. omega arith),
        ne_eqb (node_form block k) form_access (λ e. omega arith),
        ne_eqb (node_form block k) form_index (λ e. omega arith),
      )

  -- ---- a sum

  pub sum_none : i ≡ 0 → sum_term block number n k i ≡ any_term
  unfolding sum_term
  sum_none e = simp (eq-eqb i 0 e)

  pub sum_one : 0 < i → n ≡ 1 → sum_term block number n k i ≡ plain_term block number n (bottom block k) i
  unfolding sum_term
  sum_one l e = simp (ne_eqb i 0 (λ f. omega arith), eq-eqb n 1 e)

  pub sum_unused : i ≡ 1 → (n ≡ 1 → ⊥) → sum_term block number n k i ≡ any_term
  unfolding sum_term
  sum_unused e f = simp (ne_eqb i 0 (λ g. omega arith), ne_eqb n 1 f, eq-eqb i 1 e)

  pub sum_first : i ≡ 2 → (n ≡ 1 → ⊥)
      → sum_term block number n k i
      ≡ operation_term form_add (term_of block n (node_left block k) 1) (term_of block n (node_left block k) i)
  unfolding sum_term
  sum_first e f =
      simp (ne_eqb i 0 (λ g. omega arith), ne_eqb n 1 f, ne_eqb i 1 (λ g. omega arith), eq-eqb i 2 e)

  pub sum_next : 2 < i → (n ≡ 1 → ⊥)
      → sum_term block number n k i ≡ operation_term form_add (k * (n + 1) + (i - 1)) (term_of block n (node_left block k) i)
  unfolding sum_term
  sum_next l f =
      simp (ne_eqb i 0 (λ g. omega arith), ne_eqb n 1 f, ne_eqb i 1 (λ g. omega arith), ne_eqb i 2 (λ g. omega arith))

  -- ---- either

  pub at_sum : node_form block k ≡ form_sum → term_at block number n k i ≡ sum_term block number n k i
  unfolding term_at
  at_sum e = simp (eq-eqb (node_form block k) form_sum e)

  pub at_plain : eqb (node_form block k) form_sum ≡ false → term_at block number n k i ≡ plain_term block number n k i
  unfolding term_at
  at_plain t = simp t
