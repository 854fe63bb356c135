-- A fixed rule in the made layout whose nodes are terms: each node has the expression that its term says, and its operands are earlier nodes.
-- Assumes nothing.
use mathlib.Core.Path.{◌≡◌, refl, sym, ap, ap₂, ◌∙◌, subst}
use mathlib.Core.Bool.{true, false, cond}
use mathlib.Core.List.{List}
use mathlib.Core.Logic.{◌⊎◌, inl, inr, ⊎_elim}
use Prim.Native.Nat.{ℕ, ◌+◌, ◌-◌, ◌*◌, ◌/◌, ◌%◌, ◌<◌, ◌≤◌}
use native.Mathlib.Nat.{add-zero}
use native.Mathlib.Omega.{arith}
use borrow.Author.Tests.{ne_eqb, eqb-true, eqb-false}
use lib.Dec.{eqb}
use lib.ListN.{get_or}
use Rattle.definitions.specs.Fields.{byte_at, u16_at, u32_at, signed}
use Rattle.definitions.specs.Rule.{node_bytes, node_count, node_at, Expression, anything, constant, access, apply, remainder, form_any, form_constant, form_access, form_add, form_remainder, form_sum, operations, node_form, node_left, node_right}
use Rattle.definitions.specs.VariadicBlock.{variadic_node_fits}
use Rattle.laws.proofs.Lists.{decided, true_not_false}
use Rattle.rule_fields.specs.Fixed.{is_expanded, nodes_in, left_in, right_in, expression_in}
use Rattle.rule_nodes.specs.Nodes.{GoodNode}
use Rattle.variadic_terms.specs.declared.Term.{Term}
use Rattle.variadic_terms.specs.Terms.{term_bytes, any_term, constant_term, access_term, operation_term, term_of, bottom, constant_at, access_at, plain_term, sum_term, term_at}
use Rattle.variadic_terms.proofs.Fits.{Form, is_any, is_constant, is_access, is_index, is_operation, form_of, before_product, sum_earlier, left_before, right_before, bottom_lower}
use Rattle.variadic_terms.proofs.Cases.{sum_term_of, other_term_of, plain-any, plain_constant, plain_access, plain_index, plain_operation, sum_none, sum_one, sum_unused, sum_first, sum_next, at_sum, at_plain}
use Rattle.variadic_terms.proofs.Nodes.{any-by, constant_by, access_by, operation_by}

-- ---- what a term says

abbrev left_of : Term → ℕ
left_of t = t.left + 256 * byte_at t.number 0

abbrev right_of : Term → ℕ
right_of t = t.right + 256 * byte_at t.number 1

-- the expression of a node with this term, where `earlier` has the expressions of its operands
unfoldable pub term_expression : (ℕ → Expression) → Term → Expression
term_expression earlier t =
    cond (eqb t.form form_any) anything
    (cond (eqb t.form form_constant) (constant (signed (u32_at t.number 0)))
    (cond (eqb t.form form_access) (access t.left t.right)
    (apply (get_or operations (t.form - form_add) remainder) (earlier (left_of t)) (earlier (right_of t)))))

-- node m may have this term: its operands are earlier nodes
pub record Placed (t : Term) (m : ℕ) : Type 0 where
  pub form : t.form ≤ form_remainder
  pub left : form_access < t.form → left_of t < m
  pub right : form_access < t.form → right_of t < m

module _ (earlier : ℕ → Expression) where
  pub any_expression : term_expression earlier any_term ≡ anything
  unfolding term_expression any_term
  any_expression = refl

  pub constant_expression : (a b c d : ℕ) → term_expression earlier (constant_term a b c d) ≡ constant (signed (a + 256 * b + 65536 * (c + 256 * d)))
  unfolding term_expression constant_term u32_at u16_at
  constant_expression a b c d = refl

  pub access_expression : (v b : ℕ) → term_expression earlier (access_term v b) ≡ access v b
  unfolding term_expression access_term
  access_expression v b = refl

  pub operation_expression : (form l r : ℕ) → form_access < form
      → term_expression earlier (operation_term form l r) ≡ apply (get_or operations (form - form_add) remainder) (earlier l) (earlier r)
  unfolding term_expression operation_term
  operation_expression form l r more =
      let left : l % 256 + 256 * (l / 256) ≡ l = omega arith in
      let right : r % 256 + 256 * (r / 256) ≡ r = omega arith in
      simp (
        ne_eqb form form_any (λ e. omega arith),
        ne_eqb form form_constant (λ e. omega arith),
        ne_eqb form form_access (λ e. omega arith),
        left,
        right,
      )

-- ---- where a term may stand

any_placed : (m : ℕ) → Placed any_term m
unfolding any_term
any_placed m = record { form = omega arith; left = λ l. absurd (omega arith); right = λ l. absurd (omega arith) }

constant_placed : (a b c d m : ℕ) → Placed (constant_term a b c d) m
unfolding constant_term
constant_placed a b c d m = record { form = omega arith; left = λ l. absurd (omega arith); right = λ l. absurd (omega arith) }

access_placed : (v b m : ℕ) → Placed (access_term v b) m
unfolding access_term
access_placed v b m = record { form = omega arith; left = λ l. absurd (omega arith); right = λ l. absurd (omega arith) }

operation_placed : (form l r m : ℕ) → form ≤ form_remainder → l < m → r < m → Placed (operation_term form l r) m
unfolding operation_term
operation_placed form l r m few x y = record { form = few; left = λ o. omega arith; right = λ o. omega arith }

same_placed : (s t : Term) (m : ℕ) → s ≡ t → Placed t m → Placed s m
same_placed s t m e p = subst (λ (u : Term). Placed u m) (sym e) p

-- ---- the terms of a block without faults

module _ (block : List ℕ) (number : ℕ → ℕ) (n : ℕ) (fits : (k : ℕ) → k < node_count block → variadic_node_fits block k ≡ true) where
  -- what stands for an earlier node stands before every node for this one
  pub term_before : (x k i j : ℕ) → x < k → i ≤ n → term_of block n x i < k * (n + 1) + j
  term_before x k i j l m =
      ⊎_elim
      (λ (t : eqb (node_form block x) form_sum ≡ true).
      omega (arith, sum_term_of block n x i (eqb-true (node_form block x) form_sum t), before_product x k (n + 1) n l (omega arith)))
      (λ (t : eqb (node_form block x) form_sum ≡ false).
      omega (arith, other_term_of block n x i t, before_product x k (n + 1) i l (omega arith)))
      (decided (eqb (node_form block x) form_sum))

  -- node x, no sum, in a place that is not before its own
  plain_placed : (x k i : ℕ) → x ≤ k → x < node_count block → i ≤ n → Form block x → Placed (plain_term block number n x i) (k * (n + 1) + i)
  plain_placed x k i l inside m (is_any e) =
      same_placed (plain_term block number n x i) any_term (k * (n + 1) + i) (plain-any block number n x i e) (any_placed (k * (n + 1) + i))
  plain_placed x k i l inside m (is_constant e) =
      same_placed (plain_term block number n x i) (constant_at block x) (k * (n + 1) + i) (plain_constant block number n x i e)
      (unfold constant_at in constant_placed _ _ _ _ (k * (n + 1) + i))
  plain_placed x k i l inside m (is_access e) =
      same_placed (plain_term block number n x i) (access_at block number n x i) (k * (n + 1) + i) (plain_access block number n x i e)
      (unfold access_at in access_placed _ _ (k * (n + 1) + i))
  plain_placed x k i l inside m (is_index e) =
      same_placed (plain_term block number n x i) (constant_term i 0 0 0) (k * (n + 1) + i) (plain_index block number n x i e)
      (constant_placed i 0 0 0 (k * (n + 1) + i))
  plain_placed x k i l inside m (is_operation more few) =
      let left = left_before block x (fits x inside) more few in
      let right = right_before block x (fits x inside) more few in
      same_placed (plain_term block number n x i)
      (operation_term (node_form block x) (term_of block n (node_left block x) i) (term_of block n (node_right block x) i))
      (k * (n + 1) + i) (plain_operation block number n x i more few)
      (operation_placed (node_form block x) (term_of block n (node_left block x) i) (term_of block n (node_right block x) i) (k * (n + 1) + i) few
      (term_before (node_left block x) k i i (omega arith) m) (term_before (node_right block x) k i i (omega arith) m))

  sum_placed : (k i : ℕ) → k < node_count block → i ≤ n → node_form block k ≡ form_sum → Placed (sum_term block number n k i) (k * (n + 1) + i)
  sum_placed k i inside m e = go (decided (eqb i 0)) (decided (eqb n 1)) (decided (eqb i 1)) (decided (eqb i 2))
    where
      place : ℕ
      place = k * (n + 1) + i

      lower : node_left block k < k
      lower = sum_earlier block k (fits k inside) e

      go : (eqb i 0 ≡ true) ⊎ (eqb i 0 ≡ false) → (eqb n 1 ≡ true) ⊎ (eqb n 1 ≡ false) → (eqb i 1 ≡ true) ⊎ (eqb i 1 ≡ false)
          → (eqb i 2 ≡ true) ⊎ (eqb i 2 ≡ false) → Placed (sum_term block number n k i) (k * (n + 1) + i)
      go (inl t) u v w =
          same_placed (sum_term block number n k i) any_term place (sum_none block number n k i (eqb-true i 0 t)) (any_placed place)
      go (inr t) (inl u) v w =
          let down = bottom_lower block fits k k (omega arith) inside in
          let above : 0 < i = omega (arith, eqb-false i 0 t) in
          same_placed (sum_term block number n k i) (plain_term block number n (bottom block k) i) place
          (sum_one block number n k i above (eqb-true n 1 u))
          (plain_placed (bottom block k) k i down.0 (omega (arith, down.0)) m
          (form_of block (bottom block k) (fits (bottom block k) (omega (arith, down.0))) down.1))
      go (inr t) (inr u) (inl v) w =
          same_placed (sum_term block number n k i) any_term place (sum_unused block number n k i (eqb-true i 1 v) (eqb-false n 1 u))
          (any_placed place)
      go (inr t) (inr u) (inr v) (inl w) =
          let x = node_left block k in
          let two : i ≡ 2 = eqb-true i 2 w in
          same_placed (sum_term block number n k i) (operation_term form_add (term_of block n x 1) (term_of block n x i)) place
          (sum_first block number n k i two (eqb-false n 1 u))
          (operation_placed form_add (term_of block n x 1) (term_of block n x i) place (omega arith) (term_before x k 1 i lower (omega arith))
          (term_before x k i i lower m))
      go (inr t) (inr u) (inr v) (inr w) =
          let x = node_left block k in
          let above : 2 < i = omega (arith, eqb-false i 0 t, eqb-false i 1 v, eqb-false i 2 w) in
          same_placed (sum_term block number n k i) (operation_term form_add (k * (n + 1) + (i - 1)) (term_of block n x i)) place
          (sum_next block number n k i above (eqb-false n 1 u))
          (operation_placed form_add (k * (n + 1) + (i - 1)) (term_of block n x i) place (omega arith) (omega arith) (term_before x k i i lower m))

  pub placed : (k i : ℕ) → k < node_count block → i ≤ n → Placed (term_at block number n k i) (k * (n + 1) + i)
  placed k i inside m =
      ⊎_elim
      (λ (t : eqb (node_form block k) form_sum ≡ true).
      let e = eqb-true (node_form block k) form_sum t in
      same_placed (term_at block number n k i) (sum_term block number n k i) (k * (n + 1) + i) (at_sum block number n k i e) (sum_placed k i inside m e))
      (λ (t : eqb (node_form block k) form_sum ≡ false).
      same_placed (term_at block number n k i) (plain_term block number n k i) (k * (n + 1) + i) (at_plain block number n k i t)
      (plain_placed k k i (omega arith) inside m (form_of block k (fits k inside) t)))
      (decided (eqb (node_form block k) form_sum))

-- ---- one node of the made layout that has a term

module _ (made : List ℕ) (m : ℕ) (t : Term) (expanded : is_expanded made ≡ true) (inside : m < nodes_in made)
    (bytes : (j : ℕ) → j < node_bytes → byte_at made (node_at made m + j) ≡ get_or (term_bytes t) j 0) where
  has_form : node_form made m ≡ t.form
  unfolding term_bytes
  has_form = rw add-zero at (bytes 0 (omega arith))

  has_left : left_in made m ≡ left_of t
  unfolding term_bytes left_in
  has_left = simp expanded (ap₂ (λ (low high : ℕ). low + 256 * high) (bytes 1 (omega arith)) (bytes 4 (omega arith)))

  has_right : right_in made m ≡ right_of t
  unfolding term_bytes right_in
  has_right = simp expanded (ap₂ (λ (low high : ℕ). low + 256 * high) (bytes 2 (omega arith)) (bytes 5 (omega arith)))

  has_vertex : node_left made m ≡ t.left
  unfolding term_bytes
  has_vertex = bytes 1 (omega arith)

  has_place : node_right made m ≡ t.right
  unfolding term_bytes
  has_place = bytes 2 (omega arith)

  has_number : u32_at made (node_at made m + 4) ≡ u32_at t.number 0
  unfolding term_bytes u32_at u16_at
  has_number =
      let at = node_at made m in
      let second : at + 4 + 1 ≡ at + 5 = omega arith in
      let third : at + 4 + 2 ≡ at + 6 = omega arith in
      let fourth : at + 4 + 2 + 1 ≡ at + 7 = omega arith in
      omega (
        arith,
        bytes 4 (omega arith),
        ap (byte_at made) second ∙ bytes 5 (omega arith),
        ap (byte_at made) third ∙ bytes 6 (omega arith),
        ap (byte_at made) fourth ∙ bytes 7 (omega arith),
      )

  pub good : Placed t m → GoodNode made m
  good p = record {
    form = omega (arith, has_form, p.form);
    left = λ o. omega (arith, has_left, p.left (omega (arith, has_form)));
    right = λ o. omega (arith, has_right, p.right (omega (arith, has_form)));
    narrow = λ o. record { left = λ e. absurd (true_not_false expanded e); right = λ e. absurd (true_not_false expanded e) };
  }

  pub stands : Placed t m → expression_in made m ≡ term_expression (expression_in made) t
  unfolding expression_in term_expression
  stands p =
      let left = left_in made in
      let right = right_in made in
      let n = nodes_in made in
      ⊎_elim
      (λ (a : eqb t.form form_any ≡ true). simp a (any-by left right made n m inside (has_form ∙ eqb-true t.form form_any a)))
      (λ (a : eqb t.form form_any ≡ false).
      ⊎_elim
      (λ (b : eqb t.form form_constant ≡ true).
      simp (a, b)
      (constant_by left right made n m inside (has_form ∙ eqb-true t.form form_constant b) ∙ ap (λ (w : ℕ). constant (signed w)) has_number))
      (λ (b : eqb t.form form_constant ≡ false).
      ⊎_elim
      (λ (c : eqb t.form form_access ≡ true).
      simp (a, b, c)
      (access_by left right made n m inside (has_form ∙ eqb-true t.form form_access c) ∙ ap₂ access has_vertex has_place))
      (λ (c : eqb t.form form_access ≡ false).
      let more : form_access < t.form = omega (arith, eqb-false t.form form_any a, eqb-false t.form form_constant b, eqb-false t.form form_access c) in
      simp (a, b, c)
      (operation_by left right made n m inside (omega (arith, has_form)) (omega (arith, has_form, p.form))
      (omega (arith, has_left, p.left more)) (omega (arith, has_right, p.right more))
      ∙ rw (has_form, has_left, has_right) refl))
      (decided (eqb t.form form_access)))
      (decided (eqb t.form form_constant)))
      (decided (eqb t.form form_any))
