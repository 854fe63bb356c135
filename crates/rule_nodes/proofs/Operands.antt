-- The operands of a node without a fault stand before it, and an operation has one of five forms: so it is good to evaluate.
-- Assumes nothing.
use mathlib.Core.Path.{◌≡◌}
use mathlib.Core.Bool.{Bool, true, false, not, ◌&&◌, and-false}
use mathlib.Core.List.{List}
use mathlib.Core.Logic.{⊎_elim}
use Prim.Native.Nat.{ℕ, ◌+◌, ◌<◌, ◌≤◌}
use native.Mathlib.Omega.{arith}
use borrow.Author.Tests.{leb-true, ltb-true, ltb-false, ne_eqb}
use lib.Dec.{eqb, ltb, leb}
use Rattle.definitions.specs.Fields.{byte_at, filled}
use Rattle.definitions.specs.Rule.{node_at, form_any, form_constant, form_access, form_remainder, node_form, node_left, node_right, operand_fits, node_fits}
use Rattle.laws.proofs.Lists.{decided, and_left, and_right, needed}
use Rattle.fields.proofs.Laws.{filled-place}
use Rattle.rule_fields.specs.Fixed.{is_expanded}
use Rattle.rule_fields.proofs.Fixed.{lent_left, lent_right}
use Rattle.rule_nodes.specs.Nodes.{GoodNode}

-- ---- parts of a conjunction

last : (a b d : Bool) → (a && (b && d)) ≡ true → d ≡ true
last a b d h = and_right b d (and_right a (b && d) h)

middle : (a b d : Bool) → (a && b && d) ≡ true → b ≡ true
middle a b d h = and_right a b (and_left (a && b) d h)

module _ (block : List ℕ) where
  operand_earlier : (k j : ℕ) → operand_fits block k j ≡ true → j < k
  unfolding operand_fits
  operand_earlier k j h = ltb-true j k (and_left (ltb j k) (not (eqb (node_form block j) form_any)) h)

  module _ (k : ℕ) (fits : node_fits block k ≡ true) (operation : form_access < node_form block k) where
    operands : (leb (node_form block k) form_remainder && operand_fits block k (node_left block k) && operand_fits block k (node_right block k)) ≡ true
    unfolding node_fits
    operands =
        let no_any : eqb (node_form block k) form_any ≡ false = ne_eqb (node_form block k) form_any (λ e. omega arith) in
        let no_constant : eqb (node_form block k) form_constant ≡ false = ne_eqb (node_form block k) form_constant (λ e. omega arith) in
        let no_access : eqb (node_form block k) form_access ≡ false = ne_eqb (node_form block k) form_access (λ e. omega arith) in
        last (eqb (byte_at block (node_at block k + 3)) 0) (filled block (node_at block k + 4) (node_at block k + 8) 0)
        (leb (node_form block k) form_remainder && operand_fits block k (node_left block k) && operand_fits block k (node_right block k))
        (simp (no_any, no_constant, no_access) at fits)

    pub few_forms : node_form block k ≤ form_remainder
    few_forms =
        leb-true (node_form block k) form_remainder
        (and_left (leb (node_form block k) form_remainder) (operand_fits block k (node_left block k))
        (and_left (leb (node_form block k) form_remainder && operand_fits block k (node_left block k)) (operand_fits block k (node_right block k)) operands))

    pub left-earlier : node_left block k < k
    left-earlier =
        operand_earlier k (node_left block k)
        (middle (leb (node_form block k) form_remainder) (operand_fits block k (node_left block k)) (operand_fits block k (node_right block k)) operands)

    pub right-earlier : node_right block k < k
    right-earlier =
        operand_earlier k (node_right block k)
        (and_right (leb (node_form block k) form_remainder && operand_fits block k (node_left block k)) (operand_fits block k (node_right block k)) operands)

    -- an operation has no number
    number_zero : (i : ℕ) → 4 ≤ i → i < 8 → byte_at block (node_at block k + i) ≡ 0
    unfolding node_fits
    number_zero i l m =
        let no_constant : eqb (node_form block k) form_constant ≡ false = ne_eqb (node_form block k) form_constant (λ e. omega arith) in
        let zeros : filled block (node_at block k + 4) (node_at block k + 8) 0 ≡ true =
        needed (filled block (node_at block k + 4) (node_at block k + 8) 0) fits (λ f. simp (no_constant, f, and-false)) in
        filled-place block 0 (node_at block k + 4) (node_at block k + 8) zeros (node_at block k + i) (omega arith) (omega arith)

-- a node of a lent block that fits
pub lent_good : (block : List ℕ) (k : ℕ) → is_expanded block ≡ false → node_fits block k ≡ true → GoodNode block k
lent_good block k lent fits = record {
  form = ⊎_elim
      (λ (t : ltb form_access (node_form block k) ≡ true). few_forms block k fits (ltb-true form_access (node_form block k) t))
      (λ (t : ltb form_access (node_form block k) ≡ false). omega (arith, ltb-false form_access (node_form block k) t))
      (decided (ltb form_access (node_form block k)));
  left = λ o. rw (lent_left block lent k) (left-earlier block k fits o);
  right = λ o. rw (lent_right block lent k) (right-earlier block k fits o);
  narrow = λ o. record {
    left = λ e. number_zero block k fits o 4 (omega arith) (omega arith);
    right = λ e. number_zero block k fits o 5 (omega arith) (omega arith);
  };
}
