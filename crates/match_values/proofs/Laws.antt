-- Laws about what an operation gives: how its result comes from those of its operands, that every result is in range, and when a memo
-- of results stays right.
-- Assumes nothing.
use mathlib.Core.Path.{◌≡◌, refl, sym, ◌∙◌}
use mathlib.Core.Bool.{true, false}
use mathlib.Core.List.{List}
use mathlib.Core.Logic.{⊎_elim}
use mathlib.Core.Option.{Option}
use Prim.Native.Nat.{ℕ, ◌<◌, ◌≤◌}
use native.Mathlib.Omega.{arith}
use borrow.Author.Tests.{ltb-true, ltb-false, ne_eqb, eqb-true, eqb-false}
use lib.Dec.{eqb, ltb}
use lib.IntN.{ℤ, pos, negsuc}
use lib.ListN.{get_or, set, replicate, length-set, length-replicate}
use lib.Seq.{get_or-set_same, get_or-set_other}
use Rattle.definitions.specs.Lists.{build}
use Rattle.definitions.specs.Graph.{graph_of}
use Rattle.definitions.specs.Rule.{anything, apply, form_any, form_constant, form_access, form_index, form_sum, node_form, node_by}
use Rattle.definitions.specs.Attributes.{combine, result_of}
use Rattle.definitions.specs.Match.{read_attribute}
use Rattle.rule_fields.specs.Fixed.{nodes_in, left_in, right_in, node_in, expression_in}
use Rattle.laws.proofs.Lists.{decided}
use Rattle.laws.proofs.Builds.{build-at, get_or_none}
use Rattle.rule_nodes.specs.Nodes.{GoodNode}
use Rattle.std.specs.declared.option.Option as language
use Rattle.std.specs.declared.option.Option.TheVariants.{None, Some}
use Rattle.std.proofs.lemmas.Option.{none-some, same_Some}
use Rattle.numbers.specs.Value.{value_of, bounded, operation_of}
use Rattle.numbers.proofs.Laws.{combine-bounded}
use Rattle.match_leaves.specs.Results.{node_result}
use Rattle.match_leaves.proofs.Laws.{node_built, leaf_bounded}
use Rattle.match_values.specs.Memo.{state_of, magnitude_of, remembered, Memo}

-- ---- operations

module _ (block : List ℕ) (k : ℕ) (inside : k < nodes_in block) where
  module _ (good : GoodNode block k) (operation : 2 < node_form block k) where
    operand : (j : ℕ) → j < k → get_or (build (node_in block) k) j anything ≡ expression_in block j
    operand j l = build-at (node_in block) k j anything l ∙ sym (node_built block j (omega arith))

    pub operation_node : expression_in block k
        ≡ apply (operation_of (node_form block k)) (expression_in block (left_in block k)) (expression_in block (right_in block k))
    unfolding node_by
    operation_node =
        node_built block k inside
        ∙ simp (
          ne_eqb (node_form block k) form_any (λ e. omega arith),
          ne_eqb (node_form block k) form_constant (λ e. omega arith),
          ne_eqb (node_form block k) form_access (λ e. omega arith),
          ne_eqb (node_form block k) form_index (λ e. omega (arith, good.form)),
          ne_eqb (node_form block k) form_sum (λ e. omega (arith, good.form)),
          operand (left_in block k) (good.left operation),
          operand (right_in block k) (good.right operation),
        )

  module _ (read : ℕ → ℕ → Option ℤ) where
    operation_gives : GoodNode block k → 2 < node_form block k
        → combine (operation_of (node_form block k)) (result_of read (expression_in block (left_in block k)))
        (result_of read (expression_in block (right_in block k))) ≡ result_of read (expression_in block k)
    unfolding result_of
    operation_gives good h = rw (operation_node good h)

    -- the same from what was read and worked out
    pub combined_gives : (form left right : ℕ) (x y z : Option ℤ) → GoodNode block k → 2 < node_form block k
        → form ≡ node_form block k → left ≡ left_in block k → right ≡ right_in block k
        → x ≡ result_of read (expression_in block left) → y ≡ result_of read (expression_in block right)
        → z ≡ combine (operation_of form) x y → z ≡ result_of read (expression_in block k)
    combined_gives form left right x y z good h f l r d e g = rw (g, d, e, f, l, r) (operation_gives good h)

-- ---- every result is in range

module _ (graph rule images : List ℕ) (k : ℕ) (inside : k < nodes_in rule) where
  abbrev read : ℕ → ℕ → Option ℤ
  read = read_attribute (graph_of graph) images

  pub node-bounded : GoodNode rule k → bounded (node_result graph rule images k) ≡ true
  node-bounded good =
      ⊎_elim
      (λ (t : ltb 2 (node_form rule k) ≡ true). rw (← operation_gives rule k inside read good (ltb-true 2 (node_form rule k) t))
      (combine-bounded (operation_of (node_form rule k)) (result_of read (expression_in rule (left_in rule k)))
      (result_of read (expression_in rule (right_in rule k)))))
      (λ (t : ltb 2 (node_form rule k) ≡ false). leaf_bounded graph rule images k inside (ltb-false 2 (node_form rule k) t))
      (decided (ltb 2 (node_form rule k)))

-- ---- the memo

-- a result as a state and a magnitude is that result
pub remembered-value : (value : language.Option ℤ) → remembered (state_of value) (magnitude_of value) ≡ value_of value
unfolding remembered value_of
remembered-value None = refl
remembered-value (Some (pos n)) = refl
remembered-value (Some (negsuc n)) = refl

module _ (graph rule images : List ℕ) where
  -- nothing is known at first
  pub memo_none : (n : ℕ) → nodes_in rule ≤ n → Memo graph rule images (replicate n None)
  memo_none n l = record {
    size = rw (length-replicate {A = language.Option (language.Option ℤ)} n None) l;
    known = λ k value h. absurd (none-some value (sym (get_or_none n k None) ∙ h));
  }

  -- one result more
  pub memo_more : {memo : List (language.Option (language.Option ℤ))} (k : ℕ) (value : language.Option ℤ) → Memo graph rule images memo → k < nodes_in rule
      → value_of value ≡ node_result graph rule images k → Memo graph rule images (set memo k (Some value))
  memo_more {memo} k value m l e = record {
    size = rw (length-set memo k (Some value)) m.size;
    known = λ j other h. ⊎_elim
        (λ (t : eqb j k ≡ true).
        let same : Some value ≡ Some other = sym (get_or-set_same memo k (Some value) None (omega (arith, m.size))) ∙ (rw (eqb-true j k t) at h) in
        rw (← same_Some value other same, eqb-true j k t) e)
        (λ (t : eqb j k ≡ false). m.known j other (sym (get_or-set_other memo k j (Some value) None (eqb-false j k t)) ∙ h))
        (decided (eqb j k));
  }
