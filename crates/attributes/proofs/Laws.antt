-- Laws about what evaluating asks, and about agreement: of a list of expressions with words, one by one; which attributes an expression reads; and of the expression of
-- a node, by what the node gives.
-- Assumes nothing.
use mathlib.Core.Path.{◌≡◌, refl, sym, ap, ap₂, ◌∙◌}
use mathlib.Core.Bool.{Bool, true, false, ◌&&◌, and-true, and_assoc}
use mathlib.Core.List.{List, [], ◌∷◌}
use mathlib.Core.Logic.{⊎_elim}
use mathlib.Core.Option.{Option}
use Prim.Native.Nat.{ℕ, zero, suc, ◌+◌, ◌<◌}
use native.Mathlib.Omega.{arith}
use borrow.Author.Tests.{ltb-true, eqb-true, eqb-false}
use lib.Dec.{eqb}
use lib.IntN.{ℤ, pos, negsuc}
use lib.ListN.{length, get_or}
use Rattle.definitions.specs.Lists.{all_below, all_pairs}
use Rattle.definitions.specs.Fields.{signed}
use Rattle.definitions.specs.Rule.{source_count, Expression, anything, constant, access, apply, index, sum, form_any, form_constant, form_access, node_form, accesses_below}
use Rattle.definitions.specs.Attributes.{combine, result_of, same_number, gives, agrees}
use Rattle.rule_fields.specs.Fixed.{expression_in, nodes_in, attribute_node}
use Rattle.laws.proofs.Lists.{decided, and_left, and_right}
use Rattle.rule_nodes.specs.Nodes.{GoodNode}
use Rattle.match_leaves.specs.Evaluable.{NodeEvaluation}
use Rattle.match_leaves.proofs.Laws.{any-node, constant_node, access_node}
use Rattle.match_values.proofs.Laws.{operation_node}
use Rattle.std.specs.declared.option.Option as language
use Rattle.std.specs.declared.option.Option.TheVariants.{None, Some}
use Rattle.std.specs.Option.{option_eq}
use Rattle.std.specs.Ordering.{int_eq}
use Rattle.numbers.specs.Value.{value_of}
use Rattle.attributes.specs.Agreement.{agree_first}
use Rattle.attributes.specs.Evaluation.{Evaluation, SourceAttribute, TargetAttribute}
use Rattle.rule_fields.proofs.Fixed.{source-attributes-at, target-attributes-at}

-- ---- what evaluating asks

-- what the attributes of a vertex ask is enough for each node that they name
pub of_nodes : {graph rule images : List ℕ} → Evaluation graph rule images → NodeEvaluation graph rule images
of_nodes e = record { table = e.table; whole = e.patterns.whole; evaluable = e.evaluable; image_size = e.image_size }

-- the node that an attribute names is one of the rule's
pub source_node : {graph rule images : List ℕ} {j i v k : ℕ} → Evaluation graph rule images → SourceAttribute graph rule j i v → k ≡ attribute_node rule j i → k < nodes_in rule
source_node {rule = rule} {j = j} {i = i} e s same =
    omega (arith, same, e.evaluable.uses j i (omega (arith, s.vertex)) (omega (arith, s.place, source-attributes-at rule j s.vertex)))

pub target_node : {graph rule images : List ℕ} {t i k : ℕ} → Evaluation graph rule images → TargetAttribute rule t i → k ≡ attribute_node rule (source_count rule + t) i → k < nodes_in rule
target_node {rule = rule} {t = t} {i = i} e s same =
    omega (arith, same, e.evaluable.uses (source_count rule + t) i (omega (arith, s.vertex)) (omega (arith, s.place, target-attributes-at rule t s.vertex)))

-- ---- what a list of expressions agrees with

below_same : (p q : ℕ → Bool) (n : ℕ) → ((k : ℕ) → k < n → p k ≡ q k) → all_below p n ≡ all_below q n
unfolding all_below
below_same p q zero h = refl
below_same p q (suc n) h = ap₂ ◌&&◌ (below_same p q n (λ k l. h k (omega arith))) (h n (omega arith))

-- the first of the tests may be done before the others
below_first : (p : ℕ → Bool) (n : ℕ) → all_below p (suc n) ≡ (p 0 && all_below (λ k. p (suc k)) n)
unfolding all_below
below_first p zero = sym (and-true (p 0))
below_first p (suc n) = ap (λ (b : Bool). b && p (suc n)) (below_first p n) ∙ and_assoc (p 0) (all_below (λ k. p (suc k)) n) (p (suc n))

pub agree_pairs : (read : ℕ → ℕ → Option ℤ) (ps : List Expression) (ws : List ℕ) → length ps ≡ length ws
    → agree_first read ps ws ≡ all_pairs (λ e word. agrees read e (signed word)) ps ws
unfolding agree_first all_pairs all_below
agree_pairs read [] [] e = refl
agree_pairs read [] (w ∷ ws) e = absurd (omega arith)
agree_pairs read (p ∷ ps) [] e = absurd (omega arith)
agree_pairs read (p ∷ ps) (w ∷ ws) e =
    below_first (λ i. agrees read (get_or (p ∷ ps) i anything) (signed (get_or (w ∷ ws) i 0))) (length ps)
    ∙ ap (λ (b : Bool). agrees read p (signed w) && b) (agree_pairs read ps ws (omega arith))

-- one by one
module _ (read : ℕ → ℕ → Option ℤ) (ps : List Expression) (ws : List ℕ) where
  abbrev pub agrees_at : ℕ → Bool
  agrees_at i = agrees read (get_or ps i anything) (signed (get_or ws i 0))

-- ---- what an expression reads

module _ (read other : ℕ → ℕ → Option ℤ) (j : ℕ) (same : (v b : ℕ) → v < j → read v b ≡ other v b) where
  result_below : (e : Expression) → accesses_below j e ≡ true → result_of read e ≡ result_of other e
  unfolding accesses_below result_of
  result_below anything h = refl
  result_below (constant x) h = refl
  result_below (access v b) h = same v b (ltb-true v j h)
  result_below (apply o x y) h =
      ap₂ (combine o) (result_below x (and_left (accesses_below j x) (accesses_below j y) h))
      (result_below y (and_right (accesses_below j x) (accesses_below j y) h))
  result_below index h = refl
  result_below (sum x) h = refl

pub agrees_below : (read other : ℕ → ℕ → Option ℤ) (j : ℕ) (e : Expression) (z : ℤ) → accesses_below j e ≡ true
    → ((v b : ℕ) → v < j → read v b ≡ other v b) → agrees read e z ≡ agrees other e z
unfolding agrees result_of
agrees_below read other j anything z h same = refl
agrees_below read other j (constant x) z h same = ap (λ (r : Option ℤ). gives r z) (result_below read other j same (constant x) h)
agrees_below read other j (access v b) z h same = ap (λ (r : Option ℤ). gives r z) (result_below read other j same (access v b) h)
agrees_below read other j (apply o x y) z h same = ap (λ (r : Option ℤ). gives r z) (result_below read other j same (apply o x y) h)
agrees_below read other j index z h same = refl
agrees_below read other j (sum x) z h same = refl

pub agree_first_below : (read other : ℕ → ℕ → Option ℤ) (j : ℕ) (ps : List Expression) (ws : List ℕ)
    → ((i : ℕ) → i < length ps → accesses_below j (get_or ps i anything) ≡ true)
    → ((v b : ℕ) → v < j → read v b ≡ other v b) → agree_first read ps ws ≡ agree_first other ps ws
unfolding agree_first
agree_first_below read other j ps ws h same =
    below_same (λ i. agrees read (get_or ps i anything) (signed (get_or ws i 0)))
    (λ i. agrees other (get_or ps i anything) (signed (get_or ws i 0))) (length ps)
    (λ i l. agrees_below read other j (get_or ps i anything) (signed (get_or ws i 0)) (h i l) same)

-- ---- the expression of a node

-- e is the expression of node k
module _ (block : List ℕ) (k : ℕ) (inside : k < nodes_in block) (read : ℕ → ℕ → Option ℤ) (e : Expression) (z : ℤ)
    (named : expression_in block k ≡ e) where
  pub any-agrees : node_form block k ≡ form_any → true ≡ agrees read e z
  unfolding agrees
  any-agrees h = rw (← named, any-node block k inside h)

  pub result-agrees : (x : Option ℤ) (found : ℤ) → x ≡ result_of read (expression_in block k) → found ≡ z
      → GoodNode block k → (node_form block k ≡ form_any → ⊥) → gives x found ≡ agrees read e z
  unfolding agrees
  result-agrees x found r f good h =
      rw (r, f, ← named) (⊎_elim
      (λ (t : eqb (node_form block k) form_constant ≡ true). rw (constant_node block k inside (eqb-true (node_form block k) form_constant t)))
      (λ (t : eqb (node_form block k) form_constant ≡ false). ⊎_elim
      (λ (u : eqb (node_form block k) form_access ≡ true). rw (access_node block k inside (eqb-true (node_form block k) form_access u)))
      (λ (u : eqb (node_form block k) form_access ≡ false). rw (operation_node block k inside good
      (omega (arith, eqb-false (node_form block k) form_constant t, eqb-false (node_form block k) form_access u))))
      (decided (eqb (node_form block k) form_access)))
      (decided (eqb (node_form block k) form_constant)))

-- the code compares a result with a number as `gives` does
pub same_result : (r : language.Option ℤ) (z : ℤ) → option_eq int_eq r (Some z) ≡ gives (value_of r) z
unfolding gives same_number value_of
same_result None z = refl
same_result (Some (pos a)) (pos b) = grind arith
same_result (Some (pos a)) (negsuc b) = grind arith
same_result (Some (negsuc a)) (pos b) = grind arith
same_result (Some (negsuc a)) (negsuc b) = grind arith
