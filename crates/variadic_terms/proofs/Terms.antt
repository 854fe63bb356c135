-- A fixed rule in the made layout whose nodes are the terms of a variadic rule's block: its nodes have the expressions of the block's nodes, seen for
-- each index, and are good to evaluate.
-- Assumes nothing.
use mathlib.Core.Path.{◌≡◌, refl, sym, ap, ap₂, ◌∙◌, subst}
use mathlib.Core.Bool.{true, false}
use mathlib.Core.List.{List, [], ◌∷◌, ◌++◌}
use mathlib.Core.Logic.{⊎_elim}
use Prim.Native.Nat.{ℕ, zero, suc, ◌+◌, ◌-◌, ◌*◌, ◌/◌, ◌%◌, ◌^◌, ◌<◌, ◌≤◌}
use native.Mathlib.Nat.{not-suc-le-zero, mul-add-div_right, mul-add-mod_self_right, div-eq_of_lt, mod-eq_of_lt, mod-lt, div-add-mod'}
use native.Mathlib.Omega.{arith}
use borrow.Author.Tests.{eqb-true, eqb-false, lt-ltb}
use lib.Dec.{eqb}
use lib.IntN.{pos}
use lib.ListN.{get_or}
use Rattle.definitions.specs.Lists.{tabulate, foldl}
use Rattle.definitions.specs.Fields.{byte_at, u16_at, u32_at, signed}
use Rattle.definitions.specs.Rule.{side_limit, source_count, node_count, node_at, Expression, anything, constant, access, apply, add, index, sum, remainder, form_any, form_constant, form_access, form_add, form_remainder, form_index, form_sum, operations, node_form, node_left, node_right, expressions, expression_of}
use Rattle.definitions.specs.Variadic.{added, source_copy, source_number, seen}
use Rattle.definitions.specs.VariadicBlock.{field_limit, marked, variadic_of, variadic_node_fits}
use Rattle.laws.proofs.Lists.{decided}
use Rattle.laws.proofs.Ranges.{tabulate-more}
use Rattle.rule_fields.specs.Fixed.{nodes_in, expression_in}
use Rattle.rule_nodes.specs.Nodes.{GoodNode}
use Rattle.variadic_terms.specs.declared.Term.{Term}
use Rattle.variadic_terms.specs.Terms.{term_bytes, operation_term, term_of, constant_at, access_at, plain_term, sum_term, term_at, term_numbered, copy_limit, TermsStand}
use Rattle.variadic_terms.proofs.Fits.{Form, is_any, is_constant, is_access, is_index, is_operation, form_of, before_product, node-inside, sum_earlier, left_before, right_before, access_inside, descend-stays, bottom-step}
use Rattle.variadic_terms.proofs.Cases.{sum_term_of, other_term_of, plain-any, plain_constant, plain_access, plain_index, plain_operation, sum_one, sum_first, sum_next, at_sum, at_plain}
use Rattle.variadic_terms.proofs.Nodes.{any-by, constant_by, access_by, index_by, sum_by, operation_by}
use Rattle.variadic_terms.proofs.Made.{term_expression, Placed, any_expression, constant_expression, access_expression, operation_expression, term_before, placed, good, stands}

-- ---- terms, added from the first up

fold_more : (e x : Expression) (es : List Expression) → foldl (apply add) e (es ++ x ∷ []) ≡ apply add (foldl (apply add) e es) x
unfolding foldl
fold_more e x [] = refl
fold_more e x (y ∷ es) = fold_more (apply add e y) x es

-- one term more
added_more : (m : ℕ) (f : ℕ → Expression) → added (tabulate (suc (suc m)) f) ≡ apply add (added (tabulate (suc m) f)) (f (suc m))
unfolding added tabulate
added_more m f =
    ap (foldl (apply add) (f 0)) (tabulate-more m (λ j. f (suc j))) ∙ fold_more (f 0) (f (suc m)) (tabulate m (λ j. f (suc j)))

added_one : (f : ℕ → Expression) → added (tabulate 1 f) ≡ f 0
unfolding added tabulate foldl
added_one f = refl

-- an index as a constant
index_signed : (i : ℕ) → i ≤ field_limit → signed (i + 256 * 0 + 65536 * (0 + 256 * 0)) ≡ pos i
unfolding signed
index_signed i l =
    let e : i + 256 * 0 + 65536 * (0 + 256 * 0) ≡ i = omega arith in
    rw e (simp (lt-ltb i (2 ^ 31) (omega arith)))

-- ---- the expressions of the block's nodes

module _ (block : List ℕ) (k : ℕ) (inside : k < node_count block) where
  any_of : node_form block k ≡ form_any → expression_of block k ≡ anything
  unfolding expression_of expressions
  any_of e = any-by (node_left block) (node_right block) block (node_count block) k inside e

  constant_of : node_form block k ≡ form_constant → expression_of block k ≡ constant (signed (u32_at block (node_at block k + 4)))
  unfolding expression_of expressions
  constant_of e = constant_by (node_left block) (node_right block) block (node_count block) k inside e

  access_of : node_form block k ≡ form_access → expression_of block k ≡ access (node_left block k) (node_right block k)
  unfolding expression_of expressions
  access_of e = access_by (node_left block) (node_right block) block (node_count block) k inside e

  index_of : node_form block k ≡ form_index → expression_of block k ≡ index
  unfolding expression_of expressions
  index_of e = index_by (node_left block) (node_right block) block (node_count block) k inside e

  sum_of : node_form block k ≡ form_sum → node_left block k < k → expression_of block k ≡ sum (expression_of block (node_left block k))
  unfolding expression_of expressions
  sum_of e l = sum_by (node_left block) (node_right block) block (node_count block) k inside e l

  operation_of_lem : form_access < node_form block k → node_form block k ≤ form_remainder → node_left block k < k → node_right block k < k
      → expression_of block k
      ≡ apply (get_or operations (node_form block k - form_add) remainder) (expression_of block (node_left block k)) (expression_of block (node_right block k))
  unfolding expression_of expressions
  operation_of_lem more few l m = operation_by (node_left block) (node_right block) block (node_count block) k inside more few l m

-- the bytes of a constant that is copied
constant_word : (block : List ℕ) (at : ℕ)
    → byte_at block (at + 4) + 256 * byte_at block (at + 5) + 65536 * (byte_at block (at + 6) + 256 * byte_at block (at + 7)) ≡ u32_at block (at + 4)
unfolding u32_at u16_at
constant_word block at =
    let second : at + 4 + 1 ≡ at + 5 = omega arith in
    let third : at + 4 + 2 ≡ at + 6 = omega arith in
    let fourth : at + 4 + 2 + 1 ≡ at + 7 = omega arith in
    omega (arith, ap (byte_at block) second, ap (byte_at block) third, ap (byte_at block) fourth)

-- every copy of a source vertex is below the limit of the table
copy_below : (block : List ℕ) (n i v : ℕ) → v < side_limit → i ≤ field_limit → source_copy (variadic_of block) n i v < copy_limit
unfolding source_copy variadic_of
copy_below block n i v l m =
    ⊎_elim (λ (t : marked block v ≡ true). simp t (omega arith)) (λ (t : marked block v ≡ false). simp t (omega arith)) (decided (marked block v))

-- with one term each, a sum is what its operand is
one_same : (block : List ℕ) (number : ℕ → ℕ) (n k : ℕ) → ((j : ℕ) → j < node_count block → variadic_node_fits block j ≡ true)
    → k < node_count block → n ≡ 1 → node_form block k ≡ form_sum → term_at block number n k 1 ≡ term_at block number n (node_left block k) 1
one_same block number n k fits inside one e =
    let x = node_left block k in
    at_sum block number n k 1 e ∙ sum_one block number n k 1 (omega arith) one
    ∙ ap (λ (y : ℕ). plain_term block number n y 1) (bottom-step block fits k inside e)
    ∙ ⊎_elim
    (λ (t : eqb (node_form block x) form_sum ≡ true).
    sym (at_sum block number n x 1 (eqb-true (node_form block x) form_sum t) ∙ sum_one block number n x 1 (omega arith) one))
    (λ (t : eqb (node_form block x) form_sum ≡ false).
    ap (λ (y : ℕ). plain_term block number n y 1) (descend-stays block x x t) ∙ sym (at_plain block number n x 1 t))
    (decided (eqb (node_form block x) form_sum))

-- ---- the made layout

module _ (block : List ℕ) (number : ℕ → ℕ) (n : ℕ) (made : List ℕ) (few : n ≤ field_limit)
    (fits : (k : ℕ) → k < node_count block → variadic_node_fits block k ≡ true) (stand : TermsStand block number n made) where
  -- node (k, i) is a node of the layout
  node_below : (k i : ℕ) → k < node_count block → i ≤ n → k * (n + 1) + i < nodes_in made
  node_below k i l m = omega (arith, stand.count, before_product k (node_count block) (n + 1) i l (omega arith))

  numbered : (k i : ℕ) → i ≤ n → term_numbered block number n (k * (n + 1) + i) ≡ term_at block number n k i
  numbered k i m =
      let whole : (k * (n + 1) + i) / (n + 1) ≡ k =
      mul-add-div_right {m = n + 1} (omega arith) k i ∙ omega (arith, div-eq_of_lt {n = i} {m = n + 1} (omega arith)) in
      let rest : (k * (n + 1) + i) % (n + 1) ≡ i =
      mul-add-mod_self_right k (n + 1) i ∙ mod-eq_of_lt {n = i} {m = n + 1} (omega arith) in
      ap₂ (term_at block number n) whole rest

  -- node (k, i) has the expression that its term says
  node_expression : (k i : ℕ) → k < node_count block → i ≤ n
      → expression_in made (k * (n + 1) + i) ≡ term_expression (expression_in made) (term_at block number n k i)
  node_expression k i l m =
      let at = k * (n + 1) + i in
      stands made at (term_at block number n k i) stand.expanded (node_below k i l m)
      (λ j s. stand.bytes at j (node_below k i l m) s ∙ ap (λ (t : Term). get_or (term_bytes t) j 0) (numbered k i m))
      (placed block number n fits k i l m)

  -- what stands for a node of the block is a node of the layout
  pub term_below : (k i : ℕ) → k < node_count block → i ≤ n → term_of block n k i < nodes_in made
  term_below k i l m =
      omega (arith, stand.count, term_before block number n fits k (node_count block) i 0 l m)

  -- every node is good to evaluate
  pub good_nodes : (m : ℕ) → m < nodes_in made → GoodNode made m
  good_nodes m l =
      let w = n + 1 in
      let k = m / w in
      let i = m % w in
      let inside : k < node_count block = node-inside m n (node_count block) (omega (arith, stand.count)) in
      let last = mod-lt m {m = w} (omega arith) in
      good made m (term_numbered block number n m) stand.expanded l (λ j s. stand.bytes m j l s)
      (subst (λ (a : ℕ). Placed (term_at block number n k i) a) (div-add-mod' m w) (placed block number n fits k i inside (omega arith)))

  module _ (narrow : source_count block ≤ side_limit)
      (numbers : (c : ℕ) → c < copy_limit → number c ≡ source_number (variadic_of block) n c) where
    -- what is to be shown of a node of the block
    abbrev Seen : ℕ → Type 0
    Seen k = (i : ℕ) → i ≤ n → expression_in made (term_of block n k i) ≡ seen (variadic_of block) n (expression_of block k) i

    -- a node that is no sum, where the nodes before it are as they should be
    module _ (k i : ℕ) (inside : k < node_count block) (m : i ≤ n) (before : (x : ℕ) → x < k → Seen x) where
      -- the expression of the block's node
      seen_as : (e : Expression) → expression_of block k ≡ e
          → seen (variadic_of block) n e i ≡ seen (variadic_of block) n (expression_of block k) i
      seen_as e same = ap (λ (x : Expression). seen (variadic_of block) n x i) (sym same)

      constant_seen : term_expression (expression_in made) (constant_at block k) ≡ constant (signed (u32_at block (node_at block k + 4)))
      unfolding constant_at
      constant_seen =
          let at = node_at block k in
          constant_expression (expression_in made) (byte_at block (at + 4)) (byte_at block (at + 5)) (byte_at block (at + 6)) (byte_at block (at + 7))
          ∙ ap (λ (w : ℕ). constant (signed w)) (constant_word block at)

      access_seen : node_form block k ≡ form_access
          → term_expression (expression_in made) (access_at block number n k i)
          ≡ access (source_number (variadic_of block) n (source_copy (variadic_of block) n i (node_left block k))) (node_right block k)
      unfolding access_at
      access_seen e =
          let v = node_left block k in
          let lower = access_inside block k (fits k inside) e in
          let c = source_copy (variadic_of block) n i v in
          access_expression (expression_in made) (number c) (node_right block k)
          ∙ ap (λ (p : ℕ). access p (node_right block k)) (numbers c (copy_below block n i v (omega arith) (omega arith)))

      plain-seen : Form block k
          → term_expression (expression_in made) (plain_term block number n k i) ≡ seen (variadic_of block) n (expression_of block k) i
      unfolding seen
      plain-seen (is_any e) =
          ap (term_expression (expression_in made)) (plain-any block number n k i e) ∙ any_expression (expression_in made)
          ∙ seen_as anything (any_of block k inside e)
      plain-seen (is_constant e) =
          ap (term_expression (expression_in made)) (plain_constant block number n k i e) ∙ constant_seen
          ∙ seen_as (constant (signed (u32_at block (node_at block k + 4)))) (constant_of block k inside e)
      plain-seen (is_access e) =
          ap (term_expression (expression_in made)) (plain_access block number n k i e) ∙ access_seen e
          ∙ seen_as (access (node_left block k) (node_right block k)) (access_of block k inside e)
      plain-seen (is_index e) =
          ap (term_expression (expression_in made)) (plain_index block number n k i e) ∙ constant_expression (expression_in made) i 0 0 0
          ∙ ap constant (index_signed i (omega arith)) ∙ seen_as index (index_of block k inside e)
      plain-seen (is_operation more less) =
          let x = node_left block k in
          let y = node_right block k in
          let lower = left_before block k (fits k inside) more less in
          let lower_too = right_before block k (fits k inside) more less in
          let o = get_or operations (node_form block k - form_add) remainder in
          ap (term_expression (expression_in made)) (plain_operation block number n k i more less)
          ∙ operation_expression (expression_in made) (node_form block k) (term_of block n x i) (term_of block n y i) more
          ∙ ap₂ (apply o) (before x lower i m) (before y lower_too i m)
          ∙ seen_as (apply o (expression_of block x) (expression_of block y)) (operation_of_lem block k inside more less lower lower_too)

    -- a sum, where the nodes before it are as they should be
    module _ (k : ℕ) (inside : k < node_count block) (e : node_form block k ≡ form_sum) (before : (x : ℕ) → x < k → Seen x) where
      -- its terms, from index 1 on
      abbrev term : ℕ → Expression
      term j = seen (variadic_of block) n (expression_of block (node_left block k)) (suc j)

      lower : node_left block k < k
      lower = sum_earlier block k (fits k inside) e

      sum_seen : (i : ℕ) → added (tabulate n term) ≡ seen (variadic_of block) n (expression_of block k) i
      unfolding seen
      sum_seen i = ap (λ (x : Expression). seen (variadic_of block) n x i) (sym (sum_of block k inside e lower))

      -- what stands for its operand
      operand : (i : ℕ) → i ≤ n → expression_in made (term_of block n (node_left block k) i)
          ≡ seen (variadic_of block) n (expression_of block (node_left block k)) i
      operand i m = before (node_left block k) lower i m

      one_term : n ≡ 1 → expression_in made (k * (n + 1) + n) ≡ added (tabulate n term)
      one_term one =
          let x = node_left block k in
          let some : 1 ≤ n = omega arith in
          let here : k * (n + 1) + n ≡ k * (n + 1) + 1 = omega arith in
          let there : x * (n + 1) + 1 ≡ term_of block n x 1 =
          ⊎_elim
          (λ (t : eqb (node_form block x) form_sum ≡ true). omega (arith, sum_term_of block n x 1 (eqb-true (node_form block x) form_sum t)))
          (λ (t : eqb (node_form block x) form_sum ≡ false). sym (other_term_of block n x 1 t))
          (decided (eqb (node_form block x) form_sum)) in
          ap (expression_in made) here ∙ node_expression k 1 inside some
          ∙ ap (term_expression (expression_in made)) (one_same block number n k fits inside one e)
          ∙ sym (node_expression x 1 (omega (arith, lower)) some) ∙ ap (expression_in made) there ∙ operand 1 some
          ∙ sym (ap (λ (c : ℕ). added (tabulate c term)) one ∙ added_one term)

      -- an addition to what stands for the terms before
      addition : (i : ℕ) (left : ℕ) → i ≤ n → sum_term block number n k i ≡ operation_term form_add left (term_of block n (node_left block k) i)
          → expression_in made (k * (n + 1) + i)
          ≡ apply add (expression_in made left) (seen (variadic_of block) n (expression_of block (node_left block k)) i)
      unfolding operations
      addition i left m same =
          let x = node_left block k in
          node_expression k i inside m ∙ ap (term_expression (expression_in made)) (at_sum block number n k i e ∙ same)
          ∙ operation_expression (expression_in made) form_add left (term_of block n x i) (omega arith)
          ∙ ap (apply add (expression_in made left)) (operand i m)

      -- the sum of the terms up to j + 2
      terms_seen : (j : ℕ) → suc (suc j) ≤ n → expression_in made (k * (n + 1) + suc (suc j)) ≡ added (tabulate (suc (suc j)) term)
      terms_seen zero l =
          let x = node_left block k in
          addition 2 (term_of block n x 1) l (sum_first block number n k 2 refl (λ f. omega arith))
          ∙ ap (λ (y : Expression). apply add y (term 1)) (operand 1 (omega arith) ∙ sym (added_one term)) ∙ sym (added_more 0 term)
      terms_seen (suc j) l =
          let i = suc (suc (suc j)) in
          let last : k * (n + 1) + (i - 1) ≡ k * (n + 1) + suc (suc j) = omega arith in
          addition i (k * (n + 1) + (i - 1)) l (sum_next block number n k i (omega arith) (λ f. omega arith))
          ∙ ap (λ (y : Expression). apply add y (term (suc (suc j)))) (ap (expression_in made) last ∙ terms_seen j (omega arith))
          ∙ sym (added_more (suc j) term)

      all_terms : 1 ≤ n → expression_in made (k * (n + 1) + n) ≡ added (tabulate n term)
      all_terms some =
          ⊎_elim (λ (t : eqb n 1 ≡ true). one_term (eqb-true n 1 t))
          (λ (t : eqb n 1 ≡ false).
          let more : suc (suc (n - 2)) ≡ n = omega (arith, eqb-false n 1 t) in
          subst (λ (c : ℕ). expression_in made (k * (n + 1) + c) ≡ added (tabulate c term)) more (terms_seen (n - 2) (omega arith)))
          (decided (eqb n 1))

    module _ (some : 1 ≤ n) where
      all_seen : (bound k : ℕ) → k < bound → k < node_count block → Seen k
      all_seen zero k l inside i m = absurd (not-suc-le-zero l)
      all_seen (suc bound) k l inside i m =
          let before : (x : ℕ) → x < k → Seen x = λ x s. all_seen bound x (omega arith) (omega arith) in
          ⊎_elim
          (λ (t : eqb (node_form block k) form_sum ≡ true).
          let e = eqb-true (node_form block k) form_sum t in
          ap (expression_in made) (sum_term_of block n k i e) ∙ all_terms k inside e before some ∙ sum_seen k inside e before i)
          (λ (t : eqb (node_form block k) form_sum ≡ false).
          ap (expression_in made) (other_term_of block n k i t) ∙ node_expression k i inside m
          ∙ ap (term_expression (expression_in made)) (at_plain block number n k i t)
          ∙ plain-seen k i inside m before (form_of block k (fits k inside) t))
          (decided (eqb (node_form block k) form_sum))

      -- What stands for node k where the index is i has the expression that node k stands for there.
      pub terms_mean : (k i : ℕ) → k < node_count block → i ≤ n
          → expression_in made (term_of block n k i) ≡ seen (variadic_of block) n (expression_of block k) i
      terms_mean k i inside m = all_seen (suc k) k (omega arith) inside i m
