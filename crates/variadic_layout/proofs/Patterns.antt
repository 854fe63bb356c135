-- A record of the layout, with its row in the table, is the pattern of its copy.
-- Assumes nothing.
use mathlib.Core.Path.{◌≡◌, refl, sym, ap, ◌∙◌}
use mathlib.Core.Bool.{true, false}
use mathlib.Core.List.{List, map}
use mathlib.Core.Logic.{⊎_elim}
use Prim.Native.Nat.{ℕ, suc, ◌+◌, ◌-◌, ◌*◌, ◌/◌, ◌%◌, ◌<◌, ◌≤◌}
use native.Mathlib.Nat.{add-zero, suc-mul, mul-le-mul}
use native.Mathlib.Omega.{arith}
use lib.Dec.{eqb}
use Rattle.definitions.specs.Lists.{tabulate}
use Rattle.definitions.specs.Fields.{byte_at, u16_at}
use Rattle.definitions.specs.Graph.{input_limit, attribute_limit}
use Rattle.definitions.specs.Rule.{pattern_bytes, form_sum, node_count, vertex_at, node_form, Expression, Pattern, expression_of, attribute_in, pattern_from}
use Rattle.definitions.specs.Variadic.{VariadicRule, original, copy_index, fields, seen, copied}
use Rattle.definitions.specs.VariadicBlock.{template_mark, unmarked, variadic_of}
use Rattle.laws.proofs.Lists.{decided}
use Rattle.rule_fields.specs.Fixed.{is_expanded, nodes_in, expression_in, attribute_place_bytes, table_at, attribute_node, attribute_of_fixed}
use Rattle.rule_fields.proofs.Fixed.{attribute_expression}
use Rattle.variadic_order.specs.Sides.{place_count, place_of, field_count, field_place, field_index}
use Rattle.variadic_terms.specs.Terms.{term_of}
use Rattle.variadic_layout.specs.Bytes.{block_byte, head_byte, field_number, record_byte, attribute_term, table_byte}
use Rattle.variadic_layout.specs.Written.{CopyOf}
use Rattle.variadic_layout.specs.Laid.{TermsIn}
use Rattle.variadic_layout.proofs.Bytes.{record_head, record_field, head_kind, head-count, head_other, table_low, table_high, few_fields}
use Rattle.variadic_layout.proofs.Rows.{tabulate_same, map-tabulate, field_row}

-- a term is one of the nodes that its node gives
pub term-inside : (block : List ℕ) (n k i nodes : ℕ) → k < nodes → i ≤ n → term_of block n k i < nodes * (n + 1)
unfolding term_of
term-inside block n k i nodes l few =
    let above : suc k * (n + 1) ≤ nodes * (n + 1) = mul-le-mul l few_self in
    let next : suc k * (n + 1) ≡ k * (n + 1) + (n + 1) = suc-mul k (n + 1) in
    ⊎_elim (λ (t : eqb (node_form block k) form_sum ≡ true). rw t (omega arith)) (λ (t : eqb (node_form block k) form_sum ≡ false). rw t (omega arith))
    (decided (eqb (node_form block k) form_sum))
  where
    few_self : n + 1 ≤ n + 1
    few_self = omega arith

pattern_same : {P : Type 0} {kind kind' operator operator' : ℕ} {inputs inputs' : List P} {attributes attributes' : List Expression}
    → kind ≡ kind' → operator ≡ operator' → inputs ≡ inputs' → attributes ≡ attributes'
    → ◌≡◌ {A = Pattern P} record { kind = kind; operator = operator; inputs = inputs; attributes = attributes }
    record { kind = kind'; operator = operator'; inputs = inputs'; attributes = attributes' }
pattern_same e f g h = rw (e, f, g, h) refl

-- vertex v of the layout is copy c of a side
module _ (block laid : List ℕ) (n : ℕ) (first base split tuple v c : ℕ) (input own : ℕ → ℕ) (copy : CopyOf block first base tuple n c)
    (index : copy_index c ≤ n) (expanded : is_expanded laid ≡ true) (count : nodes_in laid ≡ node_count block * (n + 1))
    (bytes : (b : ℕ) → b < pattern_bytes → byte_at laid (vertex_at v + b) ≡ record_byte block first base split input own tuple n c b)
    (row : (b : ℕ) → b < attribute_place_bytes → byte_at laid (table_at laid + attribute_place_bytes * v + b) ≡ table_byte block first n c b) where
  abbrev w : ℕ
  w = first + original c

  abbrev head : ℕ → ℕ
  head b = head_byte block first base tuple n c b

  head_at : (b : ℕ) → b < 4 → byte_at laid (vertex_at v + b) ≡ head b
  head_at b l = bytes b (omega arith) ∙ record_head block first base split input own tuple n c b l

  kind_of : byte_at laid (vertex_at v) ≡ byte_at block (vertex_at w) % template_mark
  kind_of =
      ap (byte_at laid) (sym (add-zero (vertex_at v))) ∙ head_at 0 (omega arith) ∙ head_kind block first base tuple n c 0 refl
      ∙ ap (λ (at : ℕ). byte_at block at % template_mark) (add-zero (vertex_at w))

  operator_of_lem : byte_at laid (vertex_at v + 1) ≡ byte_at block (vertex_at w + 1)
  operator_of_lem = head_at 1 (omega arith) ∙ head_other block first base tuple n c 1 (λ e. omega arith) (λ e. omega arith)

  count_of : byte_at laid (vertex_at v + 2) ≡ field_count block first base tuple n c
  count_of = head_at 2 (omega arith) ∙ head-count block first base tuple n c 2 refl

  attributes_of : byte_at laid (vertex_at v + 3) ≡ byte_at block (vertex_at w + 3)
  attributes_of = head_at 3 (omega arith) ∙ head_other block first base tuple n c 3 (λ e. omega arith) (λ e. omega arith)

  pub few_inputs_lem : byte_at laid (vertex_at v + 2) ≤ input_limit
  few_inputs_lem = omega (arith, count_of, few_fields copy)

  pub few_attributes_lem : byte_at laid (vertex_at v + 3) ≤ attribute_limit
  few_attributes_lem = omega (arith, attributes_of, copy.layout.attributes (original c) copy.vertex)

  -- ---- inputs

  input_of : (i : ℕ) → i < field_count block first base tuple n c
      → byte_at laid (vertex_at v + 4 + i) ≡ field_number block first base split input own tuple n c i
  input_of i l =
      let few = few_fields copy in
      let same : 4 + i - 4 ≡ i = omega arith in
      ap (byte_at laid) (omega arith) ∙ bytes (4 + i) (omega arith)
      ∙ record_field block first base split input own tuple n c (4 + i) (omega arith) (omega arith)
      ∙ ap (field_number block first base split input own tuple n c) same

  -- ---- attributes

  node_of : (i : ℕ) → i < byte_at block (vertex_at w + 3) → attribute_node laid v i ≡ attribute_term block first n c i
  unfolding attribute_node u16_at attribute_term
  node_of i l =
      let few = copy.layout.attributes (original c) copy.vertex in
      let term = term_of block n (block_byte block first c (10 + i)) (copy_index c) in
      let even : 2 * i / 2 ≡ i = omega arith in
      let odd : (2 * i + 1) / 2 ≡ i = omega arith in
      let start = table_at laid + attribute_place_bytes * v in
      let low : byte_at laid (start + 2 * i) ≡ term % 256 =
      row (2 * i) (omega arith) ∙ table_low block first n c (2 * i) (omega arith) (omega arith)
      ∙ ap (λ (j : ℕ). term_of block n (block_byte block first c (10 + j)) (copy_index c) % 256) even in
      let high : byte_at laid (start + 2 * i + 1) ≡ term / 256 =
      ap (byte_at laid) (omega arith) ∙ row (2 * i + 1) (omega arith)
      ∙ table_high block first n c (2 * i + 1) (omega arith) (λ e. omega arith)
      ∙ ap (λ (j : ℕ). term_of block n (block_byte block first c (10 + j)) (copy_index c) / 256) odd in
      rw expanded (omega arith)

  abbrev node : ℕ → ℕ
  node i = byte_at block (vertex_at w + (10 + i))

  node_below : (i : ℕ) → i < byte_at block (vertex_at w + 3) → node i < node_count block
  node_below i l = copy.layout.uses (original c) i copy.vertex l

  pub node-inside : (i : ℕ) → i < byte_at laid (vertex_at v + 3) → attribute_node laid v i < nodes_in laid
  unfolding attribute_term
  node-inside i l =
      let used : i < byte_at block (vertex_at w + 3) = omega (arith, attributes_of) in
      rw (node_of i used, count) (term-inside block n (node i) (copy_index c) (node_count block) (node_below i used) index)

  attribute_of_lem : TermsIn block n laid → (i : ℕ) → i < byte_at block (vertex_at w + 3)
      → attribute_of_fixed laid v i ≡ seen (variadic_of block) n (attribute_in block w i) (copy_index c)
  unfolding attribute_term
  attribute_of_lem terms i l =
      let place : vertex_at w + (10 + i) ≡ vertex_at w + 10 + i = omega arith in
      sym (attribute_expression laid v i) ∙ ap (expression_in laid) (node_of i l) ∙ terms.terms (node i) (copy_index c) (node_below i l) index
      ∙ ap (λ (at : ℕ). seen (variadic_of block) n (expression_of block (byte_at block at)) (copy_index c)) place

  -- ---- the pattern

  module _ {P : Type 0} (naming : ℕ → P → P) (number : P → P) (place place' : ℕ → P)
      (names : (i : ℕ) → i < field_count block first base tuple n c → place' (field_number block first base split input own tuple n c i)
      ≡ number (naming (field_index block first base tuple n c i) (place (field_place block first base tuple n c i)))) where
    abbrev r : VariadicRule
    r = variadic_of block

    abbrev places : List P
    places = tabulate (place_count block first (original c)) (λ i. place (place_of block first (original c) i))

    inputs_of_lem : tabulate (byte_at laid (vertex_at v + 2)) (λ i. place' (byte_at laid (vertex_at v + 4 + i)))
        ≡ map number (fields r n (eqb c tuple) naming (copy_index c) places)
    inputs_of_lem =
        let size = field_count block first base tuple n c in
        ap (λ (k : ℕ). tabulate k (λ i. place' (byte_at laid (vertex_at v + 4 + i)))) count_of
        ∙ tabulate_same size (λ i. place' (byte_at laid (vertex_at v + 4 + i)))
        (λ i. number (naming (field_index block first base tuple n c i) (place (field_place block first base tuple n c i))))
        (λ i l. ap place' (input_of i l) ∙ names i l)
        ∙ sym (map-tabulate number size (λ i. naming (field_index block first base tuple n c i) (place (field_place block first base tuple n c i))))
        ∙ ap (map number) (sym (field_row copy r naming place))

    module _ (terms : TermsIn block n laid) where
      attribute_list : tabulate (byte_at laid (vertex_at v + 3)) (attribute_of_fixed laid v)
          ≡ map (λ e. seen r n e (copy_index c)) (tabulate (byte_at block (vertex_at w + 3)) (attribute_in block w))
      attribute_list =
          let size = byte_at block (vertex_at w + 3) in
          ap (λ (k : ℕ). tabulate k (attribute_of_fixed laid v)) attributes_of
          ∙ tabulate_same size (attribute_of_fixed laid v) (λ i. seen r n (attribute_in block w i) (copy_index c)) (attribute_of_lem terms)
          ∙ sym (map-tabulate (λ e. seen r n e (copy_index c)) size (attribute_in block w))

      pub pattern_of : pattern_from place' (attribute_of_fixed laid v) laid (vertex_at v)
          ≡ copied r n (unmarked (pattern_from place (attribute_in block w) block (vertex_at w))) c
          (map number (fields r n (eqb c tuple) naming (copy_index c) (unmarked (pattern_from place (attribute_in block w) block (vertex_at w))).inputs))
      unfolding pattern_from copied unmarked
      pattern_of = pattern_same kind_of operator_of_lem inputs_of_lem attribute_list
