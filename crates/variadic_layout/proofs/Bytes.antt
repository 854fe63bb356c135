-- The bytes of the layout, case by case as the code reads them.
-- Assumes nothing.
use mathlib.Core.Path.{◌≡◌, refl}
use mathlib.Core.Bool.{true, false, cond}
use mathlib.Core.List.{List, [], ◌∷◌}
use mathlib.Core.Logic.{⊎_elim}
use Prim.Native.Nat.{ℕ, suc, ◌+◌, ◌-◌, ◌/◌, ◌%◌, ◌<◌, ◌≤◌}
use native.Mathlib.Omega.{arith}
use native.Mathlib.Nat.{mul-le-mul, div-lt_iff_lt-mul, mod-lt}
use borrow.Author.Tests.{lt-ltb, le-ltb, eq-eqb, ne_eqb, eqb-true, eqb-false}
use lib.Dec.{eqb}
use lib.ListN.{length, get_or}
use Rattle.definitions.specs.Fields.{byte_at}
use Rattle.definitions.specs.Graph.{input_limit}
use Rattle.definitions.specs.Rule.{rule_output_count, vertex_at}
use Rattle.definitions.specs.Variadic.{original, copy_index}
use Rattle.definitions.specs.VariadicBlock.{template_mark, field_limit}
use Rattle.laws.proofs.Lists.{decided}
use Rattle.variadic_order.specs.Sides.{place_count, place_of, side_copy, field_count, field_place, field_index}
use Rattle.variadic_order.specs.Visits.{SideCopy}
use Rattle.variadic_order.proofs.Fields.{tuple-count, other_count}
use Rattle.variadic_terms.specs.Terms.{term_of}
use Rattle.variadic_layout.specs.Bytes.{unused_byte, number_from, block_byte, head_byte, place_number, output_byte, field_number, record_byte, attribute_term, table_byte, header_bytes}
use Rattle.variadic_layout.specs.Written.{CopyOf, PlaceLayout}

-- ---- numbers

module _ (numbers : List ℕ) (count c : ℕ) where
  pub number_none : get_or numbers c 0 ≡ 0 → number_from numbers count c ≡ count
  unfolding number_from
  number_none e = rw (eq-eqb (get_or numbers c 0) 0 e)

  pub number_some : (get_or numbers c 0 ≡ 0 → ⊥) → number_from numbers count c ≡ get_or numbers c 0 - 1
  unfolding number_from
  number_some e = rw (ne_eqb (get_or numbers c 0) 0 e)

-- ---- places

module _ (block : List ℕ) (first base split : ℕ) (input own : ℕ → ℕ) where
  pub place_input : (i p : ℕ) → p < base → place_number block first base split input own i p ≡ input (side_copy block 0 i p)
  unfolding place_number
  place_input i p l = rw (lt-ltb p base l)

  pub place_own : (i p : ℕ) → base ≤ p → place_number block first base split input own i p ≡ split + own (side_copy block first i (p - base))
  unfolding place_number
  place_own i p l = rw (le-ltb p base l)

  pub output_used : (at i : ℕ) → i < rule_output_count block
      → output_byte block first base split input own at i ≡ place_number block first base split input own 0 (byte_at block (at + i))
  unfolding output_byte
  output_used at i l = rw (lt-ltb i (rule_output_count block) l)

  pub output_unused : (at i : ℕ) → rule_output_count block ≤ i → output_byte block first base split input own at i ≡ unused_byte
  unfolding output_byte
  output_unused at i l = rw (le-ltb i (rule_output_count block) l)

  -- ---- records

  pub field_is : (tuple n c i : ℕ)
      → place_number block first base split input own (field_index block first base tuple n c i) (field_place block first base tuple n c i)
      ≡ field_number block first base split input own tuple n c i
  unfolding field_number
  field_is tuple n c i = refl

  module _ (tuple n c b : ℕ) where
    pub record_head : b < 4 → record_byte block first base split input own tuple n c b ≡ head_byte block first base tuple n c b
    unfolding record_byte
    record_head l = rw (lt-ltb b 4 l)

    pub record_field : 4 ≤ b → b - 4 < field_count block first base tuple n c
        → record_byte block first base split input own tuple n c b ≡ field_number block first base split input own tuple n c (b - 4)
    unfolding record_byte
    record_field l k = rw (le-ltb b 4 l, lt-ltb (b - 4) (field_count block first base tuple n c) k)

    pub record_rest : 4 ≤ b → field_count block first base tuple n c ≤ b - 4
        → record_byte block first base split input own tuple n c b ≡ unused_byte
    unfolding record_byte
    record_rest l k = rw (le-ltb b 4 l, le-ltb (b - 4) (field_count block first base tuple n c) k)

-- ---- heads, places and indices of fields

module _ (block : List ℕ) (first base tuple n c : ℕ) where
  pub head_kind : (b : ℕ) → b ≡ 0 → head_byte block first base tuple n c b ≡ block_byte block first c 0 % template_mark
  unfolding head_byte
  head_kind b e = rw (eq-eqb b 0 e)

  pub head-count : (b : ℕ) → b ≡ 2 → head_byte block first base tuple n c b ≡ field_count block first base tuple n c
  unfolding head_byte
  head-count b e = rw e refl

  pub head_other : (b : ℕ) → (b ≡ 0 → ⊥) → (b ≡ 2 → ⊥) → head_byte block first base tuple n c b ≡ block_byte block first c b
  unfolding head_byte
  head_other b e f = rw (ne_eqb b 0 e, ne_eqb b 2 f)

  pub place-tuple : (i : ℕ) → c ≡ tuple → field_place block first base tuple n c i ≡ place_of block first (original c) (i / n)
  unfolding field_place
  place-tuple i e = rw (eq-eqb c tuple e)

  pub place_other : (i : ℕ) → (c ≡ tuple → ⊥) → field_place block first base tuple n c i ≡ place_of block first (original c) i
  unfolding field_place
  place_other i e = rw (ne_eqb c tuple e)

  pub index_is : (i : ℕ) → cond (eqb c tuple) (suc (i % n)) (copy_index c) ≡ field_index block first base tuple n c i
  unfolding field_index
  index_is i = refl

-- ---- the table

module _ (block : List ℕ) (first n c b : ℕ) where
  pub table_unused : block_byte block first c 3 ≤ b / 2 → table_byte block first n c b ≡ unused_byte
  unfolding table_byte
  table_unused l = rw (le-ltb (b / 2) (block_byte block first c 3) l)

  pub table_low : b / 2 < block_byte block first c 3 → b % 2 ≡ 0
      → table_byte block first n c b ≡ term_of block n (block_byte block first c (10 + b / 2)) (copy_index c) % 256
  unfolding table_byte attribute_term
  table_low l e = rw (lt-ltb (b / 2) (block_byte block first c 3) l, eq-eqb (b % 2) 0 e)

  pub table_high : b / 2 < block_byte block first c 3 → (b % 2 ≡ 0 → ⊥)
      → table_byte block first n c b ≡ term_of block n (block_byte block first c (10 + b / 2)) (copy_index c) / 256
  unfolding table_byte attribute_term
  table_high l e = rw (lt-ltb (b / 2) (block_byte block first c 3) l, ne_eqb (b % 2) 0 e)

-- ---- copies

module _ {block : List ℕ} {first base tuple n c : ℕ} (copy : CopyOf block first base tuple n c) where
  pub side_copy_lem : SideCopy block first base n c
  side_copy_lem = record {
    vertices = copy.vertices;
    layout = copy.layout.side;
    some = copy.some;
    few = copy.few;
    below = copy.below;
    vertex = copy.vertex;
  }

  -- the record of which it is made is there
  pub record_there : vertex_at (first + original c) + 16 ≤ length block
  record_there = omega (arith, copy.layout.side.size, copy.vertex)

  pub few_places : place_count block first (original c) ≤ input_limit
  few_places = copy.layout.side.inputs (original c) copy.vertex

  -- the named Tuple has n fields, and another vertex those of its record
  pub few_fields : field_count block first base tuple n c ≤ input_limit
  few_fields = ⊎_elim
      (λ (t : eqb c tuple ≡ true).
      let here : c ≡ tuple = eqb-true c tuple t in
      let one : place_count block first (original c) ≤ 1 = rw here (copy.layout.one_field (rw here at copy.below)) in
      rw (tuple-count block first base tuple n c here)
      (omega (arith, mul-le-mul one copy.few)))
      (λ (t : eqb c tuple ≡ false). rw (other_count block first base tuple n c (eqb-false c tuple t)) few_places)
      (decided (eqb c tuple))

  -- a field stands in a place of the record
  pub tuple-place : (i : ℕ) → c ≡ tuple → i < field_count block first base tuple n c → i / n < place_count block first (original c)
  tuple-place i here l = (div-lt_iff_lt-mul copy.some).1 (rw (tuple-count block first base tuple n c here) at l)

  pub other_place : (i : ℕ) → (c ≡ tuple → ⊥) → i < field_count block first base tuple n c → i < place_count block first (original c)
  other_place i other l = rw (other_count block first base tuple n c other) at l

  pub few_index : (i : ℕ) → field_index block first base tuple n c i ≤ field_limit
  unfolding field_index
  few_index i =
      ⊎_elim (λ (t : eqb c tuple ≡ true). rw t (omega (arith, mod-lt i copy.some, copy.few)))
      (λ (t : eqb c tuple ≡ false). rw t (omega (arith, copy.below))) (decided (eqb c tuple))

  -- what a place names is there
  place_layout : (index j : ℕ) → index ≤ field_limit → j < place_count block first (original c)
      → PlaceLayout block first base index (place_of block first (original c) j)
  place_layout index j few l =
      let u = original c in
      let p = place_of block first u j in
      let lower : p < base + u = copy.layout.side.lower u j copy.vertex l in
      let inside = copy.vertex in
      let side = copy.layout.side in
      record {
        few = few;
        input = λ k. omega (arith, copy.layout.inputs u j copy.vertex l k, copy.layout.sources);
        few_inputs = λ k. omega (arith, copy.layout.inputs u j copy.vertex l k, copy.layout.few_sources);
        vertex = λ k. omega (arith, side.size);
        few_vertices = λ k. omega (arith, side.few);
      }

  pub field_layout : (index i : ℕ) → index ≤ field_limit → i < field_count block first base tuple n c
      → PlaceLayout block first base index (field_place block first base tuple n c i)
  field_layout index i few l = ⊎_elim
      (λ (t : eqb c tuple ≡ true).
      let here : c ≡ tuple = eqb-true c tuple t in
      rw (place-tuple block first base tuple n c i here) (place_layout index (i / n) few (tuple-place i here l)))
      (λ (t : eqb c tuple ≡ false).
      let other : c ≡ tuple → ⊥ = eqb-false c tuple t in
      rw (place_other block first base tuple n c i other) (place_layout index i few (other_place i other l)))
      (decided (eqb c tuple))

-- ---- the header

pub header_same : {sources targets outputs others nodes alike a b c d a' b' c' d' : ℕ} → outputs ≡ others → nodes ≡ alike
    → a ≡ a' → b ≡ b' → c ≡ c' → d ≡ d'
    → ◌≡◌ {A = List ℕ} (76 ∷ 71 ∷ 82 ∷ 0 ∷ 3 ∷ 0 ∷ sources ∷ targets ∷ outputs ∷ nodes % 256 ∷ a ∷ b ∷ c ∷ d ∷ nodes / 256 ∷ 0 ∷ [])
    (header_bytes sources targets others alike a' b' c' d')
unfolding header_bytes
header_same e f g h i j = rw (e, f, g, h, i, j) refl
