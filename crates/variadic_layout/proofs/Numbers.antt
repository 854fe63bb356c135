-- The numbers that the tables give are places in the orders.
-- Assumes nothing.
use mathlib.Core.Path.{◌≡◌, refl, sym, ap, ◌∙◌}
use mathlib.Core.Bool.{true, false}
use mathlib.Core.List.{List, [], ◌∷◌}
use mathlib.Core.Logic.{⊎_elim}
use Prim.Native.Nat.{ℕ, suc, ◌+◌, ◌-◌, ◌<◌, ◌≤◌}
use native.Mathlib.Omega.{arith}
use borrow.Author.Tests.{ltb-true, ltb-false}
use lib.Dec.{eqb, ltb}
use lib.ListN.{length, get_or, get_or-eq_default}
use Rattle.definitions.specs.Lists.{member, position}
use Rattle.definitions.specs.Fields.{byte_at}
use Rattle.definitions.specs.Rule.{rule_output_count}
use Rattle.definitions.specs.VariadicBlock.{expanded_limit}
use Rattle.laws.proofs.Lists.{decided, true_not_false}
use Rattle.laws.proofs.Members.{position-inside}
use Rattle.variadic_order.specs.Order.{copy_numbers, number_in, Ordered}
use Rattle.variadic_order.specs.Sides.{field_count, field_place, field_index}
use Rattle.variadic_order.proofs.Fields.{copy_below}
use Rattle.variadic_order.proofs.Orders.{ordered_size}
use Rattle.variadic_layout.specs.Bytes.{number_from, place_number, output_byte, field_number, record_byte}
use Rattle.variadic_layout.specs.Written.{CopyOf, Numbers, PlaceLayout}
use Rattle.variadic_layout.proofs.Bytes.{number_none, number_some, place_input, place_own, output_used, output_unused, field_is, record_head, record_field, record_rest, field_layout, few_index}

-- ---- one number

-- what does not stand in a list has its length for a place
position_none : (x : ℕ) (xs : List ℕ) → member x xs ≡ false → position x xs ≡ length xs
unfolding member position
position_none x [] h = refl
position_none x (y ∷ ys) h = ⊎_elim
    (λ (t : eqb x y ≡ true). absurd (true_not_false refl (simp t at h)))
    (λ (t : eqb x y ≡ false). rw t (ap suc (position_none x ys (simp t at h))))
    (decided (eqb x y))

module _ {order copies numbers : List ℕ} {count : ℕ} (o : Ordered order copies numbers count) (l : count ≤ expanded_limit) where
  pub number-position : (c : ℕ) → c < copy_numbers → number_from numbers count c ≡ position c order
  unfolding number_in
  number-position c b = ⊎_elim
      (λ (t : member c order ≡ true).
      let e : get_or numbers c 0 ≡ suc (position c order) = o.numbered l c b ∙ rw t refl in
      number_some numbers count c (λ z. omega arith) ∙ omega arith)
      (λ (t : member c order ≡ false).
      let e : get_or numbers c 0 ≡ 0 = o.numbered l c b ∙ rw t refl in
      number_none numbers count c e ∙ sym (ordered_size o l) ∙ sym (position_none c order t))
      (decided (member c order))

  few_number : (c : ℕ) → c < copy_numbers → get_or numbers c 0 ≤ expanded_limit
  unfolding number_in
  few_number c b = ⊎_elim
      (λ (t : member c order ≡ true).
      let e : get_or numbers c 0 ≡ suc (position c order) = o.numbered l c b ∙ rw t refl in
      omega (arith, position-inside c order t, ordered_size o l))
      (λ (t : member c order ≡ false).
      let e : get_or numbers c 0 ≡ 0 = o.numbered l c b ∙ rw t refl in
      omega arith)
      (decided (member c order))

  pub numbers_of : Numbers numbers count
  numbers_of = record {
    size = o.numbers_size;
    few = l;
    each = λ c. ⊎_elim (λ (t : ltb c copy_numbers ≡ true). few_number c (ltb-true c copy_numbers t))
        (λ (t : ltb c copy_numbers ≡ false).
        let e : get_or numbers c 0 ≡ 0 = get_or-eq_default numbers 0 (omega (arith, ltb-false c copy_numbers t, o.numbers_size)) in
        omega arith)
        (decided (ltb c copy_numbers));
  }

-- ---- numbers that agree on the copies make the same bytes

module _ (block : List ℕ) (first base split : ℕ) (input own alike same : ℕ → ℕ) (inputs : (c : ℕ) → c < copy_numbers → input c ≡ alike c)
    (owns : (c : ℕ) → c < copy_numbers → own c ≡ same c) where
  place_same : (i p : ℕ) → PlaceLayout block first base i p
      → place_number block first base split input own i p ≡ place_number block first base split alike same i p
  place_same i p l = ⊎_elim
      (λ (t : ltb p base ≡ true).
      let below = ltb-true p base t in
      place_input block first base split input own i p below ∙ inputs _ (copy_below block 0 p i (l.few_inputs below) l.few)
      ∙ sym (place_input block first base split alike same i p below))
      (λ (t : ltb p base ≡ false).
      let from = ltb-false p base t in
      place_own block first base split input own i p from
      ∙ ap (λ (k : ℕ). split + k) (owns _ (copy_below block first (p - base) i (l.few_vertices from) l.few))
      ∙ sym (place_own block first base split alike same i p from))
      (decided (ltb p base))

  pub output_same : (at i : ℕ) → (i < rule_output_count block → PlaceLayout block first base 0 (byte_at block (at + i)))
      → output_byte block first base split input own at i ≡ output_byte block first base split alike same at i
  output_same at i l = ⊎_elim
      (λ (t : ltb i (rule_output_count block) ≡ true).
      let used = ltb-true i (rule_output_count block) t in
      output_used block first base split input own at i used ∙ place_same 0 (byte_at block (at + i)) (l used)
      ∙ sym (output_used block first base split alike same at i used))
      (λ (t : ltb i (rule_output_count block) ≡ false).
      let rest = ltb-false i (rule_output_count block) t in
      output_unused block first base split input own at i rest ∙ sym (output_unused block first base split alike same at i rest))
      (decided (ltb i (rule_output_count block)))

  module _ (tuple n c : ℕ) (copy : CopyOf block first base tuple n c) where
    field_same : (i : ℕ) → i < field_count block first base tuple n c
        → field_number block first base split input own tuple n c i ≡ field_number block first base split alike same tuple n c i
    field_same i l =
        sym (field_is block first base split input own tuple n c i)
        ∙ place_same (field_index block first base tuple n c i) (field_place block first base tuple n c i)
        (field_layout copy (field_index block first base tuple n c i) i (few_index copy i) l)
        ∙ field_is block first base split alike same tuple n c i

    pub record_same : (b : ℕ) → record_byte block first base split input own tuple n c b ≡ record_byte block first base split alike same tuple n c b
    record_same b = ⊎_elim
        (λ (t : ltb b 4 ≡ true).
        let l = ltb-true b 4 t in
        record_head block first base split input own tuple n c b l ∙ sym (record_head block first base split alike same tuple n c b l))
        (λ (t : ltb b 4 ≡ false).
        let l = ltb-false b 4 t in
        let count = field_count block first base tuple n c in
        ⊎_elim
        (λ (s : ltb (b - 4) count ≡ true).
        let k = ltb-true (b - 4) count s in
        record_field block first base split input own tuple n c b l k ∙ field_same (b - 4) k
        ∙ sym (record_field block first base split alike same tuple n c b l k))
        (λ (s : ltb (b - 4) count ≡ false).
        let k = ltb-false (b - 4) count s in
        record_rest block first base split input own tuple n c b l k ∙ sym (record_rest block first base split alike same tuple n c b l k))
        (decided (ltb (b - 4) count)))
        (decided (ltb b 4))
