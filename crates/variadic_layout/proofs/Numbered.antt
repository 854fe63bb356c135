-- In a block without the faults 30 to 33 every rule input that the target names is numbered, since the source's order has every copy.
-- Assumes nothing.
use mathlib.Core.Path.{◌≡◌, refl, sym, ap, subst, ◌∙◌}
use mathlib.Core.Bool.{true, false, cond}
use mathlib.Core.List.Memᴰ
use mathlib.Core.List.{List, [], ◌∷◌, Memᴰ}
use mathlib.Core.Logic.{⊎_elim}
use Prim.Native.Nat.{ℕ, ◌+◌, ◌-◌, ◌/◌, ◌<◌, ◌≤◌}
use native.Mathlib.Nat.{mod-lt}
use native.Mathlib.Omega.{arith}
use borrow.Author.Tests.{ltb-true, ltb-false, eqb-true, eqb-false}
use lib.Dec.{eqb, ltb}
use lib.ListN.{length}
use Rattle.definitions.specs.Lists.{tabulate, range}
use Rattle.definitions.specs.Fields.{byte_at}
use Rattle.definitions.specs.Rule.{side_limit, target_base, source_count, target_count, rule_output_count, Origin, given, made, origin_by, origin_of, rule_by, rule_of}
use Rattle.definitions.specs.Variadic.{VariadicRule, copy, original, copy_index, source_copy, origin_copy, source_number}
use Rattle.definitions.specs.VariadicBlock.{field_limit, expanded_limit, marked, variadic_of}
use Rattle.laws.proofs.Lists.{decided, true_not_false, length-tabulate, get_or_tabulate}
use Rattle.laws.proofs.Members.{mem_member, mem-place, concat_mem, range_mem, position-inside}
use Rattle.variadic.specs.Templated.{Templated}
use Rattle.variadic_order.specs.Sides.{place_count, place_of, side_copy, place_names, field_count, field_place, field_index, field_names, names_from, side_names, outputs_from}
use Rattle.variadic_order.proofs.Fields.{copy-original}
use Rattle.variadic_order.proofs.Sides.{target-order}
use Rattle.variadic_layout.specs.Written.{BlockLayout, CopyOf}
use Rattle.variadic_layout.specs.Templates.{NamesTemplates, TargetTemplates}
use Rattle.variadic_layout.specs.Laid.{sources_of, targets_of, InputsNumbered}
use Rattle.variadic_layout.proofs.Bytes.{place-tuple, place_other, tuple-place, other_place}
use Rattle.variadic_layout.proofs.Inside.{visits_every, Inside, names-inside, output-inside, inside-copy}
use Rattle.variadic_layout.proofs.Complete.{all_copies}
use Rattle.variadic_layout.proofs.Expanded.{target_row}

-- a field stands in a place of the record
field_at : {block : List ℕ} {first base tuple n c : ℕ} → CopyOf block first base tuple n c → (i : ℕ) → i < field_count block first base tuple n c
    → (j : ℕ) × (j < place_count block first (original c)) × (field_place block first base tuple n c i ≡ place_of block first (original c) j)
field_at {block} {first} {base} {tuple} {n} {c} copy i l = ⊎_elim
    (λ (t : eqb c tuple ≡ true).
    let here : c ≡ tuple = eqb-true c tuple t in
    (i / n, tuple-place copy i here l, place-tuple block first base tuple n c i here))
    (λ (t : eqb c tuple ≡ false).
    let other = eqb-false c tuple t in
    (i, other_place copy i other l, place_other block first base tuple n c i other))
    (decided (eqb c tuple))

module _ (block : List ℕ) (n : ℕ) (layout : BlockLayout block) (some : 1 ≤ n) (few : n ≤ field_limit) (t : TargetTemplates block) where
  abbrev first : ℕ
  first = source_count block

  abbrev tuple : ℕ
  tuple = byte_at block 15

  -- a template's copy has an index from 1 on
  record Indexed (c : ℕ) : Type 0 where
    inside : Inside (target_count block) n c
    index : marked block (first + original c) ≡ true → 1 ≤ copy_index c

  copy_at : (c : ℕ) → Indexed c → CopyOf block first target_base tuple n c
  copy_at c here = inside-copy block n layout some few layout.target c here.inside

  -- what names templates names them with an index from 1 on
  some_index : (c i : ℕ) → Indexed c → NamesTemplates block (original c) → 1 ≤ field_index block first target_base tuple n c i
  unfolding field_index
  some_index c i here names = ⊎_elim
      (λ (e : eqb c tuple ≡ true). rw e (omega arith))
      (λ (e : eqb c tuple ≡ false).
      let other : c ≡ tuple → ⊥ = eqb-false c tuple e in
      rw e (⊎_elim (λ (same : original c ≡ tuple). above c other same)
      (λ (k : marked block (first + original c) ≡ true). here.index k) names))
      (decided (eqb c tuple))
    where
      above : (c : ℕ) → (c ≡ tuple → ⊥) → original c ≡ tuple → 1 ≤ copy_index c
      above c other same = omega arith

  few_index : (c i : ℕ) → Indexed c → field_index block first target_base tuple n c i ≤ n
  unfolding field_index
  few_index c i here =
      ⊎_elim (λ (e : eqb c tuple ≡ true). rw e (omega (arith, mod-lt i some))) (λ (e : eqb c tuple ≡ false). rw e here.inside.index)
      (decided (eqb c tuple))

  copy_index_lem : (i u : ℕ) → u < side_limit → marked block (first + u) ≡ true → copy_index (side_copy block first i u) ≡ i
  unfolding side_copy
  copy_index_lem i u l k = rw k (omega arith)

  field_indexed : (c i u : ℕ) → Indexed c → i < field_count block first target_base tuple n c
      → Memᴰ u (field_names block first target_base tuple n c i) → marked block (first + original u) ≡ true → 1 ≤ copy_index u
  unfolding field_names place_names
  field_indexed c i u here l m k =
      let p = field_place block first target_base tuple n c i in
      let index = field_index block first target_base tuple n c i in
      let at = field_at (copy_at c here) i l in
      let lower = layout.target.side.lower (original c) at.0 here.inside.vertex at.1 in ⊎_elim
      (λ (e : ltb p target_base ≡ true). absurd (Memᴰ.not-nil (rw e at m)))
      (λ (e : ltb p target_base ≡ false).
      let q = p - target_base in
      let from : target_base ≤ p = ltb-false p target_base e in
      let is : u ≡ side_copy block first index q = Memᴰ.eq_of_singleton (rw e at m) in
      let small : q < side_limit = omega (arith, at.2, layout.target.side.few, here.inside.vertex) in
      let same : original u ≡ q = ap original is ∙ copy-original block first q index small in
      let template : marked block (first + q) ≡ true = rw same at k in
      let names : NamesTemplates block (original c) =
      t.vertices (original c) at.0 here.inside.vertex at.1 (rw (← at.2) from) (rw (← at.2) template) in
      rw (is, copy_index_lem index q small template) (some_index c i here names))
      (decided (ltb p target_base))

  names_indexed : (c u : ℕ) → Indexed c → Memᴰ u (side_names block first target_base tuple n c) → Indexed u
  unfolding side_names names_from
  names_indexed c u here m =
      let found = concat_mem (λ i. field_names block first target_base tuple n c i) (range 0 (field_count block first target_base tuple n c)) m in
      record {
        inside = names-inside block first target_base (target_count block) tuple n layout.target.side some c u here.inside m;
        index = field_indexed c found.0 u here (range_mem 0 (field_count block first target_base tuple n c) found.1).1 found.2;
      }

  output_indexed : (u : ℕ) → Memᴰ u (outputs_from block 12 target_base 0) → Indexed u
  unfolding outputs_from
  output_indexed u m =
      let inside = output-inside block first target_base (target_count block) tuple n layout.target.side some 12 layout.target_outputs u m in
      let found = concat_mem (λ k. let p = byte_at block (12 + k) in cond (ltb p target_base) [] ((p - target_base) ∷ [])) (range 0 (rule_output_count block)) m in
      let p = byte_at block (12 + found.0) in
      let listed = (range_mem 0 (rule_output_count block) found.1).1 in
      let below = layout.target_outputs.inside found.0 listed in ⊎_elim
      (λ (e : ltb p target_base ≡ true). absurd (Memᴰ.not-nil (rw e at found.2)))
      (λ (e : ltb p target_base ≡ false).
      let from : target_base ≤ p = ltb-false p target_base e in
      let is : u ≡ p - target_base = Memᴰ.eq_of_singleton (rw e at found.2) in
      let same : original u ≡ p - target_base = omega (arith, layout.target.side.few) in
      record { inside = inside; index = λ k. absurd (true_not_false (rw same at k) (t.vertex_outputs found.0 listed from)) })
      (decided (ltb p target_base))

  target_indexed : (c : ℕ) → Memᴰ c (targets_of block n) → Indexed c
  target_indexed c m =
      visits_every (side_names block first target_base tuple n) Indexed names_indexed (target_count block) (outputs_from block 12 target_base 0)
      output_indexed c (rw (← target-order block n some layout.target.side layout.target_outputs) at m)

  -- ---- the rule inputs

  abbrev r : VariadicRule
  r = variadic_of block

  module _ (b : Templated r) (fits : length (sources_of block n) ≤ expanded_limit) where
    numbered_below : (v : ℕ) → Memᴰ v (sources_of block n) → source_number r n v < expanded_limit
    unfolding source_number
    numbered_below v m = omega (arith, position-inside v (sources_of block n) (mem_member m))

    shared_copy : (i v : ℕ) → marked block v ≡ false → source_copy r n i v ≡ v
    unfolding source_copy variadic_of
    shared_copy i v k = rw k refl

    -- a shared rule input is its own copy, and a template has copies of the indices from 1 to n
    copy_below : (i v : ℕ) → v < source_count block → i ≤ n → (marked block v ≡ true → 1 ≤ i) → source_number r n (source_copy r n i v) < expanded_limit
    copy_below i v l k index = ⊎_elim
        (λ (e : marked block v ≡ true). numbered_below (source_copy r n i v) (all_copies block n layout some few b v l i (index e) k))
        (λ (e : marked block v ≡ false).
        subst (λ (c : ℕ). source_number r n c < expanded_limit) (shared_copy 1 v e ∙ sym (shared_copy i v e))
        (numbered_below (source_copy r n 1 v) (all_copies block n layout some few b v l 1 (omega arith) some)))
        (decided (marked block v))

    field_below : (c i v : ℕ) → Indexed c → i < field_count block first target_base tuple n c
        → origin_copy r n (field_index block first target_base tuple n c i) (origin_of (field_place block first target_base tuple n c i)) ≡ given v
        → source_number r n v < expanded_limit
    unfolding origin_by origin_copy
    field_below c i v here l e =
        let p = field_place block first target_base tuple n c i in
        let index = field_index block first target_base tuple n c i in
        let at = field_at (copy_at c here) i l in
        let vertex = here.inside.vertex in ⊎_elim
        (λ (k : ltb p target_base ≡ true).
        let below : p < target_base = ltb-true p target_base k in
        let is : given (source_copy r n index p) ≡ given v = rw k at e in
        let same : source_copy r n index p ≡ v = cc in
        let source : p < source_count block =
        omega (arith, at.2, layout.target.inputs (original c) at.0 vertex at.1 (rw (← at.2) below)) in
        subst (λ (x : ℕ). source_number r n x < expanded_limit) same
        (copy_below index p source (few_index c i here)
        (λ m. some_index c i here (t.inputs (original c) at.0 vertex at.1 (rw (← at.2) below) (rw (← at.2) m)))))
        (λ (k : ltb p target_base ≡ false).
        let is : made _ ≡ given v = rw k at e in
        let never : ◌≡◌ {A = ℕ} 0 1 = cc in
        absurd (omega arith))
        (decided (ltb p target_base))

    output_below : (i v : ℕ) → i < rule_output_count block → origin_of (byte_at block (12 + i)) ≡ given v → source_number r n v < expanded_limit
    unfolding origin_by
    output_below i v l e =
        let p = byte_at block (12 + i) in ⊎_elim
        (λ (k : ltb p target_base ≡ true).
        let below : p < target_base = ltb-true p target_base k in
        let is : given p ≡ given v = rw k at e in
        let same : p ≡ v = cc in
        let plain = t.input_outputs i l below in
        subst (λ (x : ℕ). source_number r n x < expanded_limit) (shared_copy 1 p plain ∙ same)
        (copy_below 1 p (layout.inputs i l below) some (λ m. omega arith)))
        (λ (k : ltb p target_base ≡ false).
        let is : made _ ≡ given v = rw k at e in
        let never : ◌≡◌ {A = ℕ} 0 1 = cc in
        absurd (omega arith))
        (decided (ltb p target_base))

    pub inputs-numbered : InputsNumbered block n
    unfolding variadic_of rule_of rule_by
    inputs-numbered = record {
      fields = λ c v m k.
          let here = target_indexed c m in
          let size = field_count block first target_base tuple n c in
          let names : ℕ → Origin = λ i. origin_copy r n (field_index block first target_base tuple n c i) (origin_of (field_place block first target_base tuple n c i)) in
          let found = mem-place (made 0) (rw (target_row block n layout some few c here.inside) at k) in
          let l : found.0 < size = rw (length-tabulate size names) at found.1 in
          field_below c found.0 v here l (sym (get_or_tabulate size names found.0 (made 0) l) ∙ found.2);
      outputs = λ v k.
          let size = rule_output_count block in
          let names : ℕ → Origin = λ i. origin_of (byte_at block (12 + i)) in
          let found = mem-place {xs = tabulate size names} (made 0) k in
          let l : found.0 < size = rw (length-tabulate size names) at found.1 in
          output_below found.0 v l (sym (get_or_tabulate size names found.0 (made 0) l) ∙ found.2);
    }
