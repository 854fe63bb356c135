-- What the theorems about matching and rewriting ask of a rule follows from its soundness alone, whatever its side limit: so they hold
-- of the fixed rules of a variadic one.
-- Assumes nothing.
use mathlib.Core.Path.{◌≡◌, refl, ap}
use mathlib.Core.Bool.{true, false, not, ◌&&◌, ◌||◌, and-false}
use mathlib.Core.List.{List, []}
use mathlib.Core.Logic.{⊎_elim}
use Prim.Native.Nat.{ℕ, ◌<◌}
use native.Mathlib.Omega.{arith}
use borrow.Author.Tests.{eqb-true, not-true}
use lib.Dec.{eqb}
use lib.ListN.{length, get_or, get_or-eq_default}
use Rattle.definitions.specs.Lists.{all}
use Rattle.definitions.specs.Operators.{kind_empty, kind_const, kind_variable, kind_call, kinds, row_of}
use Rattle.definitions.specs.Graph.{SoundGraph, graph_of}
use Rattle.definitions.specs.Rule.{anything, Pattern, Rule, wildcard, source_of, target_of, source_inputs, input_kind, is_rule_input, origin_fits, target_inputs_fit, accesses_below}
use Rattle.definitions.specs.Match.{Match, is_const}
use Rattle.definitions.specs.Rewriting.{has_room}
use Rattle.laws.proofs.Lists.{decided, and_left, and_right, needed, all-at, length_none}
use Rattle.laws.proofs.Faults.{by_place}
use Rattle.laws.proofs.Operators.{row-inputs, row-attributes}
use Rattle.laws.proofs.Members.{mem_range}
use Rattle.laws.proofs.Rule.{input_inside}
use Rattle.theory.proofs.Fixing.{Fixing, traversal_every}
use Rattle.rule_order.specs.InOrder.{InOrder, visited_after}
use Rattle.rule_order.proofs.InOrder.{start_in_order, whole_in_order}
use Rattle.definitions.specs.FixedRule.{pattern_shaped, definite, is_any, source_uses_fit, SoundFixed}
use Rattle.rule_sound.proofs.Sound.{lower_of, any_or_below}

module _ (limit : ℕ) (r : Rule) (s : SoundFixed limit r) where
  -- a vertex reads nothing where the row of its kind has no inputs
  pub reads_nothing : (j kind : ℕ) → j < length r.source → (source_of r j).kind ≡ kind → eqb kind kind_call ≡ false → (row_of kind).greatest ≡ 0
      → source_inputs r j ≡ []
  unfolding pattern_shaped
  reads_nothing j kind l e other none =
      let p = source_of r j in
      let most = row-inputs kind p.operator (length p.inputs) (length p.attributes) (rw e at (s.source_shapes j l)) other in
      length_none (source_inputs r j) (omega (arith, most, none))

  -- so a wildcard reads nothing, and past the last vertex stand wildcards
  plain_of : (j : ℕ) → (source_of r j).kind ≡ kind_empty → source_inputs r j ≡ []
  unfolding source_of wildcard row_of kinds
  plain_of j e = by_place (length r.source) j (λ l. reads_nothing j kind_empty l e refl refl)
      (λ l. ap (λ (p : Pattern ℕ). p.inputs) (get_or-eq_default r.source wildcard l))

  -- a rule input reads nothing, a wildcard has no attributes, and attributes access lower vertices: what the search takes from a rule
  pub input_plain_of : (j : ℕ) → is_rule_input r j ≡ true → source_inputs r j ≡ []
  unfolding is_rule_input input_kind row_of kinds
  input_plain_of j h =
      let kind = (source_of r j).kind in
      ⊎_elim (λ (t : eqb kind kind_empty ≡ true). plain_of j (eqb-true kind kind_empty t))
      (λ (t : eqb kind kind_empty ≡ false).
      reads_nothing j kind_variable (input_inside r j h)
      (eqb-true kind kind_variable (needed (eqb kind kind_variable) h (λ f. simp (t, f, and-false)))) refl refl)
      (decided (eqb kind kind_empty))

  pub bare_of : (j : ℕ) → (source_of r j).kind ≡ kind_empty → (source_of r j).attributes ≡ []
  unfolding source_of wildcard pattern_shaped row_of kinds
  bare_of j e = by_place (length r.source) j
      (λ l.
      let p = source_of r j in
      length_none p.attributes
      (row-attributes kind_empty p.operator (length p.inputs) (length p.attributes) (rw e at (s.source_shapes j l)) refl))
      (λ l. ap (λ (p : Pattern ℕ). p.attributes) (get_or-eq_default r.source wildcard l))

  pub below_of : (j i : ℕ) → j < length r.source → i < length (source_of r j).attributes
      → accesses_below j (get_or (source_of r j).attributes i anything) ≡ true
  unfolding source_uses_fit
  below_of j i l m =
      any_or_below j (get_or (source_of r j).attributes i anything)
      (all-at (λ e. is_any e || definite e && accesses_below j e) anything (source_of r j).attributes i (s.source_uses j l) m)

  -- the traversal from the outputs visits 0, 1, .. : a search follows it
  pub in_order_of : InOrder r 0 r.source_outputs
  in_order_of = start_in_order r s.order s.outputs_inside

  -- and nothing more than the source vertices
  pub whole_in_order_of : visited_after 0 r.source_outputs ≡ length r.source
  whole_in_order_of = whole_in_order r s.order s.outputs_inside

  -- Output images fix a match of it, so the theorems on the least match hold.
  pub fixing_of : Fixing r
  fixing_of = record {
    lower = lower_of r s.lower_inputs;
    read = λ v l. traversal_every r v (rw s.order (mem_range 0 (length r.source) v (omega arith) l));
    plain = plain_of;
    some = s.some_output;
    inside = s.outputs_inside;
  }
