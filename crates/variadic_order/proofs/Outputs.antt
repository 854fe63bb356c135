-- The visits from a side's outputs, one after the other.
-- Assumes nothing.
use mathlib.Core.Path.{◌≡◌, refl, ◌∙◌}
use mathlib.Core.List.{List, [], ◌∷◌}
use Prim.Native.Nat.{ℕ, suc, ◌+◌, ◌-◌, ◌<◌, ◌≤◌}
use native.Mathlib.Nat.{mod-le}
use native.Mathlib.Omega.{arith}
use borrow.Author.Tests.{lt-ltb, le-ltb}
use lib.ListN.{take, replicate}
use Rattle.definitions.specs.Lists.{foldl, concat_map}
use Rattle.definitions.specs.Fields.{byte_at}
use Rattle.definitions.specs.Paths.{visit}
use Rattle.definitions.specs.Rule.{side_limit, rule_output_count}
use Rattle.definitions.specs.Variadic.{original}
use Rattle.definitions.specs.VariadicBlock.{expanded_limit}
use Rattle.variadic_order.specs.Order.{copy_numbers}
use Rattle.variadic_order.specs.Sides.{side_names, outputs_from, OutputLayout}
use Rattle.variadic_order.specs.Visits.{Visited, Visits, SideOrdered}
use Rattle.variadic_order.proofs.Orders.{none_visited, ordered_visited, ordered_longer, visits_longer}
use Rattle.variadic_order.proofs.Walks.{range_none, range-next}

-- The outputs before i are visited.
pub record OutputsLeft (block : List ℕ) (first base tuple at n i : ℕ) (copies numbers : List ℕ) (count : ℕ) : Type 0 where
  pub visited : Visited copies numbers count
  pub rest : (d : ℕ) → OutputLayout block at base d → foldl (visit (side_names block first base tuple n) d) [] (outputs_from block at base 0)
      ≡ foldl (visit (side_names block first base tuple n) d) (take count copies) (outputs_from block at base i)

module _ (block : List ℕ) (first base tuple at n : ℕ) where
  abbrev names : ℕ → List ℕ
  names = side_names block first base tuple n

  pub outputs-begin : OutputsLeft block first base tuple at n 0 (replicate expanded_limit 0) (replicate copy_numbers 0) 0
  outputs-begin = record { visited = none_visited; rest = λ d o. refl }

  module _ (i : ℕ) where
    none_left : rule_output_count block ≤ i → outputs_from block at base i ≡ []
    unfolding outputs_from concat_map
    none_left l = rw (range_none i (rule_output_count block) l)

    module _ (inside : i < rule_output_count block) where
      input_first : byte_at block (at + i) < base → outputs_from block at base i ≡ outputs_from block at base (i + 1)
      unfolding outputs_from concat_map
      input_first l = rw (range-next i (rule_output_count block) inside, lt-ltb (byte_at block (at + i)) base l)

      vertex-first : base ≤ byte_at block (at + i)
          → outputs_from block at base i ≡ (byte_at block (at + i) - base) ∷ outputs_from block at base (i + 1)
      unfolding outputs_from concat_map
      vertex-first l = rw (range-next i (rule_output_count block) inside, le-ltb (byte_at block (at + i)) base l)

    module _ {copies numbers : List ℕ} {count : ℕ} (left : OutputsLeft block first base tuple at n i copies numbers count) where
      pub outputs-done : rule_output_count block ≤ i → SideOrdered block first base tuple at n copies numbers count
      unfolding foldl
      outputs-done l = record { ordered = λ d o. rw (left.rest d o, none_left l) left.visited.ordered }

      module _ (inside : i < rule_output_count block) where
        -- the output is a rule input
        pub output_skipped : byte_at block (at + i) < base → OutputsLeft block first base tuple at n (i + 1) copies numbers count
        output_skipped l = record { visited = left.visited; rest = λ d o. rw (← input_first inside l) (left.rest d o) }

        module _ (u : ℕ) (vertex : byte_at block (at + i) ≡ base + u) {copies_after numbers_after : List ℕ} {after : ℕ}
            (v : Visits block first base tuple n u copies numbers count copies_after numbers_after after) where
          deep : (d : ℕ) → OutputLayout block at base d → original u < d
          deep d o = omega (arith, o.inside i inside, mod-le u side_limit)

          one_first : (d : ℕ) (done : List ℕ)
              → foldl (visit names d) done (outputs_from block at base i)
              ≡ foldl (visit names d) (visit names d done u) (outputs_from block at base (i + 1))
          unfolding foldl
          one_first d done =
              let same : byte_at block (at + i) - base ≡ u = omega arith in
              rw (vertex-first inside (omega arith), same)

          pub output_over : expanded_limit < after → SideOrdered block first base tuple at n copies_after numbers_after after
          output_over f = record {
            ordered = λ d o. rw (left.rest d o, one_first d (take count copies))
                (ordered_longer (v.ordered d (deep d o)) f
                (visits_longer names d (outputs_from block at base (i + 1)) (visit names d (take count copies) u)));
          }

          pub output_passed : after ≤ expanded_limit → OutputsLeft block first base tuple at n (i + 1) copies_after numbers_after after
          output_passed f = record {
            visited = ordered_visited (v.ordered (suc (original u)) (omega arith)) f;
            rest = λ d o. left.rest d o ∙ one_first d (take count copies) ∙ rw ((v.ordered d (deep d o)).whole f);
          }
