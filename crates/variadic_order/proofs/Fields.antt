-- The fields of a copy as the code reads them, and the numbers that its names have.
-- Assumes nothing.
use mathlib.Core.Path.{◌≡◌, refl}
use mathlib.Core.Bool.{true, false}
use mathlib.Core.List.{List, []}
use mathlib.Core.Logic.{⊎_elim}
use Prim.Native.Nat.{ℕ, suc, ◌+◌, ◌-◌, ◌*◌, ◌/◌, ◌%◌, ◌<◌, ◌≤◌}
use native.Mathlib.Omega.{arith}
use borrow.Author.Tests.{lt-ltb, le-ltb, lt-leb, le-leb, eq-eqb, ne_eqb}
use Rattle.definitions.specs.Fields.{byte_at}
use Rattle.definitions.specs.Rule.{side_limit, vertex_at}
use Rattle.definitions.specs.Variadic.{copy, original, copy_index}
use Rattle.definitions.specs.VariadicBlock.{template_mark, field_limit, marked}
use Rattle.laws.proofs.Lists.{decided}
use Rattle.variadic_order.specs.Order.{copy_numbers}
use Rattle.variadic_order.specs.Sides.{place_count, place_of, side_copy, place_names, field_count, field_place, field_index, field_names}
use Rattle.variadic_order.specs.Visits.{NamesOne}

-- ---- copies

module _ (block : List ℕ) (first u : ℕ) where
  pub copy_shared : (i : ℕ) → byte_at block (vertex_at (first + u)) < template_mark → side_copy block first i u ≡ u
  unfolding side_copy
  copy_shared i h = rw (lt-leb template_mark (byte_at block (vertex_at (first + u))) h)

  pub copy_template : (i : ℕ) → template_mark ≤ byte_at block (vertex_at (first + u)) → side_copy block first i u ≡ copy u i
  unfolding side_copy
  copy_template i h = rw (le-leb template_mark (byte_at block (vertex_at (first + u))) h)

  -- a copy of a vertex tells the vertex, and is below the number of copies
  pub copy-original : (i : ℕ) → u < side_limit → original (side_copy block first i u) ≡ u
  unfolding side_copy
  copy-original i h =
      ⊎_elim (λ (t : marked block (first + u) ≡ true). rw t (omega arith))
      (λ (t : marked block (first + u) ≡ false). rw t (omega arith))
      (decided (marked block (first + u)))

  pub copy_below : (i : ℕ) → u < side_limit → i ≤ field_limit → side_copy block first i u < copy_numbers
  unfolding side_copy
  copy_below i h l =
      ⊎_elim (λ (t : marked block (first + u) ≡ true). rw t (omega arith))
      (λ (t : marked block (first + u) ≡ false). rw t (omega arith))
      (decided (marked block (first + u)))

-- ---- places

module _ (block : List ℕ) (first base : ℕ) where
  pub names_none : (i p : ℕ) → p < base → place_names block first base i p ≡ []
  unfolding place_names
  names_none i p h = rw (lt-ltb p base h)

  pub names_one : (i p v x : ℕ) → base ≤ p → p < base + v → v ≤ side_limit → i ≤ field_limit → x ≡ side_copy block first i (p - base)
      → NamesOne (place_names block first base i p) v x
  unfolding place_names
  names_one i p v x h l few index e =
      let small : p - base < side_limit = omega arith in
      record {
        below = rw e (copy_below block first (p - base) i small index);
        one = rw (le-ltb p base h, e) refl;
        lower = rw (e, copy-original block first (p - base) i small) (omega arith);
      }

  -- ---- fields, of the named Tuple and of another copy

  module _ (tuple n c : ℕ) where
    module _ (here : c ≡ tuple) where
      pub tuple-count : field_count block first base tuple n c ≡ place_count block first (original c) * n
      unfolding field_count
      tuple-count = rw (eq-eqb c tuple here)

      pub tuple-names : (i : ℕ)
          → field_names block first base tuple n c i ≡ place_names block first base (suc (i % n)) (place_of block first (original c) (i / n))
      unfolding field_names field_index field_place
      tuple-names i = rw (eq-eqb c tuple here)

    module _ (other : c ≡ tuple → ⊥) where
      pub other_count : field_count block first base tuple n c ≡ place_count block first (original c)
      unfolding field_count
      other_count = rw (ne_eqb c tuple other)

      pub other_names_lem : (i : ℕ)
          → field_names block first base tuple n c i ≡ place_names block first base (copy_index c) (place_of block first (original c) i)
      unfolding field_names field_index field_place
      other_names_lem i = rw (ne_eqb c tuple other)
