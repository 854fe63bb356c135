-- The source outputs of a rule, by number.
-- Assumes nothing.
use mathlib.Core.Path.{◌≡◌, refl}
use mathlib.Core.List.{List, [], ◌∷◌}
use Prim.Native.Nat.{ℕ, ◌<◌}
use native.Mathlib.Omega.{arith}
use lib.ListN.{length, get_or, drop}
use Rattle.definitions.specs.Rule.{rule_output_count}
use Rattle.rule_fields.specs.Fixed.{fixed_of}
use Rattle.rule_fields.proofs.Fixed.{length-source-outputs}
use Rattle.rule_nodes.specs.Working.{WorkingRule}
use Rattle.rule_sound.proofs.Working.{output-counts}

first_element : (xs : List ℕ) (d : ℕ) → 0 < length xs → xs ≡ get_or xs 0 d ∷ drop 1 xs
first_element [] d l = absurd (omega arith)
first_element (x ∷ xs) d l = refl

one_element : (xs : List ℕ) (d : ℕ) → length xs ≡ 1 → xs ≡ get_or xs 0 d ∷ []
one_element [] d e = absurd (omega arith)
one_element (x ∷ []) d e = refl
one_element (x ∷ y ∷ xs) d e = absurd (omega arith)

two_elements : (xs : List ℕ) (d : ℕ) → length xs ≡ 2 → xs ≡ get_or xs 0 d ∷ get_or xs 1 d ∷ []
two_elements [] d e = absurd (omega arith)
two_elements (x ∷ []) d e = absurd (omega arith)
two_elements (x ∷ y ∷ []) d e = refl
two_elements (x ∷ y ∷ z ∷ xs) d e = absurd (omega arith)

module _ (rule : List ℕ) (working : WorkingRule rule) (first : ℕ) (f : first ≡ get_or (fixed_of rule).source_outputs 0 255) where
  pub some_output_lem : (fixed_of rule).source_outputs ≡ first ∷ drop 1 (fixed_of rule).source_outputs
  some_output_lem = rw f (first_element (fixed_of rule).source_outputs 255 (omega (arith, length-source-outputs rule, output-counts rule working)))

  pub one_output : rule_output_count rule ≡ 1 → (fixed_of rule).source_outputs ≡ first ∷ []
  one_output e = rw f (one_element (fixed_of rule).source_outputs 255 (omega (arith, length-source-outputs rule)))

  pub two_outputs : (last : ℕ) → last ≡ get_or (fixed_of rule).source_outputs 1 255 → (rule_output_count rule ≡ 1 → ⊥)
      → (fixed_of rule).source_outputs ≡ first ∷ last ∷ []
  two_outputs last l h =
      let both : rule_output_count rule ≡ 2 = omega (arith, output-counts rule working) in
      rw (f, l) (two_elements (fixed_of rule).source_outputs 255 (omega (arith, length-source-outputs rule)))
