-- A pattern that fits has places for all that it counts, and a test of the bytes there is one of the list that they stand for.
-- Assumes nothing.
use mathlib.Core.Path.{◌≡◌, sym, ◌∙◌}
use mathlib.Core.Bool.{Bool, true, false}
use mathlib.Core.List.{List}
use mathlib.Core.Logic.{⊎_elim}
use Prim.Native.Nat.{ℕ, ◌+◌, ◌≤◌, ◌<◌}
use lib.ListN.{length, get_or}
use Rattle.definitions.specs.Lists.{all_below, all}
use Rattle.laws.proofs.Lists.{decided, true_not_false, all_below_at, all_below_some, all_every, all_fails}
use Rattle.definitions.specs.Fields.{byte_at}
use Rattle.definitions.specs.Graph.{input_limit, attribute_limit}
use Rattle.definitions.specs.Rule.{pattern_fits}
use Rattle.laws.proofs.Rule.{pattern_shape}
use Rattle.laws.proofs.Operators.{few_inputs_lem, few_attributes_lem}

module _ (block : List ℕ) (at : ℕ) (fits : pattern_fits block at ≡ true) where
  pub pattern-inputs : byte_at block (at + 2) ≤ input_limit
  pattern-inputs =
      few_inputs_lem (byte_at block at) (byte_at block (at + 1)) (byte_at block (at + 2)) (byte_at block (at + 3)) (pattern_shape block at fits)

  pub pattern-attributes : byte_at block (at + 3) ≤ attribute_limit
  pattern-attributes =
      few_attributes_lem (byte_at block at) (byte_at block (at + 1)) (byte_at block (at + 2)) (byte_at block (at + 3))
      (pattern_shape block at fits)

-- q looks at the bytes in which the elements of xs stand, and p at the elements
pub all_of_bytes {ℓ} : {A : Type ℓ} (q : ℕ → Bool) (p : A → Bool) (d : A) (xs : List A) → ((i : ℕ) → i < length xs → q i ≡ p (get_or xs i d)) → all_below q (length xs) ≡ all p xs
all_of_bytes q p d xs same =
    ⊎_elim (λ (t : all_below q (length xs) ≡ true).
    t ∙ sym (all_every p d xs (λ i l. sym (same i l) ∙ all_below_at q (length xs) i t l)))
    (λ (t : all_below q (length xs) ≡ false).
    let bad = all_below_some q (length xs) (λ e. true_not_false e t) in
    t ∙ sym (all_fails p d xs bad.0 bad.1 (sym (same bad.0 bad.1) ∙ bad.2)))
    (decided (all_below q (length xs)))
