-- The words of kinds that have none, and the operator of a kind other than Call.
-- Assumes nothing.
use mathlib.Core.Path.{◌≡◌, refl}
use mathlib.Core.List.{[], ◌∷◌}
use Prim.Native.Nat.{ℕ, zero, suc}
use borrow.Author.Tests.{eq-eqb, ne_eqb}
use Rattle.definitions.specs.Operators.{kind_const, kind_variable, kind_call, kind_tuple, kind_proj}
use Rattle.definitions.specs.Numerals.{decimal, numeral}
use Rattle.definitions.specs.Sheet.{words, word, operator_text}

pub word_none : (kind : ℕ) → (kind ≡ kind_const → ⊥) → (kind ≡ kind_variable → ⊥) → (kind ≡ kind_call → ⊥) → (kind ≡ kind_tuple → ⊥)
    → (kind ≡ kind_proj → ⊥) → word kind ≡ []
unfolding word words
word_none zero a b c d e = refl
word_none (suc zero) a b c d e = absurd (a refl)
word_none (suc (suc zero)) a b c d e = absurd (b refl)
word_none (suc (suc (suc zero))) a b c d e = absurd (c refl)
word_none (suc (suc (suc (suc zero)))) a b c d e = absurd (d refl)
word_none (suc (suc (suc (suc (suc zero))))) a b c d e = absurd (e refl)
word_none (suc (suc (suc (suc (suc (suc n)))))) a b c d e = refl

pub operator_none : (kind operator : ℕ) → (kind ≡ kind_call → ⊥) → operator_text kind operator ≡ []
unfolding operator_text
operator_none kind operator other = simp (ne_eqb kind kind_call other)

pub operator-call : (kind operator : ℕ) → kind ≡ kind_call → operator_text kind operator ≡ 32 ∷ decimal operator
unfolding operator_text numeral
operator-call kind operator call = simp (eq-eqb kind kind_call call)
