-- A number of a field that has none below 0, where it is read.
-- Assumes nothing.
use mathlib.Core.Path.{◌≡◌, refl, ap, ◌∙◌}
use mathlib.Core.Bool.{Bool, true, false}
use mathlib.Core.List.{List}
use Prim.Native.Nat.{ℕ, zero, suc}
use native.Mathlib.Omega.{arith}
use borrow.Author.Tests.{ltb-true}
use lib.ListN.{drop}
use Rattle.definitions.specs.Lists.{within}
use Rattle.definitions.specs.Numerals.{Field, in_field}
use Rattle.listing.specs.Typing.{nothing, valued, stopped, got, number_from}
use Rattle.listing.specs.Forms.{number, go_on}
use Rattle.listing.specs.Grammar.{magnitude}
use Rattle.listing.specs.Parts.{PartRead}
use Rattle.listing.proofs.Answers.{answer-number}

module _ (field : Field) (text : List ℕ) (at : ℕ) where
  pub natural_stops : (p : ℕ) → number_from field nothing at (drop at text) ≡ stopped p
      → PartRead {A = ℕ} (λ f. number field nothing (λ z. f (magnitude z))) text at (stopped p)
  unfolding go_on
  natural_stops p e f =
      answer-number field (λ z. f (magnitude z)) (drop at text) nothing at text refl ∙ ap (go_on (λ z. f (magnitude z)) text) e

  -- its magnitude is what the code has
  pub natural_value : (negative : Bool) (value : ℕ) → field.below ≡ 0 → in_field field (valued negative value) ≡ true
      → (magnitude (valued negative value) ≡ value) × (within field.low value field.high ≡ true)
  unfolding in_field valued magnitude
  natural_value false value none h = (refl, h)
  natural_value true zero none h = (refl, h)
  natural_value true (suc value) none h = absurd (omega (arith, ltb-true value field.below h))

  pub natural_goes : (negative : Bool) (value n : ℕ) → magnitude (valued negative value) ≡ value
      → number_from field nothing at (drop at text) ≡ got (valued negative value) n
      → PartRead {A = ℕ} (λ f. number field nothing (λ z. f (magnitude z))) text at (got value n)
  unfolding go_on
  natural_goes negative value n same e f =
      answer-number field (λ z. f (magnitude z)) (drop at text) nothing at text refl ∙ ap (go_on (λ z. f (magnitude z)) text) e
      ∙ ap (λ (v : ℕ). go_on f text (got v n)) same
