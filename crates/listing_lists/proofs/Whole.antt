-- A list that was read, as a part of a listing.
-- Assumes nothing.
use mathlib.Core.Path.{sym, subst}
use mathlib.Core.List.{List}
use Prim.Native.Nat.{ℕ, ◌≤◌}
use lib.IntN.{ℤ}
use lib.ListN.{length}
use Rattle.definitions.specs.Numerals.{Field}
use Rattle.definitions.specs.Sheet.{Sheet}
use Rattle.listing.specs.Typing.{Got, stopped, got}
use Rattle.listing.specs.Forms.{Form}
use Rattle.listing.specs.Grammar.{spaced_form, joined_form}
use Rattle.listing.specs.Parts.{PartRead, spaced_from, joined_from}
use Rattle.listing.proofs.Parts.{answer-spaced, answer-joined}
use Rattle.std.specs.declared.result.Result.{Result}
use Rattle.std.specs.declared.result.Result.TheVariants.{Ok, Err}
use Rattle.listing_numbers.specs.declared.Stopped.{Stopped}
use Rattle.listing_lists.specs.declared.Numbers.{Numbers}
use Rattle.listing_lists.specs.Lists.{Holds, place_of, NumbersRead}

module _ (part : (List ℤ → Form Sheet) → Form Sheet) (field : Field) (most : ℕ) (text : List ℕ) (at : ℕ) where
  held-read : (r : Result Numbers Stopped) (g : Got (List ℤ)) → PartRead part text at g → Holds field most r g → place_of r ≤ length text
      → NumbersRead part field most text at r
  unfolding Holds
  held-read (Err e) (stopped p) goes same inside = record {
    goes = subst (λ (n : ℕ). PartRead part text at (stopped n)) (sym same) goes;
    next = inside;
  }
  held-read (Err e) (got numbers n) goes holds inside = absurd holds
  held-read (Ok r) (stopped p) goes holds inside = absurd holds
  held-read (Ok r) (got numbers n) goes (listed, same) inside = record {
    numbers = numbers;
    goes = subst (λ (k : ℕ). PartRead part text at (got numbers k)) (sym same) goes;
    listed = listed;
    next = inside;
  }

module _ (field : Field) (stop : ℕ) (text : List ℕ) (least most at : ℕ) (r : Result Numbers Stopped) where
  pub spaced-read : Holds field most r (spaced_from least most field stop text at) → place_of r ≤ length text
      → NumbersRead (spaced_form least most field stop) field most text at r
  spaced-read =
      held-read (spaced_form least most field stop) field most text at r (spaced_from least most field stop text at)
      (λ f. answer-spaced field stop text least most f at)

  pub joined-read : Holds field most r (joined_from least most field stop text at) → place_of r ≤ length text
      → NumbersRead (joined_form least most field stop) field most text at r
  joined-read =
      held-read (joined_form least most field stop) field most text at r (joined_from least most field stop text at)
      (λ f. answer-joined field stop text least most f at)
