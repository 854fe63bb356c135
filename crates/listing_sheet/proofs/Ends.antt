-- The end of a listing.
-- Assumes nothing.
use mathlib.Core.Path.{◌≡◌, refl, ap, ◌∙◌}
use mathlib.Core.List.{List}
use Prim.Native.Nat.{ℕ, suc, ◌≤◌, ◌<◌}
use lib.ListN.{length, get_or, drop}
use lib.Seq.{drop-cons}
use Rattle.definitions.specs.Sheet.{Sheet}
use Rattle.listing.specs.Forms.{ended, step, value_of, stops_at, comes_to, answer_from}
use Rattle.listing.proofs.Listings.{answer-value, answer_stops}
use Rattle.listing.proofs.Parts.{drop_all}

module _ (s : Sheet) (text : List ℕ) (n : ℕ) where
  -- the text ends where the listing does
  pub ends_here : length text ≤ n → answer_from (ended s) n (drop n text) ≡ comes_to s
  unfolding value_of
  ends_here over = ap (answer_from (ended s) n) (drop_all n text over) ∙ answer-value (ended s) n s refl

  -- and it has more behind it
  pub more_behind : n < length text → answer_from (ended s) n (drop n text) ≡ stops_at n
  unfolding step
  more_behind inside =
      ap (answer_from (ended s) n) (drop-cons text n 0 inside) ∙ answer_stops (ended s) n (get_or text n 0) (drop (suc n) text) refl
