-- The images that are looked at are those of source vertices, where an image is the number in its place.
use mathlib.Core.Path.{◌≡◌, refl, sym, ◌∙◌}
use mathlib.Core.Bool.{Bool}
use Prim.Native.Nat.{ℕ, zero, suc, ◌<◌}
use native.Mathlib.Omega.{arith}
use Rattle.std.proofs.Common.{rules}
use borrow.Author.Tests.{tests}
use lib.Dec.{eqb}
use lib.ListN.{get_or}
use Rattle.definitions.specs.Lists.{any_below}
use Rattle.definitions.specs.Match.{image_of}
use Rattle.laws.proofs.Match.{image-at}
use Rattle.laws.proofs.Searches.{any_of_range}
use Rattle.match_images.proofs.is_taken.Goals as goal

-- two tests that agree on each number below n
any_same : (p q : ℕ → Bool) (n : ℕ) → ((k : ℕ) → k < n → p k ≡ q k) → any_below p n ≡ any_below q n
unfolding any_below
any_same p q zero same = refl
any_same p q (suc n) same = rw (any_same p q n (λ k l. same k (omega arith)), same n (omega arith))

pub returns : goal.returns
returns c =
    any_of_range (λ i. eqb (get_or c.args.images.now i 0) c.args.v) refl _ _ _ c.any.ensures.ran (λ x b q k. search (rules, tests))
    ∙ sym (any_same (λ i. eqb (image_of c.args.images.now i) c.args.v) (λ i. eqb (get_or c.args.images.now i 0) c.args.v) c.args.next
    (λ k l. rw (image-at c.args.images.now k (omega arith))))
