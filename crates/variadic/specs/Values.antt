-- What an expression of a block gives where the index is i, without the tree of its expansion: for code that keeps the results by
-- node and index.
-- Assumes nothing.
use Rattle.std.specs.Prelude.{List, [], ◌∷◌, ℕ, suc, ℤ, pos}
use Rattle.std.proofs.Math.Option.{Option, none, some}
use Rattle.definitions.specs.Lists.{tabulate, foldl}
use Rattle.definitions.specs.Rule.{add, Expression, anything, constant, access, apply, index, sum}
use Rattle.definitions.specs.Attributes.{combine}

-- the terms, added from the first up
unfoldable pub added_up : List (Option ℤ) → Option ℤ
added_up [] = some (pos 0)
added_up (x ∷ xs) = foldl (combine add) x xs

-- `read i v b` is attribute place b of the image of v where the index is i
unfoldable pub value : (ℕ → ℕ → ℕ → Option ℤ) → ℕ → Expression → ℕ → Option ℤ
value read n anything i = none
value read n (constant z) i = some z
value read n (access v b) i = read i v b
value read n (apply o x y) i = combine o (value read n x i) (value read n y i)
value read n index i = some (pos i)
value read n (sum x) i = added_up (tabulate n (λ k. value read n x (suc k)))
