-- 'Attribute results': what an expression gives for the attributes that it can read.
-- Assumes nothing.
use Rattle.std.specs.Prelude.{Bool, true, false, cond, ℕ, suc, ◌+◌, ◌/◌, ◌^◌, eqb, ltb, ℤ, pos, negsuc, neg_ℤ, ◌+ℤ◌, ◌-ℤ◌, ◌*ℤ◌}
use Rattle.std.proofs.Math.Option.{Option, none, some}
use Rattle.definitions.specs.Rule.{Operation, add, subtract, multiply, divide, remainder, Expression, anything, constant, access, apply, index, sum}

-- a result is from -2147483648 to 2147483647
unfoldable pub in_range : ℤ → Bool
in_range (pos n) = ltb n (2 ^ 31)
in_range (negsuc n) = ltb n (2 ^ 31)

unfoldable pub fit : ℤ → Option ℤ
fit z = cond (in_range z) (some z) none

-- The quotient x / y, rounded down, for a y other than zero. The four cases are the signs; of a positive number by a negative
-- one it is minus the quotient rounded up.
unfoldable pub quotient : ℤ → ℤ → ℤ
quotient (pos x) (pos y) = pos (x / y)
quotient (pos x) (negsuc y) = neg_ℤ (pos ((x + y) / suc y))
quotient (negsuc x) (pos y) = negsuc (x / y)
quotient (negsuc x) (negsuc y) = pos (suc x / suc y)

unfoldable pub is_zero : ℤ → Bool
is_zero (pos n) = eqb n 0
is_zero (negsuc n) = false

-- the remainder takes the exact quotient, even where that is out of range itself
unfoldable pub operate : Operation → ℤ → ℤ → Option ℤ
operate add x y = fit (x +ℤ y)
operate subtract x y = fit (x -ℤ y)
operate multiply x y = fit (x *ℤ y)
operate divide x y = cond (is_zero y) none (fit (quotient x y))
operate remainder x y = cond (is_zero y) none (fit (x -ℤ y *ℤ quotient x y))

-- an operand without a result gives none
unfoldable pub combine : Operation → Option ℤ → Option ℤ → Option ℤ
combine o none y = none
combine o (some x) none = none
combine o (some x) (some y) = operate o x y

-- `read v b` is attribute place b of the image of source vertex v, or none where the image has no such place. Index and sum have no result of
-- their own: in a fixed rule there are none.
unfoldable pub result_of : (ℕ → ℕ → Option ℤ) → Expression → Option ℤ
result_of read anything = none
result_of read (constant z) = some z
result_of read (access v b) = read v b
result_of read (apply o x y) = combine o (result_of read x) (result_of read y)
result_of read index = none
result_of read (sum x) = none

unfoldable pub same_number : ℤ → ℤ → Bool
same_number (pos a) (pos b) = eqb a b
same_number (pos a) (negsuc b) = false
same_number (negsuc a) (pos b) = false
same_number (negsuc a) (negsuc b) = eqb a b

unfoldable pub gives : Option ℤ → ℤ → Bool
gives none z = false
gives (some x) z = same_number x z

-- any agrees with every attribute; another expression with exactly its result
unfoldable pub agrees : (ℕ → ℕ → Option ℤ) → Expression → ℤ → Bool
agrees read anything z = true
agrees read (constant x) z = gives (result_of read (constant x)) z
agrees read (access v b) z = gives (result_of read (access v b)) z
agrees read (apply o x y) z = gives (result_of read (apply o x y)) z
agrees read index z = gives (result_of read index) z
agrees read (sum x) z = gives (result_of read (sum x)) z
