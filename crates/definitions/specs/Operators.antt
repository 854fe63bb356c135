-- The two tables of 'The graph block': what each kind, and for a Call each operator, fixes of the counts.
-- A rule's pattern follows them too; its kind 0, the wildcard, has the counts of Empty.
-- Assumes nothing.
use Rattle.std.specs.Prelude.{Bool, cond, ◌&&◌, List, [], ◌∷◌, ℕ, ◌-◌, eqb, leb, get_or}
use Rattle.definitions.specs.Lists.{within}

-- Empty in a graph, the wildcard in a rule
abbrev pub kind_empty : ℕ
kind_empty = 0

abbrev pub kind_const : ℕ
kind_const = 1

abbrev pub kind_variable : ℕ
kind_variable = 2

abbrev pub kind_call : ℕ
kind_call = 3

abbrev pub kind_tuple : ℕ
kind_tuple = 4

abbrev pub kind_proj : ℕ
kind_proj = 5

-- operators count from 1 to this
abbrev pub operator_count : ℕ
operator_count = 14

-- how many inputs and attributes an operator has
pub record Counts : Type 0 where
  pub inputs : ℕ
  pub attributes : ℕ

abbrev counts : ℕ → ℕ → Counts
counts n m = record { inputs = n; attributes = m }

-- add, mul, sub, conv2d, bias_add, batch_norm, relu, concat, split, gain, vivid, mean, reshape, cast: operators 1 to 14
unfoldable pub operators : List Counts
operators =
    counts 2 0 ∷ counts 2 0 ∷ counts 2 0 ∷ counts 2 4 ∷ counts 2 1 ∷ counts 5 2 ∷ counts 1 0
    ∷ counts 1 1 ∷ counts 1 2 ∷ counts 1 3 ∷ counts 1 1 ∷ counts 1 1 ∷ counts 1 4 ∷ counts 1 1 ∷ []

-- operator 1 is the first of the table
unfoldable pub counts_of : ℕ → Counts
counts_of operator = get_or operators (operator - 1) (counts 0 0)

-- the least and the greatest input count of a kind other than Call, and its attribute count
pub record Row : Type 0 where
  pub least : ℕ
  pub greatest : ℕ
  pub attributes : ℕ

abbrev row : ℕ → ℕ → ℕ → Row
row least greatest m = record { least = least; greatest = greatest; attributes = m }

-- Empty, Const, Variable, (Call has its own table), Tuple, Proj: kinds 0 to 5
unfoldable pub kinds : List Row
kinds = row 0 0 0 ∷ row 0 0 1 ∷ row 0 0 5 ∷ row 0 0 0 ∷ row 1 6 0 ∷ row 1 1 1 ∷ []

unfoldable pub row_of : ℕ → Row
row_of kind = get_or kinds kind (row 0 0 0)

-- a record's kind, operator, input count and attribute count agree with the tables
unfoldable pub shape_fits : ℕ → ℕ → ℕ → ℕ → Bool
shape_fits kind operator n m =
    cond (eqb kind kind_call)
    (within 1 operator operator_count && eqb n (counts_of operator).inputs && eqb m (counts_of operator).attributes)
    (leb kind kind_proj && eqb operator 0 && within (row_of kind).least n (row_of kind).greatest
    && eqb m (row_of kind).attributes)
