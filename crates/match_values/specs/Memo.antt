-- Results of nodes that are known already, by the nodes' numbers.
-- Assumes nothing.
use Rattle.std.specs.Prelude.{◌≡◌, cond, List, ℕ, ◌≤◌, eqb, ℤ, pos, negsuc, length, get_or}
use Rattle.std.proofs.Math.Option as math
use Rattle.std.specs.declared.option.Option.{Option}
use Rattle.std.specs.declared.option.Option.TheVariants.{None, Some}
use Rattle.rule_fields.specs.Fixed.{nodes_in}
use Rattle.numbers.specs.Value.{value_of}
use Rattle.match_leaves.specs.Results.{node_result}

-- A result as two numbers, for a memo that holds nothing else. Its state is 1 where there is none, 2 for a number from 0 up, 3 for a negative one.
abbrev pub state_of : Option ℤ → ℕ
state_of None = 1
state_of (Some (pos n)) = 2
state_of (Some (negsuc n)) = 3

abbrev pub magnitude_of : Option ℤ → ℕ
magnitude_of None = 0
magnitude_of (Some (pos n)) = n
magnitude_of (Some (negsuc n)) = n

-- the result that a state other than 0 and a magnitude stand for
unfoldable pub remembered : ℕ → ℕ → math.Option ℤ
remembered state magnitude = cond (eqb state 1) math.none (cond (eqb state 2) (math.some (pos magnitude)) (math.some (negsuc magnitude)))

-- every node has its place, and what is known is what the node gives
pub record Memo (graph rule images : List ℕ) (memo : List (Option (Option ℤ))) : Type 0 where
  pub size : nodes_in rule ≤ length memo
  pub known : (k : ℕ) (value : Option ℤ) → get_or memo k None ≡ Some value → value_of value ≡ node_result graph rule images k
