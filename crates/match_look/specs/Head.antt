-- What a record says of itself in four numbers, and the word in which code holds them.
-- Assumes nothing.
use Rattle.std.specs.Prelude.{◌≡◌, ℕ, ◌/◌, ◌%◌, length}
use Rattle.definitions.specs.Graph.{Slot}
use Rattle.definitions.specs.Rule.{Pattern}

pub record Head : Type 0 where
  pub kind : ℕ
  pub operator : ℕ
  pub inputs : ℕ
  pub attributes : ℕ

abbrev pub head : ℕ → ℕ → ℕ → ℕ → Head
head k o n m = record { kind = k; operator = o; inputs = n; attributes = m }

-- kind, operator, and how many inputs and attributes there are
unfoldable pub slot_head : Slot → Head
slot_head s = head s.kind s.operator (length s.inputs) (length s.attributes)

unfoldable pub pattern_head : Pattern ℕ → Head
pattern_head p = head p.kind p.operator (length p.inputs) (length p.attributes)

-- the four bytes of a word, the lowest first
unfoldable pub head_in : ℕ → Head
head_in word = head (word % 256) (word / 256 % 256) (word / 65536 % 256) (word / 16777216 % 256)

-- the four numbers agree
pub record SameHead (p s : Head) : Type 0 where
  pub kind : s.kind ≡ p.kind
  pub operator : s.operator ≡ p.operator
  pub inputs : s.inputs ≡ p.inputs
  pub attributes : s.attributes ≡ p.attributes
