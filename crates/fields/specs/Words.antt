-- 64-bit words.
-- Assumes nothing.
use Rattle.std.specs.Prelude.{List, ℕ, zero, suc, ◌+◌, ◌*◌}
use Rattle.definitions.specs.Fields.{byte_at}

-- the bytes of a word
abbrev pub word_bytes : ℕ
word_bytes = 8

-- the number with n digits to the base 256, the lowest first
unfoldable pub number : ℕ → (ℕ → ℕ) → ℕ
number zero digit = 0
number (suc n) digit = digit 0 + 256 * number n (λ i. digit (suc i))

-- the 64-bit word at `at`: its digits are the bytes
unfoldable pub u64_at : List ℕ → ℕ → ℕ
u64_at block at = number word_bytes (λ i. byte_at block (at + i))
