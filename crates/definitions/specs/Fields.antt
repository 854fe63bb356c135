-- Fields of a block: little-endian, signed numbers in two's complement. A block is its list of bytes.
-- Assumes nothing.
use Rattle.std.specs.Prelude.{Bool, cond, ◌&&◌, List, [], ◌∷◌, ℕ, ◌+◌, ◌-◌, ◌*◌, ◌/◌, ◌%◌, ◌^◌, ◌<◌, eqb, ltb, ℤ, pos, negsuc, get_or}
use Rattle.definitions.specs.Lists.{all_below}

abbrev pub byte_at : List ℕ → ℕ → ℕ
byte_at block at = get_or block at 0

-- what the C side lends: every element of the list is a byte
abbrev pub Bytes : List ℕ → Type 0
Bytes block = (at : ℕ) → byte_at block at < 256

unfoldable pub u16_at : List ℕ → ℕ → ℕ
u16_at block at = byte_at block at + 256 * byte_at block (at + 1)

unfoldable pub u32_at : List ℕ → ℕ → ℕ
u32_at block at = u16_at block at + 65536 * u16_at block (at + 2)

-- The bytes from `from` up to `to` all hold `value`. Zero bytes are said so, and so are unused places: a 16-bit place holds
-- 65535, and an 8-bit place 255, where its bytes are 255; a 32-bit place holds 0 where its bytes are 0.
unfoldable pub filled : List ℕ → ℕ → ℕ → ℕ → Bool
filled block from to value = all_below (λ i. eqb (byte_at block (from + i)) value) (to - from)

-- `LG`, the letter of the block's sort, and a zero byte
unfoldable pub mark_fits : List ℕ → ℕ → Bool
mark_fits block letter =
    eqb (byte_at block 0) 76 && eqb (byte_at block 1) 71 && eqb (byte_at block 2) letter && eqb (byte_at block 3) 0

-- the number for which a 32-bit word stands, and the word for a number that fits
unfoldable pub signed : ℕ → ℤ
signed word = cond (ltb word (2 ^ 31)) (pos word) (negsuc (2 ^ 32 - 1 - word))

unfoldable pub word_of : ℤ → ℕ
word_of (pos n) = n
word_of (negsuc n) = 2 ^ 32 - 1 - n

unfoldable pub u16_bytes : ℕ → List ℕ
u16_bytes n = n % 256 ∷ n / 256 % 256 ∷ []

unfoldable pub u32_bytes : ℕ → List ℕ
u32_bytes n = n % 256 ∷ n / 256 % 256 ∷ n / 65536 % 256 ∷ n / 16777216 % 256 ∷ []
