-- A piece of text, laid into a lent text from a place on.
-- Assumes nothing.
use Rattle.std.specs.Prelude.{◌≡◌, List, ◌++◌, ℕ, ◌+◌, ◌≤◌, length, take, drop}

-- no listing is longer
abbrev pub text_limit : ℕ
text_limit = 65536

-- the text with the piece in it from `at` on; what stands before it and behind it stays
unfoldable pub laid : ℕ → List ℕ → List ℕ → List ℕ
laid at piece text = take at text ++ piece ++ drop (at + length piece) text

-- What laying a piece gives: the place behind it, always; and where it fits, the text with the piece in it. So where nothing fits, as in an
-- empty text, its length alone is told.
pub record Laid (at : ℕ) (piece before after : List ℕ) (end : ℕ) : Type 0 where
  pub next : end ≡ at + length piece
  pub held : at + length piece ≤ length before → after ≡ laid at piece before
