-- Places of one size in a block: a list takes the first of them, and the others hold what stands for none. A block holds the list
-- there exactly where it holds the places' bytes.
-- Assumes nothing.
use mathlib.Core.Path.{◌≡◌, sym, ap, ◌∙◌}
use mathlib.Core.Bool.{true, false}
use mathlib.Core.List.{List}
use mathlib.Core.Logic.{⊎_elim}
use Prim.Native.Nat.{ℕ, suc, ◌+◌, ◌-◌, ◌*◌, ◌<◌, ◌≤◌}
use native.Mathlib.Nat.{add_assoc, le_of_suc-le-suc, mul-le-mul_left, lt_of_mul-lt-mul_left}
use native.Mathlib.Omega.{arith}
use borrow.Author.Tests.{ltb-true, ltb-false}
use lib.Dec.{ltb}
use lib.ListN.{length, get_or, get_or-eq_default}
use Rattle.definitions.specs.Lists.{padded, concat_map}
use Rattle.definitions.specs.Fields.{byte_at, filled}
use Rattle.laws.proofs.Lists.{decided}
use Rattle.laws.proofs.Padded.{length-padded, padded-at}
use Rattle.laws.proofs.Pieces.{length_pieces}
use Rattle.encoding.proofs.Pieces.{in_pieces, piece_at}
use Rattle.encoding.proofs.Numbers.{filled_every, filled_at}

-- byte i of place k is one of the bytes
inside_pieces : (size n k i : ℕ) → k < n → i < size → size * k + i < size * n
inside_pieces size n k i l m = omega (arith, mul-le-mul_left size l)

-- n places of `size` bytes; `bytes` gives a number's, and d stands for none
module _ (bytes : ℕ → List ℕ) (size n d : ℕ) (xs : List ℕ) (sized : (x : ℕ) → length (bytes x) ≡ size) (few : length xs ≤ n) where
  pub length-places : length (concat_map bytes (padded n d xs)) ≡ size * n
  length-places =
      length_pieces bytes size d (padded n d xs) (λ k l. sized (get_or (padded n d xs) k d))
      ∙ ap (λ (m : ℕ). size * m) (length-padded d n xs few)

  -- byte i of place k
  pub place_at : (k i : ℕ) → k < n → i < size
      → get_or (concat_map bytes (padded n d xs)) (size * k + i) 0 ≡ get_or (bytes (get_or xs k d)) i 0
  place_at k i l m =
      piece_at bytes size d (padded n d xs) (λ j h. sized (get_or (padded n d xs) j d)) k i 0
      (omega (arith, length-padded d n xs few)) m
      ∙ ap (λ (x : ℕ). get_or (bytes x) i 0) (padded-at d n xs k)

  module _ (block : List ℕ) (base : ℕ) where
    -- where the block holds the places, a place holds its element
    pub place-held : ((i : ℕ) → i < size * n → byte_at block (base + i) ≡ get_or (concat_map bytes (padded n d xs)) i 0)
        → (k : ℕ) → k < n → (i : ℕ) → i < size → byte_at block (base + size * k + i) ≡ get_or (bytes (get_or xs k d)) i 0
    place-held held k l i m =
        rw add_assoc (held (size * k + i) (inside_pieces size n k i l m)) ∙ place_at k i l m

    -- the places end at `to`, and each byte of what stands for none is `value`
    module _ (to value : ℕ) (pos : 0 < size) (unused : (i : ℕ) → i < size → get_or (bytes d) i 0 ≡ value)
        (ends : to ≡ base + size * n) where
      -- a byte past the list
      past_list : (i : ℕ) → i < size * n → size * length xs ≤ i → get_or (concat_map bytes (padded n d xs)) i 0 ≡ value
      past_list =
          in_pieces (λ i. size * length xs ≤ i → get_or (concat_map bytes (padded n d xs)) i 0 ≡ value) size n pos
          (λ k i l m past.
          let after : length xs < suc k = lt_of_mul-lt-mul_left size (omega arith) in
          place_at k i l m
          ∙ ap (λ (x : ℕ). get_or (bytes x) i 0) (get_or-eq_default xs d (le_of_suc-le-suc after)) ∙ unused i m)

      -- and the others hold what stands for none
      pub others-filled : ((i : ℕ) → i < size * n → byte_at block (base + i) ≡ get_or (concat_map bytes (padded n d xs)) i 0)
          → filled block (base + size * length xs) to value ≡ true
      others-filled held =
          filled_every block (base + size * length xs) to value
          (λ i l.
          rw add_assoc (held (size * length xs + i) (omega arith)) ∙ past_list (size * length xs + i) (omega arith) (omega arith))

      -- the other way round: the elements' bytes and what stands for none are the places' bytes
      pub places-held : ((k : ℕ) → k < length xs → (i : ℕ) → i < size
          → get_or (bytes (get_or xs k d)) i 0 ≡ byte_at block (base + size * k + i))
          → filled block (base + size * length xs) to value ≡ true
          → (i : ℕ) → i < size * n → get_or (concat_map bytes (padded n d xs)) i 0 ≡ byte_at block (base + i)
      places-held same rest =
          in_pieces (λ i. get_or (concat_map bytes (padded n d xs)) i 0 ≡ byte_at block (base + i)) size n pos
          (λ k i l m.
          ⊎_elim (λ (t : ltb k (length xs) ≡ true).
          place_at k i l m ∙ rw add_assoc at (same k (ltb-true k (length xs) t) i m))
          (λ (t : ltb k (length xs) ≡ false).
          let past : size * length xs ≤ size * k = mul-le-mul_left size (ltb-false k (length xs) t) in
          let inside = inside_pieces size n k i l m in
          let e : base + size * length xs + (size * k + i - size * length xs) ≡ base + (size * k + i) = omega arith in
          past_list (size * k + i) inside (omega arith)
          ∙ sym (rw e at (filled_at block (base + size * length xs) to value rest (size * k + i - size * length xs) (omega arith))))
          (decided (ltb k (length xs))))
