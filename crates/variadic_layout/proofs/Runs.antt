-- Bytes that are written one after the other from a place on.
-- Assumes nothing.
use mathlib.Core.Path.{◌≡◌, refl, sym, ap, ◌∙◌}
use mathlib.Core.Bool.{true, false}
use mathlib.Core.List.{List}
use mathlib.Core.Logic.{⊎_elim}
use Prim.Native.Nat.{ℕ, ◌+◌, ◌-◌, ◌<◌, ◌≤◌}
use native.Mathlib.Omega.{arith}
use borrow.Author.Tests.{eqb-true, eqb-false}
use lib.Dec.{eqb}
use native.Mathlib.Nat.{zero-add}
use lib.ListN.{length, get_or, drop, set, length-set, get_or-append}
use lib.Seq.{get_or-set_same, get_or-set_other, get_or-drop}
use Rattle.definitions.specs.Fields.{byte_at}
use Rattle.laws.proofs.Lists.{decided}
use Rattle.laws.proofs.Parts.{put_part, length_part, part_rest}
use Rattle.variadic_layout.specs.Written.{Written}

module _ (at : ℕ) (byte : ℕ → ℕ) (before : List ℕ) where
  pub written_none : Written at 0 byte before before
  written_none = record { size = refl; inside = λ m l. absurd (omega arith); below = λ x l. refl; behind = λ x l. refl }

  pub written_more : (m v : ℕ) (after : List ℕ) → Written at m byte before after → at + m < length before → v ≡ byte m
      → Written at (m + 1) byte before (set after (at + m) v)
  written_more m v after w l e = record {
    size = simp length-set w.size;
    inside = λ k b. ⊎_elim
        (λ (t : eqb k m ≡ true).
        let same : k ≡ m = eqb-true k m t in
        ap (λ (i : ℕ). byte_at (set after (at + m) v) (at + i)) same
        ∙ get_or-set_same after (at + m) v 0 (omega (arith, w.size)) ∙ e ∙ ap byte (sym same))
        (λ (t : eqb k m ≡ false).
        let other : k ≡ m → ⊥ = eqb-false k m t in
        get_or-set_other after (at + m) (at + k) v 0 (λ f. other (omega arith)) ∙ w.inside k (number k other b))
        (decided (eqb k m));
    below = λ x b. get_or-set_other after (at + m) x v 0 (λ f. omega arith) ∙ w.below x b;
    behind = λ x b. get_or-set_other after (at + m) x v 0 (λ f. omega arith) ∙ w.behind x (omega arith);
  } where
    number : (k : ℕ) → (k ≡ m → ⊥) → k < m + 1 → k < m
    number k other b = omega arith

pub written_same : {at count : ℕ} {byte other : ℕ → ℕ} {before after : List ℕ} → Written at count byte before after
    → ((m : ℕ) → m < count → byte m ≡ other m) → Written at count other before after
written_same w e = record { size = w.size; inside = λ m l. w.inside m l ∙ e m l; below = w.below; behind = w.behind }

-- a part that is lent on from the start
module _ (bytes before : List ℕ) (count : ℕ) (long : length bytes ≡ count) (fits : count ≤ length before) where
  start-behind : (x : ℕ) → count ≤ x → byte_at (put_part 0 count before bytes) x ≡ byte_at before x
  start-behind x l =
      let after = put_part 0 count before bytes in
      let place : count + (x - count) ≡ x = omega arith in
      ap (byte_at after) (sym place) ∙ sym (get_or-drop count after (x - count) 0)
      ∙ ap (λ (xs : List ℕ). get_or xs (x - count) 0) (part_rest 0 count before bytes (omega arith) (omega arith) (omega arith))
      ∙ get_or-drop count before (x - count) 0 ∙ ap (byte_at before) place

  pub written_start : Written 0 count (λ b. get_or bytes b 0) before (put_part 0 count before bytes)
  written_start = record {
    size = length_part 0 count before bytes (omega arith) (omega arith) fits;
    inside = λ m l. ap (byte_at (put_part 0 count before bytes)) (zero-add m) ∙ get_or-append bytes (drop (count - 0) before) 0 m (omega arith);
    below = λ x l. absurd (omega arith);
    behind = λ x l. start-behind x (omega arith);
  }
