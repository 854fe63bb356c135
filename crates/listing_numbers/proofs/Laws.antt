-- Laws that the loops over digits cite.
-- Assumes nothing.
use mathlib.Core.Path.{◌≡◌, refl, sym, ap, ◌∙◌}
use mathlib.Core.Bool.{true, false}
use mathlib.Core.List.{List, [], ◌∷◌, ◌++◌, append-nil}
use mathlib.Core.Logic.{⊎_elim}
use Prim.Native.Nat.{ℕ, zero, suc, ◌+◌, ◌-◌, ◌/◌, ◌%◌, ◌^◌, ◌<◌, ◌≤◌}
use native.Mathlib.Omega.{arith}
use borrow.Author.Tests.{ltb-true, ltb-false}
use lib.Dec.{ltb}
use lib.ListN.{length, take, drop, set, length-append}
use lib.Seq.{set_split, drop_at, length-take-le, append_snoc, drop-length}
use Rattle.definitions.specs.Lists.{within}
use Rattle.laws.proofs.Lists.{decided}
use Rattle.definitions.specs.Numerals.{digit, digits, decimal}
use Rattle.listing.specs.Typing.{reaches}
use Rattle.listing.proofs.Digits.{one_digit, last_digit, decimal_last}

-- ---- the length of a number in decimal

pub length_digits : (places n : ℕ) → length (digits places n) ≤ places
unfolding digits
length_digits zero n = omega arith
length_digits (suc places) n =
    ⊎_elim (λ (t : ltb n 10 ≡ true). rw (one_digit places n (ltb-true n 10 t)) (omega arith))
    (λ (f : ltb n 10 ≡ false).
    rw (last_digit places n (ltb-false n 10 f))
    (omega (arith, length-append (digits places (n / 10)) (digit (n % 10) ∷ []), length_digits places (n / 10))))
    (decided (ltb n 10))

pub one_long : (n : ℕ) → n < 10 → length (decimal n) ≡ 1
one_long n small = ap length (one_digit 9 n small)

pub one_longer : (n : ℕ) → 10 ≤ n → n < 10 ^ 10 → length (decimal n) ≡ length (decimal (n / 10)) + 1
one_longer n large small =
    ap length (decimal_last n large small) ∙ length-append (decimal (n / 10)) (digit (n % 10) ∷ [])

pub some_digit : (n : ℕ) → n < 10 ^ 10 → 1 ≤ length (decimal n)
some_digit n small =
    ⊎_elim (λ (t : ltb n 10 ≡ true). omega (arith, one_long n (ltb-true n 10 t)))
    (λ (f : ltb n 10 ≡ false). omega (arith, one_longer n (ltb-false n 10 f) small))
    (decided (ltb n 10))

-- the loop that counts digits: `count` are counted, and `rest` is what is left
pub record CountedSo (n count rest : ℕ) : Type 0 where
  pub small : rest < 10 ^ 10
  pub ended : rest ≡ 0 → count ≡ length (decimal n)
  pub going : 0 < rest → count + length (decimal rest) ≡ length (decimal n)

pub count-first : (n : ℕ) → n < 10 ^ 10 → CountedSo n 1 (n / 10)
count-first n small = record {
  small = omega arith;
  ended = λ e. sym (one_long n (omega arith));
  going = λ l. omega (arith, one_longer n (omega arith) small);
}

pub count_more : (n count rest : ℕ) → 0 < rest → CountedSo n count rest → CountedSo n (count + 1) (rest / 10)
count_more n count rest l h = record {
  small = omega (arith, h.small);
  ended = λ e. omega (arith, h.going l, one_long rest (omega arith));
  going = λ m. omega (arith, h.going l, one_longer rest (omega arith) h.small);
}

pub count_few : (n count rest : ℕ) → 0 < rest → CountedSo n count rest → count < 10
count_few n count rest l h =
    ⊎_elim (λ (t : ltb rest 10 ≡ true). omega (arith, h.going l, length_digits 10 n, one_long rest (ltb-true rest 10 t)))
    (λ (f : ltb rest 10 ≡ false). omega (arith, h.going l, length_digits 10 n, one_longer rest (ltb-false rest 10 f) h.small))
    (decided (ltb rest 10))

-- ---- the loop that writes digits from the last one on: those from `i` on stand in the part, and `rest` has the others

pub record WrittenFrom (n rest i : ℕ) (part : List ℕ) : Type 0 where
  pub small : rest < 10 ^ 10
  pub inside : i ≤ length part
  pub ended : i ≡ 0 → part ≡ decimal n
  pub going : 0 < i → (decimal n ≡ decimal rest ++ drop i part) × (length (decimal rest) ≡ i)

set_drop : (part : List ℕ) (i b : ℕ) → i < length part → drop i (set part i b) ≡ b ∷ drop (suc i) part
set_drop part i b l =
    ap (drop i) (set_split part i b l) ∙ drop_at (take i part) (b ∷ drop (suc i) part) i (length-take-le i part (omega arith))

pub write_more : (n rest i : ℕ) (part : List ℕ) (b : ℕ) → b ≡ 48 + rest % 10 → length (set part i b) ≡ length part
    → WrittenFrom n rest (suc i) part → WrittenFrom n (rest / 10) i (set part i b)
write_more n rest i part b e long h =
    let (whole, count) = h.going (omega arith) in
    let room : i < length part = omega (arith, h.inside) in
    let held : drop i (set part i b) ≡ b ∷ drop (suc i) part = set_drop part i b room in
    ⊎_elim (λ (t : ltb rest 10 ≡ true).
    let few = ltb-true rest 10 t in
    let last : i ≡ 0 = omega (arith, one_long rest few) in
    let same_byte : b ≡ digit rest = omega arith in
    record {
      small = omega (arith, h.small);
      inside = omega arith;
      ended = λ z.
          ap (λ (j : ℕ). drop j (set part i b)) (sym last) ∙ held
          ∙ ap (λ (x : ℕ). x ∷ drop (suc i) part) same_byte
          ∙ sym (whole ∙ ap (λ (xs : List ℕ). xs ++ drop (suc i) part) (one_digit 9 rest few));
      going = λ l. absurd (omega arith);
    })
    (λ (f : ltb rest 10 ≡ false).
    let large = ltb-false rest 10 f in
    let shorter = one_longer rest large h.small in
    record {
      small = omega (arith, h.small);
      inside = omega arith;
      ended = λ z. absurd (omega (arith, some_digit (rest / 10) (omega (arith, h.small))));
      going = λ l. (
        whole ∙ ap (λ (xs : List ℕ). xs ++ drop (suc i) part) (decimal_last rest large h.small)
            ∙ append_snoc (decimal (rest / 10)) (digit (rest % 10)) (drop (suc i) part)
            ∙ ap (λ (x : ℕ). decimal (rest / 10) ++ x ∷ drop (suc i) part) (sym e)
            ∙ ap (λ (xs : List ℕ). decimal (rest / 10) ++ xs) (sym held),
        omega arith,
      );
    })
    (decided (ltb rest 10))

-- ---- the loop that drops the bounds' last digits

pub reaches_here : (places d low high : ℕ) → 0 < places → within low d high ≡ true → reaches places d low high ≡ true
unfolding reaches
reaches_here zero d low high l t = absurd (omega arith)
reaches_here (suc places) d low high l t = rw t

pub reaches_less : (places d low high : ℕ) → 0 < places → within low d high ≡ false
    → reaches places d low high ≡ reaches (places - 1) d (low / 10) (high / 10)
unfolding reaches
reaches_less zero d low high l t = absurd (omega arith)
reaches_less (suc places) d low high l t =
    let e : suc places - 1 ≡ places = omega arith in
    rw (t, e)

pub reaches_none : (places d low high : ℕ) → places ≡ 0 → reaches places d low high ≡ false
unfolding reaches
reaches_none zero d low high e = refl
reaches_none (suc places) d low high e = absurd (omega arith)

-- before the loop that writes digits nothing is written
pub write_first : (n : ℕ) (part : List ℕ) → n < 10 ^ 10 → length part ≡ length (decimal n) → WrittenFrom n n (length part) part
write_first n part small long = record {
  small = small;
  inside = omega arith;
  ended = λ z. absurd (omega (arith, some_digit n small));
  going = λ l. (sym (ap (λ (xs : List ℕ). decimal n ++ xs) (drop-length part) ∙ append-nil (decimal n)), sym long);
}
