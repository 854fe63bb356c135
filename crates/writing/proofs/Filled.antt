-- A block that is filled from its start: a few elements, and then parts that are lent on one after the other and come back.
-- Assumes nothing.
use mathlib.Core.Path.{◌≡◌, ◌∙◌, sym}
use mathlib.Core.List.{List, ◌++◌}
use Prim.Native.Nat.{ℕ, ◌+◌, ◌-◌, ◌≤◌}
use native.Mathlib.Omega.{arith}
use lib.ListN.{length, take}
use lib.Seq.{take_all, sets, length-sets}
use Rattle.laws.proofs.Parts.{put_part, length_part, part_more}
use Rattle.writing.proofs.Written.{take_sets}

-- Elements from the first on, and three parts that are lent on one after the other, fill a list of n elements.
pub filled_up : (l head xs ys zs : List ℕ) (a b c n : ℕ) → a ≤ b → b ≤ c → c ≤ n → length l ≡ n
    → length head ≡ a → length xs ≡ b - a → length ys ≡ c - b → length zs ≡ n - c
    → put_part c n (put_part b c (put_part a b (sets l 0 head) xs) ys) zs ≡ head ++ xs ++ ys ++ zs
filled_up l head xs ys zs a b c n ab bc cn size head_size xs_size ys_size zs_size =
    let none : 0 + length head ≡ a = omega arith in
    let h : length (sets l 0 head) ≡ n = length-sets l 0 head ∙ size in
    let first : take a (sets l 0 head) ≡ head = rw none at (take_sets head l 0 (omega arith)) in
    let second = put_part a b (sets l 0 head) xs in
    let i : length second ≡ n = length_part a b (sets l 0 head) xs ab xs_size (omega arith) ∙ h in
    let third = put_part b c second ys in
    let j : length third ≡ n = length_part b c second ys bc ys_size (omega arith) ∙ i in
    let k : length (put_part c n third zs) ≡ n = length_part c n third zs cn zs_size (omega arith) ∙ j in
    sym (take_all n (put_part c n third zs) (omega arith))
    ∙ part_more c n third zs cn zs_size (head ++ xs ++ ys) (omega arith)
    (part_more b c second ys bc ys_size (head ++ xs) (omega arith)
    (part_more a b (sets l 0 head) xs ab xs_size head (omega arith) first))
