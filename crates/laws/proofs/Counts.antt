-- Arrays of counts that grow place by place, and how large a count can be.
-- Assumes nothing.
use mathlib.Core.Path.{◌≡◌, refl, sym, ap, ◌∙◌}
use mathlib.Core.Bool.{true, false, cond}
use mathlib.Core.List.{List}
use mathlib.Core.Logic.{⊎_elim}
use Prim.Native.Nat.{ℕ, ◌+◌, ◌*◌, ◌<◌, ◌≤◌}
use native.Mathlib.Omega.{arith}
use borrow.Author.Tests.{eqb-true, eqb-false, eq-eqb}
use lib.Dec.{eqb}
use lib.ListN.{length, get_or, drop, set, replicate, length-set, length-replicate, drop_of_length-le}
use lib.Seq.{get_or-set_same, get_or-set_other}
use Rattle.definitions.specs.Lists.{total, count}
use Rattle.laws.specs.Counted.{Counted}
use Rattle.laws.proofs.Lists.{decided}
use Rattle.laws.proofs.Builds.{get_or_none}
use Rattle.laws.proofs.Walks.{rest}
use Rattle.laws.proofs.Sums.{count-length, total-most}

pub counted_none : (n : ℕ) {f : ℕ → ℕ} → ((v : ℕ) → f v ≡ 0) → Counted n f (replicate n 0)
counted_none n h = record { places = length-replicate n 0; at = λ v. get_or_none n v 0 ∙ sym (h v) }

pub counted_same : {n : ℕ} {f g : ℕ → ℕ} {xs : List ℕ} → ((v : ℕ) → f v ≡ g v) → Counted n f xs → Counted n g xs
counted_same h c = record { places = c.places; at = λ v. c.at v ∙ h v }

-- place u is given a new value
pub counted_put : {n : ℕ} {f g : ℕ → ℕ} {xs : List ℕ} (u x : ℕ) → u < n → x ≡ g u → ((v : ℕ) → (v ≡ u → ⊥) → f v ≡ g v)
    → Counted n f xs → Counted n g (set xs u x)
counted_put {g = g} {xs = xs} u x l e h c = record {
  places = simp length-set c.places;
  at = λ v. ⊎_elim
      (λ (t : eqb v u ≡ true). rw (eqb-true v u t) (get_or-set_same xs u x 0 (omega (arith, c.places)) ∙ e))
      (λ (t : eqb v u ≡ false). get_or-set_other xs u v x 0 (eqb-false v u t) ∙ c.at v ∙ h v (eqb-false v u t))
      (decided (eqb v u));
}

-- ---- a loop that counts the elements of a list: what is counted and what is left make the whole

pub record Counting (n : ℕ) (whole : ℕ → ℕ) (left counts : List ℕ) : Type 0 where
  pub places : length counts ≡ n
  pub at : (v : ℕ) → get_or counts v 0 + count v left ≡ whole v

-- an element, and those after it
count_next : (xs : List ℕ) (i d u : ℕ) → i < length xs → u ≡ get_or xs i d → (v : ℕ)
    → count v (drop i xs) ≡ cond (eqb v u) 1 0 + count v (drop (i + 1) xs)
count_next xs i d u l e v = rw e (ap (count v) (rest xs i d l) ∙ unfold count in refl)

module _ {n : ℕ} {whole : ℕ → ℕ} {counts : List ℕ} (xs : List ℕ) where
  -- the loop starts on top of counts that are there
  pub counting_starts : {f : ℕ → ℕ} → ((v : ℕ) → f v + count v xs ≡ whole v) → Counted n f counts → Counting n whole xs counts
  counting_starts h c = record { places = c.places; at = λ v. ap (λ (k : ℕ). k + count v xs) (c.at v) ∙ h v }

  module _ (i : ℕ) where
    pub counting_ends : length xs ≤ i → Counting n whole (drop i xs) counts → Counted n whole counts
    unfolding count
    counting_ends l c =
        let none = drop_of_length-le xs l in
        record { places = c.places; at = λ v. omega (arith, rw none at (c.at v)) }

    module _ (d u : ℕ) (l : i < length xs) (e : u ≡ get_or xs i d) where
      -- the present element is counted
      pub counting_turn : u < n → Counting n whole (drop i xs) counts
          → Counting n whole (drop (i + 1) xs) (set counts u (get_or counts u 0 + 1))
      counting_turn inside c = record {
        places = simp length-set c.places;
        at = λ v. ⊎_elim
            (λ (t : eqb v u ≡ true).
            let more : count v (drop i xs) ≡ 1 + count v (drop (i + 1) xs) = rw t at (count_next xs i d u l e v) in
            let put : get_or (set counts u (get_or counts u 0 + 1)) v 0 ≡ get_or counts v 0 + 1 =
            rw (eqb-true v u t) (get_or-set_same counts u (get_or counts u 0 + 1) 0 (omega (arith, c.places))) in
            omega (arith, more, put, c.at v))
            (λ (t : eqb v u ≡ false).
            let same : count v (drop i xs) ≡ 0 + count v (drop (i + 1) xs) = rw t at (count_next xs i d u l e v) in
            omega (arith, same, get_or-set_other counts u v (get_or counts u 0 + 1) 0 (eqb-false v u t), c.at v))
            (decided (eqb v u));
      }

      -- and before that its count is not yet whole, so the array has room for it
      pub counting_room : Counting n whole (drop i xs) counts → get_or counts u 0 < whole u
      counting_room c =
          let more : count u (drop i xs) ≡ 1 + count u (drop (i + 1) xs) = rw (eq-eqb u u refl) at (count_next xs i d u l e u) in
          omega (arith, more, c.at u)

-- ---- how large counts can be: a vertex has at most 6 input places

pub reads-most : (inputs : ℕ → List ℕ) (k v : ℕ) → ((w : ℕ) → w < k → length (inputs w) ≤ 6)
    → total (λ w. count v (inputs w)) k ≤ 6 * k
reads-most inputs k v h = total-most (λ w. count v (inputs w)) k 6 (λ w l. omega (arith, count-length v (inputs w), h w l))
