-- What the library's searches over the places of a list give, where each place is compared with those after it.
-- Assumes nothing.
use mathlib.Core.Path.{◌≡◌, refl, sym, ap, ◌∙◌}
use mathlib.Core.Bool.{Bool, true, false, not, ◌&&◌, ◌||◌}
use mathlib.Core.List.{List, [], ◌∷◌}
use Prim.Native.Nat.{ℕ, suc, ◌+◌, ◌-◌, ◌<◌}
use native.Mathlib.Numerals.{add-one}
use native.Mathlib.Omega.{arith}
use lib.Dec.{eqb}
use lib.ListN.{length, get_or, drop}
use denote.Param.Members.{Mut}
use Rattle.std.specs.declared.option.Option.{Option}
use Rattle.std.specs.declared.ops.Range.{Range}
use Rattle.std.specs.Fn.{Called}
use Rattle.std.specs.Iterator.{YieldsThen}
use Rattle.std.specs.List.{FoldsTo, list_all, list_any, range_with_len}
use Rattle.std.specs.Option.{MatchOption}
use Rattle.std.proofs.Common.{length-drop}
use Rattle.std.proofs.iter.Yields.{nat_range_steps}
use Rattle.std.proofs.lemmas.Iterator.{YieldsList-from_range}
use Rattle.std.proofs.lemmas.Iterator.Search.{all_from_yields_List, any_from_yields_List}
use Rattle.std.proofs.lemmas.List.{get_or-drop}
use Rattle.definitions.specs.Lists.{member, distinct}

-- the places of ys are a, a + 1, .. in the whole list
member_in : (v d : ℕ) (ys : List ℕ) (a : ℕ) (p : ℕ → Bool) → ((k : ℕ) → k < length ys → p (a + k) ≡ eqb v (get_or ys k d))
    → list_any p (range_with_len a (length ys)) ≡ member v ys
unfolding member
member_in v d [] a p h = refl
member_in v d (y ∷ ys) a p h =
    let first : p a ≡ eqb v y = (λ i. p (at_first a i)) ∙ h 0 (omega arith) in
    let others = member_in v d ys (a + 1) p (λ k l. (λ i. p (at_next a k i)) ∙ h (suc k) (omega arith)) in
    ap (λ b. b || list_any p (range_with_len (a + 1) (length ys))) first ∙ ap (λ b. eqb v y || b) others
  where
    at_first : (n : ℕ) → n ≡ n + 0
    at_first n = omega arith

    at_next : (n k : ℕ) → n + 1 + k ≡ n + suc k
    at_next n k = omega arith

distinct_in : (d : ℕ) (ys : List ℕ) (a : ℕ) (p : ℕ → Bool) → ((k : ℕ) → k < length ys → p (a + k) ≡ not (member (get_or ys k d) (drop (suc k) ys)))
    → list_all p (range_with_len a (length ys)) ≡ distinct ys
unfolding distinct
distinct_in d [] a p h = refl
distinct_in d (y ∷ ys) a p h =
    let first : p a ≡ not (member y ys) = (λ i. p (at_first a i)) ∙ h 0 (omega arith) in
    let others = distinct_in d ys (a + 1) p (λ k l. (λ i. p (at_next a k i)) ∙ h (suc k) (omega arith)) in
    ap (λ b. b && list_all p (range_with_len (a + 1) (length ys))) first ∙ ap (λ b. not (member y ys) && b) others
  where
    at_first : (n : ℕ) → n ≡ n + 0
    at_first n = omega arith

    at_next : (n k : ℕ) → n + 1 + k ≡ n + suc k
    at_next n k = omega arith

module _ {F : Type 0} {g : Mut F (ℕ × Unit {0}) Bool} (v : ℕ) (xs : List ℕ) (d a : ℕ) {m : ℕ} (e : m ≡ length xs) (u : Range ℕ) (f : F) (r : Bool) where
  -- `any` over `a..m`, where m is the length
  pub member_of_rest : (ys : List ℕ) × (o : Option ℕ) × (j : F) × YieldsThen nat_range_steps (record { start = a; end = m }) ys o u × FoldsTo (λ p x q. Called g p (x, tt) false q) f ys j × MatchOption o (r ≡ false) (λ x. (r ≡ true) × ((h : F) × Called g j (x, tt) true h)) → ((x : ℕ) (b : Bool) (q : F) → Called g f (x, tt) b q → (q ≡ f) × (b ≡ eqb v (get_or xs x d))) → r ≡ member v (drop a xs)
  member_of_rest ran says =
      let left : m - a ≡ length (drop a xs) = omega (arith, length-drop a xs) in
      any_from_yields_List (λ x. eqb v (get_or xs x d)) u f r ran (YieldsList-from_range a m (length (drop a xs)) refl left) says
      ∙ member_in v d (drop a xs) a (λ x. eqb v (get_or xs x d)) (λ k l. ap (eqb v) (sym (get_or-drop a xs k d)))

module _ {F : Type 0} {g : Mut F (ℕ × Unit {0}) Bool} (xs : List ℕ) (d : ℕ) {m : ℕ} (e : m ≡ length xs) (u : Range ℕ) (f : F) (r : Bool) where
  -- `all` over `0..m`, where m is the length
  pub distinct_of_places : (ys : List ℕ) × (o : Option ℕ) × (j : F) × YieldsThen nat_range_steps (record { start = 0; end = m }) ys o u × FoldsTo (λ p x q. Called g p (x, tt) true q) f ys j × MatchOption o (r ≡ true) (λ x. (r ≡ false) × ((h : F) × Called g j (x, tt) false h)) → ((x : ℕ) (b : Bool) (q : F) → Called g f (x, tt) b q → (q ≡ f) × (b ≡ not (member (get_or xs x d) (drop (x + 1) xs)))) → r ≡ distinct xs
  distinct_of_places ran says =
      all_from_yields_List (λ x. not (member (get_or xs x d) (drop (x + 1) xs))) u f r ran (YieldsList-from_range 0 m (length xs) refl (omega arith)) says
      ∙ distinct_in d xs 0 (λ x. not (member (get_or xs x d) (drop (x + 1) xs))) (λ k l. ap (λ n. not (member (get_or xs n d) (drop (n + 1) xs))) (from_zero k) ∙ ap (λ n. not (member (get_or xs k d) (drop n xs))) (add-one k))
    where
      from_zero : (k : ℕ) → 0 + k ≡ k
      from_zero k = omega arith
