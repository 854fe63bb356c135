-- What the library's searches over the numbers below n give, in this project's words: `all`, `any` and `find` over `0..n`.
use mathlib.Core.Path.{◌≡◌, refl, sym, subst, ap, ◌∙◌}
use mathlib.Core.Bool.{Bool, true, false, cond, ◌&&◌, ◌||◌, or-false}
use mathlib.Core.List.{List, [], ◌∷◌}
use Prim.Native.Nat.{ℕ, zero, suc, ◌+◌, ◌≤◌, ◌<◌}
use native.Mathlib.Omega.{arith}
use lib.Dec.{eqb}
use lib.ListN.{length, get_or}
use denote.Param.Members.{Mut}
use denote.Ref.{Bor}
use Rattle.std.specs.declared.option.Option.{Option}
use Rattle.std.specs.declared.option.Option.TheVariants.{None, Some}
use Rattle.std.specs.declared.ops.Range.{Range}
use Rattle.std.specs.Bool.{⊤}
use Rattle.std.specs.Fn.{Called, CalledAt}
use Rattle.std.specs.Iterator.{YieldsThen}
use Rattle.std.specs.List.{FoldsTo, list_all, list_any, range_with_len}
use Rattle.std.specs.Option.{MatchOption, unwrap_or}
use Rattle.std.proofs.iter.Yields.{nat_range_steps}
use Rattle.std.proofs.lemmas.Iterator.{YieldsList-from_range, first_from_Range}
use Rattle.std.proofs.lemmas.Iterator.Search.{all_from_yields_List, any_from_yields_List}
use Rattle.definitions.specs.Lists.{all_below, any_below, lowest, all, any, member}
use Rattle.laws.proofs.Lists.{lowest_none, lowest-found}

and-true : (b : Bool) → (b && true) ≡ b
and-true true = refl
and-true false = refl

and_assoc : (a b c : Bool) → (a && (b && c)) ≡ ((a && b) && c)
and_assoc true b c = refl
and_assoc false b c = refl

or_assoc : (a b c : Bool) → (a || (b || c)) ≡ ((a || b) || c)
or_assoc true b c = refl
or_assoc false b c = refl

all-front : (p : ℕ → Bool) (n : ℕ) → (p 0 && all_below (λ k. p (suc k)) n) ≡ all_below p (suc n)
unfolding all_below
all-front p zero = and-true (p 0)
all-front p (suc n) = and_assoc (p 0) (all_below (λ k. p (suc k)) n) (p (suc n)) ∙ ap (λ b. b && p (suc n)) (all-front p n)

any-front : (p : ℕ → Bool) (n : ℕ) → (p 0 || any_below (λ k. p (suc k)) n) ≡ any_below p (suc n)
unfolding any_below
any-front p zero = or-false (p 0)
any-front p (suc n) = or_assoc (p 0) (any_below (λ k. p (suc k)) n) (p (suc n)) ∙ ap (λ b. b || p (suc n)) (any-front p n)

all_in : (p : ℕ → Bool) (a n : ℕ) → list_all p (range_with_len a n) ≡ all_below (λ k. p (a + k)) n
unfolding all_below
all_in p a zero = refl
all_in p a (suc n) =
    let first : a ≡ a + 0 = omega arith in
    let others : (k : ℕ) → a + 1 + k ≡ a + suc k = λ k. omega arith in
    ap (λ b. p a && b) (all_in p (a + 1) n ∙ (λ i. all_below (λ k. p (others k i)) n))
    ∙ ap (λ x. p x && all_below (λ k. p (a + suc k)) n) first ∙ all-front (λ k. p (a + k)) n

any_in : (p : ℕ → Bool) (a n : ℕ) → list_any p (range_with_len a n) ≡ any_below (λ k. p (a + k)) n
unfolding any_below
any_in p a zero = refl
any_in p a (suc n) =
    let first : a ≡ a + 0 = omega arith in
    let others : (k : ℕ) → a + 1 + k ≡ a + suc k = λ k. omega arith in
    ap (λ b. p a || b) (any_in p (a + 1) n ∙ (λ i. any_below (λ k. p (others k i)) n))
    ∙ ap (λ x. p x || any_below (λ k. p (a + suc k)) n) first ∙ any-front (λ k. p (a + k)) n

from_zero : (k : ℕ) → 0 + k ≡ k
from_zero k = omega arith

-- ---- `all` and `any` over `0..m`, where m is n
module _ {F : Type 0} {g : Mut F (ℕ × Unit {0}) Bool} (p : ℕ → Bool) {m n : ℕ} (e : m ≡ n) (u : Range ℕ) (f : F) (r : Bool) where
  pub all_of_range : (xs : List ℕ) × (o : Option ℕ) × (j : F) × YieldsThen nat_range_steps (record { start = 0; end = m }) xs o u × FoldsTo (λ p x q. Called g p (x, tt) true q) f xs j × MatchOption o (r ≡ true) (λ x. (r ≡ false) × ((h : F) × Called g j (x, tt) false h)) → ((x : ℕ) (b : Bool) (q : F) → Called g f (x, tt) b q → (q ≡ f) × (b ≡ p x)) → r ≡ all_below p n
  all_of_range ran says = all_from_yields_List p u f r ran (YieldsList-from_range 0 m n refl (omega arith)) says ∙ all_in p 0 n ∙ (λ i. all_below (λ k. p (from_zero k i)) n)

  pub any_of_range : (xs : List ℕ) × (o : Option ℕ) × (j : F) × YieldsThen nat_range_steps (record { start = 0; end = m }) xs o u × FoldsTo (λ p x q. Called g p (x, tt) false q) f xs j × MatchOption o (r ≡ false) (λ x. (r ≡ true) × ((h : F) × Called g j (x, tt) true h)) → ((x : ℕ) (b : Bool) (q : F) → Called g f (x, tt) b q → (q ≡ f) × (b ≡ p x)) → r ≡ any_below p n
  any_of_range ran says = any_from_yields_List p u f r ran (YieldsList-from_range 0 m n refl (omega arith)) says ∙ any_in p 0 n ∙ (λ i. any_below (λ k. p (from_zero k i)) n)

-- ---- the same over the places of a list, where m is its length
module _ {ℓ} {A : Type ℓ} (p : A → Bool) (d : A) where
  all-places : (xs : List A) → all_below (λ i. p (get_or xs i d)) (length xs) ≡ all p xs
  unfolding all_below all
  all-places [] = refl
  all-places (x ∷ xs) = sym (all-front (λ i. p (get_or (x ∷ xs) i d)) (length xs)) ∙ ap (λ b. p x && b) (all-places xs)

  any-places : (xs : List A) → any_below (λ i. p (get_or xs i d)) (length xs) ≡ any p xs
  unfolding any_below any
  any-places [] = refl
  any-places (x ∷ xs) = sym (any-front (λ i. p (get_or (x ∷ xs) i d)) (length xs)) ∙ ap (λ b. p x || b) (any-places xs)

any-member : (x : ℕ) (xs : List ℕ) → any (eqb x) xs ≡ member x xs
unfolding any member
any-member x [] = refl
any-member x (y ∷ ys) = ap (λ b. eqb x y || b) (any-member x ys)

module _ {ℓ} {A : Type ℓ} {F : Type 0} {g : Mut F (ℕ × Unit {0}) Bool} (p : A → Bool) (xs : List A) (d : A) {m : ℕ} (e : m ≡ length xs) (u : Range ℕ) (f : F) (r : Bool) where
  pub all_of_places : (ys : List ℕ) × (o : Option ℕ) × (j : F) × YieldsThen nat_range_steps (record { start = 0; end = m }) ys o u × FoldsTo (λ p x q. Called g p (x, tt) true q) f ys j × MatchOption o (r ≡ true) (λ x. (r ≡ false) × ((h : F) × Called g j (x, tt) false h)) → ((x : ℕ) (b : Bool) (q : F) → Called g f (x, tt) b q → (q ≡ f) × (b ≡ p (get_or xs x d))) → r ≡ all p xs
  all_of_places ran says = all_of_range (λ i. p (get_or xs i d)) e u f r ran says ∙ all-places p d xs

  pub any_of_places : (ys : List ℕ) × (o : Option ℕ) × (j : F) × YieldsThen nat_range_steps (record { start = 0; end = m }) ys o u × FoldsTo (λ p x q. Called g p (x, tt) false q) f ys j × MatchOption o (r ≡ false) (λ x. (r ≡ true) × ((h : F) × Called g j (x, tt) true h)) → ((x : ℕ) (b : Bool) (q : F) → Called g f (x, tt) b q → (q ≡ f) × (b ≡ p (get_or xs x d))) → r ≡ any p xs
  any_of_places ran says = any_of_range (λ i. p (get_or xs i d)) e u f r ran says ∙ any-places p d xs

module _ {F : Type 0} {g : Mut F (ℕ × Unit {0}) Bool} (v : ℕ) (xs : List ℕ) (d : ℕ) {m : ℕ} (e : m ≡ length xs) (u : Range ℕ) (f : F) (r : Bool) where
  pub member_of_places : (ys : List ℕ) × (o : Option ℕ) × (j : F) × YieldsThen nat_range_steps (record { start = 0; end = m }) ys o u × FoldsTo (λ p x q. Called g p (x, tt) false q) f ys j × MatchOption o (r ≡ false) (λ x. (r ≡ true) × ((h : F) × Called g j (x, tt) true h)) → ((x : ℕ) (b : Bool) (q : F) → Called g f (x, tt) b q → (q ≡ f) × (b ≡ eqb v (get_or xs x d))) → r ≡ member v xs
  member_of_places ran says = any_of_places (eqb v) xs d e u f r ran says ∙ any-member v xs

-- ---- `find` over `0..n`, and n where it finds none
lowest_by : (p : ℕ → Bool) (n : ℕ) (r : Option ℕ) → MatchOption r ((k : ℕ) → 0 ≤ k → k < n → p k ≡ false) (λ i. (0 ≤ i) × (i < n) × (p i ≡ true) × ((k : ℕ) → 0 ≤ k → k < i → p k ≡ false)) → unwrap_or r n ≡ lowest p n
lowest_by p n None none = sym (lowest_none p n (λ k l. none k (omega arith) l))
lowest_by p n (Some i) found = sym (lowest-found p n i found.1 (λ k l. found.3 k (omega arith) l) found.2)

module _ {F : Type 0} {g : Mut F (Bor ℕ × Unit {0}) Bool} (p : ℕ → Bool) {m n : ℕ} (e : m ≡ n) (u : Range ℕ) (f : F) (r : Option ℕ) where
  pub first_of_range : (xs : List ℕ) × (j : F) × YieldsThen nat_range_steps (record { start = 0; end = m }) xs r u × FoldsTo (λ p x q. CalledAt g p x false q) f xs j × MatchOption r ⊤ (λ x. (h : F) × CalledAt g j x true h) → ((x : ℕ) (b : Bool) (q : F) → CalledAt g f x b q → (q ≡ f) × (b ≡ p x)) → unwrap_or r m ≡ lowest p n
  first_of_range ran says =
      lowest_by p m r (first_from_Range (record { start = 0; end = m }) u f r (λ x. p x ≡ true) (λ x. p x ≡ false) ran (λ x q k. sym (says x true q k).1) (λ x q k. ((says x false q k).0, sym (says x false q k).1)))
      ∙ ap (lowest p) e
