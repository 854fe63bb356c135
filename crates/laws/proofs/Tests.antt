-- Tests that say the same, and a conjunction that code tests part by part, with a return at each part that fails.
-- Assumes nothing.
use mathlib.Core.Path.{◌≡◌, refl, sym, ap, ◌∙◌}
use mathlib.Core.Bool.{Bool, true, false, not, ◌&&◌}
use mathlib.Core.List.{List, [], ◌∷◌}
use mathlib.Core.Logic.{⊎_elim}
use Prim.Native.Nat.{ℕ, ◌<◌, ◌≤◌}
use borrow.Author.Tests.{eq-eqb, eqb-true, le-leb, lt-leb, not-true, not-false}
use lib.Dec.{eqb}
use Rattle.definitions.specs.Lists.{within}
use Rattle.laws.proofs.Lists.{decided, true_not_false, fails}

-- ---- two tests

-- each holds where the other does
pub same_tests : {a b : Bool} → (a ≡ true → b ≡ true) → (b ≡ true → a ≡ true) → a ≡ b
same_tests {a} {b} there back =
    ⊎_elim (λ (t : a ≡ true). t ∙ sym (there t))
    (λ (t : a ≡ false). t ∙ sym (fails (λ h. true_not_false (back h) t)))
    (decided a)

-- the same of a comparison
pub same_test : (n m : ℕ) {b : Bool} → (n ≡ m → b ≡ true) → (b ≡ true → n ≡ m) → eqb n m ≡ b
same_test n m there back = same_tests (λ h. there (eqb-true n m h)) (λ h. eq-eqb n m (back h))

-- ---- a conjunction

-- t and all of the tests after it, grouped as `◌&&◌` groups them
unfoldable pub all_of : Bool → List Bool → Bool
all_of t [] = t
all_of t (u ∷ us) = all_of (t && u) us

-- the tests, all of them
unfoldable pub conjunction : List Bool → Bool
conjunction [] = true
conjunction (t ∷ ts) = all_of t ts

-- the tests before these hold, so that these are all that is left of the whole
pub record Remains (whole : Bool) (tests : List Bool) : Type 0 where
  pub same : whole ≡ conjunction tests

-- one that fails is enough
none_holds : (ts : List Bool) → all_of false ts ≡ false
unfolding all_of
none_holds [] = refl
none_holds (t ∷ ts) = none_holds ts

-- one that holds may be left out
one_less : (ts : List Bool) → all_of true ts ≡ conjunction ts
unfolding all_of conjunction
one_less [] = refl
one_less (t ∷ ts) = refl

module _ {whole t : Bool} {ts : List Bool} (left : Remains whole (t ∷ ts)) where
  -- the next test fails, and with it the whole
  pub failed : t ≡ false → false ≡ whole
  unfolding conjunction
  failed e = sym (left.same ∙ ap (λ (b : Bool). all_of b ts) e ∙ none_holds ts)

  -- the next test holds
  pub held : t ≡ true → Remains whole ts
  unfolding conjunction
  held e = record { same = left.same ∙ ap (λ (b : Bool). all_of b ts) e ∙ one_less ts }

  -- the same by the answer of a function that tests it
  pub refused : {answer : Bool} → answer ≡ t → not answer ≡ true → false ≡ whole
  refused {answer} e h = failed (sym e ∙ not-true answer h)

  pub passed : {answer : Bool} → answer ≡ t → not answer ≡ false → Remains whole ts
  passed {answer} e h = held (sym e ∙ not-false answer h)

-- the last test is the answer
pub answered : {whole t answer : Bool} → Remains whole (t ∷ []) → answer ≡ t → answer ≡ whole
unfolding conjunction all_of
answered left e = e ∙ sym left.same

-- all tests hold
pub all_held : {whole : Bool} → Remains whole [] → true ≡ whole
unfolding conjunction
all_held left = sym left.same

-- ---- a number within bounds, tested at each of them

module _ (low n high : ℕ) where
  pub within_below : n < low → within low n high ≡ false
  within_below h = simp (lt-leb low n h)

  pub within_above : low ≤ n → high < n → within low n high ≡ false
  within_above l h = simp (le-leb low n l, lt-leb n high h)

  pub within_both : low ≤ n → n ≤ high → within low n high ≡ true
  within_both l h = simp (le-leb low n l, le-leb n high h)
