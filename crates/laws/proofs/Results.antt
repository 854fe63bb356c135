-- Results of expressions and of target vertices, one by one: where a whole list has results, each element has its own. Both lists are
-- walked in the same way, so one law serves both.
-- Assumes nothing.
use mathlib.Core.Path.{◌≡◌, refl, sym, ap, ◌∙◌}
use mathlib.Core.Bool.{Bool, true, false, cond}
use mathlib.Core.List.{List, [], ◌∷◌}
use mathlib.Core.Logic.{⊎_elim}
use mathlib.Core.Option.{Option, none, some, some-injective, none-ne-some}
use Prim.Native.Nat.{ℕ, zero, suc, ◌<◌}
use native.Mathlib.Nat.{not-suc-le-zero, le_of_suc-le-suc}
use native.Mathlib.Omega.{arith}
use lib.IntN.{ℤ, pos}
use lib.ListN.{length, get_or}
use Rattle.definitions.specs.Rule.{Expression, anything, Origin, Pattern, wildcard}
use Rattle.definitions.specs.Attributes.{result_of}
use Rattle.definitions.specs.Rewriting.{results, index_fits, vertex_results, target_results}
use Rattle.laws.proofs.Lists.{decided}

-- ---- a list of which every element has a result

-- the first result before the others
unfoldable pub joined : {A : Type 0} → Option A → Option (List A) → Option (List A)
joined first rest = elim first [
  | none ↦ none
  | some z ↦ elim rest [ none ↦ none | some zs ↦ some (z ∷ zs) ]
]

pub joined_some : {A : Type 0} (first : Option A) (rest : Option (List A)) (whole : List A) → joined first rest ≡ some whole
    → (z : A) × (zs : List A) × (first ≡ some z) × (rest ≡ some zs) × (whole ≡ z ∷ zs)
unfolding joined
joined_some none rest whole h = absurd (none-ne-some whole h)
joined_some (some z) none whole h = absurd (none-ne-some whole h)
joined_some (some z) (some zs) whole h = (z, zs, refl, refl, cc)

-- a result that a test lets pass
unfoldable pub kept : {A : Type 0} → (A → Bool) → Option A → Option A
kept test x = elim x [ none ↦ none | some z ↦ cond (test z) (some z) none ]

kept_some : {A : Type 0} (test : A → Bool) (x : Option A) (z : A) → kept test x ≡ some z → (x ≡ some z) × (test z ≡ true)
unfolding kept
kept_some test none z h = absurd (none-ne-some z h)
kept_some test (some y) z h =
    ⊎_elim (λ (t : test y ≡ true).
    let same : y ≡ z = some-injective y z (simp t at h) in
    (ap some same, rw same at t))
    (λ (t : test y ≡ false). absurd (none-ne-some z (simp t at h)))
    (decided (test y))

-- `whole` gives the results of all elements, and f that of each
module _ {A B : Type 0} (f : A → Option B) (whole : List A → Option (List B))
    (empty : whole [] ≡ some []) (more : (x : A) (xs : List A) → whole (x ∷ xs) ≡ joined (f x) (whole xs)) where
  each_length : (xs : List A) (ys : List B) → whole xs ≡ some ys → length ys ≡ length xs
  each_length [] ys h = let e : ys ≡ [] = cc in rw e
  each_length (x ∷ xs) ys h =
      let parts = joined_some (f x) (whole xs) ys (sym (more x xs) ∙ h) in
      rw parts.4 (omega (arith, each_length xs parts.1 parts.3))

  each_at : (xs : List A) (ys : List B) (i : ℕ) (d : A) (e : B) → whole xs ≡ some ys → i < length xs
      → f (get_or xs i d) ≡ some (get_or ys i e)
  each_at [] ys i d e h l = absurd (not-suc-le-zero l)
  each_at (x ∷ xs) ys zero d e h l =
      let parts = joined_some (f x) (whole xs) ys (sym (more x xs) ∙ h) in
      rw parts.4 parts.2
  each_at (x ∷ xs) ys (suc i) d e h l =
      let parts = joined_some (f x) (whole xs) ys (sym (more x xs) ∙ h) in
      rw parts.4 (each_at xs parts.1 i d e parts.3 (le_of_suc-le-suc l))

module _ (read : ℕ → ℕ → Option ℤ) where
  -- ---- expressions

  -- as many results as expressions, each the result of its expression
  pub results-length : (es : List Expression) (zs : List ℤ) → results read es ≡ some zs → length zs ≡ length es
  unfolding results joined
  results-length = each_length (result_of read) (results read) refl (λ e es. refl)

  pub result-at : (es : List Expression) (zs : List ℤ) (i : ℕ) → results read es ≡ some zs → i < length es
      → result_of read (get_or es i anything) ≡ some (get_or zs i (pos 0))
  unfolding results joined
  result-at es zs i = each_at (result_of read) (results read) refl (λ e es. refl) es zs i anything (pos 0)

  -- ---- target vertices

  -- likewise the values of all vertices
  pub values-at : (ps : List (Pattern Origin)) (values : List (List ℤ)) (t : ℕ) → target_results read ps ≡ some values
      → t < length ps → vertex_results read (get_or ps t wildcard) ≡ some (get_or values t [])
  unfolding target_results joined
  values-at ps values t = each_at (vertex_results read) (target_results read) refl (λ p ps. refl) ps values t wildcard []

  -- the results of a vertex are those of its expressions
  pub vertex-results : (p : Pattern Origin) (zs : List ℤ) → vertex_results read p ≡ some zs → results read p.attributes ≡ some zs
  unfolding vertex_results kept
  vertex-results p zs h = (kept_some (index_fits p.kind) (results read p.attributes) zs h).0

  -- a Proj's index is at least 1
  pub vertex_index : (p : Pattern Origin) (zs : List ℤ) → vertex_results read p ≡ some zs → index_fits p.kind zs ≡ true
  unfolding vertex_results kept
  vertex_index p zs h = (kept_some (index_fits p.kind) (results read p.attributes) zs h).1
