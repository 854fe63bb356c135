-- The values of the target vertices: as many as each has attributes, and, in a sound rule, each in range, so that it has a 32-bit word.
-- Assumes nothing.
use mathlib.Core.Path.{◌≡◌, refl}
use mathlib.Core.Bool.{true, ◌&&◌}
use mathlib.Core.List.{List, []}
use mathlib.Core.Option.{Option, some}
use Prim.Native.Nat.{ℕ, ◌-◌, ◌^◌, ◌<◌}
use native.Mathlib.Omega.{arith}
use borrow.Author.Tests.{ltb-true, le-ltb}
use lib.IntN.{ℤ, pos, negsuc}
use lib.ListN.{length, get_or}
use Rattle.definitions.specs.Lists.{all}
use Rattle.definitions.specs.Fields.{signed, word_of}
use Rattle.definitions.specs.Graph.{Graph}
use Rattle.definitions.specs.Rule.{Expression, anything, constant, access, apply, index, sum, Rule, target_of, accesses_below}
use Rattle.definitions.specs.FixedRule.{definite, target_uses_fit}
use Rattle.definitions.specs.Attributes.{in_range, result_of}
use Rattle.definitions.specs.Match.{read_attribute}
use Rattle.definitions.specs.Rewriting.{results, vertex_results, target_results}
use Rattle.laws.proofs.Lists.{and_left, all-at, all_every}
use Rattle.laws.proofs.Results.{results-length, result-at, values-at, vertex-results}
use Rattle.numbers.specs.Value.{bounded}
use Rattle.numbers.proofs.Laws.{combine-bounded}
use Rattle.match_leaves.proofs.Laws.{read-bounded}

-- ---- words

-- a result in range has a word of 32 bits, which stands for it
pub word_small : (z : ℤ) → in_range z ≡ true → word_of z < 2 ^ 32
unfolding in_range word_of
word_small (pos n) t = omega (arith, ltb-true n (2 ^ 31) t)
word_small (negsuc n) t = omega arith

pub signed_word : (z : ℤ) → in_range z ≡ true → signed (word_of z) ≡ z
unfolding in_range word_of signed
signed_word (pos n) t = simp t
signed_word (negsuc n) t =
    let small = ltb-true n (2 ^ 31) t in
    let back : 2 ^ 32 - 1 - (2 ^ 32 - 1 - n) ≡ n = omega arith in
    simp (le-ltb (2 ^ 32 - 1 - n) (2 ^ 31) (omega arith), back)

-- ---- every result of an expression of a sound rule is in range

result-bounded : (g : Graph) (images : List ℕ) (e : Expression) → definite e ≡ true → bounded (result_of (read_attribute g images) e) ≡ true
unfolding definite result_of bounded
result-bounded g images anything h = refl
result-bounded g images (constant z) h = h
result-bounded g images (access v b) h = read-bounded g images v b
result-bounded g images (apply o x y) h =
    combine-bounded o (result_of (read_attribute g images) x) (result_of (read_attribute g images) y)
result-bounded g images index h = refl
result-bounded g images (sum x) h = refl

-- ---- the values of target vertex t

module _ (g : Graph) (r : Rule) (images : List ℕ) (values : List (List ℤ))
    (found : target_results (read_attribute g images) r.target ≡ some values) (t : ℕ) (inside : t < length r.target) where
  abbrev read : ℕ → ℕ → Option ℤ
  read = read_attribute g images

  pub target-values : vertex_results read (target_of r t) ≡ some (get_or values t [])
  unfolding target_of
  target-values = values-at read r.target values t found inside

  attribute_values : results read (target_of r t).attributes ≡ some (get_or values t [])
  attribute_values = vertex-results read (target_of r t) (get_or values t []) target-values

  -- one for each attribute
  pub value-count : length (get_or values t []) ≡ length (target_of r t).attributes
  value-count = results-length read (target_of r t).attributes (get_or values t []) attribute_values

  -- in a sound rule they are in range, since its expressions are made of numbers in range and of operations
  pub values_small : target_uses_fit r t ≡ true → all in_range (get_or values t []) ≡ true
  unfolding bounded target_uses_fit
  values_small uses =
      let es = (target_of r t).attributes in
      all_every in_range (pos 0) (get_or values t []) (λ i l.
      let place : i < length es = rw value-count at l in
      let fits = all-at (λ e. definite e && accesses_below (length r.source) e) anything es i uses place in
      rw (result-at read es (get_or values t []) i attribute_values place) at
      (result-bounded g images (get_or es i anything)
      (and_left (definite (get_or es i anything)) (accesses_below (length r.source) (get_or es i anything)) fits)))
