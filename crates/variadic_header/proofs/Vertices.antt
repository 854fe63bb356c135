-- The vertices of a block's variadic rule, by the records from which they are read: the kind is without its mark.
-- Assumes nothing.
use mathlib.Core.Path.{◌≡◌, refl, ap, ◌∙◌}
use mathlib.Core.List.{List, ◌∷◌, map}
use Prim.Native.Nat.{ℕ, zero, suc, ◌+◌, ◌<◌}
use lib.ListN.{length, get_or}
use Rattle.definitions.specs.Lists.{tabulate}
use Rattle.definitions.specs.Rule.{source_count, target_count, vertex_at, Origin, Pattern, origin_of, wildcard, pattern_from, attribute_in, rule_by, rule_of, source_of, target_of}
use Rattle.definitions.specs.VariadicBlock.{unmarked, variadic_of}
use Rattle.laws.proofs.Lists.{length-tabulate, get_or_tabulate}

map-tabulate : {A B : Type 0} (f : A → B) (n : ℕ) (h : ℕ → A) → map f (tabulate n h) ≡ tabulate n (λ k. f (h k))
unfolding tabulate
map-tabulate f zero h = refl
map-tabulate f (suc n) h = ap (λ xs. f (h zero) ∷ xs) (map-tabulate f n (λ k. h (suc k)))

module _ (block : List ℕ) where
  -- the vertices with their marks
  abbrev marked_source : ℕ → Pattern ℕ
  marked_source j = pattern_from (λ p. p) (attribute_in block j) block (vertex_at j)

  abbrev marked_target : ℕ → Pattern Origin
  marked_target t = pattern_from origin_of (attribute_in block (source_count block + t)) block (vertex_at (source_count block + t))

  pub sources : (variadic_of block).plain.source ≡ tabulate (source_count block) (λ j. unmarked (marked_source j))
  unfolding rule_of rule_by variadic_of
  sources = map-tabulate unmarked (source_count block) marked_source

  pub targets : (variadic_of block).plain.target ≡ tabulate (target_count block) (λ t. unmarked (marked_target t))
  unfolding rule_of rule_by variadic_of
  targets = map-tabulate unmarked (target_count block) marked_target

  pub length-sources : length (variadic_of block).plain.source ≡ source_count block
  length-sources = ap length sources ∙ length-tabulate (source_count block) (λ j. unmarked (marked_source j))

  pub length_targets : length (variadic_of block).plain.target ≡ target_count block
  length_targets = ap length targets ∙ length-tabulate (target_count block) (λ t. unmarked (marked_target t))

  pub source-at : (j : ℕ) → j < source_count block
      → source_of (variadic_of block).plain j ≡ unmarked (pattern_from (λ p. p) (attribute_in block j) block (vertex_at j))
  unfolding source_of
  source-at j l =
      ap (λ (ps : List (Pattern ℕ)). get_or ps j wildcard) sources
      ∙ get_or_tabulate (source_count block) (λ j. unmarked (marked_source j)) j wildcard l

  pub target_at : (t : ℕ) → t < target_count block
      → target_of (variadic_of block).plain t
      ≡ unmarked (pattern_from origin_of (attribute_in block (source_count block + t)) block (vertex_at (source_count block + t)))
  unfolding target_of
  target_at t l =
      ap (λ (ps : List (Pattern Origin)). get_or ps t wildcard) targets
      ∙ get_or_tabulate (target_count block) (λ t. unmarked (marked_target t)) t wildcard l
