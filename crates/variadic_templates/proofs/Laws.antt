-- What is asked of a vertex's templates, over the block's bytes.
-- Assumes nothing.
use mathlib.Core.Path.{◌≡◌, refl, ap, ◌∙◌}
use mathlib.Core.Bool.{Bool, true, false, not, ◌||◌}
use mathlib.Core.List.{List}
use mathlib.Core.Logic.{⊎_elim}
use Prim.Native.Nat.{ℕ, zero, suc, ◌+◌, ◌-◌, ◌<◌}
use native.Mathlib.Omega.{arith}
use borrow.Author.Tests.{ltb-true, ltb-false}
use lib.Dec.{ltb}
use Rattle.definitions.specs.Lists.{tabulate, any, any_below}
use Rattle.definitions.specs.Fields.{byte_at}
use Rattle.definitions.specs.Rule.{source_count, target_count, vertex_at, rule_output_count, origin_of, pattern_from, rule_by, rule_of}
use Rattle.definitions.specs.VariadicBlock.{marked, unmarked, variadic_of, origin_template, templates_fit, source_templates_fit, target_templates_fit}
use Rattle.laws.proofs.Lists.{decided, length-tabulate}
use Rattle.laws.proofs.TableTests.{any_tabulated}
use Rattle.laws.proofs.Walks.{any_same}
use Rattle.variadic_header.proofs.Vertices.{source-at, target_at}
use Rattle.variadic_templates.specs.Templates.{bad_templates, places_of, place_marked, names_template, is_named_tuple, tuple_fits, vertex_templates_fit}

not_twice : (b : Bool) → not (not b) ≡ b
not_twice true = refl
not_twice false = refl

any_of : {A B : Type 0} (p : B → Bool) (g : A → B) (n : ℕ) (f : ℕ → A)
    → any p (tabulate n (λ i. g (f i))) ≡ any (λ x. p (g x)) (tabulate n f)
unfolding any tabulate
any_of p g zero f = refl
any_of p g (suc n) f = ap (λ (b : Bool). p (g (f zero)) || b) (any_of p g n (λ i. f (suc i)))

module _ (block : List ℕ) (v : ℕ) where
  module _ (l : v < source_count block) (here : ltb v (source_count block) ≡ true) where
    names-source : any (marked block) (places_of block v) ≡ names_template block v
    unfolding names_template place_marked
    names-source = any_same (marked block) (place_marked block v) (places_of block v) (λ p m. simp here)

    fits-source : source_templates_fit (variadic_of block) v ≡ vertex_templates_fit block v
    unfolding source_templates_fit templates_fit vertex_templates_fit tuple_fits is_named_tuple unmarked pattern_from places_of variadic_of
    fits-source = rw (source-at block v l) (simp (here, length-tabulate, ← names-source))

  module _ (l : v - source_count block < target_count block) (e : source_count block + (v - source_count block) ≡ v)
      (here : ltb v (source_count block) ≡ false) where
    names-target : any (origin_template (variadic_of block)) (tabulate (byte_at block (vertex_at v + 2)) (λ i. origin_of (byte_at block (vertex_at v + 4 + i))))
        ≡ names_template block v
    unfolding names_template place_marked places_of
    names-target =
        any_of (origin_template (variadic_of block)) origin_of (byte_at block (vertex_at v + 2)) (λ i. byte_at block (vertex_at v + 4 + i))
        ∙ any_same (λ p. origin_template (variadic_of block) (origin_of p)) (place_marked block v) (places_of block v) (λ p m. simp here)

    fits-target : target_templates_fit (variadic_of block) (v - source_count block) ≡ vertex_templates_fit block v
    unfolding target_templates_fit templates_fit vertex_templates_fit tuple_fits is_named_tuple unmarked pattern_from variadic_of
    fits-target = rw (target_at block (v - source_count block) l, e) (simp (here, length-tabulate, ← names-target))

  pub templates_read : v < source_count block + target_count block → not (bad_templates block v) ≡ vertex_templates_fit block v
  unfolding bad_templates
  templates_read l =
      rw not_twice
      (⊎_elim (λ (t : ltb v (source_count block) ≡ true). simp t (fits-source (ltb-true v (source_count block) t) t))
      (λ (t : ltb v (source_count block) ≡ false).
      let m = ltb-false v (source_count block) t in
      simp t (fits-target (omega arith) (omega arith) t))
      (decided (ltb v (source_count block))))

-- ---- outputs

module _ (block : List ℕ) where
  pub sources_read : any_below (λ i. marked block (byte_at block (10 + i))) (rule_output_count block) ≡ any (variadic_of block).source_template (variadic_of block).plain.source_outputs
  unfolding variadic_of rule_of rule_by
  sources_read = any_tabulated (marked block) (rule_output_count block) (λ i. byte_at block (10 + i))

  pub targets_read : any_below (λ i. origin_template (variadic_of block) (origin_of (byte_at block (12 + i)))) (rule_output_count block) ≡ any (origin_template (variadic_of block)) (variadic_of block).plain.target_outputs
  unfolding variadic_of rule_of rule_by
  targets_read = any_tabulated (origin_template (variadic_of block)) (rule_output_count block) (λ i. origin_of (byte_at block (12 + i)))
