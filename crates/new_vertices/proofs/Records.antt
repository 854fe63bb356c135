-- What the record of a target vertex stands for: results that are given have their words, and the slots that the arrays give are the
-- definition's.
-- Assumes nothing.
use mathlib.Core.Path.{◌≡◌, refl, sym, ap, ◌∙◌}
use mathlib.Core.Bool.{Bool, true, false≢true}
use mathlib.Core.List.{List, [], map}
use mathlib.Core.Option.{Option, some, some-injective}
use Prim.Native.Nat.{ℕ, ◌<◌}
use lib.IntN.{ℤ}
use lib.ListN.{length, get_or, length-map}
use Rattle.definitions.specs.Lists.{padded}
use Rattle.definitions.specs.Fields.{word_of}
use Rattle.definitions.specs.Graph.{input_limit, attribute_limit, unused_place, graph_of}
use Rattle.definitions.specs.Rule.{target_count, target_of}
use Rattle.definitions.specs.Match.{read_attribute}
use Rattle.definitions.specs.Rewriting.{vertex_results, target_results, resolve}
use Rattle.rule_fields.specs.Fixed.{fixed_of}
use Rattle.rule_fields.proofs.Fixed.{length-target}
use Rattle.replacement.proofs.Values.{target-values, value-count}
use Rattle.target_attributes.specs.Words.{is_given, Given}
use Rattle.std.specs.declared.result.Result.{Result}
use Rattle.std.specs.declared.result.Result.TheVariants.{Ok, Err}
use Rattle.std.specs.Result.{IsOk}
use Rattle.target_attributes.specs.declared.Lack.{Lack}
use Rattle.target_attributes.specs.Fitness.{is_fit, words_of, Told}
use Rattle.target_attributes.proofs.Laws.{told_given}
use Rattle.redirection.specs.Moves.{resolve_in}
use Rattle.new_places.proofs.Laws.{inputs_same}
use Rattle.new_vertices.specs.Slots.{values_of, fit_results, Prepared}
use Rattle.new_vertices.proofs.Values.{known_values}

-- ---- the results of target vertex t

-- the words told of results that there are
told_words : (best : Option (List ℤ)) (zs : List ℤ) (ok : Bool) (words : List ℕ) → best ≡ some zs → Given best ok words
    → words ≡ padded attribute_limit 0 (map word_of zs)
unfolding is_given
told_words best zs ok words h g =
    let told = g.found (sym (told_given best ok words g) ∙ ap is_given h) in
    told.2 ∙ ap (λ (ys : List ℤ). padded attribute_limit 0 (map word_of ys)) (some-injective told.0 zs (sym told.1 ∙ h))

fit_ok : (told : Result (List ℕ) Lack) → is_fit told ≡ true → IsOk told
unfolding is_fit
fit_ok (Ok words) e = refl
fit_ok (Err lack) e = absurd (false≢true e)

module _ (graph rule images : List ℕ) (t : ℕ) (known : is_given (fit_results graph rule images) ≡ true) (l : t < target_count rule) where
  abbrev read : ℕ → ℕ → Option ℤ
  read = read_attribute (graph_of graph) images

  abbrev values : List (List ℤ)
  values = values_of (fit_results graph rule images)

  found : target_results read (fixed_of rule).target ≡ some values
  unfolding fit_results
  found = known_values (fit_results graph rule images) known

  inside : t < length (fixed_of rule).target
  inside = rw (length-target rule) l

  -- as many words as the target vertex has attributes,
  pub word_count : length (target_of (fixed_of rule) t).attributes ≡ length (map word_of (get_or values t []))
  word_count = sym (length-map (get_or values t []) word_of ∙ value-count (graph_of graph) (fixed_of rule) images values found t inside)

  -- and they are those that are told
  pub words_same : (ok : Bool) (words : List ℕ) → Given (vertex_results read (target_of (fixed_of rule) t)) ok words
      → words ≡ padded attribute_limit 0 (map word_of (get_or values t []))
  words_same ok words =
      told_words (vertex_results read (target_of (fixed_of rule) t)) (get_or values t []) ok words
      (target-values (graph_of graph) (fixed_of rule) images values found t inside)

  -- so there are words
  pub words_told : (told : Result (List ℕ) Lack) → Told read (target_of (fixed_of rule) t) told → IsOk told
  unfolding is_given
  words_told told h =
      fit_ok told
      (sym (told_given (vertex_results read (target_of (fixed_of rule) t)) (is_fit told) (words_of told) h.given)
      ∙ ap is_given (target-values (graph_of graph) (fixed_of rule) images values found t inside))

-- ---- the inputs of target vertex t

-- the slots that the arrays give are the definition's
pub target-places : (graph rule images places : List ℕ) (t : ℕ) {xs : List ℕ} → Prepared graph rule images places → t < target_count rule
    → xs ≡ padded input_limit unused_place (map (resolve_in images places) (target_of (fixed_of rule) t).inputs)
    → xs ≡ padded input_limit unused_place (map (resolve (graph_of graph) (fixed_of rule) images) (target_of (fixed_of rule) t).inputs)
target-places graph rule images places t p l h =
    h ∙ ap (padded input_limit unused_place) (inputs_same (graph_of graph) rule images places p.moves.resolvable p.placed t l)
