-- Reply 5: the target attributes have no results exactly where one of them is unfit.
-- Assumes nothing.
use mathlib.Core.Path.{◌≡◌, refl, sym, ◌∙◌}
use mathlib.Core.Bool.{true, false, not, ◌||◌}
use mathlib.Core.List.{List, []}
use mathlib.Core.Logic.{◌⊎◌, inl, inr, ⊎_elim}
use mathlib.Core.Option.{Option, none, some, none-ne-some}
use Prim.Native.Nat.{ℕ}
use native.Mathlib.Omega.{arith}
use borrow.Author.Tests.{eq-eqb, eqb-true}
use lib.Dec.{eqb}
use lib.IntN.{ℤ}
use lib.ListN.{length}
use Rattle.definitions.specs.Operators.{kind_proj}
use Rattle.definitions.specs.Graph.{Graph, at_least_one}
use Rattle.definitions.specs.Rule.{Origin, Pattern, Rule, target_of}
use Rattle.definitions.specs.Match.{read_attribute}
use Rattle.definitions.specs.Rewriting.{vertex_results, target_results}
use Rattle.laws.proofs.Lists.{decided, true_not_false, option_either, all_below_some}
use Rattle.new_words.specs.Words.{index_like}
use Rattle.target_attributes.specs.Words.{is_given}
use Rattle.target_attributes.specs.Fitness.{fit_at, vertex_given}
use Rattle.target_attributes.proofs.Laws.{none_given, told_given, target_lacks, target_found, words_to, vertex_lacks, vertex-found}
use Rattle.answers.specs.Rewritten.{target_result, NoFit}

-- no result, or for a Proj one below 1
module _ (kind : ℕ) (o : Option ℤ) where
  abbrev Lacking : Type 0
  Lacking = (o ≡ none) ⊎ ((kind ≡ kind_proj) × ((z : ℤ) × (o ≡ some z) × (at_least_one z ≡ false)))

  lacking_fails : Lacking → index_like kind o ≡ false
  unfolding index_like
  lacking_fails (inl e) = rw (e, index_like)
  lacking_fails (inr p) = rw (p.1.1, index_like) (simp (eq-eqb kind kind_proj p.0, p.1.2))

  fails_lacking : index_like kind o ≡ false → Lacking
  unfolding index_like
  fails_lacking f =
      ⊎_elim (λ (e : o ≡ none). inl e)
      (λ (h : (z : ℤ) × (o ≡ some z)).
      let late : (not (eqb kind kind_proj) || at_least_one h.0) ≡ false = rw (h.1, index_like) at f in
      ⊎_elim (λ (t : eqb kind kind_proj ≡ true). inr (eqb-true kind kind_proj t, (h.0, h.1, simp t at late)))
      (λ (t : eqb kind kind_proj ≡ false). absurd (true_not_false refl (simp t at late)))
      (decided (eqb kind kind_proj)))
      (option_either o)

module _ (g : Graph) (r : Rule) (images : List ℕ) where
  abbrev read : ℕ → ℕ → Option ℤ
  read = read_attribute g images

  -- Where some attribute is unfit, its vertex has no results, so the target has none.
  pub unfit_none : NoFit g r images → target_results read r.target ≡ none
  unfolding is_given
  unfit_none u =
      let p : Pattern Origin = target_of r u.vertex in
      let fails : fit_at read p u.place ≡ false =
      lacking_fails p.kind (target_result g r images u.vertex u.place) u.unfit in
      let vertex : vertex_results read p ≡ none = (vertex_lacks read p u.place [] u.place_below fails).lacking refl in
      none_given (target_results read r.target) (sym (target_lacks read r u.vertex u.vertex_below (rw vertex)))

  -- Where the target has no results, some vertex has none, and so some attribute of it is unfit.
  pub none_unfit : target_results read r.target ≡ none → NoFit g r images
  unfolding is_given
  none_unfit e =
      let vertex = all_below_some (vertex_given read r) (length r.target) (λ t.
      true_not_false (sym (target_found read r (length r.target) (omega arith) t)) (rw e)) in
      let p : Pattern Origin = target_of r vertex.0 in
      let place = all_below_some (fit_at read p) (length p.attributes) (λ t.
      true_not_false (told_given (vertex_results read p) true (words_to read p (length p.attributes))
      (vertex-found read p (length p.attributes) (words_to read p (length p.attributes)) (omega arith) t refl)) vertex.2) in
      record {
        vertex = vertex.0;
        place = place.0;
        vertex_below = vertex.1;
        place_below = place.1;
        unfit = fails_lacking p.kind (target_result g r images vertex.0 place.0) place.2;
      }

  -- So where it has results, every attribute is fit.
  pub some_fit : (values : List (List ℤ)) → target_results read r.target ≡ some values → NoFit g r images → ⊥
  some_fit values e u = none-ne-some values (sym (unfit_none u) ∙ e)
