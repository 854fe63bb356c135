-- A search may begin later, where no match has the first output's image in between.
-- Assumes nothing.
use mathlib.Core.Path.{◌≡◌, sym, ◌∙◌}
use mathlib.Core.List.{List, ◌∷◌}
use mathlib.Core.Logic.{⊎_elim}
use mathlib.Core.Option.{none, some}
use Prim.Native.Nat.{ℕ}
use native.Mathlib.Omega.{arith}
use Rattle.definitions.specs.Graph.{Graph}
use Rattle.definitions.specs.Rule.{Rule}
use Rattle.definitions.specs.Match.{MatchFrom, least_match}
use Rattle.laws.proofs.Lists.{option_either}
use Rattle.theory.proofs.Fixing.{Fixing}
use Rattle.theory.proofs.Least.{none_left, none_found, search_least, least_searched}
use Rattle.match_outputs.proofs.Steps.{Passed}

module _ (g : Graph) (r : Rule) (fixing : Fixing r) (o : ℕ) (others : List ℕ) (outputs : r.source_outputs ≡ o ∷ others) (start first : ℕ)
    (passed : Passed g r o start first) where
  later_match_lem : (images : List ℕ) → MatchFrom g r start images → MatchFrom g r first images
  later_match_lem images m = record {
    is_match = m.is_match;
    first = rw outputs (passed.left images m.is_match (rw outputs at m.first));
  }

  pub least_skips : least_match g r first ≡ least_match g r start
  least_skips = ⊎_elim
      (λ (e : least_match g r first ≡ none).
      e ∙ sym (none_found g r fixing start (λ images m. none_left g r fixing first e images (later_match_lem images m))))
      (λ (found : (images : List ℕ) × (least_match g r first ≡ some images)).
      let least = search_least g r fixing first found.0 found.1 in
      found.1 ∙ sym (least_searched g r fixing start found.0 record {
        from = record { is_match = least.from.is_match; first = omega (arith, passed.from, least.from.first) };
        least = λ other m. least.least other (later_match_lem other m);
      }))
      (option_either (least_match g r first))
