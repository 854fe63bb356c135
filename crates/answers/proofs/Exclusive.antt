-- The conditions of replies 0 and 4 to 7 exclude one another: what is due is one number. Replies 4 to 6 are told apart by the stage at
-- which the tests stop, and 0 and 7 by the new table's cycle.
-- Assumes nothing.
use mathlib.Core.Path.{◌≡◌, refl, sym, ◌∙◌, subst}
use mathlib.Core.Bool.{cond}
use mathlib.Core.List.{List}
use mathlib.Core.Logic.{◌⊎◌, inl, inr, ⊎_elim}
use mathlib.Core.Option.{none, some, some-injective}
use Prim.Native.Nat.{ℕ}
use lib.IntN.{ℤ}
use Rattle.definitions.specs.Reply.{no_match, no_result, no_room, new_cycle}
use Rattle.definitions.specs.Graph.{Graph}
use Rattle.definitions.specs.Rule.{Rule}
use Rattle.definitions.specs.Match.{read_attribute, LeastFrom, least_match}
use Rattle.definitions.specs.Rewriting.{target_results, has_room}
use Rattle.laws.proofs.Lists.{option_either}
use Rattle.theory.proofs.Fixing.{Fixing}
use Rattle.theory.proofs.Least.{none_found, least_searched}
use Rattle.answers.specs.Rewritten.{Due, unmatched, unfit, full, cyclic, done}
use Rattle.answers.proofs.Fit.{unfit_none, none_unfit}
use Rattle.answers.proofs.Room.{enough_room_lem, short-room}

module _ (g : Graph) (r : Rule) (fixing : Fixing r) (s : ℕ) where
  -- 4, 5 or 6 where the tests stop there, and 7 where they come to the test for a cycle
  stage : ℕ
  stage = elim (least_match g r s) [
    | none ↦ no_match
    | some images ↦ elim (target_results (read_attribute g images) r.target) [
      | none ↦ no_result
      | some values ↦ cond (has_room g r images) new_cycle no_room
    ]
  ]

  searched : (images : List ℕ) → LeastFrom g r s images → least_match g r s ≡ some images
  searched = least_searched g r fixing s

  -- the tests stop at the number that is due; where 0 is due they come to the last one
  due_stage : {n : ℕ} → Due g r s n → (stage ≡ n) ⊎ ((n ≡ 0) × (stage ≡ new_cycle))
  unfolding stage
  due_stage (unmatched never) = inl (rw (none_found g r fixing s never, stage))
  due_stage (unfit images least nofit) = inl (rw (searched images least, stage) (rw (unfit_none g r images nofit)))
  due_stage (full images least fit short) =
      inl (⊎_elim (λ (e : target_results (read_attribute g images) r.target ≡ none). absurd (fit (none_unfit g r images e)))
      (λ (f : (values : List (List ℤ)) × (target_results (read_attribute g images) r.target ≡ some values)).
      rw (searched images least, stage) (rw (f.1, short-room g r images least.from.is_match short)))
      (option_either (target_results (read_attribute g images) r.target)))
  due_stage (cyclic images values least fit have enough cycle) =
      inl (rw (searched images least, stage) (rw (have, enough_room_lem g r images least.from.is_match enough)))
  due_stage (done images values least fit have enough acyclic) =
      inr (refl, rw (searched images least, stage) (rw (have, enough_room_lem g r images least.from.is_match enough)))

  -- 0 and 7 are told apart by the new table's cycle
  not_both : Due g r s 0 → Due g r s new_cycle → ⊥
  not_both (done images values least fit have enough acyclic) (cyclic images' values' least' fit' have' enough' cycle) =
      let same : images ≡ images' = some-injective images images' (sym (searched images least) ∙ searched images' least') in
      let same_values : values ≡ values' = some-injective values values' (sym (rw same at have) ∙ have') in
      cycle (rw (same, same_values) at acyclic)

  -- What is due is one number.
  pub due_one : (n k : ℕ) → Due g r s n → Due g r s k → n ≡ k
  due_one n k first second =
      ⊎_elim
      (λ (a : stage ≡ n). ⊎_elim
      (λ (b : stage ≡ k). sym a ∙ b)
      (λ (b : (k ≡ 0) × (stage ≡ new_cycle)).
      absurd (not_both (subst (Due g r s) b.0 second) (subst (Due g r s) (sym a ∙ b.1) first)))
      (due_stage second))
      (λ (a : (n ≡ 0) × (stage ≡ new_cycle)). ⊎_elim
      (λ (b : stage ≡ k).
      absurd (not_both (subst (Due g r s) a.0 first) (subst (Due g r s) (sym b ∙ a.1) second)))
      (λ (b : (k ≡ 0) × (stage ≡ new_cycle)). a.0 ∙ sym b.0)
      (due_stage second))
      (due_stage first)
