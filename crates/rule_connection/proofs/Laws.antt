-- What a vertex reaches, as the code's array has it.
-- Assumes nothing.
use mathlib.Core.Path.{◌≡◌, ap, ◌∙◌}
use mathlib.Core.Bool.{Bool, false, ◌||◌}
use mathlib.Core.List.{List, ◌++◌}
use Prim.Native.Nat.{ℕ, ◌+◌, ◌-◌, ◌<◌}
use lib.Dec.{eqb}
use lib.ListN.{length, get_or, set, replicate}
use Rattle.definitions.specs.Lists.{build}
use Rattle.definitions.specs.Rule.{side_capacity, Rule, source_inputs, reached, reaches}
use Rattle.laws.proofs.Walks.{any_same}
use Rattle.laws.proofs.Builds.{get_or_padded, build_more}
use Rattle.rule_connection.specs.Reached.{reached_next}

-- places that are not found yet are as no places
pub next-padded : (r : Rule) (v : ℕ) (before : List Bool) (n w : ℕ)
    → reached_next r v (before ++ replicate n false) w ≡ reached_next r v before w
next-padded r v before n w =
    ap (λ (b : Bool). eqb v w || b)
    (any_same (λ u. get_or (before ++ replicate n false) u false) (λ u. get_or before u false) (source_inputs r w)
    (λ u m. get_or_padded before n u false))

-- the array of what v reaches, when one more entry is stored, and when all are
module _ (r : Rule) (v n : ℕ) (found : List Bool) (so_far : found ≡ build (reached_next r v) n ++ replicate (side_capacity - n) false) where
  pub reached_more : (x : Bool) → n < side_capacity → x ≡ reached_next r v found n
      → set found n x ≡ build (reached_next r v) (n + 1) ++ replicate (side_capacity - (n + 1)) false
  reached_more x l e =
      ap (λ (xs : List Bool). set xs n x) so_far
      ∙ build_more (reached_next r v) side_capacity n false x l
      (e ∙ ap (λ (xs : List Bool). reached_next r v xs n) so_far ∙ next-padded r v (build (reached_next r v) n) (side_capacity - n) n)

  pub reached-all : n ≡ length r.source → (w : ℕ) → get_or found w false ≡ reaches r v w
  unfolding reaches reached
  reached-all e w =
      ap (λ (xs : List Bool). get_or xs w false) so_far ∙ get_or_padded (build (reached_next r v) n) (side_capacity - n) w false
      ∙ ap (λ (k : ℕ). get_or (build (reached_next r v) k) w false) e
