-- What computes whether a source vertex reaches another is the meaning: there is a path, from an input to its reader.
-- Assumes nothing.
use mathlib.Core.Path.{◌≡◌, refl, sym, ap, ◌∙◌, subst}
use mathlib.Core.Bool.{Bool, true, false, ◌||◌, or-true, false≢true}
use mathlib.Core.List.{List, [], ◌∷◌, Memᴰ}
use mathlib.Core.Logic.{⊎_elim}
use Prim.Native.Nat.{ℕ, zero, suc, ◌<◌}
use native.Mathlib.Nat.{not-suc-le-zero}
use native.Mathlib.Omega.{arith}
use borrow.Author.Tests.{eq-eqb, eqb-true}
use lib.Dec.{eqb}
use lib.ListN.{length, get_or}
use Rattle.definitions.specs.Lists.{build, any}
use Rattle.definitions.specs.Paths.{Reads, Reaches, here, onward}
use Rattle.definitions.specs.Rule.{Rule, source_inputs, reached, reaches}
use Rattle.laws.proofs.Lists.{decided}
use Rattle.laws.proofs.Walks.{any_same}
use Rattle.laws.proofs.Builds.{build-at}
use Rattle.rule_connection.specs.Reached.{reached_next}

-- a test that holds of some element
any_some : (p : ℕ → Bool) (xs : List ℕ) → any p xs ≡ true → (x : ℕ) × Memᴰ x xs × (p x ≡ true)
unfolding any
any_some p [] h = absurd (false≢true h)
any_some p (x ∷ xs) h =
    ⊎_elim (λ (t : p x ≡ true). (x, Memᴰ.head refl, t))
    (λ (t : p x ≡ false). let s = any_some p xs (simp t at h) in (s.0, Memᴰ.tail s.1, s.2))
    (decided (p x))

any_at : (p : ℕ → Bool) (xs : List ℕ) {x : ℕ} → Memᴰ x xs → p x ≡ true → any p xs ≡ true
unfolding any
any_at p [] m t = elim m [ ]
any_at p (y ∷ xs) (Memᴰ.head e) t = simp (ap p (sym e) ∙ t)
any_at p (y ∷ xs) (Memᴰ.tail m) t = ap (λ (b : Bool). p y || b) (any_at p xs m t) ∙ or-true (p y)

module _ (r : Rule) (lower : (j u : ℕ) → Reads (source_inputs r) j u → u < j) (v : ℕ) where
  -- v reaches itself, and what reads a vertex that it reaches
  reaches_step : (w : ℕ) → w < length r.source → reaches r v w ≡ (eqb v w || any (reaches r v) (source_inputs r w))
  unfolding reaches reached
  reaches_step w l =
      build-at f n w false l
      ∙ ap (λ (b : Bool). eqb v w || b)
      (any_same (λ u. get_or (build f w) u false) (reaches r v) (source_inputs r w)
      (λ u m. build-at f w u false (lower w u m) ∙ sym (build-at f n u false (omega (arith, lower w u m)))))
    where
      f : List Bool → ℕ → Bool
      f = reached_next r v

      n : ℕ
      n = length r.source

  path_below : (n w : ℕ) → w < n → w < length r.source → reaches r v w ≡ true → Reaches (source_inputs r) v w
  path_below zero w k l h = absurd (not-suc-le-zero k)
  path_below (suc n) w k l h =
      ⊎_elim (λ (t : eqb v w ≡ true). subst (λ (x : ℕ). Reaches (source_inputs r) v x) (eqb-true v w t) here)
      (λ (t : eqb v w ≡ false).
      let s = any_some (reaches r v) (source_inputs r w) (simp t at (sym (reaches_step w l) ∙ h)) in
      let less : s.0 < w = lower w s.0 s.1 in
      onward (path_below n s.0 (omega arith) (omega arith) s.2) s.1)
      (decided (eqb v w))

  pub reached_path : (w : ℕ) → w < length r.source → reaches r v w ≡ true → Reaches (source_inputs r) v w
  reached_path w l h = path_below (suc w) w (omega arith) l h

  pub path_reached : (w : ℕ) → w < length r.source → Reaches (source_inputs r) v w → reaches r v w ≡ true
  path_reached w l here = reaches_step v l ∙ simp (eq-eqb v v refl)
  path_reached w l (onward {v = u} p e) =
      reaches_step w l
      ∙ ap (λ (b : Bool). eqb v w || b) (any_at (reaches r v) (source_inputs r w) e (path_reached u (omega (arith, lower w u e)) p))
      ∙ or-true (eqb v w)
