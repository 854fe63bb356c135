-- How large the counts of a rule can be, and arrays of demands.
-- Assumes nothing.
use mathlib.Core.Path.{◌≡◌, refl, sym, ap, ◌∙◌}
use mathlib.Core.Bool.{true, false, cond}
use mathlib.Core.List.{List}
use mathlib.Core.Logic.{⊎_elim}
use Prim.Native.Nat.{ℕ, ◌+◌, ◌*◌, ◌<◌, ◌≤◌}
use native.Mathlib.Omega.{arith}
use borrow.Author.Tests.{ltb-true, ltb-false, lt-ltb, le-ltb}
use lib.Dec.{ltb}
use lib.ListN.{set}
use Rattle.definitions.specs.Rule.{Rule, source_count, source_inputs}
use Rattle.definitions.specs.Match.{must_be_private, places_of}
use Rattle.rule_fields.specs.Fixed.{fixed_of}
use Rattle.laws.specs.Counted.{Counted}
use Rattle.laws.proofs.Lists.{decided}
use Rattle.rule_fields.proofs.Fixed.{length-source, source-count-at}
use Rattle.laws.proofs.Counts.{counted_put, reads-most}
use Rattle.rule_fields.specs.Layout.{ReadableRule}
use Rattle.rule_uses.specs.Countable.{places_below}
use Rattle.rule_uses.specs.Demands.{demand_of}

-- the source vertices below the last one are all
pub places-all : (block : List ℕ) (w j : ℕ) → w ≡ source_count block → places_below (fixed_of block) w j ≡ places_of (fixed_of block) j
unfolding places_of
places-all block w j e = ap (λ (n : ℕ). places_below (fixed_of block) n j) (e ∙ sym (length-source block))

module _ {block : List ℕ} (readable : ReadableRule block) where
  pub places_below_most : (w j : ℕ) → w ≤ source_count block → places_below (fixed_of block) w j ≤ 6 * w
  places_below_most w j h = reads-most (source_inputs (fixed_of block)) w j
      (λ u l. omega (arith, source-count-at block u (omega arith), readable.inputs u (omega arith)))

  pub places-most : (j : ℕ) → places_of (fixed_of block) j ≤ 6 * source_count block
  places-most j = omega (
    arith,
    places-all block (source_count block) j refl,
    places_below_most (source_count block) j (omega arith),
  )

-- ---- demands: below j what is demanded, and from j on the number of places

pub demanded : Rule → ℕ → ℕ → ℕ
demanded r j v = cond (ltb v j) (demand_of r v) (places_of r v)

module _ (r : Rule) where
  pub demanded_below : (j v : ℕ) → v < j → demanded r j v ≡ demand_of r v
  unfolding demanded
  demanded_below j v l = simp (lt-ltb v j l)

  pub demanded_from : (j v : ℕ) → j ≤ v → demanded r j v ≡ places_of r v
  unfolding demanded
  demanded_from j v l = simp (le-ltb v j l)

  pub demanded_one : {n : ℕ} {xs : List ℕ} (j x : ℕ) → j < n → x ≡ demand_of r j → Counted n (demanded r j) xs
      → Counted n (demanded r (j + 1)) (set xs j x)
  demanded_one j x l e c = counted_put j x l (e ∙ sym (demanded_below (j + 1) j (omega arith)))
      (λ v other. ⊎_elim
      (λ (t : ltb v j ≡ true).
      demanded_below j v (ltb-true v j t) ∙ sym (demanded_below (j + 1) v (omega (arith, ltb-true v j t))))
      (λ (t : ltb v j ≡ false).
      demanded_from j v (ltb-false v j t) ∙ sym (demanded_from (j + 1) v (omega (arith, ltb-false v j t, other))))
      (decided (ltb v j))) c

  -- what is demanded where the image must be private, and where not
  pub demand_inner : (j : ℕ) → must_be_private r j ≡ true → places_of r j + 1 ≡ demand_of r j
  unfolding demand_of
  demand_inner j t = simp t (omega arith)

  pub demand_outer : (j : ℕ) → must_be_private r j ≡ false → 0 ≡ demand_of r j
  unfolding demand_of
  demand_outer j t = simp t
