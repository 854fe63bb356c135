-- What one turn of the loop does to the slots listed.
-- Assumes nothing.
use mathlib.Core.Path.{◌≡◌, refl, sym, ◌∙◌}
use mathlib.Core.Bool.{Bool, true, false}
use mathlib.Core.List.{List, [], ◌∷◌, ◌++◌, append-nil}
use mathlib.Core.Logic.{⊎_elim}
use Prim.Native.Nat.{ℕ, ◌+◌, ◌<◌, ◌≤◌}
use native.Mathlib.Numerals.{add-one}
use native.Mathlib.Omega.{arith}
use borrow.Author.Tests.{eqb-true, eqb-false, ltb-true, ltb-false}
use lib.Dec.{eqb, ltb}
use lib.ListN.{length, get_or, set, replicate, length-set, length-append, get_or-append, get_or-eq_default}
use lib.Seq.{get_or-set_same, get_or-set_other, get_or_at}
use Rattle.definitions.specs.Lists.{tabulate, filter, range}
use Rattle.definitions.specs.Graph.{unused_place}
use Rattle.definitions.specs.Rule.{side_capacity}
use Rattle.laws.proofs.Lists.{decided}
use Rattle.laws.proofs.Builds.{get_or_none}
use Rattle.laws.proofs.Filtered.{filtered_more}
use Rattle.new_slots.specs.Vacant.{marked, Lowest}

pub lowest_none : (marks : List Bool) → Lowest (marked marks 0) 0 (replicate side_capacity unused_place)
unfolding marked filter range tabulate
lowest_none marks = record { counted = refl; size = refl; each = λ t l. get_or_none side_capacity t unused_place }

module _ {free : List ℕ} {count : ℕ} {slots : List ℕ} (x : ℕ) (h : Lowest free count slots) where
  -- a slot more is counted
  counted_more : count + 1 ≡ length (free ++ x ∷ [])
  counted_more = simp length-append (omega (arith, h.counted))

  -- the lower ones stand where they stood
  lower_places : (t : ℕ) → t < side_capacity → t < count → get_or slots t unused_place ≡ get_or (free ++ x ∷ []) t unused_place
  lower_places t l below = h.each t l ∙ sym (get_or-append free (x ∷ []) unused_place t (omega (arith, h.counted)))

  -- one more slot, where there is a place for it
  lowest_put : count < side_capacity → Lowest (free ++ x ∷ []) (count + 1) (set slots count x)
  lowest_put l = record {
    counted = counted_more;
    size = simp length-set h.size;
    each = λ t m. ⊎_elim
        (λ (s : eqb t count ≡ true). rw (eqb-true t count s)
        (get_or-set_same slots count x unused_place (omega (arith, h.size))
        ∙ sym (get_or_at free x [] unused_place count (sym h.counted))))
        (λ (s : eqb t count ≡ false).
        get_or-set_other slots count t x unused_place (eqb-false t count s) ∙ ⊎_elim
        (λ (b : ltb t count ≡ true). lower_places t m (ltb-true t count b))
        (λ (b : ltb t count ≡ false).
        h.each t m
        ∙ get_or-eq_default free unused_place (omega (arith, h.counted, ltb-false t count b))
        ∙ sym (get_or-eq_default (free ++ x ∷ []) unused_place
        (omega (arith, counted_more, ltb-false t count b, eqb-false t count s))))
        (decided (ltb t count)))
        (decided (eqb t count));
  }

  -- and where there is none
  lowest_past : side_capacity ≤ count → Lowest (free ++ x ∷ []) (count + 1) slots
  lowest_past l = record { counted = counted_more; size = h.size; each = λ t m. lower_places t m (omega arith) }

-- the list of the marked slots, when one more slot is looked at
module _ (marks : List Bool) (k : ℕ) where
  marked_more : get_or marks k false ≡ true → marked marks (k + 1) ≡ marked marks k ++ k ∷ []
  unfolding marked
  marked_more t = rw add-one (filtered_more (λ i. get_or marks i false) k ∙ simp t)

  marked_same : get_or marks k false ≡ false → marked marks (k + 1) ≡ marked marks k
  unfolding marked
  marked_same t = rw add-one (filtered_more (λ i. get_or marks i false) k ∙ simp (t, append-nil))

module _ (marks : List Bool) (k : ℕ) {count : ℕ} {slots : List ℕ} (h : Lowest (marked marks k) count slots) where
  -- a marked slot is listed where there is a place for it, and counted
  pub lowest-listed : get_or marks k false ≡ true → count < side_capacity → Lowest (marked marks (k + 1)) (count + 1) (set slots count k)
  lowest-listed t l = rw (marked_more marks k t) (lowest_put k h l)

  pub lowest-counted : get_or marks k false ≡ true → side_capacity ≤ count → Lowest (marked marks (k + 1)) (count + 1) slots
  lowest-counted t l = rw (marked_more marks k t) (lowest_past k h l)

  -- another one is neither
  pub lowest_pass : get_or marks k false ≡ false → Lowest (marked marks (k + 1)) count slots
  lowest_pass t = rw (marked_same marks k t) h
