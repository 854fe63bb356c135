-- Each vertex is visited once, so that the traversal visits no more vertices than there are; so where none is out of order, it visits
-- them all, in order.
-- Assumes nothing.
use mathlib.Core.Path.{◌≡◌, refl, sym, ◌∙◌}
use mathlib.Core.Bool.{true, false}
use mathlib.Core.List.Memᴰ
use mathlib.Core.List.{List, [], ◌∷◌, ◌++◌, Memᴰ}
use mathlib.Core.Logic.{◌⊎◌, inl, inr, ⊎_elim}
use Prim.Native.Nat.{ℕ, zero, suc, ◌<◌, ◌≤◌}
use native.Mathlib.Omega.{arith}
use borrow.Author.Tests.{eqb-true, not-false}
use lib.Dec.{eqb}
use lib.ListN.{length, get_or, get_or-eq_default}
use lib.Seq.{ext_get_or}
use Rattle.definitions.specs.Lists.{foldl, member, distinct, range}
use Rattle.definitions.specs.Paths.{Reads, visit}
use Rattle.definitions.specs.Rule.{Rule, source_inputs, traversal, out_of_order}
use Rattle.definitions.specs.Faults.{VisitedInOrder}
use Rattle.laws.proofs.Faults.{by_place}
use Rattle.laws.proofs.Lists.{decided, true_not_false, get_or_any}
use Rattle.laws.proofs.Members.{mem_member, distinct_last}
use Rattle.laws.proofs.Ranges.{length-range, range_at}
use Rattle.laws.proofs.Sums.{distinct_few}

-- no vertex comes twice, and all are below n
record Once (n : ℕ) (done : List ℕ) : Type 0 where
  apart : distinct done ≡ true
  inside : (w : ℕ) → Memᴰ w done → w < n

-- what is visited after `done` is below `bound`, and no vertex comes twice
record Adds (n bound : ℕ) (done after : List ℕ) : Type 0 where
  once : Once n after
  lower : (w : ℕ) → Memᴰ w after → Memᴰ w done ⊎ (w < bound)

module _ (n : ℕ) (f : List ℕ → ℕ → List ℕ) (one : (done : List ℕ) (v : ℕ) → v < n → Once n done → Adds n (suc v) done (f done v)) where
  each_adds : (bound : ℕ) → bound ≤ n → (vs done : List ℕ) → ((v : ℕ) → Memᴰ v vs → v < bound) → Once n done
      → Adds n bound done (foldl f done vs)
  unfolding foldl
  each_adds bound few [] done below once = record { once = once; lower = λ w m. inl m }
  each_adds bound few (v ∷ vs) done below once =
      let here = below v (Memᴰ.head refl) in
      let first = one done v (omega arith) once in
      let rest = each_adds bound few vs (f done v) (λ u m. below u (Memᴰ.tail m)) first.once in
      record {
        once = rest.once;
        lower = λ w m. ⊎_elim
            (λ (k : Memᴰ w (f done v)). ⊎_elim
            (λ (q : Memᴰ w done). inl q)
            (λ (l : w < suc v). inr (omega arith))
            (first.lower w k))
            (λ (l : w < bound). inr l)
            (rest.lower w m);
      }

module _ (r : Rule) (lower : (j u : ℕ) → Reads (source_inputs r) j u → u < j) (n : ℕ) where
  visit_adds : (d : ℕ) (done : List ℕ) (v : ℕ) → v < n → Once n done → Adds n (suc v) done (visit (source_inputs r) d done v)
  unfolding visit
  visit_adds zero done v l once = record { once = once; lower = λ w m. inl m }
  visit_adds (suc d) done v l once = ⊎_elim
      (λ (t : member v done ≡ true). rw t (record { once = once; lower = λ w m. inl m }))
      (λ (t : member v done ≡ false). rw t (entered (each_adds n (visit (source_inputs r) d) (visit_adds d) v (omega arith) (source_inputs r v) done (lower v) once) t))
      (decided (member v done))
    where
      entered : {after : List ℕ} → Adds n v done after → member v done ≡ false → Adds n (suc v) done (after ++ v ∷ [])
      entered {after} adds new = record {
        once = record {
          apart = distinct_last after v adds.once.apart (λ m. ⊎_elim
              (λ (k : Memᴰ v done). true_not_false (mem_member k) new)
              (λ (b : v < v). omega arith)
              (adds.lower v m));
          inside = λ w m. ⊎_elim
              (λ (k : Memᴰ w after). adds.once.inside w k)
              (λ (k : Memᴰ w (v ∷ [])). let e : w ≡ v = Memᴰ.eq_of_singleton k in omega arith)
              (Memᴰ.append_cases after m);
        };
        lower = λ w m. ⊎_elim
            (λ (k : Memᴰ w after). ⊎_elim
            (λ (q : Memᴰ w done). inl q)
            (λ (b : w < v). inr (omega arith))
            (adds.lower w k))
            (λ (k : Memᴰ w (v ∷ [])). let e : w ≡ v = Memᴰ.eq_of_singleton k in inr (omega arith))
            (Memᴰ.append_cases after m);
      }

-- The traversal of a rule whose source inputs are lower and whose source outputs are vertices visits at most as many vertices as there are.
pub traversal_few : (r : Rule) → ((j u : ℕ) → Reads (source_inputs r) j u → u < j)
    → ((o : ℕ) → Memᴰ o r.source_outputs → o < length r.source) → length (traversal r) ≤ length r.source
unfolding traversal distinct
traversal_few r lower outputs =
    let n = length r.source in
    let all = each_adds n (visit (source_inputs r) n) (visit_adds r lower n n) n (omega arith) r.source_outputs [] outputs
    (record { apart = refl; inside = λ w m. absurd (Memᴰ.not-nil m) }) in
    distinct_few n (traversal r) all.once.apart all.once.inside

module _ (r : Rule) where
  -- a source vertex that is in its place is visited there: past the traversal's end no vertex stands
  pub visited_in_order : (j : ℕ) → j < length r.source → out_of_order r j ≡ false → VisitedInOrder r j
  unfolding out_of_order
  visited_in_order j l f =
      let s = length r.source in
      let here : get_or (traversal r) j s ≡ j = eqb-true _ _ (not-false (eqb (get_or (traversal r) j s) j) f) in
      let inside : j < length (traversal r) = by_place (length (traversal r)) j (λ l. l)
      (λ past. absurd (omega (arith, sym here ∙ get_or-eq_default (traversal r) s past))) in
      (inside, get_or_any (traversal r) j 0 s inside ∙ here)

  -- Where none is out of order, the traversal is 0, 1, .. S - 1.
  pub traversal-whole : ((j u : ℕ) → Reads (source_inputs r) j u → u < j)
      → ((o : ℕ) → Memᴰ o r.source_outputs → o < length r.source)
      → ((j : ℕ) → j < length r.source → out_of_order r j ≡ false) → traversal r ≡ range 0 (length r.source)
  traversal-whole lower outputs each =
      let s = length r.source in
      let seen : (j : ℕ) → j < s → VisitedInOrder r j = λ j l. visited_in_order j l (each j l) in
      let whole : length (traversal r) ≡ s = by_place s (length (traversal r))
      (λ short. absurd (omega (arith, (seen (length (traversal r)) short).0)))
      (λ long. omega (arith, traversal_few r lower outputs)) in
      ext_get_or 0 (traversal r) (range 0 s) (whole ∙ sym (length-range s))
      (λ j l. let below : j < s = omega (arith, whole) in (seen j below).1 ∙ sym (range_at s j 0 below))
