-- Of two source outputs the second is visited after the first: a visit of the first adds what is read alone, and no output is read.
-- Assumes nothing.
use mathlib.Core.Path.{◌≡◌, refl, sym, subst}
use mathlib.Core.Bool.{Bool, true, false, not, ◌&&◌}
use mathlib.Core.List.{[], ◌∷◌, Memᴰ}
use mathlib.Core.Logic.{◌⊎◌, inl, inr, ⊎_elim}
use Prim.Native.Nat.{ℕ, suc, ◌<◌, max}
use native.Mathlib.Omega.{arith}
use borrow.Author.Tests.{not-true, ltb-true, ltb-false}
use lib.Dec.{ltb}
use Rattle.definitions.specs.Lists.{within, all, any, member, distinct, range}
use Rattle.definitions.specs.Operators.{kind_call, kind_proj}
use Rattle.definitions.specs.Paths.{Reads, visit}
use Rattle.definitions.specs.Rule.{Pattern, Rule, wildcard, source_of, source_inputs, source_outputs_fit}
use Rattle.laws.proofs.Lists.{decided, true_not_false, and_left, and_right, all-member, any-member}
use Rattle.laws.proofs.Members.{mem-at, mem_member, distinct-places, mem_range, range_mem}
use Rattle.laws.proofs.Rule.{source-reader}
use Rattle.theory.proofs.Fixing.{Every, visit_every}
use Rattle.rule_order.specs.InOrder.{InOrder}
use Rattle.rule_order.proofs.InOrder.{in_order_visits}

module _ (r : Rule) (o q : ℕ) (outputs : r.source_outputs ≡ o ∷ q ∷ []) (fit : source_outputs_fit r ≡ true) where
  abbrev good : ℕ → Bool
  good k = within kind_call (source_of r k).kind kind_proj && not (any (λ p. member k p.inputs) r.source)

  apart : q ≡ o → ⊥
  unfolding source_outputs_fit
  apart e =
      let d : distinct (o ∷ q ∷ []) ≡ true = rw outputs at (and_left (distinct r.source_outputs) (all good r.source_outputs) fit) in
      let same : ◌≡◌ {A = ℕ} 0 1 = distinct-places (o ∷ q ∷ []) 0 0 1 d (omega arith) (omega arith) (sym e) in
      omega arith

  unread : (w : ℕ) → Reads (source_inputs r) w q → ⊥
  unfolding source_outputs_fit source_of
  unread w m =
      let listed : Memᴰ q r.source_outputs = subst (Memᴰ q) (sym outputs) (mathlib.Core.List.Memᴰ.tail (mathlib.Core.List.Memᴰ.head refl)) in
      let reads : Pattern ℕ → Bool = λ p. member q p.inputs in
      let fits : good q ≡ true =
      all-member good (and_right (distinct r.source_outputs) (all good r.source_outputs) fit) listed in
      true_not_false (any-member reads (mem-at r.source w wildcard (source-reader r w q m)) (mem_member m))
      (not-true (any reads r.source) (and_right (within kind_call (source_of r q).kind kind_proj) (not (any reads r.source)) fits))

  -- what a visit of the first output adds
  Added : ℕ → Type 0
  Added v = (v ≡ o) ⊎ ((w : ℕ) × Reads (source_inputs r) w v)

  visited : (d : ℕ) → Every Added (visit (source_inputs r) d (range 0 0) o)
  unfolding Added
  visited d =
      visit_every r Added (λ w u m. inr (w, m)) d (range 0 0) o (inl refl) (λ v m. let low = (range_mem 0 0 m).1 in absurd (omega arith))

  pub later : InOrder r 0 (o ∷ q ∷ []) → o < q
  unfolding Added
  later order = ⊎_elim
      (λ (t : ltb o q ≡ true). ltb-true o q t)
      (λ (t : ltb o q ≡ false).
      let early = ltb-false o q t in
      let among : Memᴰ q (visit (source_inputs r) order.depth (range 0 0) o) =
      rw (in_order_visits r 0 o (q ∷ []) order) (mem_range 0 (max 0 (suc o)) q (omega arith) (omega arith)) in
      ⊎_elim (λ (e : q ≡ o). absurd (apart e)) (λ (found : (w : ℕ) × Reads (source_inputs r) w q). absurd (unread found.0 found.1))
      (visited order.depth q among))
      (decided (ltb o q))
