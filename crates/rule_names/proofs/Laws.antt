-- Place numbers, and the marks at them while the places of a list are marked one after the other.
-- Assumes nothing.
use mathlib.Core.Path.{◌≡◌, refl, sym, ap, ◌∙◌}
use mathlib.Core.Bool.{Bool, true, false, ◌||◌, or-true, or-false, or_assoc}
use mathlib.Core.List.{List}
use mathlib.Core.Logic.{◌⊎◌, inl, inr, ⊎_elim}
use Prim.Native.Nat.{ℕ, ◌+◌, ◌-◌, ◌<◌, ◌≤◌}
use native.Mathlib.Omega.{arith}
use borrow.Author.Tests.{lt-ltb, le-ltb, ltb-true, ltb-false, eq-eqb, ne_eqb, eqb-true, eqb-false}
use lib.Dec.{eqb, ltb}
use lib.ListN.{length, get_or, drop, set, replicate, length-set}
use lib.Seq.{get_or-set_same, get_or-set_other}
use Rattle.definitions.specs.Lists.{any}
use Rattle.definitions.specs.Rule.{place_numbers, Origin, Pattern, Rule, given, made, origin_by, wildcard, target_of, same_origin, named}
use Rattle.laws.proofs.Lists.{decided}
use Rattle.laws.proofs.Walks.{any_next, any_ends}
use Rattle.laws.proofs.Builds.{get_or_none}
use Rattle.rule_names.specs.Marks.{holds, MarksAdded}

-- ---- place numbers

-- two place numbers name the same only where they are the same
pub same_place : (base p q : ℕ) → same_origin (origin_by base p) (origin_by base q) ≡ eqb p q
unfolding origin_by same_origin
same_place base p q = go (decided (ltb p base)) (decided (ltb q base))
  where
    go : (ltb p base ≡ true) ⊎ (ltb p base ≡ false) → (ltb q base ≡ true) ⊎ (ltb q base ≡ false)
        → same_origin (origin_by base p) (origin_by base q) ≡ eqb p q
    go (inl s) (inl t) = simp (s, t)
    go (inl s) (inr t) = simp (s, t) (sym (ne_eqb p q (λ e. omega (arith, ltb-true p base s, ltb-false q base t))))
    go (inr s) (inl t) = simp (s, t) (sym (ne_eqb p q (λ e. omega (arith, ltb-false p base s, ltb-true q base t))))
    go (inr s) (inr t) = simp (s, t) (⊎_elim
        (λ (e : eqb p q ≡ true). eq-eqb (p - base) (q - base) (ap (λ (n : ℕ). n - base) (eqb-true p q e)) ∙ sym e)
        (λ (e : eqb p q ≡ false).
        ne_eqb (p - base) (q - base) (λ h. eqb-false p q e (omega (arith, ltb-false p base s, ltb-false q base t))) ∙ sym e)
        (decided (eqb p q)))

pub given_place : (base j : ℕ) → j < base → origin_by base j ≡ given j
unfolding origin_by
given_place base j l = simp (lt-ltb j base l)

pub made-place : (base t : ℕ) → origin_by base (base + t) ≡ made t
unfolding origin_by
made-place base t = rw (le-ltb (base + t) base (omega arith)) (ap made (omega arith))

-- ---- the places of a list

-- nothing is left to look at
mark-ends {ℓ} : {A : Type ℓ} (q : A → Bool) (xs : List A) (i : ℕ) {m b : Bool} → length xs ≤ i
    → (m || any q (drop i xs)) ≡ b → m ≡ b
mark-ends q xs i {m} l h =
    sym (or-false m) ∙ ap (λ (t : Bool). m || t) (sym (any_ends q xs i refl l)) ∙ h

-- The places before i are marked: what is marked, or held by a place that is left, is what was marked or is held by any.
pub record Marking (base : ℕ) (xs : List Origin) (i : ℕ) (before used : List Bool) : Type 0 where
  pub long : length used ≡ place_numbers
  pub marks : (p : ℕ) → (get_or used p false || holds base p (drop i xs)) ≡ (get_or before p false || holds base p xs)

module _ (base : ℕ) (xs : List Origin) (i : ℕ) {before used : List Bool} (so_far : Marking base xs i before used) where
  pub marking_more : (x : ℕ) (d : Origin) → x < place_numbers → i < length xs → origin_by base x ≡ get_or xs i d
      → Marking base xs (i + 1) before (set used x true)
  marking_more x d l m e = record { long = simp length-set so_far.long; marks = λ p. kept p ∙ so_far.marks p }
    where
      next : (p : ℕ) → holds base p (drop i xs) ≡ (eqb p x || holds base p (drop (i + 1) xs))
      next p = any_next xs i d m (same_origin (origin_by base p))
          ∙ ap (λ (b : Bool). b || holds base p (drop (i + 1) xs)) (ap (same_origin (origin_by base p)) (sym e) ∙ same_place base p x)

      kept : (p : ℕ) → (get_or (set used x true) p false || holds base p (drop (i + 1) xs)) ≡ (get_or used p false || holds base p (drop i xs))
      kept p =
          ⊎_elim (λ (t : eqb p x ≡ true).
          ap (λ (b : Bool). b || holds base p (drop (i + 1) xs))
          (ap (λ (k : ℕ). get_or (set used x true) k false) (eqb-true p x t) ∙ get_or-set_same used x true false (rw so_far.long l))
          ∙ sym (ap (λ (b : Bool). get_or used p false || b) (next p ∙ simp t) ∙ or-true (get_or used p false)))
          (λ (t : eqb p x ≡ false).
          ap (λ (b : Bool). b || holds base p (drop (i + 1) xs)) (get_or-set_other used x p true false (eqb-false p x t))
          ∙ sym (ap (λ (b : Bool). get_or used p false || b) (next p ∙ simp t)))
          (decided (eqb p x))

  pub marking_ends : length xs ≤ i → MarksAdded base xs before used
  marking_ends l = record { long = so_far.long; marks = λ p. mark-ends (same_origin (origin_by base p)) xs i l (so_far.marks p) }

-- ---- the inputs of all target vertices

-- some input of a target vertex holds the place number p
abbrev vertex_holds : ℕ → ℕ → Pattern Origin → Bool
vertex_holds base p q = holds base p q.inputs

-- The target vertices before t are marked, from no marks on.
pub record VerticesMarking (base : ℕ) (r : Rule) (t : ℕ) (used : List Bool) : Type 0 where
  pub long : length used ≡ place_numbers
  pub marks : (p : ℕ) → (get_or used p false || any (vertex_holds base p) (drop t r.target)) ≡ any (vertex_holds base p) r.target

pub vertices-begin : (base : ℕ) (r : Rule) → VerticesMarking base r 0 (replicate place_numbers false)
vertices-begin base r = record { long = refl; marks = λ p. ap (λ (b : Bool). b || any (vertex_holds base p) r.target) (get_or_none place_numbers p false) }

module _ (base : ℕ) (r : Rule) (t : ℕ) {used : List Bool} (so_far : VerticesMarking base r t used) where
  pub vertices_more : {after : List Bool} → t < length r.target → MarksAdded base (target_of r t).inputs used after
      → VerticesMarking base r (t + 1) after
  unfolding target_of
  vertices_more {after = after} l one = record { long = one.long; marks = λ p. kept p ∙ so_far.marks p }
    where
      kept : (p : ℕ) → (get_or after p false || any (vertex_holds base p) (drop (t + 1) r.target))
          ≡ (get_or used p false || any (vertex_holds base p) (drop t r.target))
      kept p =
          ap (λ (b : Bool). b || any (vertex_holds base p) (drop (t + 1) r.target)) (one.marks p)
          ∙ or_assoc (get_or used p false) (vertex_holds base p (target_of r t)) (any (vertex_holds base p) (drop (t + 1) r.target))
          ∙ ap (λ (b : Bool). get_or used p false || b) (sym (any_next r.target t wildcard l (vertex_holds base p)))

  -- with the outputs, every place is marked
  pub all-marked : {after : List Bool} → length r.target ≤ t → MarksAdded base r.target_outputs used after
      → (p : ℕ) → get_or after p false ≡ named r (origin_by base p)
  unfolding named
  all-marked l one p =
      one.marks p ∙ ap (λ (b : Bool). b || holds base p r.target_outputs) (mark-ends (vertex_holds base p) r.target t {m = get_or used p false} l (so_far.marks p))
