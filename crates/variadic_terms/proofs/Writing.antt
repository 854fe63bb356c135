-- Nodes that are written one after the other.
-- Assumes nothing.
use mathlib.Core.Path.{◌≡◌, refl, ap, ◌∙◌}
use mathlib.Core.Bool.{Bool, true, false, cond}
use mathlib.Core.List.{List, ◌++◌}
use mathlib.Core.Logic.{⊎_elim}
use Prim.Native.Nat.{ℕ, ◌+◌, ◌-◌, ◌*◌, ◌≤◌}
use native.Mathlib.Omega.{arith}
use borrow.Author.Tests.{ltb-true, ltb-false}
use lib.Dec.{eqb, ltb}
use lib.ListN.{length, get_or, take, drop, get_or-append}
use lib.Seq.{length-take-le, get_or-append-add, get_or-take}
use Rattle.definitions.specs.Fields.{byte_at}
use Rattle.definitions.specs.Rule.{node_bytes, form_any, form_constant, form_access, form_index, form_sum, node_form}
use Rattle.laws.proofs.Lists.{decided}
use Rattle.laws.proofs.Parts.{put_part, length_part}
use Rattle.variadic_terms.specs.declared.Term.{Term}
use Rattle.variadic_terms.specs.Terms.{term_bytes, any_term, constant_term, access_term, operation_term, constant_at, access_at, plain_term, sum_term, term_at, term_numbered, bottom, TermWritten, WrittenBelow}

-- a part that is lent on and comes back
pub node-written : (m : ℕ) (t : Term) (before : List ℕ) → node_bytes * (m + 1) ≤ length before
    → TermWritten m t before (put_part (node_bytes * m) (node_bytes * m + node_bytes) before (term_bytes t))
unfolding term_bytes
node-written m t before l =
    let at = node_bytes * m in
    let rest = drop (at + node_bytes - at) (drop at before) in
    let size : length (take at before) ≡ at = length-take-le at before (omega arith) in
    record {
      size = length_part at (at + node_bytes) before (term_bytes t) (omega arith) (omega arith) (omega arith);
      here = λ j s.
          let e : at + j ≡ length (take at before) + j = omega arith in
          ap (byte_at (take at before ++ (term_bytes t ++ rest))) e ∙ get_or-append-add (take at before) (term_bytes t ++ rest) j 0
          ∙ get_or-append (term_bytes t) rest 0 j s;
      earlier = λ p s.
          get_or-append (take at before) (term_bytes t ++ rest) 0 p (omega arith) ∙ get_or-take at before p 0 s;
    }

module _ (block : List ℕ) (number : ℕ → ℕ) (n : ℕ) where
  pub none_written : (before : List ℕ) → WrittenBelow block number n 0 before before
  none_written before = record { size = refl; bytes = λ m j l s. absurd (omega arith) }

  pub one_more : (count : ℕ) (t : Term) (first before after : List ℕ) → WrittenBelow block number n count first before
      → t ≡ term_numbered block number n count → TermWritten count t before after → WrittenBelow block number n (count + 1) first after
  one_more count t first before after w e h = record {
    size = h.size ∙ w.size;
    bytes = λ m j l s.
        ⊎_elim (λ (q : ltb m count ≡ true).
        let lower = ltb-true m count q in
        h.earlier (node_bytes * m + j) (omega arith) ∙ w.bytes m j lower s)
        (λ (q : ltb m count ≡ false).
        let same : m ≡ count = omega (arith, ltb-false m count q) in
        rw same (h.here j s ∙ ap (λ (u : Term). get_or (term_bytes u) j 0) e))
        (decided (ltb m count));
  }

-- ---- a node's number has four bytes

either : (P : Term → Type 0) (b : Bool) (s t : Term) → P s → P t → P (cond b s t)
either P true s t p q = p
either P false s t p q = q

abbrev Sized : Term → Type 0
Sized t = length t.number ≡ 4

module _ (block : List ℕ) (number : ℕ → ℕ) (n : ℕ) where
  plain-sized : (k i : ℕ) → Sized (plain_term block number n k i)
  unfolding plain_term any_term constant_term constant_at access_term access_at operation_term
  plain-sized k i =
      either Sized (eqb (node_form block k) form_any) any_term _ refl
      (either Sized (eqb (node_form block k) form_constant) (constant_at block k) _ refl
      (either Sized (eqb (node_form block k) form_access) (access_at block number n k i) _ refl
      (either Sized (eqb (node_form block k) form_index) (constant_term i 0 0 0) _ refl refl)))

  pub number-sized : (k i : ℕ) → Sized (term_at block number n k i)
  unfolding term_at sum_term any_term operation_term
  number-sized k i =
      either Sized (eqb (node_form block k) form_sum) (sum_term block number n k i) (plain_term block number n k i)
      (either Sized (eqb i 0) any_term _ refl
      (either Sized (eqb n 1) (plain_term block number n (bottom block k) i) _ (plain-sized (bottom block k) i)
      (either Sized (eqb i 1) any_term _ refl refl)))
      (plain-sized k i)
