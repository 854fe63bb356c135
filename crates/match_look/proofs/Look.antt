-- What the look at a candidate's kind, operator and counts is: the theorems that specs/Look states.
-- Assumes nothing.
use mathlib.Core.Path.{◌≡◌, sym, ap, ◌∙◌}
use mathlib.Core.Bool.{true, false, not, ◌&&◌, and-false}
use mathlib.Core.List.{List}
use mathlib.Core.Logic.{◌⊎◌, inl, inr, ⊎_elim}
use Prim.Native.Nat.{ℕ, ◌+◌, ◌<◌}
use native.Mathlib.Nat.{add-zero}
use native.Mathlib.Omega.{arith}
use borrow.Author.Tests.{eqb-true, eqb-false, eq-eqb, ne_eqb, not-false}
use lib.Dec.{eqb}
use lib.ListN.{length}
use Rattle.definitions.specs.Fields.{byte_at}
use Rattle.definitions.specs.Operators.{kind_empty}
use Rattle.definitions.specs.Graph.{slot_count, record_at, Slot, Graph, slot_from, graph_of, slot_of, is_vertex}
use Rattle.definitions.specs.Rule.{Pattern, Rule, source_of}
use Rattle.definitions.specs.Match.{image_of, Match}
use Rattle.laws.proofs.Lists.{decided, true_not_false, fails, needed}
use Rattle.laws.proofs.Members.{holds}
use Rattle.laws.proofs.Graph.{length-slots, slot_of_lem, length-inputs, length-attributes}
use Rattle.laws.proofs.Match.{image-inside}
use Rattle.match_look.specs.Head.{Head, head, slot_head, pattern_head, SameHead}
use Rattle.match_look.specs.Candidate.{head_fits}
use Rattle.match_look.specs.Look.{look, AnswersLook, TakesNothingElse, Differs, NoExactly, NoMatchAfterNo, NoMatchWhateverBytes}

-- ---- the four numbers

module _ (p s : Head) where
  pub wild-fits : p.kind ≡ kind_empty → head_fits p s ≡ not (eqb s.kind kind_empty)
  unfolding head_fits
  wild-fits e = rw (eq-eqb p.kind kind_empty e)

  pub same_fits : (p.kind ≡ kind_empty → ⊥) → SameHead p s → head_fits p s ≡ true
  unfolding head_fits
  same_fits h e = simp (
    ne_eqb p.kind kind_empty h,
    eq-eqb s.kind p.kind e.kind,
    eq-eqb s.operator p.operator e.operator,
    eq-eqb s.inputs p.inputs e.inputs,
    eq-eqb s.attributes p.attributes e.attributes,
  )

  pub fits_same : (p.kind ≡ kind_empty → ⊥) → head_fits p s ≡ true → SameHead p s
  unfolding head_fits
  fits_same h f =
      let all : (eqb s.kind p.kind && eqb s.operator p.operator && eqb s.inputs p.inputs
      && eqb s.attributes p.attributes) ≡ true = rw (ne_eqb p.kind kind_empty h) at f in
      record {
        kind = eqb-true s.kind p.kind (needed (eqb s.kind p.kind) all (λ z. simp z));
        operator = eqb-true s.operator p.operator (needed (eqb s.operator p.operator) all (λ z. simp (z, and-false)));
        inputs = eqb-true s.inputs p.inputs (needed (eqb s.inputs p.inputs) all (λ z. simp (z, and-false)));
        attributes = eqb-true s.attributes p.attributes (needed (eqb s.attributes p.attributes) all (λ z. simp (z, and-false)));
      }

-- four numbers that agree are the same head
same_head : (p s : Head) → SameHead p s → p ≡ s
same_head p s e =
    let same : head p.kind p.operator p.inputs p.attributes ≡ head s.kind s.operator s.inputs s.attributes = cc in
    same

-- ---- the theorems

pub answers_look : AnswersLook
answers_look p s pattern slot answer a b e = rw (← a, ← b) e

pub takes_nothing_else : TakesNothingElse
takes_nothing_else p q s t a b = rw (same_head (pattern_head p) (pattern_head q) a, same_head (slot_head s) (slot_head t) b)

-- where one of the four differs, they do not all agree
differ_apart : (p : Pattern ℕ) (s : Slot) → Differs p s → SameHead (pattern_head p) (slot_head s) → ⊥
unfolding slot_head pattern_head
differ_apart p s (inl h) e = h e.kind
differ_apart p s (inr (inl h)) e = h e.operator
differ_apart p s (inr (inr (inl h))) e = h e.inputs
differ_apart p s (inr (inr (inr h))) e = h e.attributes

-- and where they do not all agree, one differs
apart_differ : (p : Pattern ℕ) (s : Slot) → (SameHead (pattern_head p) (slot_head s) → ⊥) → Differs p s
unfolding slot_head pattern_head
apart_differ p s apart = number s.kind p.kind
    (λ k. number s.operator p.operator
    (λ o. number (length s.inputs) (length p.inputs)
    (λ n m. apart record { kind = k; operator = o; inputs = n; attributes = m })))
  where
    -- two numbers differ, or the rest does
    number : {Rest : Type 0} (x y : ℕ) → (x ≡ y → Rest) → (x ≡ y → ⊥) ⊎ Rest
    number x y rest = ⊎_elim
        (λ (t : eqb x y ≡ true). inr (rest (eqb-true x y t)))
        (λ (t : eqb x y ≡ false). inl (eqb-false x y t))
        (decided (eqb x y))

pub no_exactly : (p : Pattern ℕ) (s : Slot) → NoExactly p s
unfolding slot_head pattern_head
no_exactly p s = record {
  different = λ h. (
    λ f. apart_differ p s (λ same. true_not_false (same_fits (pattern_head p) (slot_head s) h same) f),
    λ d. fails (λ t. differ_apart p s d (fits_same (pattern_head p) (slot_head s) h t)),
  );
  empty = λ h.
      let wild : look p s ≡ not (eqb s.kind kind_empty) = wild-fits (pattern_head p) (slot_head s) h in (
        λ f. eqb-true s.kind kind_empty (not-false (eqb s.kind kind_empty) (sym wild ∙ f)),
        λ e. wild ∙ simp (eq-eqb s.kind kind_empty e),
      );
}

-- ---- what a match takes passes the look

pub match_passes : (g : Graph) (r : Rule) (images : List ℕ) → Match g r images → (j : ℕ) → j < length r.source
    → look (source_of r j) (slot_of g (image_of images j)) ≡ true
unfolding is_vertex slot_head pattern_head
match_passes g r images m j l = ⊎_elim
    (λ (t : eqb (source_of r j).kind kind_empty ≡ true).
    wild-fits (pattern_head (source_of r j)) (slot_head (slot_of g (image_of images j))) (eqb-true (source_of r j).kind kind_empty t)
    ∙ holds (is_vertex g (image_of images j)) (m.vertices j l))
    (λ (t : eqb (source_of r j).kind kind_empty ≡ false).
    let h = eqb-false (source_of r j).kind kind_empty t in
    let k = m.takes j l h in
    same_fits (pattern_head (source_of r j)) (slot_head (slot_of g (image_of images j))) h
    record { kind = k.kind; operator = k.operator; inputs = k.input_count; attributes = k.attribute_count })
    (decided (eqb (source_of r j).kind kind_empty))

pub no_match_after_no : NoMatchAfterNo
no_match_after_no r j s l f g v same images m e =
    let here : look (source_of r j) (slot_of g v) ≡ true = rw e at (match_passes g r images m j l) in
    true_not_false here (ap (head_fits (pattern_head (source_of r j))) (sym (same_head (slot_head s) (slot_head (slot_of g v)) same)) ∙ f)

-- the head of a slot is in the first four bytes of its record
head_bytes : (block other : List ℕ) (v : ℕ) → v < slot_count block → v < slot_count other
    → ((i : ℕ) → i < 4 → byte_at other (record_at v + i) ≡ byte_at block (record_at v + i))
    → SameHead (slot_head (slot_of (graph_of block) v)) (slot_head (slot_of (graph_of other) v))
unfolding slot_head slot_from
head_bytes block other v l k bytes = rw (slot_of_lem block v l, slot_of_lem other v k) record {
  kind = rw add-zero at (bytes 0 (omega arith));
  operator = bytes 1 (omega arith);
  inputs = length-inputs other (record_at v) ∙ bytes 2 (omega arith) ∙ sym (length-inputs block (record_at v));
  attributes = length-attributes other (record_at v) ∙ bytes 3 (omega arith) ∙ sym (length-attributes block (record_at v));
}

pub no_match_whatever_bytes : NoMatchWhateverBytes
no_match_whatever_bytes r j block v l inside f other bytes images m e =
    let within : v < slot_count other = omega (arith, image-inside (graph_of other) r images j m l, length-slots other) in
    no_match_after_no r j (slot_of (graph_of block) v) l f (graph_of other) v (head_bytes block other v inside within bytes) images m e
