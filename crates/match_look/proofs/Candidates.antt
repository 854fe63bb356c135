-- What is known of a candidate, and why the image of a source vertex under a match always is one.
-- Assumes nothing.
use mathlib.Core.Path.{◌≡◌, refl, sym, ap, ◌∙◌}
use mathlib.Core.Bool.{true, false, and-false, or-true}
use mathlib.Core.List.{List, []}
use mathlib.Core.Logic.{⊎_elim}
use Prim.Native.Nat.{ℕ, suc, ◌<◌, ◌≤◌}
use native.Mathlib.Omega.{arith}
use borrow.Author.Tests.{eqb-true, eqb-false, eq-eqb, ne_eqb}
use lib.Dec.{eqb}
use lib.ListN.{length, get_or}
use Rattle.definitions.specs.Lists.{member}
use Rattle.definitions.specs.Operators.{kind_empty}
use Rattle.definitions.specs.Paths.{Reads}
use Rattle.definitions.specs.Graph.{Graph, slot_of, inputs_of, is_vertex, true_count}
use Rattle.definitions.specs.Rule.{Rule, anything, source_of, source_count, source_inputs, is_rule_input, accesses_below}
use Rattle.definitions.specs.Match.{image_of, is_interior, must_be_private, Match, places_of}
use Rattle.rule_fields.specs.Fixed.{fixed_of}
use Rattle.laws.proofs.Lists.{decided, and_left, and_right, needed}
use Rattle.laws.proofs.Members.{true_holds, mem-place}
use Rattle.laws.proofs.Match.{image-inside, match_inputs}
use Rattle.laws.proofs.Rule.{source-reader, wild_input}
use Rattle.rule_fields.proofs.Fixed.{length-source}
use Rattle.rule_uses.specs.Demands.{demand_of}
use Rattle.theory.proofs.Inside.{private_uses}
use Rattle.match_look.specs.Head.{Head, slot_head, pattern_head, SameHead}
use Rattle.match_look.specs.Candidate.{passes_look, uses_fit, suits, is_candidate}
use Rattle.match_look.specs.Look.{look}
use Rattle.match_look.specs.Setting.{Matchable}
use Rattle.match_look.proofs.Look.{wild-fits, fits_same, match_passes}

-- ---- the demand

demand_met : (places uses : ℕ) → uses ≡ places → uses_fit (suc places) uses ≡ true
unfolding uses_fit
demand_met places uses e = simp (eq-eqb (suc places) (suc uses) (ap suc (sym e)), or-true)

no_demand : (uses : ℕ) → uses_fit 0 uses ≡ true
unfolding uses_fit
no_demand uses = simp (eq-eqb 0 0 refl)

met_demand : (places uses : ℕ) → uses_fit (suc places) uses ≡ true → uses ≡ places
unfolding uses_fit
met_demand places uses f =
    let same : eqb (suc places) (suc uses) ≡ true =
    needed (eqb (suc places) (suc uses)) f (λ z. simp (z, ne_eqb (suc places) 0 (λ e. omega arith))) in
    omega (arith, eqb-true (suc places) (suc uses) same)

-- a candidate for source vertex j, by its head and its demand
pub candidate_suits : (g : Graph) (r : Rule) (j v : ℕ) (head : Head) (demand : ℕ) → head ≡ pattern_head (source_of r j)
    → demand ≡ demand_of r j → suits head demand g v ≡ is_candidate g r j v
unfolding is_candidate
candidate_suits g r j v head demand h d = rw (h, d)

-- an output may be used from anywhere, so that the look alone makes a candidate for it
pub output_candidate : (g : Graph) (r : Rule) (o v : ℕ) → member o r.source_outputs ≡ true
    → passes_look (pattern_head (source_of r o)) g v ≡ true → is_candidate g r o v ≡ true
unfolding is_candidate suits demand_of must_be_private is_interior
output_candidate g r o v m t = simp (t, m, and-false, no_demand (true_count g v))

-- ---- a rule that can be matched

pub record Formed (r : Rule) : Type 0 where
  pub lower : (j u : ℕ) → Reads (source_inputs r) j u → u < j
  pub plain : (j : ℕ) → is_rule_input r j ≡ true → source_inputs r j ≡ []
  pub bare : (j : ℕ) → (source_of r j).kind ≡ kind_empty → (source_of r j).attributes ≡ []
  pub below : (j i : ℕ) → j < length r.source → i < length (source_of r j).attributes
      → accesses_below j (get_or (source_of r j).attributes i anything) ≡ true

module _ (block : List ℕ) (m : Matchable block) where
  inputs_lower : (j u : ℕ) → Reads (source_inputs (fixed_of block)) j u → u < j
  inputs_lower j u reads =
      let inside : j < source_count block = rw (length-source block) at (source-reader (fixed_of block) j u reads) in
      let found = mem-place 255 reads in
      rw found.2 at (m.layered.lower j found.0 inside found.1)

  pub formed : Formed (fixed_of block)
  formed = record {
    lower = inputs_lower;
    plain = m.plain;
    bare = m.bare;
    below = λ j i l. m.below j i (rw (length-source block) at l);
  }

-- ---- what a candidate is

module _ (g : Graph) (r : Rule) (j v : ℕ) (fits : is_candidate g r j v ≡ true) where
  pub candidate_looked : look (source_of r j) (slot_of g v) ≡ true
  unfolding is_candidate suits passes_look
  candidate_looked = and_left (look (source_of r j) (slot_of g v)) (uses_fit (demand_of r j) (true_count g v)) fits

  uses : uses_fit (demand_of r j) (true_count g v) ≡ true
  unfolding is_candidate suits passes_look
  uses = and_right (look (source_of r j) (slot_of g v)) (uses_fit (demand_of r j) (true_count g v)) fits

  pub candidate_same : ((source_of r j).kind ≡ kind_empty → ⊥) → SameHead (pattern_head (source_of r j)) (slot_head (slot_of g v))
  unfolding pattern_head
  candidate_same h = fits_same (pattern_head (source_of r j)) (slot_head (slot_of g v)) h candidate_looked

  pub candidate_vertex : is_vertex g v ≡ true
  unfolding is_vertex slot_head pattern_head
  candidate_vertex = ⊎_elim
      (λ (t : eqb (source_of r j).kind kind_empty ≡ true).
      sym (wild-fits (pattern_head (source_of r j)) (slot_head (slot_of g v)) (eqb-true (source_of r j).kind kind_empty t)) ∙ candidate_looked)
      (λ (t : eqb (source_of r j).kind kind_empty ≡ false).
      let h = eqb-false (source_of r j).kind kind_empty t in
      let same = candidate_same h in
      simp (ne_eqb (slot_of g v).kind kind_empty (λ e. h (sym same.kind ∙ e))))
      (decided (eqb (source_of r j).kind kind_empty))

  pub candidate_uses : must_be_private r j ≡ true → true_count g v ≡ places_of r j
  unfolding demand_of
  candidate_uses t = met_demand (places_of r j) (true_count g v) (rw t at uses)

-- a candidate has as many inputs and attributes as its source vertex, or more
module _ (g : Graph) (r : Rule) (f : Formed r) (j v : ℕ) (l : j < length r.source) (fits : is_candidate g r j v ≡ true) where
  pub candidate_inputs : length (source_inputs r j) ≤ length (inputs_of g v)
  unfolding slot_head pattern_head
  candidate_inputs = ⊎_elim
      (λ (t : eqb (source_of r j).kind kind_empty ≡ true).
      rw (f.plain j (wild_input r j l (eqb-true (source_of r j).kind kind_empty t))) (omega arith))
      (λ (t : eqb (source_of r j).kind kind_empty ≡ false).
      omega (arith, (candidate_same g r j v fits (eqb-false (source_of r j).kind kind_empty t)).inputs))
      (decided (eqb (source_of r j).kind kind_empty))

  pub candidate_attributes : length (source_of r j).attributes ≤ length (slot_of g v).attributes
  unfolding slot_head pattern_head
  candidate_attributes = ⊎_elim
      (λ (t : eqb (source_of r j).kind kind_empty ≡ true).
      rw (f.bare j (eqb-true (source_of r j).kind kind_empty t)) (omega arith))
      (λ (t : eqb (source_of r j).kind kind_empty ≡ false).
      omega (arith, (candidate_same g r j v fits (eqb-false (source_of r j).kind kind_empty t)).attributes))
      (decided (eqb (source_of r j).kind kind_empty))

-- ---- an image under a match is a candidate

module _ (g : Graph) (r : Rule) (f : Formed r) (whole : List ℕ) (m : Match g r whole) where
  input_inside : (j u : ℕ) → Reads (source_inputs r) j u → u < length r.source
  input_inside j u reads = omega (arith, f.lower j u reads, source-reader r j u reads)

  module _ (j : ℕ) (l : j < length r.source) where
    match_uses : uses_fit (demand_of r j) (true_count g (image_of whole j)) ≡ true
    unfolding demand_of
    match_uses = ⊎_elim
        (λ (t : must_be_private r j ≡ true).
        rw t (demand_met (places_of r j) (true_count g (image_of whole j))
        (private_uses g r whole f.plain input_inside (λ i k. image-inside g r whole i m k) m.injective (match_inputs g r whole m) j l
        (m.interior j l (true_holds (must_be_private r j) t)))))
        (λ (t : must_be_private r j ≡ false). rw t (no_demand (true_count g (image_of whole j))))
        (decided (must_be_private r j))

    pub match_candidate : (v : ℕ) → image_of whole j ≡ v → is_candidate g r j v ≡ true
    unfolding is_candidate suits passes_look
    match_candidate v e = rw (← e) (simp (match_passes g r whole m j l, match_uses))
