-- What marks stand for, and what one turn of the loop does to them.
-- Assumes nothing.
use mathlib.Core.Path.{◌≡◌, sym, ap, ◌∙◌}
use mathlib.Core.Bool.{Bool, true, false, not, ◌&&◌, ◌||◌, or-true, or-false, not-not}
use mathlib.Core.List.{List}
use mathlib.Core.Logic.{⊎_elim}
use Prim.Native.Nat.{ℕ, ◌+◌, ◌<◌, ◌≤◌}
use native.Mathlib.Numerals.{add-one}
use native.Mathlib.Omega.{arith}
use borrow.Author.Tests.{eq-eqb, ne_eqb, eqb-true, eqb-false}
use lib.Dec.{eqb}
use lib.ListN.{length, get_or, set, length-set}
use lib.Seq.{get_or-set_same, get_or-set_other}
use Rattle.definitions.specs.Lists.{any_below, tabulate, padded}
use Rattle.definitions.specs.Graph.{slot_limit, slot_count, stored_count, Graph, graph_of, is_vertex}
use Rattle.definitions.specs.Rule.{source_count, Rule}
use Rattle.definitions.specs.Match.{image_of, places_of}
use Rattle.definitions.specs.Rewriting.{goes, is_removed, stays}
use Rattle.laws.proofs.Lists.{decided, length-tabulate, get_or_tabulate, and_left, and_right, any_below-found, any_below_some}
use Rattle.laws.proofs.Tests.{same_tests}
use Rattle.laws.proofs.Padded.{length-padded, padded-at}
use Rattle.laws.proofs.Rewriting.{removed_image, image_removed}
use Rattle.laws.proofs.Match.{image-at}
use Rattle.laws.specs.Marked.{Marked}
use Rattle.rule_fields.specs.Fixed.{fixed_of}
use Rattle.new_removal.specs.Removal.{Removable, goes_by}
use Rattle.new_removal.proofs.Laws.{goes-counted}

-- ---- marks

-- the marks of the first n slots, and the others are not marked
pub marks_of : (f : ℕ → Bool) (n : ℕ) → n ≤ slot_limit → Marked f n (padded slot_limit false (tabulate n f))
marks_of f n l = record {
  size = length-padded false slot_limit (tabulate n f) (rw (length-tabulate n f) l);
  each = λ k below. padded-at false slot_limit (tabulate n f) k ∙ get_or_tabulate n f k false below;
}

pub marks_same : {f h : ℕ → Bool} {n : ℕ} {marks : List Bool} → ((k : ℕ) → k < n → f k ≡ h k) → Marked f n marks → Marked h n marks
marks_same e m = record { size = m.size; each = λ k l. m.each k l ∙ e k l }

-- slot u is marked
pub marks_put : {f h : ℕ → Bool} {n : ℕ} {marks : List Bool} (u : ℕ) → u < slot_limit → h u ≡ true
    → ((k : ℕ) → (k ≡ u → ⊥) → f k ≡ h k) → Marked f n marks → Marked h n (set marks u true)
marks_put {marks = marks} u l t e m = record {
  size = simp length-set m.size;
  each = λ k below. ⊎_elim
      (λ (s : eqb k u ≡ true). rw (eqb-true k u s) (get_or-set_same marks u true false (omega (arith, m.size)) ∙ sym t))
      (λ (s : eqb k u ≡ false). get_or-set_other marks u k true false (eqb-false k u s) ∙ m.each k below ∙ e k (eqb-false k u s))
      (decided (eqb k u));
}

-- ---- the slots that the removal leaves Empty

-- slot i is the image of source vertex j, and goes
abbrev freed : Graph → Rule → List ℕ → ℕ → ℕ → Bool
freed g r images i j = goes g r images j && eqb i (image_of images j)

-- slot i is Empty, or the image of a vertex below j that goes
pub free_below : Graph → Rule → List ℕ → ℕ → ℕ → Bool
free_below g r images j i = not (is_vertex g i) || any_below (freed g r images i) j

module _ (g : Graph) (r : Rule) (images : List ℕ) where
  pub free_none : (i : ℕ) → not (is_vertex g i) ≡ free_below g r images 0 i
  unfolding free_below any_below
  free_none i = sym (or-false (not (is_vertex g i)))

  -- source vertex j changes nothing for a slot that it does not free
  other_free : (i j : ℕ) → freed g r images i j ≡ false → free_below g r images j i ≡ free_below g r images (j + 1) i
  unfolding free_below any_below
  other_free i j h = rw add-one (simp (h, or-false))

  pub free_put : {n : ℕ} {marks : List Bool} (j image : ℕ) → image ≡ image_of images j → image < slot_limit → goes g r images j ≡ true
      → Marked (free_below g r images j) n marks → Marked (free_below g r images (j + 1)) n (set marks image true)
  unfolding free_below
  free_put j image e l h m = marks_put image l
      (simp (any_below-found (freed g r images image) (j + 1) j (omega arith) (simp (h, eq-eqb image (image_of images j) e)), or-true))
      (λ i other. other_free i j (simp (h, ne_eqb i (image_of images j) (λ s. other (s ∙ sym e))))) m

  pub free_pass : {n : ℕ} {marks : List Bool} (j : ℕ) → goes g r images j ≡ false → Marked (free_below g r images j) n marks
      → Marked (free_below g r images (j + 1)) n marks
  free_pass j h m = marks_same (λ i l. other_free i j (simp h)) m

  removed_all : (i : ℕ) → any_below (freed g r images i) (length r.source) ≡ is_removed g r images i
  removed_all i = same_tests
      (λ t.
      let found = any_below_some (freed g r images i) (length r.source) t in
      let image : ℕ = image_of images found.0 in
      let going = and_left (goes g r images found.0) (eqb i image) found.2 in
      let same = eqb-true i image (and_right (goes g r images found.0) (eqb i image) found.2) in
      ap (is_removed g r images) same ∙ image_removed g r images found.0 found.1 going)
      (λ s.
      let found = removed_image g r images i s in
      any_below-found (freed g r images i) (length r.source) found.0 found.1
      (simp (found.2, eq-eqb i (image_of images found.0) (sym found.3))))

  pub free_all : (i j : ℕ) → j ≡ length r.source → free_below g r images j i ≡ not (stays g r images i)
  unfolding free_below stays
  free_all i j e = rw (e, removed_all i) (⊎_elim
      (λ (t : is_vertex g i ≡ true). simp (t, not-not))
      (λ (t : is_vertex g i ≡ false). simp t)
      (decided (is_vertex g i)))

-- ---- the image of source vertex j, which the code reads as v
module _ (graph rule images : List ℕ) (removable : Removable graph rule images) (j v : ℕ) (l : j < source_count rule)
    (e : v ≡ get_or images j 0) where
  pub image_same : v ≡ image_of images j
  image_same = e ∙ sym (image-at images j (omega (arith, removable.image_size, removable.patterns.readable.whole.source)))

  pub image_inside : v < slot_count graph
  image_inside = rw image_same (removable.slots j l)

  goes-so : {places : ℕ} {b : Bool} → places ≡ places_of (fixed_of rule) j → goes_by (fixed_of rule) j (stored_count graph v) places ≡ b
      → goes (graph_of graph) (fixed_of rule) images j ≡ b
  goes-so {places} counted t = sym (goes-counted graph rule images removable j l v places image_same counted) ∙ t

  -- the turn marks it where it goes,
  pub turn_put : {n places : ℕ} {marks : List Bool} → places ≡ places_of (fixed_of rule) j
      → goes_by (fixed_of rule) j (stored_count graph v) places ≡ true
      → Marked (free_below (graph_of graph) (fixed_of rule) images j) n marks
      → Marked (free_below (graph_of graph) (fixed_of rule) images (j + 1)) n (set marks v true)
  turn_put counted t = free_put (graph_of graph) (fixed_of rule) images j v image_same (omega (arith, image_inside, removable.table.slots)) (goes-so counted t)

  -- and changes nothing where it stays
  pub turn_pass : {n places : ℕ} {marks : List Bool} → places ≡ places_of (fixed_of rule) j
      → goes_by (fixed_of rule) j (stored_count graph v) places ≡ false
      → Marked (free_below (graph_of graph) (fixed_of rule) images j) n marks
      → Marked (free_below (graph_of graph) (fixed_of rule) images (j + 1)) n marks
  turn_pass counted t = free_pass (graph_of graph) (fixed_of rule) images j (goes-so counted t)
