-- The graph of a sheet that fits has that sheet: so no two sheets say one graph, and a text that is read is the listing of the graph that it says.
-- Assumes nothing.
use mathlib.Core.Path.{◌≡◌, refl, sym, ap, ap₂, ◌∙◌}
use mathlib.Core.Bool.{true, false}
use mathlib.Core.List.{List, [], ◌∷◌, map}
use mathlib.Core.Logic.{◌⊎◌, ⊎_elim}
use Prim.Native.Nat.{ℕ, zero, suc, ◌+◌, ◌-◌, ◌≤◌, ◌<◌}
use native.Mathlib.Omega.{arith}
use borrow.Author.Tests.{eqb-true, eqb-false, ne_eqb, ltb-true}
use lib.Dec.{eqb}
use lib.IntN.{ℤ, pos, negsuc}
use lib.ListN.{length}
use Rattle.definitions.specs.Lists.{all, filter, tabulate, range}
use Rattle.definitions.specs.Fields.{signed, word_of}
use Rattle.definitions.specs.Operators.{kind_empty}
use Rattle.definitions.specs.Graph.{Slot, Graph, empty_slot, slot_of, is_vertex}
use Rattle.laws.proofs.Lists.{decided, and_left, and_right, length-tabulate, get_or_tabulate}
use Rattle.definitions.specs.Numerals.{in_field}
use Rattle.definitions.specs.Sheet.{Line, Sheet, place_field, attribute_field, LineFits, LinesFit, SheetFits}
use Rattle.definitions.specs.Listing.{line_of, sheet_of, slot_line, slot_in, graph_in}
use Rattle.listing.proofs.Reach.{within_low}
use Rattle.listing.proofs.Graphs.{signed_word, missed, beyond}

-- a place is its own word
place-word : (z : ℤ) → in_field place_field z ≡ true → pos (word_of z) ≡ z
unfolding in_field word_of
place-word (pos n) h = refl
place-word (negsuc n) h = absurd (omega (arith, ltb-true n 0 h))

places_back : (zs : List ℤ) → all (in_field place_field) zs ≡ true → map pos (map word_of zs) ≡ zs
unfolding all
places_back [] h = refl
places_back (z ∷ zs) h =
    ap₂ ◌∷◌ (place-word z (and_left (in_field place_field z) (all (in_field place_field) zs) h))
    (places_back zs (and_right (in_field place_field z) (all (in_field place_field) zs) h))

words_back : (zs : List ℤ) → all (in_field attribute_field) zs ≡ true → map signed (map word_of zs) ≡ zs
unfolding all
words_back [] h = refl
words_back (z ∷ zs) h =
    ap₂ ◌∷◌ (signed_word z (and_left (in_field attribute_field z) (all (in_field attribute_field) zs) h))
    (words_back zs (and_right (in_field attribute_field z) (all (in_field attribute_field) zs) h))

module _ (g : Graph) where
  -- a slot that a line gives has that line
  line_back : (v : ℕ) (l : Line) → LineFits l → v ≡ l.slot → slot_of g v ≡ slot_line l → line_of g v ≡ l
  unfolding line_of slot_line
  line_back v l fits here same = λ i. record {
    slot = here i;
    kind = (same i).kind;
    operator = (same i).operator;
    inputs = (ap (λ (s : Slot). map pos s.inputs) same ∙ places_back l.inputs fits.inputs) i;
    attributes = (ap (λ (s : Slot). map signed s.attributes) same ∙ words_back l.attributes fits.attributes) i;
  }

  line-vertex : (v : ℕ) (l : Line) → LineFits l → slot_of g v ≡ slot_line l → is_vertex g v ≡ true
  unfolding is_vertex slot_line
  line-vertex v l fits same =
      let low = within_low 1 l.kind 5 fits.kind in
      rw (same, ne_eqb l.kind kind_empty (λ e. omega arith))

  no_vertex_lem : (v : ℕ) → slot_of g v ≡ empty_slot → is_vertex g v ≡ false
  unfolding is_vertex empty_slot
  no_vertex_lem v same = rw same

  lines_back : (n from size : ℕ) (h : ℕ → ℕ) → ((i : ℕ) → h i ≡ from + i) → from + n ≡ size → (lines : List Line) → LinesFit from size lines
      → ((v : ℕ) → from ≤ v → v < size → slot_of g v ≡ slot_in lines v) → map (line_of g) (filter (is_vertex g) (tabulate n h)) ≡ lines
  unfolding LinesFit tabulate filter slot_in
  lines_back zero from size h at-h whole [] fit same = refl
  lines_back zero from size h at-h whole (l ∷ lines) fit same = absurd (omega arith)
  lines_back (suc n) from size h at-h whole [] fit same =
      let here : h 0 ≡ from = at-h 0 ∙ omega arith in
      let next : (i : ℕ) → h (suc i) ≡ suc from + i = λ i. at-h (suc i) ∙ omega arith in
      rw (no_vertex_lem (h 0) (same (h 0) (omega arith) (omega arith)))
      (lines_back n (suc from) size (λ i. h (suc i)) next (omega arith) [] tt (λ v l m. same v (omega arith) m))
  lines_back (suc n) from size h at-h whole (l ∷ lines) (low, below, fits, rest) same =
      let here : h 0 ≡ from = at-h 0 ∙ omega arith in
      let next : (i : ℕ) → h (suc i) ≡ suc from + i = λ i. at-h (suc i) ∙ omega arith in
      ⊎_elim (λ (t : eqb l.slot (h 0) ≡ true).
      let is : l.slot ≡ h 0 = eqb-true l.slot (h 0) t in
      let given : slot_of g (h 0) ≡ slot_line l = rw t at (same (h 0) (omega arith) (omega arith)) in
      let tail_fits : LinesFit (suc from) size lines = rw (is ∙ here) at rest in
      rw (line-vertex (h 0) l fits given)
      (ap₂ ◌∷◌ (line_back (h 0) l fits (sym is) given)
      (lines_back n (suc from) size (λ i. h (suc i)) next (omega arith) lines tail_fits
      (λ v low2 below2. rw (ne_eqb l.slot v (λ e. omega arith)) at (same v (omega arith) below2)))))
      (λ (f : eqb l.slot (h 0) ≡ false).
      let differs = eqb-false l.slot (h 0) f in
      let later : suc from ≤ l.slot = beyond from l.slot low (λ e. differs (sym (here ∙ e))) in
      rw (no_vertex_lem (h 0) (same (h 0) (omega arith) (omega arith) ∙ missed (suc from) size (l ∷ lines) (later, below, fits, rest) (h 0) (omega arith)))
      (lines_back n (suc from) size (λ i. h (suc i)) next (omega arith) (l ∷ lines) (later, below, fits, rest) (λ v low2 below2. same v (omega arith) below2)))
      (decided (eqb l.slot (h 0)))

module _ (s : Sheet) where
  pub size_back : length (graph_in s).slots ≡ s.size
  unfolding graph_in
  size_back = length-tabulate s.size (slot_in s.lines)

  pub slot_back : (v : ℕ) → 0 ≤ v → v < s.size → slot_of (graph_in s) v ≡ slot_in s.lines v
  unfolding graph_in slot_of
  slot_back v low below = get_or_tabulate s.size (slot_in s.lines) v empty_slot below

module _ (s : Sheet) (fits : SheetFits s) where
  sheet-lines : (sheet_of (graph_in s)).lines ≡ s.lines
  unfolding sheet_of range
  sheet-lines =
      lines_back (graph_in s) (length (graph_in s).slots - 0) 0 s.size (λ i. 0 + i) (λ i. refl) (omega (arith, size_back s)) s.lines fits.lines (slot_back s)

  sheet-outputs : (sheet_of (graph_in s)).outputs ≡ s.outputs
  unfolding sheet_of graph_in
  sheet-outputs = places_back s.outputs fits.outputs

  sheet-size : (sheet_of (graph_in s)).size ≡ s.size
  unfolding sheet_of
  sheet-size = size_back s

  pub sheet_back : sheet_of (graph_in s) ≡ s
  sheet_back = λ i. record { size = sheet-size i; lines = sheet-lines i; outputs = sheet-outputs i }
