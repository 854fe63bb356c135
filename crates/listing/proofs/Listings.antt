-- What it means for a text that the form of a listing reads it: a text begins a listing exactly where every byte of it is read, and
-- reading gives 44's place, or the sheet.
-- Assumes nothing.
use mathlib.Core.Path.{◌≡◌, refl, sym, ap, ◌∙◌}
use mathlib.Core.Bool.{true, false}
use mathlib.Core.List.{List, [], ◌∷◌, ◌++◌, append_assoc, append-nil}
use mathlib.Core.Logic.{◌⊎◌, ⊎_elim}
use mathlib.Core.Option.{none, some}
use Prim.Native.Nat.{ℕ, suc, ◌+◌, ◌≤◌, ◌<◌}
use native.Mathlib.Omega.{arith}
use borrow.Author.Tests.{ltb-true, ltb-false}
use lib.Dec.{ltb}
use lib.ListN.{length, take, drop, length-append, take-append-drop}
use lib.Seq.{take_at, take-take, append_snoc}
use Rattle.definitions.specs.Reply.{Reply, bad_listing, refused_at, where_done}
use Rattle.definitions.specs.Graph.{graph_block}
use Rattle.laws.proofs.Lists.{decided, option_either}
use Rattle.definitions.specs.Sheet.{Sheet, SheetFits, printed}
use Rattle.definitions.specs.Listing.{Begins, Stops, bad_byte, early, graph_in, sheet_reply, ReadListing, no_listing, some_listing}
use Rattle.listing.specs.Forms.{Form, Text, step, value_of, steps, Answer, stops_at, comes_to, answer_from}
use Rattle.listing.specs.Grammar.{sheet_form}
use Rattle.listing.proofs.Reading.{not_some, lives_text, text-value, value-text, text-steps, steps-text, steps_lives, one_value}
use Rattle.listing.proofs.Sheets.{sheet_lives, text-sheet, sheet-text}

-- ---- beginnings

pub begins_read : (text : List ℕ) → Begins text → (g : Form Sheet) × (steps sheet_form text ≡ some g)
begins_read text (s, fits, (rest, same)) =
    let left = text-steps text sheet_form sheet_lives rest s (rw same at (sheet-text s fits)) in
    (left.0, left.1)

pub read_begins : (text : List ℕ) (g : Form Sheet) → steps sheet_form text ≡ some g → Begins text
read_begins text g read =
    let (rest, (s, h)) = lives_text g (steps_lives text sheet_form g sheet_lives read) in
    let (fits, same) = text-sheet (text ++ rest) s (steps-text text sheet_form g read rest s h) in
    (s, fits, (rest, same))

-- ---- two sheets that fit have two printings

pub one_sheet : (s t : Sheet) → SheetFits s → SheetFits t → printed s ≡ printed t → s ≡ t
one_sheet s t fits fits2 same =
    one_value (printed t) sheet_form sheet_lives s t (rw same at (sheet-text s fits)) (sheet-text t fits2)

-- ---- reading

steps-append : {A : Type 0} (front text : List ℕ) (f g : Form A) → steps f front ≡ some g → steps f (front ++ text) ≡ steps g text
unfolding steps
steps-append {A} [] text f g read = let is : f ≡ g = cc in ap (λ (h : Form A). steps h text) is
steps-append {A} (c ∷ front) text f g read =
    ⊎_elim (λ (stops : step f c ≡ none). absurd (not_some (rw (stops, steps) at read)))
    (λ (goes : (next : Form A) × (step f c ≡ some next)).
    let (next, stepped) = goes in
    rw (stepped, steps) (steps-append front text next g (rw (stepped, steps) at read)))
    (option_either (step f c))

-- one byte: the form that is left, or none
steps_byte : {A : Type 0} (f : Form A) (c : ℕ) → step f c ≡ none → steps f (c ∷ []) ≡ none
unfolding steps
steps_byte f c stops = rw (stops, steps)

byte_steps : {A : Type 0} (f g : Form A) (c : ℕ) → step f c ≡ some g → steps f (c ∷ []) ≡ some g
unfolding steps
byte_steps f g c goes = rw (goes, steps)

-- what an answer means for the text
unfoldable pub Means : List ℕ → Answer Sheet → Type 0
Means text (stops_at at) = Stops text at
Means text (comes_to s) = SheetFits s × (printed s ≡ text)

-- a text that is read to its end
module _ (front : List ℕ) (g : Form Sheet) (read : steps sheet_form front ≡ some g) where
  ends_early_lem : value_of g ≡ none → Stops front (length front)
  ends_early_lem none_here =
      early (read_begins front g read) (λ s fits same.
      let whole : Text sheet_form (front ++ []) s = rw (append-nil front, ← same) (sheet-text s fits) in
      let (h, read2, lives, ends) = text-steps front sheet_form sheet_lives [] s whole in
      let is : h ≡ g = cc in
      not_some (sym none_here ∙ rw is at (text-value h lives s ends)))

  ends_well : (s : Sheet) → value_of g ≡ some s → SheetFits s × (printed s ≡ front)
  ends_well s here =
      let (fits, same) = text-sheet (front ++ []) s (steps-text front sheet_form g read [] s (value-text g s here)) in
      (fits, same ∙ append-nil front)

  -- a byte that is refused
  stops_here : (c : ℕ) (text : List ℕ) → step g c ≡ none → Stops (front ++ c ∷ text) (length front)
  stops_here c text stops =
      let fewer : length front < length (front ++ c ∷ text) = omega (arith, length-append front (c ∷ text)) in
      let first : take (length front) (front ++ c ∷ text) ≡ front = take_at front (c ∷ text) (length front) refl in
      let next : take (suc (length front)) (front ++ c ∷ text) ≡ front ++ c ∷ [] =
      ap (take (suc (length front))) (sym (append_snoc front c text))
      ∙ take_at (front ++ c ∷ []) text (suc (length front)) (omega (arith, length-append front (c ∷ []))) in
      bad_byte fewer (rw first (read_begins front g read))
      (λ begins.
      let (h, read2) = begins_read (front ++ c ∷ []) (rw next at begins) in
      not_some (sym (steps-append front (c ∷ []) sheet_form g read ∙ steps_byte g c stops) ∙ read2))

-- the four cases of an answer
module _ {A : Type 0} (f : Form A) (at : ℕ) where
  pub answer_early : value_of f ≡ none → answer_from f at [] ≡ stops_at at
  unfolding answer_from
  answer_early e = rw (e, answer_from)

  pub answer-value : (a : A) → value_of f ≡ some a → answer_from f at [] ≡ comes_to a
  unfolding answer_from
  answer-value a e = rw (e, answer_from)

  pub answer_stops : (c : ℕ) (text : List ℕ) → step f c ≡ none → answer_from f at (c ∷ text) ≡ stops_at at
  unfolding answer_from
  answer_stops c text e = rw (e, answer_from)

  pub answer-goes : (c : ℕ) (text : List ℕ) (g : Form A) → step f c ≡ some g → answer_from f at (c ∷ text) ≡ answer_from g (suc at) text
  unfolding answer_from
  answer-goes c text g e = rw (e, answer_from)

pub answer_means : (text front : List ℕ) (g : Form Sheet) → steps sheet_form front ≡ some g → (at : ℕ) → at ≡ length front
    → Means (front ++ text) (answer_from g at text)
unfolding Means
answer_means [] front g read at here =
    ⊎_elim (λ (stops : value_of g ≡ none). rw (answer_early g at stops, append-nil front, here) (ends_early_lem front g read stops))
    (λ (goes : (s : Sheet) × (value_of g ≡ some s)).
    rw (answer-value g at goes.0 goes.1, append-nil front) (ends_well front g read goes.0 goes.1))
    (option_either (value_of g))
answer_means (c ∷ text) front g read at here =
    ⊎_elim (λ (stops : step g c ≡ none). rw (answer_stops g at c text stops, here) (stops_here front g read c text stops))
    (λ (goes : (next : Form Sheet) × (step g c ≡ some next)).
    let (next, stepped) = goes in
    let further : Means (front ++ c ∷ [] ++ text) (answer_from next (suc at) text) =
    answer_means text (front ++ c ∷ []) next (steps-append front (c ∷ []) sheet_form g read ∙ byte_steps g next c stepped) (suc at)
    (omega (arith, length-append front (c ∷ []))) in
    rw (answer-goes g at c text next stepped) (rw (append_snoc front c text) at further))
    (option_either (step g c))

-- reading from the first byte on: 44's place, or the one sheet that the text prints
pub read_means : (text : List ℕ) → Means text (answer_from sheet_form 0 text)
unfolding steps
read_means text = answer_means text [] sheet_form refl 0 refl

-- ---- a text has one outcome

-- what begins a listing still does so where it is cut
begins_front : (text rest : List ℕ) → Begins (text ++ rest) → Begins text
begins_front text rest (s, fits, (after, same)) = (s, fits, (rest ++ after, same ∙ append_assoc text rest after))

begins_take : (text : List ℕ) (n : ℕ) → Begins text → Begins (take n text)
begins_take text n h = begins_front (take n text) (drop n text) (rw (take-append-drop n text) h)

shorter : (text : List ℕ) (n m : ℕ) → n ≤ m → Begins (take m text) → Begins (take n text)
shorter text n m l h = rw (take-take n m text l) at (begins_take (take m text) n h)

pub one_place : {text : List ℕ} {p q : ℕ} → Stops text p → Stops text q → p ≡ q
one_place {text} (bad_byte {at = p} l begins stops) (bad_byte {at = q} l2 begins2 stops2) =
    ⊎_elim (λ (t : ltb p q ≡ true). absurd (stops (shorter text (suc p) q (ltb-true p q t) begins2)))
    (λ (f : ltb p q ≡ false).
    ⊎_elim (λ (t : ltb q p ≡ true). absurd (stops2 (shorter text (suc q) p (ltb-true q p t) begins)))
    (λ (g : ltb q p ≡ false). omega (arith, ltb-false p q f, ltb-false q p g))
    (decided (ltb q p)))
    (decided (ltb p q))
one_place {text} (bad_byte {at = p} l begins stops) (early begins2 none_ends) = absurd (stops (begins_take text (suc p) begins2))
one_place {text} (early begins none_ends) (bad_byte {at = q} l begins2 stops) = absurd (stops (begins_take text (suc q) begins))
one_place (early begins none_ends) (early begins2 none-ends2) = refl

pub stops_or_ends : {text : List ℕ} {p : ℕ} → Stops text p → (s : Sheet) → SheetFits s → printed s ≡ text → ⊥
stops_or_ends {text} (bad_byte {at = p} l begins stops) s fits same =
    stops (begins_take text (suc p) (s, fits, ([], same ∙ sym (append-nil text))))
stops_or_ends (early begins none_ends) s fits same = none_ends s fits same

pub one_outcome : {text graph after after2 : List ℕ} {r r2 : Reply} → ReadListing text graph r after → ReadListing text graph r2 after2
    → (r ≡ r2) × (after ≡ after2)
one_outcome (no_listing h) (no_listing h2) = (ap (refused_at bad_listing) (one_place h h2), refl)
one_outcome (no_listing h) (some_listing s fits same) = absurd (stops_or_ends h s fits same)
one_outcome (some_listing s fits same) (no_listing h) = absurd (stops_or_ends h s fits same)
one_outcome {text} {graph} (some_listing s fits same) (some_listing t fits2 same2) =
    let e = one_sheet s t fits fits2 (same ∙ sym same2) in (
      ap (λ (x : Sheet). sheet_reply x graph) e,
      ap (λ (x : Sheet). where_done (sheet_reply x graph) (graph_block (graph_in x)) graph) e,
    )

-- what reading gives, from its answer
unfoldable pub read_reply : List ℕ → Answer Sheet → Reply
read_reply graph (stops_at at) = refused_at bad_listing at
read_reply graph (comes_to s) = sheet_reply s graph

unfoldable pub read_graph : List ℕ → Answer Sheet → List ℕ
read_graph graph (stops_at at) = graph
read_graph graph (comes_to s) = where_done (sheet_reply s graph) (graph_block (graph_in s)) graph

answer-outcome : (text graph : List ℕ) (answer : Answer Sheet) → Means text answer
    → ReadListing text graph (read_reply graph answer) (read_graph graph answer)
unfolding Means read_reply read_graph
answer-outcome text graph (stops_at at) h = no_listing h
answer-outcome text graph (comes_to s) h = some_listing s h.0 h.1

-- every text has an outcome: reading by the form computes it
pub read-outcome : (text graph : List ℕ)
    → ReadListing text graph (read_reply graph (answer_from sheet_form 0 text)) (read_graph graph (answer_from sheet_form 0 text))
read-outcome text graph = answer-outcome text graph (answer_from sheet_form 0 text) (read_means text)
