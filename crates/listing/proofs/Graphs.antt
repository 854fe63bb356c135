-- A graph and its sheet: the sheet of a sound graph fits, and says that graph; so reading a sound block's listing gives the block back.
-- Assumes nothing.
use mathlib.Core.Path.{◌≡◌, refl, sym, ap, ◌∙◌}
use mathlib.Core.Bool.{Bool, true, false, ◌&&◌}
use mathlib.Core.List.Memᴰ
use mathlib.Core.List.{List, [], ◌∷◌, map, Memᴰ}
use mathlib.Core.Logic.{◌⊎◌, ⊎_elim}
use Prim.Native.Nat.{ℕ, zero, suc, ◌+◌, ◌-◌, ◌^◌, ◌≤◌, ◌<◌}
use native.Mathlib.Omega.{arith}
use borrow.Author.Tests.{eqb-true, eqb-false, ne_eqb, ltb-true, ltb-false, lt-ltb, le-ltb, leb-true, not-true, not-false}
use lib.Dec.{eqb, ltb, leb}
use lib.IntN.{ℤ, pos, negsuc}
use lib.ListN.{length, length-map}
use lib.Seq.{ext_get_or}
use Rattle.definitions.specs.Lists.{within, all, filter, tabulate, range}
use Rattle.definitions.specs.Fields.{Bytes, signed, word_of}
use Rattle.definitions.specs.Operators.{kind_empty, kind_proj, kind_call, kinds, row_of, shape_fits}
use Rattle.definitions.specs.Graph.{Slot, Graph, empty_slot, slot_of, is_vertex, graph_of, graph_block, SoundGraph}
use Rattle.laws.proofs.Lists.{decided, and_left, all_members, length-tabulate, get_or_tabulate, length_none}
use Rattle.laws.proofs.Graph.{vertex-inside}
use Rattle.encoding.specs.Tables.{slot_fits, Table, Words}
use Rattle.encoding.proofs.Graphs.{table_of, words_of, canonical}
use Rattle.definitions.specs.Numerals.{in_field}
use Rattle.definitions.specs.Sheet.{Line, Sheet, place_field, attribute_field, LineFits, LinesFit, SheetFits}
use Rattle.definitions.specs.Listing.{line_of, sheet_of, listing, slot_line, slot_in, graph_in}
use Rattle.listing.specs.Grammar.{operator_of, most_inputs, attribute_count}
use Rattle.listing.proofs.Reach.{within_high, is_within}
use Rattle.listing.proofs.Words.{of_shape}
use Rattle.listing.proofs.Listings.{one_sheet}

-- ---- words and numbers

pub word-signed : (w : ℕ) → w < 2 ^ 32 → word_of (signed w) ≡ w
unfolding signed word_of
word-signed w small =
    ⊎_elim (λ (t : ltb w (2 ^ 31) ≡ true). simp t)
    (λ (f : ltb w (2 ^ 31) ≡ false).
    let large = ltb-false w (2 ^ 31) f in
    let back : 2 ^ 32 - 1 - (2 ^ 32 - 1 - w) ≡ w = omega arith in
    simp (f, back))
    (decided (ltb w (2 ^ 31)))

signed_in : (w : ℕ) → w < 2 ^ 32 → in_field attribute_field (signed w) ≡ true
unfolding signed in_field
signed_in w small =
    ⊎_elim (λ (t : ltb w (2 ^ 31) ≡ true).
    let less = ltb-true w (2 ^ 31) t in
    rw t (is_within 0 w (2 ^ 31 - 1) (omega arith) (omega arith)))
    (λ (f : ltb w (2 ^ 31) ≡ false).
    let large = ltb-false w (2 ^ 31) f in
    rw f (lt-ltb (2 ^ 32 - 1 - w) (2 ^ 31) (omega arith)))
    (decided (ltb w (2 ^ 31)))

pub signed_word : (z : ℤ) → in_field attribute_field z ≡ true → signed (word_of z) ≡ z
unfolding in_field word_of signed
signed_word (pos n) t = let less = within_high 0 n (2 ^ 31 - 1) t in simp (lt-ltb n (2 ^ 31) (omega arith))
signed_word (negsuc n) t =
    let small = ltb-true n (2 ^ 31) t in
    let back : 2 ^ 32 - 1 - (2 ^ 32 - 1 - n) ≡ n = omega arith in
    simp (le-ltb (2 ^ 32 - 1 - n) (2 ^ 31) (omega arith), back)

place_in : (v : ℕ) → v < 65536 → in_field place_field (pos v) ≡ true
unfolding in_field
place_in v small = is_within 0 v 65535 (omega arith) (omega arith)

all_map : {A B : Type 0} (p : B → Bool) (f : A → B) (xs : List A) → ((x : A) → Memᴰ x xs → p (f x) ≡ true) → all p (map f xs) ≡ true
all_map p f xs h = all_members p (map f xs) (λ y m.
    let (x, inside, e) = Memᴰ.of_map f xs m in
    rw (← e) (h x inside))

-- words of places
back_places : (vs : List ℕ) → map word_of (map pos vs) ≡ vs
unfolding word_of
back_places [] = refl
back_places (v ∷ vs) = ap (λ (xs : List ℕ). v ∷ xs) (back_places vs)

back_words : (ws : List ℕ) → ((w : ℕ) → Memᴰ w ws → w < 2 ^ 32) → map word_of (map signed ws) ≡ ws
back_words [] h = refl
back_words (w ∷ ws) h =
    rw (word-signed w (h w (Memᴰ.head refl)), back_words ws (λ x m. h x (Memᴰ.tail m)))

-- ---- the sheet of a table fits

kind_limit : (kind operator n m : ℕ) → shape_fits kind operator n m ≡ true → kind ≤ 5
unfolding shape_fits
kind_limit kind operator n m h =
    ⊎_elim (λ (t : eqb kind kind_call ≡ true). omega (arith, eqb-true kind kind_call t))
    (λ (f : eqb kind kind_call ≡ false).
    let row = within (row_of kind).least n (row_of kind).greatest in
    let h2 : (leb kind kind_proj && eqb operator 0 && row && eqb m (row_of kind).attributes) ≡ true = rw f at h in
    leb-true kind kind_proj (and_left (leb kind kind_proj) (eqb operator 0)
    (and_left (leb kind kind_proj && eqb operator 0) row
    (and_left (leb kind kind_proj && eqb operator 0 && row) (eqb m (row_of kind).attributes) h2))))
    (decided (eqb kind kind_call))

above : (n : ℕ) → (n ≡ 0 → ⊥) → 1 ≤ n
above zero h = absurd (h refl)
above (suc n) h = omega arith

-- lines that ascend from a number ascend from a lower one
pub lower : (from next size : ℕ) (lines : List Line) → from ≤ next → LinesFit next size lines → LinesFit from size lines
unfolding LinesFit
lower from next size [] l fit = tt
lower from next size (x ∷ lines) l (low, high, fits, rest) = (omega arith, high, fits, rest)

-- a number that none of the lines has
pub missed : (next size : ℕ) (lines : List Line) → LinesFit next size lines → (v : ℕ) → v < next → slot_in lines v ≡ empty_slot
unfolding LinesFit slot_in
missed next size [] fit v l = refl
missed next size (x ∷ lines) (low, high, fits, rest) v l =
    rw (ne_eqb x.slot v (λ e. omega arith)) (missed (suc x.slot) size lines rest v (omega arith))

pub beyond : (from v : ℕ) → from ≤ v → (from ≡ v → ⊥) → suc from ≤ v
beyond from v low differs =
    ⊎_elim (λ (t : ltb from v ≡ true). ltb-true from v t)
    (λ (f : ltb from v ≡ false). absurd (differs (omega (arith, ltb-false from v f))))
    (decided (ltb from v))

-- a slot of kind Empty that follows the tables has nothing
empty_shape : (s : Slot) → s.kind ≡ 0 → shape_fits s.kind s.operator (length s.inputs) (length s.attributes) ≡ true → empty_slot ≡ s
unfolding empty_slot operator_of most_inputs attribute_count row_of kinds
empty_shape s e h =
    let h2 : shape_fits 0 s.operator (length s.inputs) (length s.attributes) ≡ true = rw e at h in
    let c = of_shape 0 s.operator (length s.inputs) (length s.attributes) h2 in
    let o : s.operator ≡ 0 = eqb-true s.operator 0 c.operator-known in
    let many : length s.inputs ≤ 0 = c.many in
    let i : s.inputs ≡ [] = length_none s.inputs (omega arith) in
    let a : s.attributes ≡ [] = length_none s.attributes c.count in
    λ j. record { kind = sym e j; operator = sym o j; inputs = sym i j; attributes = sym a j }

module _ (g : Graph) (table : Table g) (words : Words g) where
  few_slots : length g.slots ≤ 512
  few_slots = within_high 1 (length g.slots) 512 table.size

  vertex_small : (v : ℕ) → is_vertex g v ≡ true → v < 65536
  vertex_small v h = omega (arith, vertex-inside g v h, few_slots)

  shape : (k : ℕ) → k < length g.slots
      → shape_fits (slot_of g k).kind (slot_of g k).operator (length (slot_of g k).inputs) (length (slot_of g k).attributes) ≡ true
  unfolding slot_fits
  shape k l = and_left _ _ (table.shapes k l)

  vertex_kind : (k : ℕ) → is_vertex g k ≡ true → within 1 (slot_of g k).kind 5 ≡ true
  unfolding is_vertex
  vertex_kind k vertex =
      let not_empty = eqb-false (slot_of g k).kind kind_empty (not-true (eqb (slot_of g k).kind kind_empty) vertex) in
      is_within 1 (slot_of g k).kind 5 (above (slot_of g k).kind not_empty)
      (kind_limit (slot_of g k).kind (slot_of g k).operator (length (slot_of g k).inputs) (length (slot_of g k).attributes)
      (shape k (vertex-inside g k vertex)))

  line-fits : (k : ℕ) → is_vertex g k ≡ true → LineFits (line_of g k)
  unfolding line_of
  line-fits k vertex =
      let inside = vertex-inside g k vertex in
      record {
        kind = vertex_kind k vertex;
        shape = rw (length-map (slot_of g k).inputs pos, length-map (slot_of g k).attributes signed) (shape k inside);
        inputs = all_map (in_field place_field) pos (slot_of g k).inputs (λ v m. place_in v (vertex_small v (table.inputs k v m)));
        attributes = all_map (in_field attribute_field) signed (slot_of g k).attributes (λ w m. signed_in w (words k inside w m));
      }

  lines_fit : (n from size : ℕ) (h : ℕ → ℕ) → ((i : ℕ) → h i ≡ from + i) → from + n ≡ size
      → LinesFit from size (map (line_of g) (filter (is_vertex g) (tabulate n h)))
  unfolding LinesFit tabulate filter line_of
  lines_fit zero from size h at-h whole = tt
  lines_fit (suc n) from size h at-h whole =
      let rest = lines_fit n (suc from) size (λ i. h (suc i)) (λ i. at-h (suc i) ∙ omega arith) (omega arith) in
      let here : h 0 ≡ from = at-h 0 ∙ omega arith in
      ⊎_elim (λ (t : is_vertex g (h 0) ≡ true).
      rw t (omega arith, omega arith, line-fits (h 0) t, rw here rest))
      (λ (f : is_vertex g (h 0) ≡ false). rw f (lower from (suc from) size (map (line_of g) (filter (is_vertex g) (tabulate n (λ i. h (suc i))))) (omega arith) rest))
      (decided (is_vertex g (h 0)))

  pub sheet-fits : SheetFits (sheet_of g)
  unfolding sheet_of range
  sheet-fits = record {
    size = table.size;
    lines = lines_fit (length g.slots - 0) 0 (length g.slots) (λ i. 0 + i) (λ i. refl) (omega arith);
    count = rw (length-map g.outputs pos) table.output_count;
    outputs = all_map (in_field place_field) pos g.outputs (λ v m. place_in v (vertex_small v (table.outputs v m)));
  }

  -- ---- and says that graph

  slot_same : (k : ℕ) → k < length g.slots → slot_line (line_of g k) ≡ slot_of g k
  unfolding slot_line line_of
  slot_same k inside = rw (back_places (slot_of g k).inputs, back_words (slot_of g k).attributes (words k inside))

  -- an Empty slot is the empty one
  empty_same : (k : ℕ) → k < length g.slots → is_vertex g k ≡ false → empty_slot ≡ slot_of g k
  unfolding is_vertex
  empty_same k inside empty =
      let none_here : (slot_of g k).kind ≡ 0 = eqb-true (slot_of g k).kind kind_empty (not-false (eqb (slot_of g k).kind kind_empty) empty) in
      empty_shape (slot_of g k) none_here (shape k inside)

  found : (n from : ℕ) (h : ℕ → ℕ) → ((i : ℕ) → h i ≡ from + i) → from + n ≡ length g.slots → (v : ℕ) → from ≤ v → v < length g.slots
      → slot_in (map (line_of g) (filter (is_vertex g) (tabulate n h))) v ≡ slot_of g v
  unfolding tabulate filter slot_in line_of
  found zero from h at-h whole v low inside = absurd (omega arith)
  found (suc n) from h at-h whole v low inside =
      let here : h 0 ≡ from = at-h 0 ∙ omega arith in
      let next : (i : ℕ) → h (suc i) ≡ suc from + i = λ i. at-h (suc i) ∙ omega arith in
      let rest : List Line = map (line_of g) (filter (is_vertex g) (tabulate n (λ i. h (suc i)))) in
      ⊎_elim (λ (e : eqb (h 0) v ≡ true).
      let is : h 0 ≡ v = eqb-true (h 0) v e in
      ⊎_elim (λ (t : is_vertex g (h 0) ≡ true). rw (t, e) (slot_same (h 0) (omega arith) ∙ ap (slot_of g) is))
      (λ (f : is_vertex g (h 0) ≡ false).
      rw f (missed (suc from) (length g.slots) rest (lines_fit n (suc from) (length g.slots) (λ i. h (suc i)) next (omega arith)) v (omega arith)
      ∙ empty_same v inside (rw is at f)))
      (decided (is_vertex g (h 0))))
      (λ (e : eqb (h 0) v ≡ false).
      let differs = eqb-false (h 0) v e in
      let further = found n (suc from) (λ i. h (suc i)) next (omega arith) v (beyond from v low (λ q. differs (here ∙ q))) inside in
      ⊎_elim (λ (t : is_vertex g (h 0) ≡ true). rw (t, e) further)
      (λ (f : is_vertex g (h 0) ≡ false). rw f further)
      (decided (is_vertex g (h 0))))
      (decided (eqb (h 0) v))

  slots_same : tabulate (length g.slots) (slot_in (sheet_of g).lines) ≡ g.slots
  unfolding sheet_of range slot_of
  slots_same =
      ext_get_or empty_slot (tabulate (length g.slots) (slot_in (sheet_of g).lines)) g.slots (length-tabulate (length g.slots) (slot_in (sheet_of g).lines))
      (λ i l.
      let inside : i < length g.slots = omega (arith, length-tabulate (length g.slots) (slot_in (sheet_of g).lines)) in
      get_or_tabulate (length g.slots) (slot_in (sheet_of g).lines) i empty_slot inside
      ∙ found (length g.slots - 0) 0 (λ j. 0 + j) (λ j. refl) (omega arith) i (omega arith) inside)

  pub graph_same : graph_in (sheet_of g) ≡ g
  unfolding graph_in sheet_of
  graph_same = λ i. record { slots = slots_same i; outputs = back_places g.outputs i }

-- ---- a sound block and its listing

module _ (block : List ℕ) (sound : SoundGraph block) (bytes : Bytes block) where
  pub listing-fits : SheetFits (sheet_of (graph_of block))
  listing-fits = sheet-fits (graph_of block) (table_of block sound) (words_of block bytes)

  -- the sheet of a sound block says that block
  pub block_same : graph_block (graph_in (sheet_of (graph_of block))) ≡ block
  block_same = ap graph_block (graph_same (graph_of block) (table_of block sound) (words_of block bytes)) ∙ canonical block sound bytes

-- two sound blocks with one listing are equal
pub one_block : (a b : List ℕ) → SoundGraph a → SoundGraph b → Bytes a → Bytes b → listing (graph_of a) ≡ listing (graph_of b) → a ≡ b
unfolding listing
one_block a b sound sound2 bytes bytes2 same =
    sym (block_same a sound bytes)
    ∙ ap (λ (s : Sheet). graph_block (graph_in s))
    (one_sheet (sheet_of (graph_of a)) (sheet_of (graph_of b)) (listing-fits a sound bytes) (listing-fits b sound2 bytes2) same)
    ∙ block_same b sound2 bytes2
