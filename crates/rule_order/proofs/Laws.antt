-- The vertices visited so far, as the counter has them: what one vertex more does to 0, 1, .. n - 1, and why a list that is out of
-- order stays so. The traversal only appends.
-- Assumes nothing.
use mathlib.Core.Path.{◌≡◌, sym, ap, ◌∙◌, subst}
use mathlib.Core.Bool.{true, false}
use mathlib.Core.List.{List, [], ◌∷◌, ◌++◌, append_assoc}
use mathlib.Core.Logic.{⊎_elim}
use Prim.Native.Nat.{ℕ, zero, suc, ◌+◌, ◌<◌, ◌≤◌}
use native.Mathlib.Numerals.{add-one}
use native.Mathlib.Nat.{not-suc-le-zero, le_of_suc-le-suc}
use native.Mathlib.Omega.{arith}
use borrow.Author.Tests.{ltb-true, ltb-false, eq-eqb, ne_eqb}
use lib.Dec.{ltb}
use lib.ListN.{length, get_or, drop, drop_of_length-le, get_or-append, get_or-eq_default}
use lib.Seq.{get_or_at, drop-cons}
use Rattle.std.proofs.Common.{Result, Ok, Err}
use Rattle.definitions.specs.Lists.{lowest, tabulate, foldl, member, range}
use Rattle.definitions.specs.Paths.{visit}
use Rattle.definitions.specs.Rule.{Rule, source_count, rule_output_count, source_inputs, traversal, out_of_order}
use Rattle.rule_fields.specs.Fixed.{fixed_of}
use Rattle.laws.proofs.Lists.{decided, lowest_none, lowest-found}
use Rattle.laws.proofs.Members.{mem_member, no_member, mem_range, range_mem}
use Rattle.laws.proofs.Ranges.{length-range, range_at, range_more}
use Rattle.rule_fields.proofs.Fixed.{length-source, length-source-outputs}
use Rattle.rule_order.specs.Order.{DiffersAt, Counts, Visits, VisitsInputs}

-- ---- 0, 1, .. n - 1

visited : (v n : ℕ) → v < n → member v (range 0 n) ≡ true
visited v n h = mem_member (mem_range 0 n v (omega arith) h)

unvisited : (v n : ℕ) → n ≤ v → member v (range 0 n) ≡ false
unvisited v n h = no_member v (range 0 n) (λ m. omega (arith, (range_mem 0 n m).1))

-- ---- lists that are out of order

differs_more : {j : ℕ} {done : List ℕ} (more : List ℕ) → DiffersAt done j → DiffersAt (done ++ more) j
differs_more {j} more d = record {
  other = d.other;
  later = d.later ++ more;
  apart = d.apart;
  visited = ap (λ (l : List ℕ). l ++ more) d.visited ∙ append_assoc (range 0 j) (d.other ∷ d.later) more;
}

foldl_keeps : (P : List ℕ → Type 0) (f : List ℕ → ℕ → List ℕ) → ((done : List ℕ) (v : ℕ) → P done → P (f done v))
    → (vs done : List ℕ) → P done → P (foldl f done vs)
unfolding foldl
foldl_keeps P f keeps [] done h = h
foldl_keeps P f keeps (v ∷ vs) done h = foldl_keeps P f keeps vs (f done v) (keeps done v h)

module _ (r : Rule) where
  visit_keeps : {j : ℕ} (d : ℕ) (done : List ℕ) (v : ℕ) → DiffersAt done j → DiffersAt (visit (source_inputs r) d done v) j
  unfolding visit
  visit_keeps zero done v h = h
  visit_keeps {j} (suc d) done v h = ⊎_elim
      (λ (t : member v done ≡ true). rw t h)
      (λ (t : member v done ≡ false). rw t
      (differs_more (v ∷ []) (foldl_keeps (λ (l : List ℕ). DiffersAt l j) (visit (source_inputs r) d) (visit_keeps d) (source_inputs r v) done h)))
      (decided (member v done))

  -- ---- one vertex

  pub passed : (d n v : ℕ) → v < n → visit (source_inputs r) (suc d) (range 0 n) v ≡ range 0 n
  unfolding visit
  passed d n v h = rw (visited v n h)

  pub entered : (d n v : ℕ) → n ≤ v → visit (source_inputs r) (suc d) (range 0 n) v ≡ foldl (visit (source_inputs r) d) (range 0 n) (source_inputs r v) ++ v ∷ []
  unfolding visit
  entered d n v h = rw (unvisited v n h)

  -- ---- a list of vertices, from place i on

  module _ (d : ℕ) (vs : List ℕ) (i : ℕ) where
    none_left : (done : List ℕ) → length vs ≤ i → foldl (visit (source_inputs r) d) done (drop i vs) ≡ done
    unfolding foldl
    none_left done h = rw (drop_of_length-le vs h)

    one_first : (done : List ℕ) (u : ℕ) → i < length vs → u ≡ get_or vs i 255
        → foldl (visit (source_inputs r) d) done (drop i vs) ≡ foldl (visit (source_inputs r) d) (visit (source_inputs r) d done u) (drop (i + 1) vs)
    unfolding foldl
    one_first done u h e = rw (drop-cons vs i 255 h, ← e, add-one)

    one_wrong : {j : ℕ} (n u : ℕ) → i < length vs → u ≡ get_or vs i 255 → DiffersAt (visit (source_inputs r) d (range 0 n) u) j
        → DiffersAt (foldl (visit (source_inputs r) d) (range 0 n) (drop i vs)) j
    one_wrong {j} n u h e l = rw (one_first (range 0 n) u h e)
        (foldl_keeps (λ (xs : List ℕ). DiffersAt xs j) (visit (source_inputs r) d) (visit_keeps d) (drop (i + 1) vs) (visit (source_inputs r) d (range 0 n) u) l)

-- ---- what the code's functions give

module _ (block : List ℕ) (v next : ℕ) (fits : next ≤ source_count block) where
  -- a depth above v is one more than another
  above : (given : Result ℕ ℕ) → ((d : ℕ) → v ≤ d → Counts (visit (source_inputs (fixed_of block)) (suc d) (range 0 next) v) given)
      → (d : ℕ) → v < d → Counts (visit (source_inputs (fixed_of block)) d (range 0 next) v) given
  above given h zero l = absurd (not-suc-le-zero l)
  above given h (suc d) l = h d (le_of_suc-le-suc l)

  pub visited_before : v < next → Visits block v next (Ok next)
  visited_before h = record { counts = above (Ok next) (λ d l. passed (fixed_of block) d next v h); small = fits }

  module _ (fresh : next ≤ v) where
    pub inputs_wrong : {j : ℕ} → VisitsInputs block v 0 next (Err j) → Visits block v next (Err j)
    inputs_wrong {j} i = record {
      counts = above (Err j) (λ d l. rw (entered (fixed_of block) d next v fresh) (differs_more (v ∷ []) (i.counts d l)));
      small = i.small;
    }

    pub not_next : {after : ℕ} → VisitsInputs block v 0 next (Ok after) → (v ≡ after → ⊥) → Visits block v next (Err after)
    not_next {after} i h = record {
      counts = above (Err after) (λ d l. record {
        other = v;
        later = [];
        apart = h;
        visited = entered (fixed_of block) d next v fresh ∙ ap (λ (xs : List ℕ). xs ++ v ∷ []) (i.counts d l);
      });
      small = i.small;
    }

    pub is_next : {after : ℕ} → VisitsInputs block v 0 next (Ok after) → v ≡ after → v < source_count block
        → Visits block v next (Ok (after + 1))
    is_next {after} i e b = record {
      counts = above (Ok (after + 1)) (λ d l. entered (fixed_of block) d next v fresh ∙ rw (i.counts d l, e, add-one) (sym (range_more after)));
      small = omega arith;
    }

module _ (block : List ℕ) (v i next : ℕ) where
  pub inputs-done : length (source_inputs (fixed_of block) v) ≤ i → next ≤ source_count block → VisitsInputs block v i next (Ok next)
  inputs-done h b = record {
    counts = λ d l. none_left (fixed_of block) d (source_inputs (fixed_of block) v) i (range 0 next) h;
    small = b;
  }

  module _ (u : ℕ) (h : i < length (source_inputs (fixed_of block) v)) (e : u ≡ get_or (source_inputs (fixed_of block) v) i 255) (lower : u < v) where
    pub input_wrong : {j : ℕ} → Visits block u next (Err j) → VisitsInputs block v i next (Err j)
    input_wrong one = record {
      counts = λ d l. one_wrong (fixed_of block) d (source_inputs (fixed_of block) v) i next u h e (one.counts d (omega arith));
      small = one.small;
    }

    pub input_passed : {after : ℕ} {given : Result ℕ ℕ} → Visits block u next (Ok after) → VisitsInputs block v (i + 1) after given
        → VisitsInputs block v i next given
    input_passed {given = given} one rest = record {
      counts = λ d l.
          let first = one_first (fixed_of block) d (source_inputs (fixed_of block) v) i (range 0 next) u h e in
          let others = λ (xs : List ℕ). foldl (visit (source_inputs (fixed_of block)) d) xs (drop (i + 1) (source_inputs (fixed_of block) v)) in
          subst (λ (xs : List ℕ). Counts xs given) (sym (first ∙ ap others (one.counts d (omega arith)))) (rest.counts d l);
      small = rest.small;
    }

-- ---- the whole traversal

module _ (r : Rule) where
  pub in_place : (k : ℕ) → get_or (traversal r) k (length r.source) ≡ k → out_of_order r k ≡ false
  unfolding out_of_order
  in_place k e = simp (eq-eqb (get_or (traversal r) k (length r.source)) k e)

  out_of_place : (k : ℕ) → (get_or (traversal r) k (length r.source) ≡ k → ⊥) → out_of_order r k ≡ true
  unfolding out_of_order
  out_of_place k h = simp (ne_eqb (get_or (traversal r) k (length r.source)) k h)

-- The place at which the order ends is the first that is out of order: below it the traversal visits each vertex in its place, and there
-- it visits another or ends.
module _ (r : Rule) (j : ℕ) (small : j ≤ length r.source) where
  first_misplaced : ((k : ℕ) → k < j → get_or (traversal r) k (length r.source) ≡ k)
      → (get_or (traversal r) j (length r.source) ≡ j → j ≡ length r.source) → j ≡ lowest (out_of_order r) (length r.source)
  first_misplaced before here = ⊎_elim
      (λ (t : ltb j (length r.source) ≡ true).
      let inside = ltb-true j (length r.source) t in
      sym (lowest-found (out_of_order r) (length r.source) j inside (λ k l. in_place r k (before k l))
      (out_of_place r j (λ e. omega (arith, here e)))))
      (λ (t : ltb j (length r.source) ≡ false).
      let whole : j ≡ length r.source = omega (arith, ltb-false j (length r.source) t) in
      whole ∙ sym (lowest_none (out_of_order r) (length r.source) (λ k l. in_place r k (before k (omega arith)))))
      (decided (ltb j (length r.source)))

  -- another vertex is visited there
  misplaced : DiffersAt (traversal r) j → j ≡ lowest (out_of_order r) (length r.source)
  misplaced d =
      let s = length r.source in
      first_misplaced
      (λ k l. ap (λ (xs : List ℕ). get_or xs k s) d.visited
      ∙ get_or-append (range 0 j) (d.other ∷ d.later) s k (omega (arith, length-range j)) ∙ range_at j k s l)
      (λ e. absurd (d.apart (sym (get_or_at (range 0 j) d.other d.later s j (length-range j))
      ∙ ap (λ (xs : List ℕ). get_or xs j s) (sym d.visited) ∙ e)))

  -- the traversal ends there
  ended : traversal r ≡ range 0 j → j ≡ lowest (out_of_order r) (length r.source)
  ended e =
      let s = length r.source in
      first_misplaced
      (λ k l. ap (λ (xs : List ℕ). get_or xs k s) e ∙ range_at j k s l)
      (λ h. sym (sym (get_or-eq_default (range 0 j) s (omega (arith, length-range j))) ∙ ap (λ (xs : List ℕ). get_or xs j s) (sym e) ∙ h))

-- where i outputs are visited and no vertex is out of order, the other outputs complete the traversal
abbrev pub Continues : List ℕ → ℕ → ℕ → Type 0
Continues block i next =
    foldl (visit (source_inputs (fixed_of block)) (source_count block)) (range 0 next) (drop i (fixed_of block).source_outputs) ≡ traversal (fixed_of block)

pub outputs-begin : (block : List ℕ) → Continues block 0 0
unfolding traversal range tabulate
outputs-begin block = rw (length-source block)

pub outputs-done : (block : List ℕ) (i next : ℕ) → Continues block i next → rule_output_count block ≤ i → next ≤ source_count block
    → next ≡ lowest (out_of_order (fixed_of block)) (source_count block)
outputs-done block i next more h small =
    let all : length (fixed_of block).source_outputs ≤ i = rw (length-source-outputs block) h in
    let counted : traversal (fixed_of block) ≡ range 0 next =
    sym more ∙ none_left (fixed_of block) (source_count block) (fixed_of block).source_outputs i (range 0 next) all in
    rw (length-source block) at (ended (fixed_of block) next (rw (length-source block) small) counted)

module _ (block : List ℕ) (i next u : ℕ) (more : Continues block i next) (h : i < rule_output_count block)
    (e : u ≡ get_or (fixed_of block).source_outputs i 255) (inside : u < source_count block) where
  within : i < length (fixed_of block).source_outputs
  within = rw (length-source-outputs block) h

  pub output_wrong : {j : ℕ} → Visits block u next (Err j) → j ≡ lowest (out_of_order (fixed_of block)) (source_count block)
  output_wrong {j} one =
      let differs : DiffersAt (traversal (fixed_of block)) j = rw (← more) (one_wrong (fixed_of block) (source_count block)
      (fixed_of block).source_outputs i next u within e (one.counts (source_count block) inside)) in
      rw (length-source block) at (misplaced (fixed_of block) j (rw (length-source block) one.small) differs)

  pub output_passed : {after : ℕ} → Visits block u next (Ok after) → Continues block (i + 1) after
  output_passed one =
      rw (
        ← one.counts (source_count block) inside,
        ← one_first (fixed_of block) (source_count block) (fixed_of block).source_outputs i (range 0 next) u within e,
      ) more
